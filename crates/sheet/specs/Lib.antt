pub mod Sheet
pub mod Matching
pub mod Lines
pub mod Told
