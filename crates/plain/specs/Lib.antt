pub mod Matrix
pub mod Marks
pub mod Places
