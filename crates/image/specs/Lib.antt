pub mod Parts
pub mod Image
pub mod Reading
pub mod Parked
pub mod Told
