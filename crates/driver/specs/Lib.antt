pub mod Words
pub mod Entered
