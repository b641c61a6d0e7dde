pub mod Digits
pub mod Lines
pub mod Commands
pub mod Reading
pub mod Places
pub mod Writing
pub mod Answers
