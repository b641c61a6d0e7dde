pub mod Answers
pub mod NoSecond
