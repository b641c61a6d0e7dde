pub mod Matching
pub mod LinesLaws
pub mod WeightLaws
pub mod Sheets
pub mod Checking
pub mod NoSecond
pub mod Examples
