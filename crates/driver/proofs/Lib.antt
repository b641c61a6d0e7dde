pub mod WordsLaws
pub mod EnteredLaws
pub mod Examples
