pub mod TestLaws
pub mod SlotsLaws
pub mod OnceLaws
pub mod TabLaws
