pub mod MatrixLaws
pub mod MarkLaws
pub mod ScanLaws
pub mod ChoiceLaws
pub mod OrderLaws
pub mod SameAsUplink
