pub mod Falls
pub mod Ranked
pub mod FullestLaws
pub mod BytesRead
pub mod MovedLaws
pub mod BestLaws
pub mod MovingLaws
pub mod NotingLaws
