pub mod PutLaws
pub mod PageLaws
pub mod RoomLaws
pub mod ChosenPage
pub mod Sample
pub mod BarredLines
