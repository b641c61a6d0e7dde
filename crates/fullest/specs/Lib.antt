pub mod Listing
pub mod Keys
pub mod Moved
pub mod Noted
