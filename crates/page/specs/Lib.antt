pub mod Puts
pub mod Page
pub mod InNumbers
pub mod Output
