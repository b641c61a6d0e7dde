pub mod ActLaws
pub mod AsCalls
pub mod Histories
pub mod Beginnings
pub mod Rounds
pub mod Firmware
