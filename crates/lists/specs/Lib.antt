pub mod Tests
pub mod Slots
pub mod Tabs
