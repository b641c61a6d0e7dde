pub mod Decoding
pub mod Received
pub mod Told
