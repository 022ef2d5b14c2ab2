pub mod Count
pub mod Majority
pub mod Shared
pub mod Receiver
