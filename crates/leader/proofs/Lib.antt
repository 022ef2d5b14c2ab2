pub mod Backed
pub mod Found
