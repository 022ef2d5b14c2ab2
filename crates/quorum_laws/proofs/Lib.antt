pub mod Checks
pub mod Members
pub mod Votes
pub mod Joint
pub mod Made
pub mod Ids
pub mod Answers
pub mod Order
