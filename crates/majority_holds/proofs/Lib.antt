pub mod Main
pub mod Example
