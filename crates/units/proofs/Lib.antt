-- Laws that serve every crate above: of answers by a test or a check, of refusals and their numbers, of numbers and lists, and of a copy where there is room.
pub mod Cond
pub mod Never
pub mod Checks
pub mod Refusals
pub mod Numbers
pub mod Lists
pub mod Copying
