pub mod Facts
pub mod Places
pub mod Leading
pub mod Freeing
pub mod Lists
pub mod Queue
pub mod Stays
pub mod InPlace
