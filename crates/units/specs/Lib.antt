-- What every crate shares. A reader must know: an index and a term are numbers of two types (Units), each refusal has one number and one name (Refusals), and Lists has two words about lists.
pub mod Units
pub mod Refusals
pub mod Lists
