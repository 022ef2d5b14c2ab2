-- The log over two lent stores. A reader must know: Words says where a record stands, State what a good state is and what term(i) is, Run when a run is refused; the other files have the promises of the calls, by what they do: Append, Extend, Commit, Settle, Look, Slice, Setup.
pub mod Words
pub mod State
pub mod Run
pub mod Append
pub mod Extend
pub mod Commit
pub mod Settle
pub mod Look
pub mod Slice
pub mod Setup
