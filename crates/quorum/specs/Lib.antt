-- Voter sets, majority and joint quorums, votes, peer rows. A reader must know: what is handed in is in Limits, Ids, Voters and Rows, the rule of one half in Votes and Half, the promises of the questions in Majority and Joint. Sort is inner.
pub mod Limits
pub mod Ids
pub mod Sort
pub mod Rows
pub mod Voters
pub mod Votes
pub mod Half
pub mod Majority
pub mod Joint
