-- The lists of calls that the replay programs read. A reader must know: nothing of an answer is promised here but its length (docs/EXCEPTIONS.md); the answers themselves are promised in crate exports.
pub mod Limits
