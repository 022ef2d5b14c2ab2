-- Statements that the theorems of proofs/ are about, where the crates below have none. A reader must know: they say what a joint index, a vote of a half and a list of ids are, and nothing of how they are computed; and what of a question is whole, or the same.
pub mod JointRule
pub mod IdsRule
pub mod Questions
