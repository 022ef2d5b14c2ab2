-- The leader's commit step. A reader must know: Leader has the promises of its two calls, Rule what the paper lets a leader commit.
pub mod Leader
pub mod Rule
