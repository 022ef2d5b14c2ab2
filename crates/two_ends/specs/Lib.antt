-- Demand 3. A reader must know: Follower and Leader say what happens, TwoEnds what is granted and what is promised; World says it once more in time, CatchUp what comes of it where all arrives. Sanity has two ends to try it on.
pub mod Follower
pub mod Leader
pub mod TwoEnds
pub mod World
pub mod CatchUp
pub mod Sanity
