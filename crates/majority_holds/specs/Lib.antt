-- Demand 3, the leader's side. A reader must know: what the leader's step commits, a majority of every half holds (MajorityHolds).
pub mod MajorityHolds
