-- The inflight window. A reader must know: State has the rules of refusals 13, 7 and 11, Ring what the queue is, Calls the promises of the calls, InPlace those of the calls in place. Queue says what the promises do to the queue.
pub mod State
pub mod Ring
pub mod Calls
pub mod Queue
pub mod InPlace
