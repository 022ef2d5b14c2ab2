-- The rules of the Raft paper (extended version), as definitions that know nothing of the code. A reader must know: Count says how things are counted, Majority what a majority commits, Log what a log is and when two agree, Receiver what is done with a message.
pub mod Count
pub mod Majority
pub mod Log
pub mod Receiver
