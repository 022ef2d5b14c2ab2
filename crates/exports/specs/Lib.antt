-- Every call over words. A reader must know: Words and Rows say what the words of a slice say; Reads, LogCalls, QuorumCalls and WindowCalls have the promise of each exported call, which is that of the call below it on what the words say; Results has what is proved of their results.
pub mod Words
pub mod Rows
pub mod Reads
pub mod LogCalls
pub mod QuorumCalls
pub mod WindowCalls
pub mod Results
