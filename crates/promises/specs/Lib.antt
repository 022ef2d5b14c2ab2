-- The promises themselves, tried. A reader must know: nothing here is promised anew. Unique says that a promise leaves no choice; Cases has document 01's cases; the four others have wrong answers that the promises rule out, of the log, the quorums, the window and the calls over words.
pub mod Cases
pub mod Unique
pub mod WrongLog
pub mod WrongQuorum
pub mod WrongWindow
pub mod WrongWords
