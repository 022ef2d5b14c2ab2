-- What is proved of the log: what each call keeps, the list of records that the state and the words stand for, what is found and sliced there, and which words stay. A reader must know: View first; the others are said of it.
pub mod Keep
pub mod View
pub mod Looking
pub mod Slicing
pub mod Frame
