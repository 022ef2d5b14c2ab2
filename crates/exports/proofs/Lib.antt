pub mod Lengths
pub mod ReadBack
pub mod Results
pub mod Parts
pub mod RowWords
pub mod Asked
