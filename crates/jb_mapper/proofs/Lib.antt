pub mod EvenRanges
