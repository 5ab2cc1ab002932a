-- No contract can say what a file or a stream is. What can be said is of the errors.
pub mod Lasting
