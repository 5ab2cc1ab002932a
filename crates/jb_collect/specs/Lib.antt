pub mod AnsweredCalls
pub mod Listed
pub mod Heard
pub mod ReducerCalls
pub mod Laws
pub mod Worked
