mod Answered
mod Ahead
mod Attempting
mod Beginning
mod Begun
mod Breaking
mod Calling
mod Causes
mod Counting
mod EachRow
mod Ending
pub mod Evenly
pub mod Following
mod Going
mod Growing
mod Items
pub mod Joining
mod Keeping
mod Leading
mod LeavingOut
mod Passing
mod Processing
mod Putting
mod Reaching
mod Resuming
mod Sharing
mod Skipping
mod Staying
mod Steps
mod Stopping
mod RunningOn
mod Telling
mod Trying
