mod Computed
mod Heading
mod beginning
mod calls
mod plans
mod restarts
mod run
mod table
