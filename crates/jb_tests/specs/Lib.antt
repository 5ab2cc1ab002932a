pub mod RefusedEvents
