mod EnabledEvents
pub mod Steps
mod Telling
