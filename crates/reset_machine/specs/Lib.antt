pub mod Place
pub mod Commands
pub mod Enabled
pub mod ReadySet
pub mod Known
