pub mod Driven
pub mod Completions
pub mod Told
