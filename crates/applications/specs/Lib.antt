pub mod Meaning
pub mod Choice
