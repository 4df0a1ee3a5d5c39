pub mod Choice
pub mod Sight
