pub mod Course
pub mod Progress
pub mod Kept
