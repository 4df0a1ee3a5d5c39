pub mod Explained
pub mod Help
