pub mod Nearest
pub mod Commands
pub mod Places
pub mod Scripts
pub mod Said
