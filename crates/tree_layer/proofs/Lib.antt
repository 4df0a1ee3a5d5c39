mod Asked
mod Booting
pub mod Leaders
mod Counts
pub mod TreePictures
pub mod OneBoot
