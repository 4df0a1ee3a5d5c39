pub mod Items
pub mod Reading
pub mod Named
pub mod FaultText
pub mod Words
pub mod Parts
pub mod Alike
pub mod ReadBack
