pub mod FaultText
pub mod Drawn
pub mod Effects
