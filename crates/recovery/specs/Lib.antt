pub mod Drafts
pub mod Recovered
pub mod FalseNodes
pub mod Outward
pub mod Mended
pub mod Resetting
