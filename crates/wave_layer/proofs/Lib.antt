pub mod NextSession
