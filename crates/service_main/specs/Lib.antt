pub mod ExitStatus
pub mod ProgressText
pub mod Counts
