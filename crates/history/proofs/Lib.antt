mod Tables
mod Pieces
pub mod Replays
mod Checkpoints
mod SegmentTexts
pub mod Plays
mod Books
pub mod HistoryLines
mod FirstLines
mod HistoryReadings
mod LineCuts
pub mod ReadLines
mod ShortLines
mod KeptNetworks
mod LatestOpenings
mod ReportedCompletions
mod StretchRuns
mod TrueReports
mod ReportOrder
pub mod FirstRefused
mod Verified
mod Verdicts
