pub mod Sessions
pub mod WaveTable
pub mod Names
