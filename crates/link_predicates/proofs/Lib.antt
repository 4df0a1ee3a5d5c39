pub mod EnabledRows
pub mod OwnRows
pub mod LinkRows
pub mod QuietRows
pub mod NodeFaults
pub mod Silence
pub mod Faultless
pub mod Repairs
