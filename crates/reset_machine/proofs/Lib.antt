pub mod Children
pub mod NearTrees
pub mod AskedChildren
pub mod CommandRows
pub mod RunLists
pub mod Readiness
pub mod StepClauses
pub mod CaseArguments
pub mod StepShadows
pub mod NearSeen
pub mod Standings
pub mod Locality
mod LedNodes
mod Renewing
pub mod ReadyLists
pub mod Doubting
pub mod Writing
