pub mod Turns
pub mod MutexLinks
pub mod Mutex
pub mod LocalText
pub mod LawsOfCases
pub mod LawsOfText
pub mod Laws
pub mod LawsOfLinks
