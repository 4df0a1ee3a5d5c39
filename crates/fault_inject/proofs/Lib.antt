pub mod FaultLines
mod InjectedFaults
mod Words
mod FoundNodes
