mod Entering
mod Telling
mod Comparing
mod Few
mod Once
mod Collecting
mod Crossing
mod Stepping
mod PutBack
mod Turning
mod Waiting
mod Promising
mod Requesting
mod Asking
pub mod Refusing
