pub mod Nearing
pub mod HelpLines
pub mod BadLines
