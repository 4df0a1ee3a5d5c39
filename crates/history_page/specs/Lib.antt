pub mod Lines
pub mod Fields
pub mod Failing
pub mod Opening
pub mod Entries
pub mod Page
pub mod Cursor
pub mod Known
