pub mod BitText
pub mod LeaderStarts
