pub mod Pieces
pub mod TableTexts
pub mod Prefixes
pub mod NumberSets
pub mod EnabledSets
pub mod ListTexts
pub mod SetTexts
mod NumberWords
mod LeadingDigits
mod CutTexts
pub mod Ascending
