pub mod Refusals
mod IdTexts
pub mod ListEnds
pub mod ListingLaws
pub mod KeptByIndex
pub mod OneText
pub mod FromTextLaws
pub mod PrintableWords
