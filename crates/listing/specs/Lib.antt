pub mod WordsLaws
pub mod ListingLaws
