mod OptionLemmas
pub mod Numerals
mod OptionWords
mod SpellingLemmas
