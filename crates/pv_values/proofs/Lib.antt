pub mod Digits
pub mod PatternLemmas
pub mod PatternTexts
