pub mod EffectLaws
pub mod PlaceLaws
pub mod RebaseLaws
pub mod RiseLaws
pub mod RunLaws
pub mod SpelledLaws
pub mod WrittenLaws
