-- What clap's walk over the words comes to, by the definition of their parts.
pub mod Fronts
pub mod Held
pub mod OptionTurns
pub mod Parsing
pub mod Reading
pub mod Turns
pub mod WalkEnds
pub mod Walked
pub mod WordForms
