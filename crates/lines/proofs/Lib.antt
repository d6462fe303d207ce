-- Laws of the checks of lines.
pub mod Loops
pub mod Asked
pub mod LineLaws
pub mod TableLaws
pub mod GroupLaws
pub mod ThroughLaws
pub mod EvenLaws
