-- The theorems about a run.
pub mod NextLaws
pub mod RunLaws
pub mod InTurn
