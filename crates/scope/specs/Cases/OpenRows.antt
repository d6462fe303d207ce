-- How many strength rows are open, or none where the claim lacks a part.
use Rattle.std.specs.Prelude.{ℕ}

pub data OpenRows : Type 0 where
  Absent : OpenRows
  Count : ℕ → OpenRows
