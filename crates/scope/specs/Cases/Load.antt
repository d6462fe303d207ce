-- A load as an exact fraction, or none where the claim lacks that part.
use Rattle.std.specs.Prelude.{ℤ}

pub data Load : Type 0 where
  Absent : Load
  Exact : ℤ → ℤ → Load
