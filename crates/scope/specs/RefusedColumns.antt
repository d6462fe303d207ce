-- The places of 31 and 32 (document 01, 'Verdict and report'): the number of an unfixed row with a multiplier other
-- than 0, and of a column whose sum over the printed rows is not 0, and of several the lowest (`Lowest`). Edges and
-- nodes are counted from 0 here, rows and columns from 1, as in document 01.
use Rattle.std.specs.Prelude.{◌≡◌, List, ℕ, ◌+◌, ◌*◌, ◌-◌, ◌<◌, ℤ, pos}
use Rattle.scope.specs.Mesh.{nodes, elements, edges, edge_entry}
use Rattle.scope.specs.Claim.{multiplier}
use Rattle.scope.specs.Rows.{sx, sy, t}
use Rattle.scope.specs.Printed.{FixesNormal, FixesShear}
use Rattle.scope.specs.PrintedColumns.{printed_column}

-- "An unfixed one keeps its number": the four rows of an edge follow the balance rows, "normal and shear at from, then
-- at to"
pub data UnfixedRow (m : List ℤ) : ℕ → Type 0 where
  normal_from : (g : ℕ) → g < edges m → ¬ FixesNormal (edge_entry m g 2) → UnfixedRow m (2 * elements m + 4 * g + 1)
  shear_from : (g : ℕ) → g < edges m → ¬ FixesShear (edge_entry m g 2) → UnfixedRow m (2 * elements m + 4 * g + 2)
  normal_to : (g : ℕ) → g < edges m → ¬ FixesNormal (edge_entry m g 2) → UnfixedRow m (2 * elements m + 4 * g + 3)
  shear_to : (g : ℕ) → g < edges m → ¬ FixesShear (edge_entry m g 2) → UnfixedRow m (2 * elements m + 4 * g + 4)

-- 31: "nonzero multiplier on an unfixed row", this one; multipliers are counted from 0
pub record UnfixedWeighed (m c : List ℤ) (k : ℕ) : Type 0 where
  pub unfixed : UnfixedRow m k
  pub nonzero : ¬ (multiplier m c (k - 1) ≡ pos 0)

-- 32: "column sum not 0", of this column: "columns are numbered node by node: sx, sy, t"
pub data ColumnFails (m c : List ℤ) : ℕ → Type 0 where
  of_sx : (v : ℕ) → v < nodes m → ¬ (printed_column m (multiplier m c) (sx v) ≡ pos 0) → ColumnFails m c (3 * v + 1)
  of_sy : (v : ℕ) → v < nodes m → ¬ (printed_column m (multiplier m c) (sy v) ≡ pos 0) → ColumnFails m c (3 * v + 2)
  of_t : (v : ℕ) → v < nodes m → ¬ (printed_column m (multiplier m c) (t v) ≡ pos 0) → ColumnFails m c (3 * v + 3)
