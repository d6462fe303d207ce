-- The bracket for accepted parts (document 01, "Loads compared"): "A claim's field carries l/n and its multipliers
-- allow W/m, both as exact fractions", in one claim or in two.
use Rattle.std.specs.Prelude.{◌≡◌, ◌↔◌, ◌⊎◌, List, [], ◌∷◌, ℕ, ◌<◌, ℤ, pos, ◌<ℤ◌, length}
use Rattle.integer.specs.Fraction.{Frac, ◌over◌, ◌≈ᶠ◌, ◌≤ᶠ◌}
use Rattle.scope.specs.Cases.OpenRows.{Count}
use Rattle.integer.specs.Members.{◌∈◌}
use Rattle.scope.specs.Columns.{n, l}
use Rattle.scope.specs.Rows as R
use Rattle.scope.specs.Rows.{rows_of}
use Rattle.scope.specs.Sums.{coefficient, live_sum, limit_sum, open_rows}
use Rattle.scope.specs.Claim.{stress, multiplier}
use Rattle.scope.specs.Verdict.{open_count}
use Rattle.scope.specs.Bracket.{Open, NoneOpen, Bracket}
use Rattle.scope.specs.Tests.{row_at}

-- the load l/n that the field of claim c carries, and the limit W/m that the multipliers of claim k on the mesh d
-- allow
unfoldable pub carried : List ℤ → Frac
carried c = l c over n c

unfoldable pub allowed : List ℤ → List ℤ → Frac
allowed d k = limit_sum (multiplier d k) (rows_of d) over live_sum (multiplier d k) (rows_of d)

-- rows of one kind with the same coefficient of each stress and of l, and the same right side: however an element lists
-- its corners, it has these rows
pub record SameNumbers (r t : R.Row) : Type 0 where
  pub kind : r.kind ≡ t.kind
  pub coefficients : (j : ℕ) → coefficient j r ≡ coefficient j t
  pub live : r.live ≡ t.live
  pub right : r.right ≡ t.right

-- an unfixed row "asks nothing", whatever its numbers are
abbrev pub SameRow : R.Row → R.Row → Type 0
SameRow r t = SameNumbers r t ⊎ ((r.kind ≡ R.unfixed) × (t.kind ≡ R.unfixed))

-- "Parts are on the same mesh when they are judged against the same rows": as many, and the same at each place
pub record SameRows (m d : List ℤ) : Type 0 where
  pub as_many : length (rows_of m) ≡ length (rows_of d)
  pub each : (k : ℕ) → k < length (rows_of m) → SameRow (row_at (rows_of m) k) (row_at (rows_of d) k)

-- an accepted field of claim c on the mesh m, and accepted multipliers of claim k on the mesh d
pub record PartsBracket (m c d k : List ℤ) : Type 0 where
  pub n_above_0 : pos 0 <ℤ n c
  pub m_above_0 : pos 0 <ℤ live_sum (multiplier d k) (rows_of d)
  -- no field carries more than the multipliers allow
  pub at_most : carried c ≤ᶠ allowed d k
  -- the two loads are equal exactly when no strength row has both a multiplier above zero and strength to spare
  pub equal : (carried c ≈ᶠ allowed d k) ↔ NoneOpen (stress m c) (l c) (n c) (multiplier d k) (rows_of d)
  pub sums : Bracket (stress m c) (l c) (n c) (multiplier d k) (rows_of d)

-- ---- open rows

-- each number is below the next
abbrev pub Ascending : List ℕ → Type 0
Ascending [] = Unit {0}
Ascending (a ∷ []) = Unit {0}
Ascending (a ∷ b ∷ rest) = (a < b) × Ascending (b ∷ rest)

-- k is the number of places below N at which P holds: they are listed, each once, in order
pub record NumberOf (P : ℕ → Type 0) (N k : ℕ) : Type 0 where
  pub places : List ℕ
  pub count : length places ≡ k
  pub ascending : Ascending places
  pub exactly : (i : ℕ) → (i ∈ places) ↔ ((i < N) × P i)

-- where an accepted claim has both parts: its count is the number of "strength rows with multiplier above 0 and left
-- side below right", and 0 exactly when the loads are equal
pub record OpenRowsCount (m c : List ℤ) : Type 0 where
  pub both : open_count m c ≡ Count (open_rows (stress m c) (l c) (n c) (multiplier m c) (rows_of m))
  pub number : NumberOf (λ k. Open (stress m c) (l c) (n c) (multiplier m c k) (row_at (rows_of m) k))
      (length (rows_of m)) (open_rows (stress m c) (l c) (n c) (multiplier m c) (rows_of m))
  pub none : (open_rows (stress m c) (l c) (n c) (multiplier m c) (rows_of m) ≡ 0) ↔ (carried c ≈ᶠ allowed m c)
