-- A field against rows, and multipliers against columns (document 01, 'Rows', Columns): for any list of rows.
-- A field is its stresses by column, with l and n. Multipliers are numbered as the rows are.
use Rattle.std.specs.Prelude.{Bool, true, false, cond, ◌&&◌, List, [], ◌∷◌, ℕ, suc, ◌+◌, ℤ, pos, ◌+ℤ◌, ◌*ℤ◌, eqb}
use Rattle.std.specs.Int.Signed.{le_z, lt_z}
use Rattle.integer.specs.Sum.{sum_of}
use Rattle.integer.specs.Tests.{eq_z}
use Rattle.scope.specs.Rows.{asked, unfixed, strength, Row}

-- the sum of c·f(a) over the pairs (c, a)
unfoldable pub weighted_sum : {A : Type 0} → (A → ℤ) → List (ℤ × A) → ℤ
weighted_sum f ws = sum_of (λ w. w.0 *ℤ f w.1) ws

-- ---- a field

-- the left side of a row, l moved there, and its right side
unfoldable pub left_side : (ℕ → ℤ) → ℤ → Row → ℤ
left_side s l r = weighted_sum s r.entries +ℤ r.live *ℤ l

unfoldable pub right_side : ℤ → Row → ℤ
right_side n r = r.right *ℤ n

-- a row holds: an equality that is asked, as an equation; "an unfixed one asks nothing"; a strength row, as an
-- inequality
unfoldable pub row_holds : (ℕ → ℤ) → ℤ → ℤ → Row → Bool
row_holds s l n r =
    elim r.kind [
      | asked ↦ eq_z (left_side s l r) (right_side n r)
      | unfixed ↦ true
      | strength ↦ le_z (left_side s l r) (right_side n r)
    ]

-- ---- multipliers

-- the rows with the multipliers w 0, w 1, ..
unfoldable pub weighed : (ℕ → ℤ) → List Row → List (ℤ × Row)
weighed w [] = []
weighed w (r ∷ rest) = (w 0, r) ∷ weighed (λ k. w (suc k)) rest

-- the coefficient of column j in a row: the row's left side at the field that is 1 there and else 0
unfoldable pub unit : ℕ → ℕ → ℤ
unit j k = cond (eqb j k) (pos 1) (pos 0)

unfoldable pub coefficient : ℕ → Row → ℤ
coefficient j r = weighted_sum (unit j) r.entries

-- "For each node and stress, multiplier times coefficient, summed over all rows"
unfoldable pub column_sum : (ℕ → ℤ) → List Row → ℕ → ℤ
column_sum w rs j = weighted_sum (coefficient j) (weighed w rs)

-- "For l that sum is m"
unfoldable pub live_sum : (ℕ → ℤ) → List Row → ℤ
live_sum w rs = weighted_sum (λ r. r.live) (weighed w rs)

-- "W is multiplier times right side, summed over all rows"; "The limit is W/m"
unfoldable pub limit_sum : (ℕ → ℤ) → List Row → ℤ
limit_sum w rs = weighted_sum (λ r. r.right) (weighed w rs)

-- refusal 31: "nonzero multiplier on an unfixed row"
unfoldable pub zero_if_unfixed : ℤ → Row → Bool
zero_if_unfixed c r = elim r.kind [ asked ↦ true | unfixed ↦ eq_z c (pos 0) | strength ↦ true ]

-- ---- both

-- an open row: a strength row "with multiplier above 0 and left side below right"
unfoldable pub is_open : (ℕ → ℤ) → ℤ → ℤ → ℤ × Row → Bool
is_open s l n w =
    elim w.1.kind [
      | asked ↦ false
      | unfixed ↦ false
      | strength ↦ lt_z (pos 0) w.0 && lt_z (left_side s l w.1) (right_side n w.1)
    ]

-- how many pass a test
unfoldable pub how_many : {A : Type 0} → (A → Bool) → List A → ℕ
how_many f [] = 0
how_many f (a ∷ rest) = cond (f a) 1 0 + how_many f rest

-- the open rows
unfoldable pub open_rows : (ℕ → ℤ) → ℤ → ℤ → (ℕ → ℤ) → List Row → ℕ
open_rows s l n w rs = how_many (is_open s l n) (weighed w rs)
