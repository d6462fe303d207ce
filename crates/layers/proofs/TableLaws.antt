-- A table whose lines have passed, as the functions are handed it: each of its numbers is a column of a layer, and so
-- within 2,000.
use mathlib.Core.Path.{◌≡◌, sym, subst}
use mathlib.Core.List.{List}
use Prim.Native.Nat.{ℕ, zero, suc, ◌+◌, ◌*◌, ◌/◌, ◌%◌, ◌<◌}
use native.Mathlib.Nat.{div-add-mod', mod-lt}
use native.Mathlib.Decide.{dec_lt}
use native.Mathlib.Omega.{arith}
use lib.IntN.{ℤ, pos, neg_ℤ}
use lib.Signed.{◌≤ℤ◌}
use lib.ListN.{length, get_or, get_or-eq_default}
use Rattle.integer.specs.Bounds.{Within}
use Rattle.integer.proofs.BoundLaws.{bounds, Within-pos, Within-le}
use Rattle.integer.proofs.Linear.{linear, ◌&◌}
use Rattle.integer.proofs.Order.{pos_≤ℤ}
use Rattle.scope.specs.Columns.{at}
use Rattle.scope.specs.NumberRanges.{Between, Counts}
use Rattle.scope.specs.Layers.{layer_columns, most_level, layers, bottom, top, soil}
use Rattle.scope.specs.Table.{TableFacts}
use Rattle.layers.specs.LayerContracts.{TableRead}

-- the numbers of a layer that is there are there
pub layer_whole : (t : List ℤ) {n i : ℕ} → n ≡ layers t → i < n → i * layer_columns + 2 < length t
unfolding layers
layer_whole t e l = omega arith

between_within :
    {lo hi z : ℤ} →
    neg_ℤ (pos most_level) ≤ℤ lo →
    hi ≤ℤ pos most_level →
    Between lo hi z →
    Within most_level z
between_within {lo} {hi} {z} l u b =
    let k : lo ≤ℤ z = b.least in
    let j : z ≤ℤ hi = b.most in
    linear (l & u & k & j) (search bounds depth 40) (omega arith)

module _ {m t : List ℤ} (c : Counts m) (f : TableFacts m t) where
  column : (i : ℕ) → i < layers t → (c : ℕ) → c < layer_columns → Within most_level (at t (i * layer_columns + c))
  unfolding bottom top soil
  column i l zero b =
      let e : i * layer_columns ≡ i * layer_columns + 0 = omega arith in
      subst (λ (k : ℕ). Within most_level (at t k)) e
      (between_within (record { le = tt }) (record { le = tt }) (f.layer i l).bottom_range)
  column i l (suc zero) b = between_within (record { le = tt }) (record { le = tt }) (f.layer i l).top_range
  column i l (suc (suc zero)) b =
      between_within (record { le = tt }) (pos_≤ℤ (omega (arith, c.soils_most))) (f.layer i l).soil_there
  column i l (suc (suc (suc k))) b = absurd (omega arith)

  pub table_read : TableRead t
  unfolding at
  table_read = record { few = f.few; limits = record { each = λ k. by k (dec_lt k (length t)) } }
    where
      by : (k : ℕ) → Dec (k < length t) → Within most_level (get_or t k (pos 0))
      by k (yes l) =
          let e : k / layer_columns * layer_columns + k % layer_columns ≡ k = div-add-mod' k layer_columns in
          subst (λ (i : ℕ). Within most_level (get_or t i (pos 0))) e
          (column (k / layer_columns) (omega (arith, e, f.size)) (k % layer_columns)
          (mod-lt k {m = layer_columns} (omega arith)))
      by k (no l) =
          subst (Within most_level) (sym (get_or-eq_default t (pos 0) {n = k} (omega arith)))
          (Within-le (Within-pos 0) (omega arith))
