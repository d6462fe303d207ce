-- The lowest gap, from top to top: a layer that has a whole height has all heights from there to its top, so all is
-- covered up to a whole height that is in no layer.
use mathlib.Core.Path.{◌≡◌, sym, ◌∙◌, ap, subst}
use mathlib.Core.Bool.{true}
use mathlib.Core.List.{List}
use Prim.Native.Nat.{ℕ, suc, ◌+◌, ◌-◌, ◌*◌, ◌≤◌, ◌<◌}
use native.Mathlib.Decide.{dec_le}
use native.Mathlib.Omega.{arith}
use lib.Dec.{T, T_not}
use lib.IntN.{ℤ, pos, nat_abs, ◌*ℤ◌}
use lib.Signed.{◌≤ℤ◌, ◌<ℤ◌}
use mir.Syntax.{w64}
use mir.Val.{to_z, of_z}
use Rattle.integer.specs.Bounds.{Is}
use Rattle.integer.proofs.Linear.{linear, facts, nothing}
use Rattle.integer.proofs.Machine.{machine, exact}
use Rattle.integer.proofs.Order.{≤ℤ_pos}
use Rattle.scope.specs.declared.Place.TheVariants.{Height}
use Rattle.scope.specs.Cases.Outcome.{Passed, Refused}
use Rattle.scope.specs.Phases.{check_phase}
use Rattle.scope.specs.Rows.{first_where}
use Rattle.scope.specs.Layers.{most_level, layers, top, quarters, Has, has, InLayer, in_layer, gaps_phase}
use Rattle.scope.proofs.Decides.{first_where_lem, is_yes, is_no, yes_is}
use Rattle.scope.proofs.Layers.{has_says, in_layer_says}
use Rattle.lines.proofs.Loops.{phase-at, phase_all}
use Rattle.layers.proofs.LayerLaws.{nonneg_pos}

-- ---- a layer that has a whole height

-- the layer that the search found has it
pub found_has :
    (t : List ℤ) (q : ℕ) {n i : ℕ} →
    n ≡ layers t →
    (i < n) × (i ≡ first_where (has t q) (layers t)) →
    has t q i ≡ true
found_has t q {i = r} counted (l, e) =
    let passes = (first_where_lem (has t q) (layers t)).passes (omega arith) in
    is_yes (has_says t q r) ((has_says t q r).holds (subst (λ (i : ℕ). T (has t q i)) (sym e) passes))

module _ (t : List ℤ) (h i : ℕ) (e : has t (h * 4) i ≡ true) where
  there : Has t (h * 4) i
  there = yes_is (has_says t (h * 4) i) e

  pub top_not_negative : pos 0 ≤ℤ top t i
  top_not_negative = linear there.1 (search facts depth 40) (omega arith)

  -- as it is cast
  pub top_counted : {v : ℤ} → Is v (top t i) most_level → pos (nat_abs (to_z w64 (of_z w64 v))) ≡ top t i
  top_counted {v} is =
      let same : to_z w64 (of_z w64 v) ≡ top t i = exact (search machine depth 30) (omega arith) in
      ap (λ (z : ℤ). pos (nat_abs z)) same ∙ sym (nonneg_pos top_not_negative)

  module _ {r : ℕ} (d : pos r ≡ top t i) where
    -- its top is above it
    pub rises : h < r
    rises =
        let k : pos (h * 4) <ℤ (pos 4 *ℤ pos r) = subst (λ (z : ℤ). pos (h * 4) <ℤ (pos 4 *ℤ z)) (sym d) there.1 in
        let s : pos (suc h) ≤ℤ pos r = linear k (search facts depth 40) (omega arith) in
        omega (arith, ≤ℤ_pos s)

    has_up : (q : ℕ) → 4 * h ≤ q → q < 4 * r → Has t q i
    has_up q l u =
        let b = there.0 in (
          linear b (search facts depth 40) (omega arith),
          subst (λ (z : ℤ). pos q <ℤ (pos 4 *ℤ z)) d (linear nothing (search facts depth 40) (omega arith)),
        )

-- ---- all is covered so far

-- the heights from lo to below h are in some layer
abbrev pub Covered : List ℤ → ℕ → ℕ → Type 0
Covered t lo h = (q : ℕ) → 4 * lo ≤ q → q < 4 * h → InLayer t q

module _ (t : List ℤ) (lo h : ℕ) (cov : Covered t lo h) where
  -- on to the top of a layer that has h
  pub covered_more : {i r : ℕ} → i < layers t → has t (h * 4) i ≡ true → pos r ≡ top t i → Covered t lo r
  covered_more {i} {r} l e d q b k = by (dec_le (4 * h) q)
    where
      by : Dec (4 * h ≤ q) → InLayer t q
      by (yes p) = (i, l, has_up t h i e d q p k)
      by (no p) = cov q b (omega arith)

  -- no layer has h
  pub gap_here :
      (hi : ℕ) →
      lo ≤ h →
      h ≤ hi →
      first_where (has t (h * 4)) (layers t) ≡ layers t →
      {k : ℕ} →
      k ≡ h * 4 →
      Refused 45 (Height k) ≡ check_phase (gaps_phase t lo hi)
  unfolding check_phase
  gap_here hi l u none {k} d =
      phase-at (λ k. in_layer t (4 * lo + k)) 45 (λ k. Height (4 * lo + k)) (quarters lo hi) {r = h * 4 - 4 * lo}
      (λ k b. is_yes (in_layer_says t (4 * lo + k)) (cov (4 * lo + k) (omega arith) (omega arith)))
      (omega arith)
      (is_no (in_layer_says t (4 * lo + (h * 4 - 4 * lo))) (subst (λ (q : ℕ). ¬ InLayer t q) same no_layer))
      (ap Height (d ∙ same))
    where
      same : h * 4 ≡ 4 * lo + (h * 4 - 4 * lo)
      same = omega arith

      no_layer : ¬ InLayer t (h * 4)
      no_layer (i, b, s) =
          T_not (has t (h * 4) i) ((first_where_lem (has t (h * 4)) (layers t)).before i (omega arith))
          ((has_says t (h * 4) i).passes s)

  -- hi is passed
  pub no_gap : (hi : ℕ) → hi < h → Passed ≡ check_phase (gaps_phase t lo hi)
  unfolding check_phase
  no_gap hi l =
      phase_all (λ k. in_layer t (4 * lo + k)) 45 (λ k. Height (4 * lo + k)) (quarters lo hi)
      (λ k b. is_yes (in_layer_says t (4 * lo + k)) (cov (4 * lo + k) (omega arith) (omega arith)))
