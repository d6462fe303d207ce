-- What the checks of 47 go by: boxes that are apart have elements that lie apart, and so the test by sides passes; and
-- one element against those below it, from the nearest down.
use mathlib.Core.Path.{◌≡◌, sym, ◌∙◌, ap, subst}
use mathlib.Core.Bool.{Bool, true, false, not, ◌||◌, or-true, or-false}
use mathlib.Core.List.{List}
use Prim.Native.Nat.{ℕ, suc, ◌≤◌, ◌<◌}
use native.Mathlib.Decide.{dec_lt}
use native.Mathlib.Omega.{arith}
use lib.Dec.{T, not_T}
use lib.IntN.{ℤ, pos}
use lib.Signed.{le_z, lt_z, lt_z_no, clash_ℤ}
use Rattle.integer.proofs.TestLaws.{same_test, yes_le_z}
use Rattle.plane.proofs.Boxes.{clear_boxes_decide}
use Rattle.scope.specs.Mesh.{elements}
use Rattle.scope.specs.Tests.{parted_by, apart_from, lies_apart}
use Rattle.scope.proofs.Overlaps.{element_convex, none_shared}
use Rattle.lines.proofs.Loops.{all_of_each}
use Rattle.outlines.specs.declared.boxes.Boxed.{Boxed}
use Rattle.outlines.specs.OutlineContracts.{Turned, box_of, ends_before, boxes_apart, boxed_at, BoxedTo}
use Rattle.outlines.proofs.BoxLaws.{boxes_apart_lem, each_before}

-- ---- two elements

module _ (m : List ℤ) (turns : Turned m) {t : List Boxed} (table : BoxedTo m (elements m) t) (d e : ℕ)
    (k : d < elements m) (l : e < elements m) where
  pub by_boxes : T (boxes_apart (boxed_at t d).own (boxed_at t e).own) → true ≡ apart_from m d e
  by_boxes passes =
      same_test
      (λ u.
      (none_shared m d e (turns.left d k) (turns.left e l)).passes
      (clear_boxes_decide (box_of (boxed_at t d).own) (box_of (boxed_at t e).own) (element_convex m d (turns.left d k))
      (element_convex m e (turns.left e l)) (table.around d k) (table.around e l)
      ((boxes_apart_lem (boxed_at t d).own (boxed_at t e).own).holds passes)))
      (λ u. tt)

module _ (m : List ℤ) (d e : ℕ) where
  pub by_higher : parted_by m e d ≡ true → true ≡ apart_from m d e
  unfolding apart_from
  by_higher h = sym (ap (λ (b : Bool). parted_by m d e || b) h ∙ or-true (parted_by m d e))

  pub by_lower : parted_by m e d ≡ false → parted_by m d e ≡ apart_from m d e
  unfolding apart_from
  by_lower h = sym (ap (λ (b : Bool). parted_by m d e || b) h ∙ or-false (parted_by m d e))

-- ---- one element and those below it, from the nearest down

-- element e is apart from those from d up
abbrev pub ApartDownTo : List ℤ → ℕ → ℕ → Type 0
ApartDownTo m e d = (k : ℕ) → d ≤ k → k < e → apart_from m k e ≡ true

pub down_more : (m : List ℤ) (e : ℕ) {d : ℕ} → ApartDownTo m e (suc d) → apart_from m d e ≡ true → ApartDownTo m e d
down_more m e {d} old here k l h = elim (dec_lt d k) [
  | yes i ↦ old k (omega arith) h
  | no i ↦ subst (λ (j : ℕ). apart_from m j e ≡ true) (same i) here
]
  where
    same : ¬ (d < k) → d ≡ k
    same i = omega (arith, i)

-- and from the rest
pub down_rest : (m : List ℤ) (e : ℕ) {d : ℕ} → ApartDownTo m e d → ((k : ℕ) → k < d → apart_from m k e ≡ true)
    → true ≡ lies_apart m e
unfolding lies_apart
down_rest m e {d} from rest = sym (all_of_each (λ k. apart_from m k e) e each)
  where
    each : (k : ℕ) → k < e → apart_from m k e ≡ true
    each k l = elim (dec_lt k d) [
      | yes i ↦ rest k i
      | no i ↦ from k (omega (arith, i)) l
    ]

-- where all up to d end before e, it is apart from each of them
pub rest_before : (m : List ℤ) (turns : Turned m) {t : List Boxed} (table : BoxedTo m (elements m) t) (d e : ℕ)
    → d < e → e < elements m → ends_before (boxed_at t d).right (boxed_at t d).top (boxed_at t e).own ≡ true → (k : ℕ)
    → k < suc d
    → apart_from m k e ≡ true
rest_before m turns {t} table d e l there h k j =
    sym (by_boxes m turns table k e (omega arith) there
    (each_before (boxed_at t d) (boxed_at t k).own (boxed_at t e).own (table.reach k d (omega arith) (omega arith)) h))

-- ---- one corner

-- a corner that is not left of a line is on it or right of it
pub not_left : (z : ℤ) → not (lt_z (pos 0) z) ≡ le_z z (pos 0)
not_left z = same_test (λ t. yes_le_z (lt_z_no {a = pos 0} {b = z} t))
    (λ t. not_T (lt_z (pos 0) z) (λ u. clash_ℤ {a = pos 0} {b = z} (record { lt = u }) (record { le = t })))
