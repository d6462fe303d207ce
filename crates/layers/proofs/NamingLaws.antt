-- A mesh in which the first elements with soil 0 have soil 1: one element more is one number set, where it is there,
-- and after the last it is the mesh as its lines are judged.
use mathlib.Core.Path.{◌≡◌, refl, sym, ◌∙◌, ap, ap₂}
use mathlib.Core.Bool.{Bool, true, false, cond, ◌&&◌}
use mathlib.Core.List.{List}
use Prim.Native.Nat.{ℕ, ◌+◌, ◌≤◌, ◌<◌}
use native.Mathlib.Decide.{dec_lt}
use native.Mathlib.Omega.{arith}
use lib.Dec.{ltb}
use lib.IntN.{ℤ, pos}
use lib.ListN.{length, set}
use borrow.Author.Tests.{lt-ltb, le-ltb}
use Rattle.integer.specs.Tests.{eq_z}
use Rattle.scope.specs.Columns.{at}
use Rattle.scope.specs.Mesh.{elements}
use Rattle.scope.specs.Filled.{soil_place, given, with_soils}
use Rattle.scope.proofs.Decides.{equalℤ, yes_is, no_is}
use Rattle.scope.proofs.Given.{given-length, given_cong, given_kept, given_set, given_still, given_none, given-beyond}
use Rattle.layers.specs.LayerContracts.{ones_to, named}

-- ---- one number

pub named-beyond : (ns : List ℤ) (k : ℕ) → length ns ≤ k → ns ≡ named ns k
unfolding named
named-beyond ns k l =
    sym (ap (λ (b : Bool). cond (b && eq_z (at ns k) (pos 0)) (set ns k (pos 1)) ns) (le-ltb k (length ns) l))

module _ (ns : List ℤ) (k : ℕ) (l : k < length ns) where
  here : (b : Bool) → eq_z (at ns k) (pos 0) ≡ b → named ns k ≡ cond b (set ns k (pos 1)) ns
  unfolding named
  here b e = ap₂ (λ (c d : Bool). cond (c && d) (set ns k (pos 1)) ns) (lt-ltb k (length ns) l) e

  pub named_kept : eq_z (at ns k) (pos 0) ≡ false → ns ≡ named ns k
  named_kept e = sym (here false e)

  pub named_set : eq_z (at ns k) (pos 0) ≡ true → {z : ℤ} → z ≡ pos 1 → set ns k z ≡ named ns k
  named_set e d = ap (set ns k) d ∙ sym (here true e)

-- ---- one element more

same_but : (e d : ℕ) → ¬ (d ≡ e) → ones_to e d ≡ ones_to (e + 1) d
same_but e d z = ap (λ (b : Bool). cond b (pos 1) (pos 0)) (by (dec_lt d e) (dec_lt e d))
  where
    by : Dec (d < e) → Dec (e < d) → ltb d e ≡ ltb d (e + 1)
    by (yes k) j = lt-ltb d e k ∙ sym (lt-ltb d (e + 1) (omega arith))
    by (no k) (yes j) = le-ltb d e (omega arith) ∙ sym (le-ltb d (e + 1) (omega arith))
    by (no k) (no j) = absurd (z (omega arith))

pub one_named : (m : List ℤ) (e : ℕ) → e < elements m → {k : ℕ} → k ≡ soil_place m e
    → named (given (ones_to e) m) k ≡ given (ones_to (e + 1)) m
one_named m e l {k} d = ap (named (given (ones_to e) m)) d ∙ by (dec_lt (soil_place m e) (length m))
    (eq_z (at m (soil_place m e)) (pos 0)) refl
  where
    now_is : at (given (ones_to e) m) (soil_place m e) ≡ at m (soil_place m e)
    now_is = given_still (ones_to e) m e l (ap (λ (b : Bool). cond b (pos 1) (pos 0)) (le-ltb e e (omega arith)))

    next : pos 1 ≡ ones_to (e + 1) e
    next = sym (ap (λ (b : Bool). cond b (pos 1) (pos 0)) (lt-ltb e (e + 1) (omega arith)))

    test : {b : Bool} → eq_z (at m (soil_place m e)) (pos 0) ≡ b
        → eq_z (at (given (ones_to e) m) (soil_place m e)) (pos 0) ≡ b
    test h = ap (λ (z : ℤ). eq_z z (pos 0)) now_is ∙ h

    by : Dec (soil_place m e < length m) → (b : Bool) → eq_z (at m (soil_place m e)) (pos 0) ≡ b
        → named (given (ones_to e) m) (soil_place m e) ≡ given (ones_to (e + 1)) m
    by (yes k) true h =
        sym (named_set (given (ones_to e) m) (soil_place m e) (omega (arith, k, given-length (ones_to e) m)) (test h)
        (sym next))
        ∙ given_set (ones_to e) (ones_to (e + 1)) m e l k (same_but e)
        (yes_is (equalℤ (at m (soil_place m e)) (pos 0)) h)
    by (yes k) false h =
        sym (named_kept (given (ones_to e) m) (soil_place m e) (omega (arith, k, given-length (ones_to e) m)) (test h))
        ∙ given_kept (ones_to e) (ones_to (e + 1)) m e l k (same_but e)
        (no_is (equalℤ (at m (soil_place m e)) (pos 0)) h)
    by (no k) b h =
        sym (named-beyond (given (ones_to e) m) (soil_place m e) (omega (arith, given-length (ones_to e) m)))
        ∙ given-beyond (ones_to e) (ones_to (e + 1)) m e (omega arith) (same_but e)

-- before the first element, and after the last
pub none_named : (m : List ℤ) → m ≡ given (ones_to 0) m
none_named m = sym (given_none (ones_to 0) m
    (λ e. ap (λ (b : Bool). cond b (pos 1) (pos 0)) (le-ltb e 0 (omega arith))))

pub all_named_lem : (m : List ℤ) {e : ℕ} → e ≡ elements m → given (ones_to e) m ≡ with_soils m
unfolding with_soils
all_named_lem m {e} d = given_cong (ones_to e) (λ e. pos 1) m
    (λ i l. ap (λ (b : Bool). cond b (pos 1) (pos 0)) (lt-ltb i e (omega arith)))
