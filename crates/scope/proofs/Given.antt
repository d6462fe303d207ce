-- What stands in a mesh's numbers where elements with soil 0 were given soils: at the place of such a soil the one that
-- was given, and everywhere else what stood there. A number is the soil of one element at most.
use mathlib.Core.Path.{◌≡◌, refl, sym, ◌∙◌, ap, ap₂, subst}
use mathlib.Core.Bool.{Bool, true, false, cond, ◌&&◌, and-false}
use mathlib.Core.List.{List}
use Prim.Native.Nat.{ℕ, ◌-◌, ◌≤◌, ◌<◌}
use native.Mathlib.Decide.{dec_lt, ℕ_discrete}
use native.Mathlib.Omega.{arith}
use lib.Dec.{T, eqb, ltb}
use lib.IntN.{ℤ, pos}
use lib.ListN.{length, get_or, set, length-map, length-set, get_or-eq_default}
use lib.Seq.{ext_get_or, get_or-set_same, get_or-set_other}
use borrow.Author.Tests.{lt-ltb, le-ltb}
use Rattle.integer.specs.Tests.{eq_z}
use Rattle.scope.specs.Columns.{at}
use Rattle.scope.specs.Mesh.{elements}
use Rattle.scope.specs.Rows.{count_from}
use Rattle.scope.specs.Filled.{soil_place, soil_of, given_number, given}
use Rattle.scope.proofs.Decides.{Decides, is_yes, is_no, equal, opposite, equalℤ, first_where_lem}
use Rattle.scope.proofs.Lists.{count-length, at_count, at_map}
use Rattle.scope.proofs.Layers.{first_is}

-- ---- which element's soil a number is

module _ (m : List ℤ) where
  -- k is no element's soil
  abbrev pub NoSoil : ℕ → Type 0
  NoSoil k = (e : ℕ) → e < elements m → ¬ (soil_place m e ≡ k)

  no_element : (k : ℕ) → NoSoil k → soil_of m k ≡ elements m
  unfolding soil_of
  no_element k none = sym (first_is (λ e. eqb (soil_place m e) k) (elements m) (elements m) (record {
    fits = omega arith;
    before = λ e l. (opposite (equal (soil_place m e) k)).passes (none e l);
    passes = λ l. absurd (omega arith);
  }))

  its_element : (e : ℕ) → e < elements m → soil_of m (soil_place m e) ≡ e
  unfolding soil_of soil_place
  its_element e l = sym (first_is (λ d. eqb (soil_place m d) (soil_place m e)) (elements m) e (record {
    fits = omega arith;
    before = λ d k. (opposite (equal (soil_place m d) (soil_place m e))).passes (λ s. absurd (omega arith));
    passes = λ k. (equal (soil_place m e) (soil_place m e)).passes refl;
  }))

  -- a number that is the soil of element e stands at its place
  its_place : (k e : ℕ) → e < elements m → soil_of m k ≡ e → soil_place m e ≡ k
  unfolding soil_of
  its_place k e l d =
      (equal (soil_place m e) k).holds
      (subst (λ (i : ℕ). T (eqb (soil_place m i) k)) d
      ((first_where_lem (λ i. eqb (soil_place m i) k) (elements m)).passes (omega (arith, d))))

-- ---- what stands where

module _ (f : ℕ → ℤ) (m : List ℤ) where
  pub given-length : length (given f m) ≡ length m
  unfolding given
  given-length = length-map (count_from 0 (length m)) (given_number f m) ∙ count-length 0 (length m)

  at-given : (k : ℕ) → k < length m → at (given f m) k ≡ given_number f m k
  unfolding given at
  at-given k l =
      at_map (given_number f m) (count_from 0 (length m)) k 0 (pos 0) (omega (arith, count-length 0 (length m)))
      ∙ ap (given_number f m) (omega (arith, at_count 0 (length m) k 0 l))

  past : (k : ℕ) → length m ≤ k → at (given f m) k ≡ at m k
  unfolding at
  past k l = get_or-eq_default (given f m) (pos 0) {n = k} (omega (arith, given-length))
      ∙ sym (get_or-eq_default m (pos 0) {n = k} l)

  pub given_other : (k : ℕ) → NoSoil m k → at (given f m) k ≡ at m k
  unfolding given_number
  given_other k none = by (dec_lt k (length m))
    where
      by : Dec (k < length m) → at (given f m) k ≡ at m k
      by (yes l) =
          at-given k l
          ∙ ap (λ (b : Bool). cond (b && eq_z (at m k) (pos 0)) (f (soil_of m k)) (at m k))
          (le-ltb (soil_of m k) (elements m) (omega (arith, no_element m k none)))
      by (no l) = past k (omega arith)

  -- a number that is not 0
  pub given_own : (k : ℕ) → ¬ (at m k ≡ pos 0) → at (given f m) k ≡ at m k
  unfolding given_number
  given_own k z = by (dec_lt k (length m))
    where
      by : Dec (k < length m) → at (given f m) k ≡ at m k
      by (yes l) =
          at-given k l
          ∙ ap (λ (b : Bool). cond (ltb (soil_of m k) (elements m) && b) (f (soil_of m k)) (at m k))
          (is_no (equalℤ (at m k) (pos 0)) z)
          ∙ ap (λ (b : Bool). cond b (f (soil_of m k)) (at m k)) (and-false (ltb (soil_of m k) (elements m)))
      by (no l) = past k (omega arith)

  -- the soil of element e, where it is 0
  pub given_zero : (e : ℕ) → e < elements m → soil_place m e < length m → at m (soil_place m e) ≡ pos 0
      → at (given f m) (soil_place m e) ≡ f e
  unfolding given_number
  given_zero e l b z =
      at-given (soil_place m e) b
      ∙ ap₂ (λ (c d : Bool). cond (c && d) (f (soil_of m (soil_place m e))) (at m (soil_place m e)))
      (lt-ltb (soil_of m (soil_place m e)) (elements m) (omega (arith, its_element m e l)))
      (is_yes (equalℤ (at m (soil_place m e)) (pos 0)) z)
      ∙ ap f (its_element m e l)

  -- an element that is given soil 0 stays as it was
  pub given_still : (e : ℕ) → e < elements m → f e ≡ pos 0 → at (given f m) (soil_place m e) ≡ at m (soil_place m e)
  given_still e l z = by (dec_lt (soil_place m e) (length m)) (eq_z (at m (soil_place m e)) (pos 0))
      (equalℤ (at m (soil_place m e)) (pos 0))
    where
      by : Dec (soil_place m e < length m) → (b : Bool) → Decides b (at m (soil_place m e) ≡ pos 0)
          → at (given f m) (soil_place m e) ≡ at m (soil_place m e)
      by (yes k) true d = given_zero e l k (d.holds tt) ∙ z ∙ sym (d.holds tt)
      by (yes k) false d = given_own (soil_place m e) (λ s. d.passes s)
      by (no k) b d = past (soil_place m e) (omega arith)

  pub given_none : ((e : ℕ) → f e ≡ pos 0) → given f m ≡ m
  unfolding at given_number
  given_none none = ext_get_or (pos 0) (given f m) m given-length
      (λ k l. at-given k (omega (arith, l, given-length)) ∙ by k (ltb (soil_of m k) (elements m))
      (eq_z (at m k) (pos 0)) (equalℤ (at m k) (pos 0)))
    where
      by : (k : ℕ) (a b : Bool) → Decides b (at m k ≡ pos 0) → cond (a && b) (f (soil_of m k)) (at m k) ≡ at m k
      by k true true d = none (soil_of m k) ∙ sym (d.holds tt)
      by k true false d = refl
      by k false b d = refl

-- a mesh with no soil 0 stays as it is
pub given_all_own : (f : ℕ → ℤ) (m : List ℤ) → ((e : ℕ) → e < elements m → ¬ (at m (soil_place m e) ≡ pos 0))
    → given f m ≡ m
unfolding at
given_all_own f m own = ext_get_or (pos 0) (given f m) m (given-length f m)
    (λ k l. by k (dec_lt (soil_of m k) (elements m)))
  where
    by : (k : ℕ) → Dec (soil_of m k < elements m) → at (given f m) k ≡ at m k
    by k (yes l) = given_own f m k
        (subst (λ (i : ℕ). ¬ (at m i ≡ pos 0)) (its_place m k (soil_of m k) l refl) (own (soil_of m k) l))
    by k (no l) = given_other f m k (λ e b s. absurd (omega (arith, its_element m e b, ap (soil_of m) s)))

-- ---- where the soils that are given are the same

module _ (f g : ℕ → ℤ) (m : List ℤ) where
  -- .. at one number
  same_number : (k : ℕ) → ((e : ℕ) → e < elements m → soil_place m e ≡ k → f e ≡ g e)
      → given_number f m k ≡ given_number g m k
  unfolding given_number
  same_number k same = by (dec_lt (soil_of m k) (elements m))
    where
      by : Dec (soil_of m k < elements m) → cond (ltb (soil_of m k) (elements m) && eq_z (at m k) (pos 0))
          (f (soil_of m k)) (at m k) ≡ cond (ltb (soil_of m k) (elements m) && eq_z (at m k) (pos 0)) (g (soil_of m k))
          (at m k)
      by (yes l) = ap (λ (z : ℤ). cond (ltb (soil_of m k) (elements m) && eq_z (at m k) (pos 0)) z (at m k))
          (same (soil_of m k) l (its_place m k (soil_of m k) l refl))
      by (no l) = ap (λ (b : Bool). cond (b && eq_z (at m k) (pos 0)) (f (soil_of m k)) (at m k)) none
          ∙ sym (ap (λ (b : Bool). cond (b && eq_z (at m k) (pos 0)) (g (soil_of m k)) (at m k)) none)
        where
          none : ltb (soil_of m k) (elements m) ≡ false
          none = le-ltb (soil_of m k) (elements m) (omega arith)

  given_by : ((k : ℕ) → k < length m → at (given f m) k ≡ at (given g m) k) → given f m ≡ given g m
  unfolding at
  given_by same = ext_get_or (pos 0) (given f m) (given g m) (given-length f m ∙ sym (given-length g m))
      (λ k l. same k (omega (arith, given-length f m)))

  -- .. for each element
  pub given_cong : ((e : ℕ) → e < elements m → f e ≡ g e) → given f m ≡ given g m
  given_cong same = given_by (λ k l. at-given f m k l ∙ same_number k (λ e b s. same e b) ∙ sym (at-given g m k l))

  -- .. for each but one whose soil is not there
  pub given-beyond : (e : ℕ) → length m ≤ soil_place m e → ((d : ℕ) → ¬ (d ≡ e) → f d ≡ g d) → given f m ≡ given g m
  given-beyond e far same =
      given_by (λ k b. at-given f m k b
      ∙ same_number k (λ d c s. same d (λ z. absurd (omega (arith, b, far, s, ap (soil_place m) z))))
      ∙ sym (at-given g m k b))

  -- .. for each but e: where it has soil 0 its number is set, and where it has not nothing is to be done
  module _ (e : ℕ) (l : e < elements m) (there : soil_place m e < length m)
      (same : (d : ℕ) → ¬ (d ≡ e) → f d ≡ g d) where
    elsewhere : (k : ℕ) → k < length m → ¬ (k ≡ soil_place m e) → at (given f m) k ≡ at (given g m) k
    elsewhere k b n = at-given f m k b ∙ same_number k (λ d c s. same d (λ z. n (sym s ∙ ap (soil_place m) z)))
        ∙ sym (at-given g m k b)

    pub given_kept : ¬ (at m (soil_place m e) ≡ pos 0) → given f m ≡ given g m
    given_kept z = given_by (λ k b. by k b (ℕ_discrete k (soil_place m e)))
      where
        by : (k : ℕ) → k < length m → Dec (k ≡ soil_place m e) → at (given f m) k ≡ at (given g m) k
        by k b (yes d) = let n : ¬ (at m k ≡ pos 0) = subst (λ (i : ℕ). ¬ (at m i ≡ pos 0))
            (sym d) z in given_own f m k n ∙ sym (given_own g m k n)
        by k b (no d) = elsewhere k b d

    pub given_set : at m (soil_place m e) ≡ pos 0 → set (given f m) (soil_place m e) (g e) ≡ given g m
    unfolding at
    given_set z =
        ext_get_or (pos 0) (set (given f m) (soil_place m e) (g e)) (given g m)
        (length-set (given f m) (soil_place m e) (g e) ∙ given-length f m ∙ sym (given-length g m))
        (λ k b. by k (omega (arith, b, length-set (given f m) (soil_place m e) (g e), given-length f m))
        (ℕ_discrete k (soil_place m e)))
      where
        by : (k : ℕ) → k < length m → Dec (k ≡ soil_place m e)
            → get_or (set (given f m) (soil_place m e) (g e)) k (pos 0) ≡ at (given g m) k
        by k b (yes d) =
            ap (λ (i : ℕ). get_or (set (given f m) (soil_place m e) (g e)) i (pos 0)) d
            ∙ get_or-set_same (given f m) (soil_place m e) (g e) (pos 0) (omega (arith, there, given-length f m))
            ∙ sym (given_zero g m e l there z)
            ∙ ap (at (given g m)) (sym d)
        by k b (no d) = get_or-set_other (given f m) (soil_place m e) k (g e) (pos 0) d ∙ elsewhere k b d
