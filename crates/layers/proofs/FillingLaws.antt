-- A mesh in which the first elements have their layers' soils and the others soil 1: it has all that sound lines say,
-- one element more is one number set, and after the last element it is the filled mesh.
use mathlib.Core.Path.{◌≡◌, sym, ◌∙◌, ap, ap₂, subst}
use mathlib.Core.Bool.{Bool, true, false, cond}
use mathlib.Core.List.{List}
use Prim.Native.Nat.{ℕ, ◌+◌, ◌≤◌, ◌<◌}
use native.Mathlib.Decide.{dec_lt}
use native.Mathlib.Omega.{arith}
use lib.Dec.{ltb}
use lib.IntN.{ℤ, pos}
use lib.ListN.{length, set}
use borrow.Author.Tests.{lt-ltb, le-ltb}
use Rattle.integer.proofs.Order.{pos_≤ℤ}
use Rattle.scope.specs.Columns.{at}
use Rattle.scope.specs.Mesh.{most_elements, elements, soils}
use Rattle.scope.specs.NumberRanges.{Between, MeshFacts}
use Rattle.scope.specs.Rows.{first_where}
use Rattle.scope.specs.Layers.{layers, soil, has, soil_at}
use Rattle.scope.specs.Filled.{height_of, soil_place, given, filled, with_soils}
use Rattle.scope.specs.LayerRefusals.{OneLayer}
use Rattle.scope.proofs.Layers.{soil_found, soil-at}
use Rattle.scope.proofs.Filled.{given_facts, soil-there, element_layer}
use Rattle.scope.proofs.Given.{given-length, given_cong, given_kept, given_set}
use Rattle.scope.proofs.Filled.{height_kept, place_kept, nodes_kept, elements_kept, soils_kept, edges_kept}
use Rattle.scope.proofs.Filled.{sides_kept, jumps_kept}
use Rattle.mesh.specs.declared.sizes.Sizes.{Sizes}
use Rattle.mesh.specs.MeshContracts.{Sized, SizesAre}
use Rattle.mesh.proofs.Places.{as_sizes}
use Rattle.layers.specs.LayerContracts.{soils_to, Fillable}

abbrev one : ℕ → ℤ
one e = pos 1

module _ {t m : List ℤ} {s : Sizes} (f : Fillable t m s) where
  facts : MeshFacts (given one m)
  unfolding with_soils
  facts = f.sized.facts

  layer : (e : ℕ) → e < elements m → OneLayer t (height_of m e)
  layer e l = element_layer one m facts t f.sound e l

  soils_are_lem : (e d : ℕ) → d < elements m → Between (pos 1) (pos (soils m)) (soils_to t m e d)
  soils_are_lem e d l = by (ltb d e)
    where
      by : (b : Bool) → Between (pos 1) (pos (soils m)) (cond b (soil_at t (height_of m d)) (pos 1))
      by true =
          let o = layer d l in
          subst (Between (pos 1) (pos (soils m))) (sym (soil-at t (height_of m d) o)) (f.named o.layer o.there)
      by false =
          let some = facts.counts.soils_least in
          record { least = pos_≤ℤ (omega arith); most = pos_≤ℤ (omega (arith, soils_kept one m)) }

  -- the sizes are the same whatever soils are given
  pub sized_to : (e : ℕ) → Sized (given (soils_to t m e) m) s
  unfolding with_soils
  sized_to e =
      let k = f.sized in
      record {
        facts = given_facts one m facts (soils_to t m e) (λ d l z. soils_are_lem e d l);
        nodes_are = k.nodes_are ∙ nodes_kept one m ∙ sym (nodes_kept (soils_to t m e) m);
        elements_are = k.elements_are ∙ elements_kept one m ∙ sym (elements_kept (soils_to t m e) m);
        soils_are = k.soils_are ∙ soils_kept one m ∙ sym (soils_kept (soils_to t m e) m);
        edges_are = k.edges_are ∙ edges_kept one m ∙ sym (edges_kept (soils_to t m e) m);
        sides_are = k.sides_are ∙ sides_kept one m ∙ sym (sides_kept (soils_to t m e) m);
        jumps_are = k.jumps_are ∙ jumps_kept one m ∙ sym (jumps_kept (soils_to t m e) m);
      }

  pub elements_are_lem : s.elements ≡ elements m
  unfolding with_soils
  elements_are_lem = f.sized.elements_are ∙ elements_kept one m

  pub few_elements_lem : elements m ≤ most_elements
  few_elements_lem = omega (arith, facts.counts.elements_most, elements_kept one m)

  -- where the soil of element e stands
  module _ (e : ℕ) (l : e < elements m) where
    pub place_is : {r : ℕ} → ((m : List ℤ) → SizesAre m s → r ≡ soil_place m e) → r ≡ soil_place m e
    unfolding with_soils
    place_is h = h (with_soils m) (as_sizes f.sized) ∙ place_kept one m e

    pub place_there : soil_place m e < length m
    place_there = soil-there one m facts e l

    pub place_small : soil_place m e < 2000
    place_small =
        let k = facts.counts in
        omega (arith, place_there, given-length one m, facts.size)

    pub set_there : soil_place m e < length (given (soils_to t m e) m)
    set_there = omega (arith, place_there, given-length (soils_to t m e) m)

    pub same_element : e < elements (given (soils_to t m e) m)
    same_element = omega (arith, elements_kept (soils_to t m e) m)

    same_but : (d : ℕ) → ¬ (d ≡ e) → soils_to t m e d ≡ soils_to t m (e + 1) d
    same_but d z = ap (λ (b : Bool). cond b (soil_at t (height_of m d)) (pos 1)) (by (dec_lt d e))
      where
        by : Dec (d < e) → ltb d e ≡ ltb d (e + 1)
        by (yes k) = lt-ltb d e k ∙ sym (lt-ltb d (e + 1) (omega arith))
        by (no k) = le-ltb d e (omega arith) ∙ sym (le-ltb d (e + 1) (above k (dec_lt e d)))
          where
            above : ¬ (d < e) → Dec (e < d) → e + 1 ≤ d
            above k (yes j) = omega arith
            above k (no j) = absurd (z (omega arith))

    here : soils_to t m (e + 1) e ≡ soil_at t (height_of m e)
    here = ap (λ (b : Bool). cond b (soil_at t (height_of m e)) (pos 1)) (lt-ltb e (e + 1) (omega arith))

    pub soil_kept :
        {k : ℕ} →
        k ≡ soil_place m e →
        ¬ (at m k ≡ pos 0) →
        given (soils_to t m e) m ≡ given (soils_to t m (e + 1)) m
    soil_kept place other =
        given_kept (soils_to t m e) (soils_to t m (e + 1)) m e l place_there same_but
        (subst (λ (k : ℕ). ¬ (at m k ≡ pos 0)) place other)

    -- the layer that is searched
    module _ {q : ℕ} (eq : q ≡ height_of (given (soils_to t m e) m) e) where
      height : q ≡ height_of m e
      height = eq ∙ height_kept (soils_to t m e) m (sized_to e).facts e l

      found : first_where (has t q) (layers t) ≡ (layer e l).layer
      found = ap (λ (x : ℕ). first_where (has t x) (layers t)) height ∙ soil_found t (height_of m e) (layer e l)

      pub is_found : ¬ (first_where (has t q) (layers t) ≡ layers t)
      is_found none = omega (arith, found, (layer e l).there)

      pub soil_set :
          {k : ℕ} {z : ℤ} →
          k ≡ soil_place m e →
          at m k ≡ pos 0 →
          z ≡ soil t (first_where (has t q) (layers t)) →
          set (given (soils_to t m e) m) k z ≡ given (soils_to t m (e + 1)) m
      soil_set {k} {z} place zero d =
          let to : z ≡ soils_to t m (e + 1) e =
          d ∙ ap (soil t) found ∙ sym (soil-at t (height_of m e) (layer e l)) ∙ sym here in
          ap₂ (set (given (soils_to t m e) m)) place to
          ∙ given_set (soils_to t m e) (soils_to t m (e + 1)) m e l place_there same_but
          (subst (λ (k : ℕ). at m k ≡ pos 0) place zero)

-- before the first element, and after the last
pub none_filled : (t m : List ℤ) → with_soils m ≡ given (soils_to t m 0) m
unfolding with_soils
none_filled t m =
    given_cong one (soils_to t m 0) m
    (λ e l. sym (ap (λ (b : Bool). cond b (soil_at t (height_of m e)) (pos 1)) (le-ltb e 0 (omega arith))))

pub all_filled : (t m : List ℤ) {e : ℕ} → e ≡ elements m → given (soils_to t m e) m ≡ filled t m
unfolding filled
all_filled t m {e} d =
    given_cong (soils_to t m e) (λ e. soil_at t (height_of m e)) m
    (λ i l. ap (λ (b : Bool). cond b (soil_at t (height_of m i)) (pos 1)) (lt-ltb i e (omega arith)))
