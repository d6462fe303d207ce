-- Marks: an element marks its corners with its soil, so that the marks of a node are the soils of the elements around
-- it.
use mathlib.Core.Path.{◌≡◌, refl, sym, ◌∙◌, ap, ap₂, subst}
use mathlib.Core.Bool.{Bool, true, false, cond, ◌&&◌, ◌||◌, or-false, or-true, or_assoc, and-or_distrib_right}
use mathlib.Core.List.{List, []}
use Prim.Native.Nat.{ℕ, zero, suc, ◌+◌, ◌<◌}
use native.Mathlib.Numerals.{add-one}
use native.Mathlib.Omega.{arith}
use lib.IntN.{ℤ}
use lib.Dec.{T, eqb}
use lib.ListN.{get_or, replicate}
use Rattle.std.specs.List.{list_any}
use lib.Ieee.Bits.{is_true, is_false}
use Rattle.scope.specs.Checks.{some_below}
use Rattle.scope.specs.Mesh.{most_nodes, most_soils, nodes, elements, corner, element_soil}
use Rattle.scope.specs.Rows.{has_corner, has_soil}
use Rattle.scope.specs.Tests.{in_element}
use Rattle.scope.specs.NumberRanges.{MeshFacts}
use Rattle.scope.specs.Pairs.{SoilAround}
use Rattle.mesh.specs.declared.sizes.Sizes.{Sizes}
use Rattle.mesh.specs.MeshContracts.{Sized}
use Rattle.scope.proofs.Decides.{opposite}
use Rattle.scope.proofs.Statements.{in_element_lem, soil-around}
use Rattle.shape.specs.ShapeContracts.{entry, with_entry, Holds, soil_below, MarkTable}
use Rattle.shape.proofs.Tables.{holds_as, holds_each, put_one, some_cong, some_there, none_there, some_elements}

-- the marks of a test
abbrev pub Marks : (ℕ → ℕ → Bool) → List (List Bool) → Type 0
Marks f t = Holds false most_nodes most_soils f t

abbrev pub is_marked : List (List Bool) → ℕ → ℕ → Bool
is_marked t v s = entry false t v s

-- ---- the corners of element e

-- what is marked once the first i corners of element e are
abbrev pub marks_so_far : List ℤ → ℕ → ℕ → ℕ → ℕ → Bool
marks_so_far m e i v s =
    soil_below m e v s || some_below (λ j. eqb (corner m e j) v && eqb (element_soil m e) s) i

some_and : (f : ℕ → Bool) (b : Bool) (n : ℕ) → some_below (λ j. f j && b) n ≡ some_below f n && b
unfolding some_below
some_and f b zero = refl
some_and f b (suc n) =
    ap (λ (x : Bool). x || (f n && b)) (some_and f b n) ∙ sym (and-or_distrib_right (some_below f n) (f n) b)

-- one place more is marked
one_more : (d b : Bool) → cond d true b ≡ b || d
one_more true b = sym (or-true b)
one_more false b = sym (or-false b)

module _ (m : List ℤ) where
  pub none_marked : MarkTable m 0 (replicate most_nodes (replicate most_soils false))
  unfolding some_below
  none_marked = holds_as (holds_each false) (λ v s. refl)

  pub no_corner_yet : (e : ℕ) {t : List (List Bool)} → MarkTable m e t → Marks (marks_so_far m e 0) t
  unfolding some_below
  no_corner_yet e h = holds_as h (λ v s. sym (or-false (soil_below m e v s)))

  pub corner_more : (e i : ℕ) {v soil : ℕ} {t u : List (List Bool)} → Marks (marks_so_far m e i) t → v ≡ corner m e i
      → soil ≡ element_soil m e → v < most_nodes → soil < most_soils → u ≡ with_entry t v soil true
      → Marks (marks_so_far m e (i + 1)) u
  unfolding some_below
  corner_more e i {v} {soil} {t} {u} h d f l k g =
      subst (λ (j : ℕ). Marks (marks_so_far m e j) u) (sym (add-one i))
      (subst (Marks (marks_so_far m e (suc i))) (sym g)
      (holds_as (put_one h l k true)
      (λ a b. one_more (eqb v a && eqb soil b) (marks_so_far m e i a b)
      ∙ ap₂ (λ (x y : ℕ). marks_so_far m e i a b || (eqb x a && eqb y b)) d f
      ∙ or_assoc (soil_below m e a b) _ _)))

  pub all_corners : (e i : ℕ) {t : List (List Bool)} → Marks (marks_so_far m e i) t → i ≡ 4 → MarkTable m (e + 1) t
  unfolding some_below has_corner
  all_corners e i {t} h d =
      subst (λ (k : ℕ). MarkTable m k t) (sym (add-one e))
      (holds_as (subst (λ (j : ℕ). Marks (marks_so_far m e j) t) d h)
      (λ v s. ap (λ (b : Bool). soil_below m e v s || b)
      (some_and (λ j. eqb (corner m e j) v) (eqb (element_soil m e) s) 4)))

  -- ---- all elements are passed

  marked_is : {t : List (List Bool)} → MarkTable m (elements m) t → (v s : ℕ) → v < most_nodes → s < most_soils
      → is_marked t v s ≡ has_soil m v s
  unfolding has_soil
  marked_is h v s l k = h.says v s l k

  pub node_marked : {s : Sizes} → Sized m s → {t : List (List Bool)} → MarkTable m (elements m) t → {v soil : ℕ}
      → v < nodes m → soil < s.soils → is_marked t v soil ≡ has_soil m v soil
  node_marked k h l i =
      marked_is h _ _ (omega (arith, k.facts.counts.nodes_most))
      (omega (arith, k.soils_are, k.facts.counts.soils_most))

  -- a node is in an element exactly where it has a soil
  has_some_soil : MeshFacts m → (v : ℕ) → some_below (has_soil m v) most_soils ≡ in_element m v
  has_some_soil facts v = by (in_element m v) refl
    where
      by : (b : Bool) → in_element m v ≡ b → some_below (has_soil m v) most_soils ≡ b
      by true e =
          let r = (in_element_lem m v).holds (subst T (sym e) tt) in
          let s = element_soil m r.element in
          some_there (has_soil m v) most_soils {e = s}
          (omega (arith, (facts.element r.element r.there).soil_there, facts.counts.soils_most))
          (is_true (has_soil m v s)
          ((soil-around m v s).passes
          (record { element = r.element; there = r.there; has-corner = (r.place, r.four, r.same); same = refl })))
      by false e =
          none_there (has_soil m v) most_soils
          (λ s l. is_false (has_soil m v s) ((opposite (soil-around m v s)).passes (none s)))
        where
          none : (s : ℕ) → ¬ SoilAround m v s
          none s r =
              let (i, l, d) = r.has-corner in
              subst T e ((in_element_lem m v).passes
              (record { element = r.element; there = r.there; place = i; four = l; same = d }))

  pub some_mark : {s : Sizes} → Sized m s → {t : List (List Bool)} → MarkTable m (elements m) t → {v : ℕ} → v < nodes m
      → list_any (λ b. b) (get_or t v []) ≡ in_element m v
  some_mark k {t} h {v} l =
      let there : v < most_nodes = omega (arith, k.facts.counts.nodes_most) in
      some_elements (λ b. b) (get_or t v []) false
      ∙ ap (some_below (is_marked t v)) (h.width v there)
      ∙ some_cong (is_marked t v) (has_soil m v) most_soils (λ s i. marked_is h v s there i)
      ∙ has_some_soil k.facts v
