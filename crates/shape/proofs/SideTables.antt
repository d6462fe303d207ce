-- Tables of sides: an element gives its number to its sides, and an edge takes its side, so that a byte tells the
-- lowest that has the side.
use mathlib.Core.Path.{◌≡◌, refl, sym, ◌∙◌, ap, ap₂, subst}
use mathlib.Core.Bool.{Bool, true, false, cond, not, ◌&&◌, and_assoc, and_comm, true≢false}
use mathlib.Core.List.{List}
use Prim.Native.Nat.{ℕ, suc, ◌+◌, ◌≤◌, ◌<◌}
use native.Mathlib.Numerals.{add-one}
use native.Mathlib.Decide.{ℕ_discrete}
use native.Mathlib.Omega.{arith}
use lib.IntN.{ℤ}
use lib.Dec.{eqb}
use lib.ListN.{length, replicate, length-replicate}
use borrow.Author.Tests.{eqb-true, eqb-false, lt-ltb, le-ltb, eq-eqb, ne_eqb}
use Rattle.mesh.specs.declared.sizes.Sizes.{Sizes}
use Rattle.scope.specs.Checks.{some_below, all_below}
use Rattle.scope.specs.Mesh.{most_nodes, most_elements, nodes, elements, edges, corner_count, around, from_node}
use Rattle.scope.specs.Mesh.{to_node}
use Rattle.scope.specs.Rows.{first_where}
use Rattle.scope.specs.Tests.{own_side_at, has_ends, has_side, own_sides, outer_side, outer_edge}
use Rattle.mesh.specs.MeshContracts.{Sized}
use Rattle.shape.specs.ShapeContracts.{no_byte, Holds, is_none, put, keep_first, byte_below, byte_at}
use Rattle.shape.specs.ShapeContracts.{SideBytes, side_byte, SideTable, edge_byte, EdgeTable, is_untaken}
use Rattle.outlines.proofs.CornerLaws.{around_there}
use Rattle.shape.proofs.Tables.{holds_as, holds_each, put_free, first_below, first_found, some_there}
use Rattle.shape.proofs.Tables.{byte_found, free_below, cond_same, byte_more, given, none_given, one_given}
use Rattle.shape.proofs.Tables.{all_given}

-- ---- places of sides

whole : {n w : ℕ} {f : ℕ → ℕ → ℕ} {t : List (List ℕ)} → Holds 0 n w f t → Holds 0 (length t) w f t
whole {w = w} {f = f} {t = t} h = subst (λ (n : ℕ). Holds 0 n w f t) (sym h.rows) h

module _ {m : List ℤ} {f : ℕ → ℕ → ℕ} {t : List (List ℕ)} (h : SideBytes m f t) where
  pub bytes_to : {g : ℕ → ℕ → ℕ} {u : List (List ℕ)} → Holds 0 (length t) most_nodes g u → SideBytes m g u
  bytes_to k = record { room = omega (arith, h.room, k.rows); bytes = whole k }

  pub byte_of : {s : Sizes} → Sized m s → {a b : ℕ} → a < nodes m → b < nodes m → byte_at t a b ≡ f a b
  byte_of k {a} {b} i j = h.bytes.says a b (omega (arith, h.room)) (omega (arith, k.facts.counts.nodes_most))

-- ---- the sides of elements

-- side j of element e goes from a to b
abbrev side_is : List ℤ → ℕ → ℕ → ℕ → ℕ → Bool
side_is m e a b j = eqb (around m e j) a && eqb (around m e (j + 1)) b

-- the byte of the side a to b once the first i sides of element e are given its number
abbrev pub sides_so_far : List ℤ → ℕ → ℕ → ℕ → ℕ → ℕ
sides_so_far m e i a b = given (side_is m e a b) (side_byte m e a b) e i

-- no element has the number that stands for none
few : {n : ℕ} → n ≤ most_elements → (k : ℕ) → k < n → is_none k ≡ false
few l k i = ne_eqb k no_byte (λ d. omega arith)

pub no_sides : (m : List ℤ) (n : ℕ) → nodes m ≤ n → SideTable m 0 (replicate n (replicate most_nodes no_byte))
unfolding byte_below first_where
no_sides m n l = record {
  room = omega (arith, length-replicate n (replicate most_nodes no_byte));
  bytes = whole (holds_as (holds_each no_byte) (λ a b. refl));
}

module _ (m : List ℤ) where
  pub no_side_yet : (e : ℕ) {t : List (List ℕ)} → SideTable m e t → SideBytes m (sides_so_far m e 0) t
  no_side_yet e h = bytes_to h (none_given (side_is m e) (side_byte m e) e h.bytes)

  pub own_sides_are : (e : ℕ) → all_below (own_side_at m e) (corner_count m e) ≡ own_sides m e
  unfolding own_sides
  own_sides_are e = refl

module _ (m : List ℤ) {s : Sizes} (k : Sized m s) {e : ℕ} (l : e < elements m) where
  pub side_more : (i : ℕ) {t u : List (List ℕ)} → SideBytes m (sides_so_far m e i) t
      → u ≡ keep_first t (around m e i) (around m e (i + 1)) e → SideBytes m (sides_so_far m e (i + 1)) u
  side_more i h d =
      bytes_to h
      (one_given (side_is m e) (side_byte m e) e i h.bytes (omega (arith, h.room, around_there k l i))
      (omega (arith, around_there k l (i + 1), k.facts.counts.nodes_most)) (λ a b. refl) d)

  pub all_sides : {i : ℕ} {t : List (List ℕ)} → SideBytes m (sides_so_far m e i) t → i ≤ corner_count m e
      → corner_count m e ≤ i → SideTable m (e + 1) t
  unfolding has_side
  all_sides {i} h j n =
      let whole : i ≡ corner_count m e = omega arith in
      bytes_to h
      (all_given (side_is m e) (has_side m) (λ k. k) h.bytes whole (λ a b. refl)
      (few (omega (arith, k.facts.counts.elements_most))))

  has_own : {i : ℕ} → i < corner_count m e → has_side m (around m e i) (around m e (i + 1)) e ≡ true
  unfolding has_side
  has_own {i} j =
      some_there _ (corner_count m e) j
      (ap₂ ◌&&◌ (eq-eqb (around m e i) (around m e i) refl) (eq-eqb (around m e (i + 1)) (around m e (i + 1)) refl))

  pub own_side_is : {i : ℕ} → i < corner_count m e → {t : List (List ℕ)} → SideTable m (elements m) t → {a b : ℕ}
      → a ≡ around m e i → b ≡ around m e (i + 1) → eqb (byte_at t a b) e ≡ own_side_at m e i
  unfolding own_side_at
  own_side_is {i} j {t} h c d =
      let has = has_side m (around m e i) (around m e (i + 1)) in
      ap (λ (x : ℕ). eqb x e)
      (ap₂ (byte_at t) c d
      ∙ byte_of h k (around_there k l i) (around_there k l (i + 1))
      ∙ byte_found no_byte has (λ k. k) (elements m) l (has_own j))
      ∙ (first_found has (elements m) l (has_own j)).1

-- ---- the sides that edges take

module _ (m : List ℤ) where
  no_edge_lem : (a b : ℕ) → side_byte m (elements m) a b ≡ edge_byte m 0 a b
  unfolding edge_byte byte_below first_where
  no_edge_lem a b = by (is_none (side_byte m (elements m) a b)) refl
    where
      by : (d : Bool) → is_none (side_byte m (elements m) a b) ≡ d
          → side_byte m (elements m) a b ≡ cond d no_byte (side_byte m (elements m) a b)
      by true d = eqb-true (side_byte m (elements m) a b) no_byte d
      by false d = refl

  pub no_edge_yet : {t : List (List ℕ)} → SideTable m (elements m) t → EdgeTable m 0 t
  no_edge_yet h = bytes_to h (holds_as h.bytes no_edge_lem)

module _ (m : List ℤ) {s : Sizes} (k : Sized m s) where
  -- a to b is no element's side exactly where it has no byte
  side_none : (a b : ℕ) → is_none (side_byte m (elements m) a b) ≡ not (some_below (has_side m a b) (elements m))
  side_none a b = free_below is_none refl (has_side m a b) (λ k. k) (elements m) (few k.facts.counts.elements_most)

  side_untaken : (a b : ℕ) → is_none (side_byte m (elements m) a b) ≡ false
      → is_untaken (side_byte m (elements m) a b) ≡ true
  unfolding byte_below
  side_untaken a b = by (eqb first (elements m)) refl
    where
      first : ℕ
      first = first_where (has_side m a b) (elements m)

      by : (d : Bool) → eqb first (elements m) ≡ d → is_none (cond d no_byte first) ≡ false
          → is_untaken (cond d no_byte first) ≡ true
      by true d h = absurd (true≢false h)
      by false d h =
          let below : first ≤ elements m = first_below (has_side m a b) (elements m) in
          let other : first ≡ elements m → ⊥ = eqb-false first (elements m) d in
          lt-ltb first most_elements (omega (arith, k.facts.counts.elements_most))

  edge_step : (g a b : ℕ)
      → cond (has_ends m a b g) (cond (is_untaken (edge_byte m g a b)) (most_elements + g) (edge_byte m g a b))
      (edge_byte m g a b) ≡ edge_byte m (suc g) a b
  unfolding edge_byte
  edge_step g a b = by (is_none side) refl
    where
      side : ℕ
      side = side_byte m (elements m) a b

      now : Bool → ℕ → ℕ
      now d n = cond d no_byte (byte_below side (has_ends m a b) (λ k. most_elements + k) n)

      by : (d : Bool) → is_none side ≡ d
          → cond (has_ends m a b g) (cond (is_untaken (now d g)) (most_elements + g) (now d g)) (now d g)
          ≡ now d (suc g)
      by true d = cond_same (has_ends m a b g) no_byte
      by false d =
          byte_more is_untaken (side_untaken a b d) (has_ends m a b) (λ k. most_elements + k) g
          (λ k i. le-ltb (most_elements + k) most_elements (omega arith))

  pub take_more : {g : ℕ} → g < edges m → {t u : List (List ℕ)} → EdgeTable m g t
      → u ≡ put is_untaken t (from_node m g) (to_node m g) (most_elements + g) → EdgeTable m (g + 1) u
  unfolding has_ends
  take_more {g} l {t} {u} h d =
      bytes_to h
      (subst (λ (n : ℕ). Holds 0 (length t) most_nodes (edge_byte m n) u) (sym (add-one g))
      (subst (Holds 0 (length t) most_nodes (edge_byte m (suc g))) (sym d)
      (holds_as
      (put_free is_untaken h.bytes (omega (arith, h.room, (k.facts.edge g l).from_there))
      (omega (arith, (k.facts.edge g l).to_there, k.facts.counts.nodes_most)) (most_elements + g))
      (edge_step g))))

  -- a side is untaken exactly where it is an element's and no edge has it
  pub edge_untaken : (a b : ℕ)
      → is_untaken (edge_byte m (edges m) a b) ≡ some_below (has_side m a b) (elements m)
      && not (some_below (has_ends m a b) (edges m))
  unfolding edge_byte
  edge_untaken a b = by (some_below (has_side m a b) (elements m)) (side_none a b)
    where
      side : ℕ
      side = side_byte m (elements m) a b

      byte : ℕ
      byte = byte_below side (has_ends m a b) (λ k. most_elements + k) (edges m)

      by : (c : Bool) → is_none side ≡ not c
          → is_untaken (cond (is_none side) no_byte byte) ≡ c && not (some_below (has_ends m a b) (edges m))
      by false d = ap (λ (x : Bool). is_untaken (cond x no_byte byte)) d ∙ le-ltb no_byte most_elements (omega arith)
      by true d =
          ap (λ (x : Bool). is_untaken (cond x no_byte byte)) d
          ∙ free_below is_untaken (side_untaken a b d) (has_ends m a b) (λ k. most_elements + k) (edges m)
          (λ k i. le-ltb (most_elements + k) most_elements (omega arith))

  pub edge_none : (a b : ℕ) → is_none (edge_byte m (edges m) a b) ≡ not (some_below (has_side m a b) (elements m))
  unfolding edge_byte byte_below
  edge_none a b = by (is_none side) refl ∙ side_none a b
    where
      side : ℕ
      side = side_byte m (elements m) a b

      first : ℕ
      first = first_where (has_ends m a b) (edges m)

      either : is_none side ≡ false → (c : Bool) → is_none (cond c side (most_elements + first)) ≡ is_none side
      either d true = refl
      either d false =
          ne_eqb (most_elements + first) no_byte
          (λ x. omega (arith, first_below (has_ends m a b) (edges m), k.facts.counts.edges_most)) ∙ sym d

      by : (d : Bool) → is_none side ≡ d
          → is_none (cond d no_byte (byte_below side (has_ends m a b) (λ k. most_elements + k) (edges m)))
          ≡ is_none side
      by true d = sym d
      by false d = either d (eqb first (edges m))

  module _ {g : ℕ} (l : g < edges m) where
    edge_taken : eqb (edge_byte m (edges m) (from_node m g) (to_node m g)) (most_elements + g)
        ≡ some_below (has_side m (from_node m g) (to_node m g)) (elements m)
        && not (some_below (has_ends m (from_node m g) (to_node m g)) g)
    unfolding edge_byte has_ends
    edge_taken = by (some_below (has_side m p q) (elements m)) (side_none p q)
      where
        p : ℕ
        p = from_node m g

        q : ℕ
        q = to_node m g

        side : ℕ
        side = side_byte m (elements m) p q

        ends : has_ends m p q g ≡ true
        ends = ap₂ ◌&&◌ (eq-eqb p p refl) (eq-eqb q q refl)

        past : (x : ℕ) → Dec (x ≡ g) → eqb (most_elements + x) (most_elements + g) ≡ eqb x g
        past x (yes d) = eq-eqb (most_elements + x) (most_elements + g) (omega arith) ∙ sym (eq-eqb x g d)
        past x (no d) = ne_eqb (most_elements + x) (most_elements + g) (λ e. d (omega arith)) ∙ sym (ne_eqb x g d)

        byte : ℕ
        byte = byte_below side (has_ends m p q) (λ k. most_elements + k) (edges m)

        by : (b : Bool) → is_none side ≡ not b
            → eqb (cond (is_none side) no_byte byte) (most_elements + g) ≡ b && not (some_below (has_ends m p q) g)
        by false d =
            ap (λ (x : Bool). eqb (cond x no_byte byte) (most_elements + g)) d
            ∙ ne_eqb no_byte (most_elements + g) (λ x. omega (arith, k.facts.counts.edges_most))
        by true d =
            ap (λ (x : Bool). eqb (cond x no_byte byte) (most_elements + g)) d
            ∙ ap (λ (x : ℕ). eqb x (most_elements + g))
            (byte_found side (has_ends m p q) (λ k. most_elements + k) (edges m) l ends)
            ∙ past (first_where (has_ends m p q) (edges m)) (ℕ_discrete (first_where (has_ends m p q) (edges m)) g)
            ∙ (first_found (has_ends m p q) (edges m) l ends).1

    -- an edge is an outer side, once, exactly where it has taken its side and the reverse has no byte
    pub outer_edge_is : {t : List (List ℕ)} → EdgeTable m (edges m) t → {a b : ℕ} → a ≡ from_node m g
        → b ≡ to_node m g → outer_edge m g ≡ eqb (byte_at t a b) (most_elements + g) && eqb (byte_at t b a) no_byte
    unfolding outer_edge outer_side has_ends
    outer_edge_is {t} h d e =
        let p = from_node m g in
        let q = to_node m g in
        let i = (k.facts.edge g l).from_there in
        let j = (k.facts.edge g l).to_there in
        swap (some_below (has_side m p q) (elements m)) _ _
        ∙ sym (ap₂ ◌&&◌ edge_taken (edge_none q p))
        ∙ sym (ap₂ (λ (x y : ℕ). eqb x (most_elements + g) && eqb y no_byte) (ap₂ (byte_at t) d e ∙ byte_of h k i j)
        (ap₂ (byte_at t) e d ∙ byte_of h k j i))
      where
        swap : (x y z : Bool) → (x && y) && z ≡ (x && z) && y
        swap x y z = and_assoc x y z ∙ ap (λ (b : Bool). x && b) (and_comm y z) ∙ sym (and_assoc x z y)
