-- Tables of sides that jumps use: a jump marks its two sides, so that a byte tells whether an element's side is still
-- free; coordinates are equal where their difference is 0.
use mathlib.Core.Path.{◌≡◌, refl, sym, ◌∙◌, ap, ap₂, subst}
use mathlib.Core.Bool.{Bool, true, false, cond, not, ◌&&◌, ◌||◌, and-true}
use mathlib.Core.List.{List, [], ◌∷◌}
use Prim.Native.Nat.{ℕ, suc, ◌+◌, ◌<◌}
use native.Mathlib.Numerals.{add-one}
use native.Mathlib.Omega.{arith}
use lib.IntN.{ℤ, pos, ◌-ℤ◌}
use lib.Dec.{eqb}
use lib.ListN.{length}
use borrow.Author.Tests.{ltb-true, le-ltb, ne_eqb}
use Rattle.integer.specs.Tests.{eq_z}
use Rattle.integer.proofs.Ring.{ring, ring_from, terms}
use Rattle.integer.proofs.TestLaws.{same_test, eq_z_yes, yes_eq_z}
use Rattle.mesh.specs.declared.sizes.Sizes.{Sizes}
use Rattle.scope.specs.Checks.{some_below}
use Rattle.scope.specs.Mesh.{most_nodes, most_elements, nodes, elements, edges, x, y, jump_from, jump_to, facing_from}
use Rattle.scope.specs.Mesh.{facing_to}
use Rattle.scope.specs.Tests.{has_side, has_ends, outer_side, used_by_jump, free_side, same_point, is_joint}
use Rattle.mesh.specs.declared.entries.Jump.{Jump}
use Rattle.mesh.specs.EntryContracts.{JumpOf}
use Rattle.mesh.specs.MeshContracts.{Sized, NodeAt}
use Rattle.shape.specs.ShapeContracts.{no_byte, Holds, put, is_none, is_untaken, used_byte, byte_at}
use Rattle.shape.specs.ShapeContracts.{edge_byte, EdgeTable, jump_byte, JumpTable}
use Rattle.shape.proofs.Tables.{kept, holds_as, put_free}
use Rattle.shape.proofs.SideTables.{bytes_to, byte_of, edge_untaken, edge_none}

-- ---- coordinates

no_difference : {a b : ℤ} → a -ℤ b ≡ pos 0 → a ≡ b
no_difference {a} {b} e = ring_from (pos 1) e (ring (a ∷ b ∷ []) (search terms depth 100) refl)

some_difference : {a b : ℤ} → a ≡ b → a -ℤ b ≡ pos 0
some_difference {a} {b} e = ring_from (pos 1) e (ring (a ∷ b ∷ []) (search terms depth 100) refl)

difference_is_0 : (a b : ℤ) → eq_z (a -ℤ b) (pos 0) ≡ eq_z a b
difference_is_0 a b =
    same_test {x = eq_z (a -ℤ b) (pos 0)} {y = eq_z a b}
    (λ t. yes_eq_z {a = a} {b = b} (no_difference (eq_z_yes {a = a -ℤ b} {b = pos 0} t)))
    (λ t. yes_eq_z {a = a -ℤ b} {b = pos 0} (some_difference (eq_z_yes {a = a} {b = b} t)))

module _ (m : List ℤ) (a b : ℕ) where
  differences : {r : Bool} → r ≡ eq_z (x m a -ℤ x m b) (pos 0) → r && eq_z (y m a -ℤ y m b) (pos 0) ≡ same_point m a b
  unfolding same_point
  differences e = ap₂ ◌&&◌ (e ∙ difference_is_0 (x m a) (x m b)) (difference_is_0 (y m a) (y m b))

  pub same_x : true ≡ eq_z (x m a -ℤ x m b) (pos 0) → eq_z (y m a -ℤ y m b) (pos 0) ≡ same_point m a b
  same_x e = differences e

  pub other_x : false ≡ eq_z (x m a -ℤ x m b) (pos 0) → false ≡ same_point m a b
  other_x e = differences e

-- ---- bytes of used sides

pub no_jump_yet : (m : List ℤ) {t : List (List ℕ)} → EdgeTable m (edges m) t → JumpTable m 0 t
unfolding jump_byte some_below
no_jump_yet m h = bytes_to h (holds_as h.bytes (λ a b. refl))

used_untaken : (used : Bool) (e : ℕ)
    → is_untaken (cond used (cond (is_untaken e) used_byte e) e) ≡ is_untaken e && not used
used_untaken false e = sym (and-true (is_untaken e))
used_untaken true e = by (is_untaken e) refl
  where
    by : (b : Bool) → is_untaken e ≡ b → is_untaken (cond b used_byte e) ≡ b && false
    by true d = le-ltb used_byte most_elements (omega arith)
    by false d = d

used_none : (used : Bool) (e : ℕ) → is_none (cond used (cond (is_untaken e) used_byte e) e) ≡ is_none e
used_none false e = refl
used_none true e = by (is_untaken e) refl
  where
    by : (b : Bool) → is_untaken e ≡ b → is_none (cond b used_byte e) ≡ is_none e
    by true d = sym (ne_eqb e no_byte (λ z. omega (arith, ltb-true e most_elements d)))
    by false d = refl

module _ (m : List ℤ) {s : Sizes} (k : Sized m s) where
  -- a side is free exactly where its byte is an element's and the reverse has none
  free_is : (j : ℕ) {t : List (List ℕ)} → JumpTable m j t → {a b : ℕ} → a < nodes m → b < nodes m
      → free_side m j a b ≡ is_untaken (byte_at t a b) && is_none (byte_at t b a)
  unfolding free_side outer_side jump_byte
  free_is j {t} h {a} {b} i l =
      regroup (some_below (has_side m a b) (elements m)) (some_below (has_side m b a) (elements m))
      (some_below (has_ends m a b) (edges m)) (some_below (used_by_jump m a b) j)
      ∙ sym (ap₂ ◌&&◌
      (ap is_untaken (byte_of h k i l) ∙ used_untaken (some_below (used_by_jump m a b) j) (edge_byte m (edges m) a b)
      ∙ ap (λ (c : Bool). c && not (some_below (used_by_jump m a b) j)) (edge_untaken m k a b))
      (ap is_none (byte_of h k l i) ∙ used_none (some_below (used_by_jump m b a) j) (edge_byte m (edges m) b a)
      ∙ edge_none m k b a))
    where
      regroup : (p q r u : Bool) → ((p && not q) && not r) && not u ≡ ((p && not r) && not u) && not q
      regroup false q r u = refl
      regroup true true true u = refl
      regroup true true false true = refl
      regroup true true false false = refl
      regroup true false true u = refl
      regroup true false false true = refl
      regroup true false false false = refl

  module _ (j : ℕ) {t : List (List ℕ)} (h : JumpTable m j t) {r : Jump} (is : JumpOf r m j) where
    pub joint_is : is_joint m j
        ≡ (((is_untaken (byte_at t r.from r.to) && is_none (byte_at t r.to r.from))
        && (is_untaken (byte_at t r.facing_to r.facing_from) && is_none (byte_at t r.facing_from r.facing_to)))
        && same_point m r.from r.facing_from)
        && same_point m r.to r.facing_to
    unfolding is_joint jump_from jump_to facing_from facing_to
    joint_is =
        sym (same is.from.same is.to.same is.facing_from.same is.facing_to.same)
        ∙ ap₂ (λ (p q : Bool). ((p && q) && same_point m r.from r.facing_from) && same_point m r.to r.facing_to)
        (free_is j h is.from.there is.to.there) (free_is j h is.facing_to.there is.facing_from.there)
      where
        same : {a b c d p q u v : ℕ} → a ≡ p → b ≡ q → c ≡ u → d ≡ v
            → ((free_side m j a b && free_side m j d c) && same_point m a c) && same_point m b d
            ≡ ((free_side m j p q && free_side m j v u) && same_point m p u) && same_point m q v
        same e f g i =
            λ v. ((free_side m j (e v) (f v) && free_side m j (i v) (g v)) && same_point m (e v) (g v))
            && same_point m (f v) (i v)

    -- its two sides are used
    pub use_more : {u w : List (List ℕ)} → u ≡ put is_untaken t r.from r.to used_byte
        → w ≡ put is_untaken u r.facing_to r.facing_from used_byte → JumpTable m (j + 1) w
    unfolding jump_byte some_below used_by_jump jump_from jump_to facing_from facing_to
    use_more {u} {w} e f =
        bytes_to h
        (subst (λ (n : ℕ). Holds 0 (length t) most_nodes (jump_byte m n) w) (sym (add-one j))
        (subst (Holds 0 (length t) most_nodes (jump_byte m (suc j))) (sym f)
        (holds_as (put_free is_untaken once (row is.facing_to) (column is.facing_from) used_byte) step)))
      where
        now : ℕ → ℕ → ℕ
        now = jump_byte m j

        row : {p i : ℕ} → NodeAt p m i → p < length t
        row i = omega (arith, i.there, h.room)

        column : {p i : ℕ} → NodeAt p m i → p < most_nodes
        column i = omega (arith, i.there, i.few)

        own : ℕ → ℕ → ℕ
        own p q = cond (eqb r.from p && eqb r.to q) (kept is_untaken (now p q) used_byte) (now p q)

        once : Holds 0 (length t) most_nodes own u
        once =
            subst (Holds 0 (length t) most_nodes own) (sym e)
            (put_free is_untaken h.bytes (row is.from) (column is.to) used_byte)

        again : (z : ℕ) (p : Bool) → is_untaken z ≡ p
            → kept is_untaken (cond p used_byte z) used_byte ≡ cond p used_byte z
        again z true q = ap (λ (r : Bool). cond r used_byte used_byte) (le-ltb used_byte most_elements (omega arith))
        again z false q = ap (λ (r : Bool). cond r used_byte z) q

        twice : (z : ℕ) → kept is_untaken (kept is_untaken z used_byte) used_byte ≡ kept is_untaken z used_byte
        twice z = again z (is_untaken z) refl

        regroup : (g o i : Bool) (z : ℕ)
            → cond i (kept is_untaken
            (cond o (kept is_untaken (cond g (kept is_untaken z used_byte) z) used_byte)
            (cond g (kept is_untaken z used_byte) z)) used_byte)
            (cond o (kept is_untaken (cond g (kept is_untaken z used_byte) z) used_byte)
            (cond g (kept is_untaken z used_byte) z))
            ≡ cond (g || (o || i)) (kept is_untaken z used_byte) z
        regroup false false false z = refl
        regroup false false true z = refl
        regroup false true false z = refl
        regroup false true true z = twice z
        regroup true false false z = refl
        regroup true false true z = twice z
        regroup true true false z = twice z
        regroup true true true z = ap (λ (r : ℕ). kept is_untaken r used_byte) (twice z) ∙ twice z

        step : (p q : ℕ)
            → cond (eqb r.facing_to p && eqb r.facing_from q) (kept is_untaken (own p q) used_byte) (own p q)
            ≡ jump_byte m (suc j) p q
        step p q =
            ap₂ (λ (i o : Bool). cond i
            (kept is_untaken (cond o (kept is_untaken (now p q) used_byte) (now p q)) used_byte)
            (cond o (kept is_untaken (now p q) used_byte) (now p q)))
            (ap₂ (λ (x y : ℕ). eqb x p && eqb y q) is.facing_to.same is.facing_from.same)
            (ap₂ (λ (x y : ℕ). eqb x p && eqb y q) is.from.same is.to.same)
            ∙ regroup (some_below (used_by_jump m p q) j) (eqb (jump_from m j) p && eqb (jump_to m j) q)
            (eqb (facing_to m j) p && eqb (facing_from m j) q) (edge_byte m (edges m) p q)
