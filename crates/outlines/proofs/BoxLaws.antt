-- Boxes around elements: a box of an element's four nodes has its corners; one element more, with how far all up to it
-- reach; and what the tests of boxes say.
use mathlib.Core.Path.{◌≡◌, refl, sym, ◌∙◌, ap, ap₂, subst, subst₂}
use mathlib.Core.Logic.{◌⊎◌, inl, inr, ⊎_elim}
use mathlib.Core.Bool.{Bool, true, false, ◌||◌}
use mathlib.Core.List.Memᴰ
use mathlib.Core.List.{List, [], ◌∷◌, ◌++◌}
use Prim.Native.Nat.{ℕ, ◌+◌, ◌%◌, ◌≤◌, ◌<◌}
use native.Mathlib.Omega.{arith}
use lib.Dec.{T}
use lib.IntN.{ℤ}
use lib.Signed.{◌≤ℤ◌, le_z}
use mir.Syntax.{w64}
use mir.Val.{SFits, to_z, of_z}
use mir.Facts.{to_z-of_z}
use lib.ListN.{get_or, length-append, get_or-append}
use lib.Seq.{get_or-append_seam}
use Rattle.integer.specs.Members.{◌∈◌}
use Rattle.integer.proofs.Machine.{is_true}
use Rattle.integer.proofs.Order.{≤ℤ_trans}
use Rattle.plane.specs.Points.{Corner}
use Rattle.plane.specs.Boxes.{InBox, Around, Clear}
use Rattle.scope.specs.Mesh.{x, y, corner, corner_count, around}
use Rattle.scope.specs.Rows.{count_from}
use Rattle.scope.specs.Outline.{node_point, outline}
use Rattle.scope.proofs.Checks.{below_suc}
use Rattle.scope.proofs.Decides.{Decides, either, said_as, at_mostℤ}
use Rattle.scope.proofs.Triangles.{around_below}
use Rattle.outlines.specs.declared.boxes.ElementBox.{ElementBox}
use Rattle.outlines.specs.declared.boxes.Boxed.{Boxed}
use Rattle.outlines.specs.OutlineContracts.{box_of, ends_before, boxes_apart, no_box, boxed_at, Reaches, BoxedTo}

-- ---- the box of an element

-- a corner of an element is one of its four nodes
node_of : (m : List ℤ) (e : ℕ) (c : Corner) → c ∈ outline m e → (j : ℕ) × (j < 4) × (node_point m (corner m e j) ≡ c)
unfolding outline around
node_of m e c k =
    let (i, h, s) = Memᴰ.of_map (λ i. node_point m (around m e i)) (count_from 0 (corner_count m e)) k in
    (i % corner_count m e, around_below m e i, s)

module _ (m : List ℤ) (e : ℕ) where
  -- the nodes of an element before the j-th are in a box
  abbrev pub Nodes : ℕ → ElementBox → Type 0
  Nodes j b = (i : ℕ) → i < j → InBox (box_of b) (node_point m (corner m e i))

  pub around_nodes : {b : ElementBox} → Nodes 4 b → Around (box_of b) (outline m e)
  around_nodes {b} h c k = let (j, l, s) = node_of m e c k in subst (InBox (box_of b)) s (h j l)

  -- a point with the coordinates of a node that is corner j
  pub node_in : (b : ElementBox) (j : ℕ) {v : ℕ} {p q : ℤ} → v ≡ corner m e j → p ≡ x m v → q ≡ y m v
      → InBox (box_of b) (record { x = p; y = q }) → InBox (box_of b) (node_point m (corner m e j))
  node_in b j s f g h =
      subst (λ v. InBox (box_of b) (node_point m v)) s
      (subst₂ (λ (p q : ℤ). InBox (box_of b) (record { x = p; y = q })) f g h)

  pub one_node_more : {j : ℕ} {b d : ElementBox} → Nodes j b
      → ((c : Corner) → InBox (box_of b) c → InBox (box_of d) c) → InBox (box_of d) (node_point m (corner m e j))
      → Nodes (j + 1) d
  one_node_more {j} {b} {d} old wider own i l = by (below_suc (omega arith))
    where
      by : (i < j) ⊎ (i ≡ j) → InBox (box_of d) (node_point m (corner m e i))
      by (inl k) = wider _ (old i k)
      by (inr k) = subst (λ i. InBox (box_of d) (node_point m (corner m e i))) (sym k) own

-- ---- the boxes of the elements before e, and how far they reach

pub record Boxing (m : List ℤ) (e : ℕ) (right top : ℤ) (t : List Boxed) : Type 0 where
  pub boxed : BoxedTo m e t
  pub most_right : (k : ℕ) → k < e → (boxed_at t k).own.right ≤ℤ right
  pub most_top : (k : ℕ) → k < e → (boxed_at t k).own.top ≤ℤ top

pub no_boxes : (m : List ℤ) (right top : ℤ) → Boxing m 0 right top []
no_boxes m right top = record {
  boxed = record { size = refl; around = λ d l. absurd (omega arith); reach = λ k d j l. absurd (omega arith) };
  most_right = λ k l. absurd (omega arith);
  most_top = λ k l. absurd (omega arith);
}

module _ (m : List ℤ) {e : ℕ} {right top : ℤ} {t : List Boxed} (h : Boxing m e right top t) (b : Boxed) where
  more : List Boxed
  more = t ++ b ∷ []

  old_box : (d : ℕ) → d < e → boxed_at more d ≡ boxed_at t d
  unfolding more
  old_box d l = get_or-append t (b ∷ []) no_box d (omega (arith, h.boxed.size))

  new_box : (d : ℕ) → d ≡ e → boxed_at more d ≡ b
  unfolding more
  new_box d s = ap (λ i. get_or (t ++ b ∷ []) i no_box) (s ∙ sym h.boxed.size) ∙ get_or-append_seam t b [] no_box

  pub one_box_more : Around (box_of b.own) (outline m e) → right ≤ℤ b.right → b.own.right ≤ℤ b.right → top ≤ℤ b.top
      → b.own.top ≤ℤ b.top → Boxing m (e + 1) b.right b.top (t ++ b ∷ [])
  unfolding more
  one_box_more around right_kept right_own top_kept top_own = record {
    boxed = record {
      size = omega (arith, length-append t (b ∷ []), h.boxed.size);
      around = λ d l. here d (below_suc (omega arith));
      reach = λ k d j l. reach k d j (below_suc (omega arith));
    };
    most_right = λ k l. most (λ c. c.right) (λ i j. ≤ℤ_trans (h.most_right i j) right_kept) right_own k
        (below_suc (omega arith));
    most_top = λ k l. most (λ c. c.top) (λ i j. ≤ℤ_trans (h.most_top i j) top_kept) top_own k (below_suc (omega arith));
  }
    where
      here : (d : ℕ) → (d < e) ⊎ (d ≡ e) → Around (box_of (boxed_at more d).own) (outline m d)
      here d (inl l) = subst (λ (c : Boxed). Around (box_of c.own) (outline m d)) (sym (old_box d l))
          (h.boxed.around d l)
      here d (inr s) =
          subst (λ (c : Boxed). Around (box_of c.own) (outline m d)) (sym (new_box d s))
          (subst (λ i. Around (box_of b.own) (outline m i)) (sym s) around)

      most : (side : ElementBox → ℤ) {far : ℤ} → ((i : ℕ) → i < e → side (boxed_at t i).own ≤ℤ far) → side b.own ≤ℤ far
          → (k : ℕ) → (k < e) ⊎ (k ≡ e) → side (boxed_at more k).own ≤ℤ far
      most side {far} before own k (inl l) = subst (λ (c : Boxed). side c.own ≤ℤ far) (sym (old_box k l)) (before k l)
      most side {far} before own k (inr s) = subst (λ (c : Boxed). side c.own ≤ℤ far) (sym (new_box k s)) own

      reach : (k d : ℕ) → k ≤ d → (d < e) ⊎ (d ≡ e) → Reaches (boxed_at more d) (boxed_at more k).own
      reach k d j (inl l) =
          subst₂ (λ (p q : Boxed). Reaches p q.own) (sym (old_box d l)) (sym (old_box k (omega arith)))
          (h.boxed.reach k d j l)
      reach k d j (inr s) =
          subst (λ (p : Boxed). Reaches p (boxed_at more k).own) (sym (new_box d s))
          (record {
            right = most (λ c. c.right) (λ i l. ≤ℤ_trans (h.most_right i l) right_kept) right_own k
                (below_suc (omega arith));
            top = most (λ c. c.top) (λ i l. ≤ℤ_trans (h.most_top i l) top_kept) top_own k (below_suc (omega arith));
          })

-- ---- the tests

ends_before_lem : (right top : ℤ) (q : ElementBox) → Decides (ends_before right top q)
    ((top ≤ℤ q.bottom) ⊎ (right ≤ℤ q.left))
unfolding ends_before
ends_before_lem right top q = either (at_mostℤ top q.bottom) (at_mostℤ right q.left)

pub boxes_apart_lem : (p q : ElementBox) → Decides (boxes_apart p q) (Clear (box_of p) (box_of q))
unfolding boxes_apart
boxes_apart_lem p q =
    said_as (either (ends_before_lem p.right p.top q) (ends_before_lem q.right q.top p))
    (⊎_elim (⊎_elim inl (λ h. inr (inl h))) (⊎_elim (λ h. inr (inr (inr h))) (λ h. inr (inr (inl h)))))
    (⊎_elim (λ h. inl (inl h)) (⊎_elim (λ h. inl (inr h)) (⊎_elim (λ h. inr (inr h)) (λ h. inr (inl h)))))

-- where all up to an element end before a box, each does
pub each_before : (b : Boxed) (own q : ElementBox) → Reaches b own → ends_before b.right b.top q ≡ true
    → T (boxes_apart own q)
each_before b own q far h =
    (boxes_apart_lem own q).passes
    (⊎_elim (λ l. inl (≤ℤ_trans far.top l)) (λ l. inr (inl (≤ℤ_trans far.right l)))
    ((ends_before_lem b.right b.top q).holds (is_true refl h)))

-- ---- a test `a || b` as the code goes by it, where r is the first of the two as it was asked

pub or_first : {a r : Bool} (b : Bool) → r ≡ a → r ≡ true → r ≡ (a || b)
or_first b e t = t ∙ sym (ap (λ z. z || b) (sym e ∙ t))

pub or_next : {a b r s : Bool} → r ≡ a → r ≡ false → s ≡ b → s ≡ (a || b)
or_next {b = b} e f g = g ∙ sym (ap (λ z. z || b) (sym e ∙ f))

-- a test of two numbers as the machine reads them
pub read_le : (a b : ℤ) → SFits w64 a → SFits w64 b → le_z (to_z w64 (of_z w64 a)) (to_z w64 (of_z w64 b)) ≡ le_z a b
read_le a b f g = ap₂ le_z (to_z-of_z f) (to_z-of_z g)

pub read_ends : (right top : ℤ) (q : ElementBox) → SFits w64 right → SFits w64 top
    → ends_before (to_z w64 (of_z w64 right)) (to_z w64 (of_z w64 top)) q ≡ ends_before right top q
read_ends right top q f g = ap₂ (λ (a b : ℤ). ends_before a b q) (to_z-of_z f) (to_z-of_z g)
