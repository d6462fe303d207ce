-- The equality rows as numbers: each number of a balance row, of a side row or of a jump row is that of the definition,
-- and each column is there.
use mathlib.Core.Path.{◌≡◌, refl, sym, ◌∙◌, ap, ap₂}
use mathlib.Core.List.{List, [], ◌∷◌, ◌++◌}
use Prim.Native.Nat.{ℕ, zero, suc, ◌+◌, ◌*◌, ◌/◌, ◌%◌, ◌^◌, ◌≤◌, ◌<◌}
use native.Mathlib.Nat.{add-zero}
use native.Mathlib.Omega.{arith}
use mir.Facts.{to_z-of_z}
use mir.Syntax.{w64}
use mir.Val.{to_z, of_z}
use lib.Dec.{eqb, ltb}
use mathlib.Core.Bool.{Bool, true, false, cond, ◌||◌}
use Rattle.integer.specs.Tests.{eq_z}
use lib.IntN.{ℤ, pos, ◌+ℤ◌, ◌-ℤ◌, ◌*ℤ◌, neg_ℤ}
use lib.ListN.{length, get_or}
use Rattle.integer.specs.Bounds.{Within}
use Rattle.integer.proofs.Machine.{Is-read, Is-within, Is-minus, Within-SFits}
use Rattle.integer.proofs.Ring.{ring, terms}
use Rattle.equality.specs.declared.row.EqualityRow.{EqualityRow}
use Rattle.equality.specs.declared.axes.Axis.{Axis}
use Rattle.equality.specs.declared.axes.Axis.TheVariants.{X, Y}
use Rattle.equality.specs.declared.geometry.Span.{Span}
use Rattle.equality.specs.declared.geometry.Step.{Step}
use Rattle.equality.specs.declared.parts.Part.{Part}
use Rattle.equality.specs.declared.parts.Part.TheVariants.{Normal, Shear}
use Rattle.equality.specs.declared.tractions.Traction.{Traction}
use Rattle.equality.specs.EqualityContracts.{
  row_of,
  is_asked,
  ColumnsBelow,
  Filled,
  SpanIs,
  number,
  along,
  balance_entries,
  StepIs,
  part_of,
  end_of,
  code,
  part_entries,
  TractionIs,
  traction_row,
}
use Rattle.mesh.specs.declared.entries.Soil.{Soil}
use Rattle.mesh.specs.declared.entries.Edge.{Edge}
use Rattle.mesh.specs.EntryContracts.{SoilOf, EdgeOf}
use Rattle.scope.specs.Bounds.{most_entries}
use Rattle.scope.specs.Mesh.{
  nodes,
  elements,
  x,
  y,
  corner,
  element_soil,
  live_x,
  live_y,
  dead_x,
  dead_y,
  edges,
  edge_entry,
  jumps,
  from_node,
  to_node,
  jump_from,
  jump_to,
  facing_from,
  facing_to,
}
use Rattle.scope.specs.NumberRanges.{MeshFacts}
use Rattle.scope.specs.Rows.{
  Kind,
  Row,
  asked,
  unfixed,
  strength,
  equality_rows,
  joined,
  count_from,
  node,
  sx,
  sy,
  t,
  rise_across,
  run_across,
  twice_area,
  balance_x,
  balance_y,
  step_x,
  step_y,
  step_square,
  fixed_if,
  normal_row,
  shear_row,
  jump_step_x,
  jump_step_y,
  minus,
  agree_row,
  jump_normal,
  jump_shear,
}
use Rattle.scope.specs.Tests.{row_at}
use Rattle.scope.proofs.RowNumbers.{balance_at, side_at_lem, jump_at}
use Rattle.scope.proofs.SumBounds.{area_is}

-- ---- numbers as the machine reads them

pub read : {B : ℕ} {z : ℤ} → Within B z → B < 2 ^ 63 → to_z w64 (of_z w64 z) ≡ z
read h l = to_z-of_z (Within-SFits h l)

pub opposite : {B : ℕ} {z : ℤ} → Within B z → B < 2 ^ 63
    → to_z w64 (of_z w64 (pos 0 -ℤ to_z w64 (of_z w64 z))) ≡ neg_ℤ z
opposite h l = (Is-read (Is-minus (Is-read (Is-within h) l)) l).same

-- ---- columns

below_nil : {n : ℕ} → ColumnsBelow n []
below_nil = record { each = λ i h. absurd (omega arith) }

below_cons : {n j : ℕ} {c : ℤ} {es : List (ℤ × ℕ)} → j < n → ColumnsBelow n es → ColumnsBelow n ((c, j) ∷ es)
below_cons {n} {j} {c} {es} h k = record { each = by }
  where
    by : (i : ℕ) → i < length ((c, j) ∷ es) → (get_or ((c, j) ∷ es) i (pos 0, 0)).1 < n
    by zero g = h
    by (suc i) g = k.each i (omega arith)

-- ---- a balance row

pub number_below : (axis : Axis) → number axis < 2
number_below X = omega arith
number_below Y = omega arith

module _ (m : List ℤ) (e : ℕ) where
  rise_opposite : rise_across m e 2 ≡ neg_ℤ (rise_across m e 0)
  unfolding rise_across node
  rise_opposite = ring (y m (corner m e 1) ∷ y m (corner m e 3) ∷ []) (search terms depth 100) refl

  rise_next_opposite : rise_across m e 3 ≡ neg_ℤ (rise_across m e 1)
  unfolding rise_across node
  rise_next_opposite = ring (y m (corner m e 0) ∷ y m (corner m e 2) ∷ []) (search terms depth 100) refl

  run_opposite : run_across m e 2 ≡ neg_ℤ (run_across m e 0)
  unfolding run_across node
  run_opposite = ring (x m (corner m e 1) ∷ x m (corner m e 3) ∷ []) (search terms depth 100) refl

  run_next_opposite : run_across m e 3 ≡ neg_ℤ (run_across m e 1)
  unfolding run_across node
  run_next_opposite = ring (x m (corner m e 0) ∷ x m (corner m e 2) ∷ []) (search terms depth 100) refl

  area_same : {g : Span} → SpanIs g m e → g.rise *ℤ g.run_next -ℤ g.rise_next *ℤ g.run ≡ twice_area m e
  area_same shape = rw (shape.rise, shape.rise_next, shape.run, shape.run_next) (area_is m e)

  module _ {g : Span} (shape : SpanIs g m e) (r : Span) where
    -- the row of the element along an axis, from the numbers of its shape and of its soil
    balance_is : (axis : Axis)
        → r.rise ≡ along axis g.rise g.run → r.rise_next ≡ along axis g.rise_next g.run_next
        → r.run ≡ along axis g.run g.rise → r.run_next ≡ along axis g.run_next g.rise_next
        → {soil : Soil} → SoilOf soil m (element_soil m e)
        → {live right : ℤ} → live ≡ twice_area m e *ℤ along axis soil.live.x soil.live.y
        → right ≡ neg_ℤ (twice_area m e *ℤ along axis soil.dead.x soil.dead.y)
        → ◌≡◌ {A = Row}
        (record { kind = asked; entries = balance_entries m e r axis; live = live; right = right })
        (row_at (balance_x m e ∷ balance_y m e ∷ []) (number axis))
    unfolding balance_entries balance_x balance_y joined count_from node sx sy t row_at live_x dead_x live_y dead_y
    balance_is X a b c d soil el er =
        rw (
          a ∙ shape.rise,
          b ∙ shape.rise_next,
          c ∙ shape.run,
          d ∙ shape.run_next,
          el,
          er,
          soil.live_x,
          soil.dead_x,
          rise_opposite,
          rise_next_opposite,
          run_opposite,
          run_next_opposite,
          add-zero (3 * corner m e 0),
          add-zero (3 * corner m e 1),
          add-zero (3 * corner m e 2),
          add-zero (3 * corner m e 3),
        )
    balance_is Y a b c d soil el er =
        rw (
          a ∙ shape.run,
          b ∙ shape.run_next,
          c ∙ shape.rise,
          d ∙ shape.rise_next,
          el,
          er,
          soil.live_y,
          soil.dead_y,
          rise_opposite,
          rise_next_opposite,
          run_opposite,
          run_next_opposite,
        )

    pub balance_row_of : (axis : Axis)
        → r.rise ≡ along axis g.rise g.run → r.rise_next ≡ along axis g.rise_next g.run_next
        → r.run ≡ along axis g.run g.rise → r.run_next ≡ along axis g.run_next g.rise_next
        → {soil : Soil} → SoilOf soil m (element_soil m e)
        → e < elements m → {es : List (ℤ × ℕ)} {live right : ℤ} → es ≡ balance_entries m e r axis
        → live ≡ (g.rise *ℤ g.run_next -ℤ g.rise_next *ℤ g.run) *ℤ along axis soil.live.x soil.live.y
        → right ≡ neg_ℤ ((g.rise *ℤ g.run_next -ℤ g.rise_next *ℤ g.run) *ℤ along axis soil.dead.x soil.dead.y)
        → ◌≡◌ {A = Row} (record { kind = asked; entries = es; live = live; right = right })
        (row_at (equality_rows m) (e * 2 + number axis))
    balance_row_of axis a b c d {soil} of_soil there ee el er =
        let area = area_same shape in
        rw ee (balance_is axis a b c d of_soil
        (el ∙ ap (λ z. z *ℤ along axis soil.live.x soil.live.y) area)
        (er ∙ ap (λ z. neg_ℤ (z *ℤ along axis soil.dead.x soil.dead.y)) area)
        ∙ sym (balance_at m e (number axis) there (number_below axis)))

  pub balance_below : MeshFacts m → e < elements m → (g : Span) (axis : Axis)
      → ColumnsBelow (3 * nodes m) (balance_entries m e g axis)
  unfolding balance_entries
  balance_below facts there g axis =
      let l = number_below axis in
      let c = (facts.element e there).corner_there in
      let c₀ = c 0 (omega arith) in
      let c₁ = c 1 (omega arith) in
      let c₂ = c 2 (omega arith) in
      let c₃ = c 3 (omega arith) in
      below_cons (omega arith) (below_cons (omega arith) (below_cons (omega arith) (below_cons (omega arith)
      (below_cons (omega arith) (below_cons (omega arith) (below_cons (omega arith)
      (below_cons (omega arith) below_nil)))))))

-- ---- an expression

part_below : (part : Part) (u w : ℤ) {v n : ℕ} → v < n → ColumnsBelow (3 * n) (part_entries part u w v)
unfolding sx sy t
part_below Normal u w l = below_cons (omega arith) (below_cons (omega arith) (below_cons (omega arith) below_nil))
part_below Shear u w l = below_cons (omega arith) (below_cons (omega arith) (below_cons (omega arith) below_nil))

part_few : (part : Part) (u w : ℤ) (v : ℕ) → length (part_entries part u w v) ≤ most_entries
part_few Normal u w v = omega arith
part_few Shear u w v = omega arith

agree_few : (part : Part) (u w : ℤ) (v f : ℕ)
    → length (part_entries part u w v ++ minus (part_entries part u w f)) ≤ most_entries
agree_few Normal u w v f = omega arith
agree_few Shear u w v f = omega arith

agree_below : (part : Part) (u w : ℤ) {v f n : ℕ} → v < n → f < n
    → ColumnsBelow (3 * n) (part_entries part u w v ++ minus (part_entries part u w f))
unfolding sx sy t
agree_below Normal u w l k =
    below_cons (omega arith) (below_cons (omega arith) (below_cons (omega arith)
    (below_cons (omega arith) (below_cons (omega arith) (below_cons (omega arith) below_nil)))))
agree_below Shear u w l k =
    below_cons (omega arith) (below_cons (omega arith) (below_cons (omega arith)
    (below_cons (omega arith) (below_cons (omega arith) (below_cons (omega arith) below_nil)))))

-- rows that differ in their loads
pub row_same : {k : Kind} {es : List (ℤ × ℕ)} {a b c d : ℤ} → a ≡ b → c ≡ d
    → ◌≡◌ {A = Row}
    (record { kind = k; entries = es; live = a; right = c })
    (record { kind = k; entries = es; live = b; right = d })
row_same e f = rw (e, f)

-- a row is filled where its row is given, whose columns are there
pub filled : {r : EqualityRow} {a b : Row} {n : ℕ} → row_of r ≡ a → a ≡ b → length a.entries ≤ most_entries
    → ColumnsBelow n a.entries → Filled r b n
unfolding row_of
filled {r} {a} {b} {n} e f few h =
    let same = ap (λ a. a.entries) e in
    record { is = e ∙ f; few = rw same few; there = rw same h }

-- ---- a side row

pub end_there : (i : ℕ) {from to n : ℕ} → from < n → to < n → end_of i from to < n
end_there i {from} {to} {n} h k = by (ltb i 2)
  where
    by : (b : Bool) → cond b from to < n
    by true = h
    by false = k

-- the row of edge g's part at node v
abbrev pub side_of : Part → List ℤ → ℕ → ℕ → Row
side_of Normal = normal_row
side_of Shear = shear_row

module _ (m : List ℤ) (g v : ℕ) {step : Step} {edge : Edge} (hs : StepIs step (step_x m g) (step_y m g))
    (of_edge : EdgeOf edge m g) {square : ℤ} (hq : square ≡ step.u *ℤ step.u +ℤ step.w *ℤ step.w) {t : Traction} where
  side_is : (part : Part) → TractionIs t part edge
      → traction_row (part_entries part step.u step.w v) square t ≡ side_of part m g v
  unfolding traction_row normal_row shear_row step_square fixed_if
  side_is Normal ht =
      rw (
        hq,
        ht.fixed ∙ ap (λ z. eq_z z (pos 1) || eq_z z (pos 3)) of_edge.fixed,
        ht.dead ∙ of_edge.dead_normal,
        ht.live ∙ of_edge.live_normal,
        hs.u,
        hs.w,
      )
  side_is Shear ht =
      rw (
        hq,
        ht.fixed ∙ ap (λ z. eq_z z (pos 2) || eq_z z (pos 3)) of_edge.fixed,
        ht.dead ∙ of_edge.dead_shear,
        ht.live ∙ of_edge.live_shear,
        hs.u,
        hs.w,
      )

  pub side_filled : (part : Part) {es : List (ℤ × ℕ)} → v < nodes m → es ≡ part_entries part step.u step.w v
      → TractionIs t part edge → {r : EqualityRow} {row : Row} → row_of r ≡ traction_row es square t
      → side_of part m g v ≡ row → Filled r row (3 * nodes m)
  unfolding traction_row
  side_filled part l he ht er e =
      filled (rw (← he) er) (side_is part ht ∙ e) (part_few part _ _ _) (part_below part _ _ l)

-- ---- a jump row

-- the row of jump j's part at node v, which f faces
abbrev pub jump_of : Part → List ℤ → ℕ → ℕ → ℕ → Row
jump_of Normal = jump_normal
jump_of Shear = jump_shear

jump_is : (m : List ℤ) (j v f : ℕ) {step : Step} → StepIs step (jump_step_x m j) (jump_step_y m j) → (part : Part)
    → agree_row (part_entries part step.u step.w v) (part_entries part step.u step.w f) ≡ jump_of part m j v f
unfolding jump_normal jump_shear
jump_is m j v f hs Normal = rw (hs.u, hs.w)
jump_is m j v f hs Shear = rw (hs.u, hs.w)

pub jump_filled : (m : List ℤ) (j v f : ℕ) {step : Step} {es fs : List (ℤ × ℕ)}
    → StepIs step (jump_step_x m j) (jump_step_y m j) → (part : Part) → v < nodes m → f < nodes m
    → es ≡ part_entries part step.u step.w v → fs ≡ part_entries part step.u step.w f → {r : EqualityRow} {row : Row}
    → row_of r ≡ agree_row es fs → jump_of part m j v f ≡ row → Filled r row (3 * nodes m)
unfolding agree_row
jump_filled m j v f hs part lv lf he hf er e =
    filled (rw (← he, ← hf) er) (jump_is m j v f hs part ∙ e) (agree_few part _ _ _ _) (agree_below part _ _ lv lf)

-- ---- rows by their place

module _ (m : List ℤ) where
  pub side_place : (g i : ℕ) → g < edges m → i < 4
      → side_of (part_of i) m g (end_of i (from_node m g) (to_node m g))
      ≡ row_at (equality_rows m) (elements m * 2 + (g * 4 + i))
  unfolding row_at
  side_place g zero l h = sym (side_at_lem m g 0 l h)
  side_place g (suc zero) l h = sym (side_at_lem m g 1 l h)
  side_place g (suc (suc zero)) l h = sym (side_at_lem m g 2 l h)
  side_place g (suc (suc (suc zero))) l h = sym (side_at_lem m g 3 l h)
  side_place g (suc (suc (suc (suc i)))) l h = absurd (omega arith)

  pub jump_place : (j i : ℕ) → j < jumps m → i < 4
      → jump_of (part_of i) m j (end_of i (jump_from m j) (jump_to m j)) (end_of i (facing_from m j) (facing_to m j))
      ≡ row_at (equality_rows m) (elements m * 2 + edges m * 4 + (j * 4 + i))
  unfolding row_at
  jump_place j zero l h = sym (jump_at m j 0 l h)
  jump_place j (suc zero) l h = sym (jump_at m j 1 l h)
  jump_place j (suc (suc zero)) l h = sym (jump_at m j 2 l h)
  jump_place j (suc (suc (suc zero))) l h = sym (jump_at m j 3 l h)
  jump_place j (suc (suc (suc (suc i)))) l h = absurd (omega arith)

-- ---- which rows ask something

asked_if : (b : Bool) → elim (cond b asked unfixed) [ asked ↦ true | unfixed ↦ false | strength ↦ true ] ≡ b
asked_if true = refl
asked_if false = refl

module _ (m : List ℤ) where
  balance_asks : (e i : ℕ) → i < 2 → true ≡ is_asked (row_at (balance_x m e ∷ balance_y m e ∷ []) i)
  unfolding is_asked row_at balance_x balance_y
  balance_asks e zero h = refl
  balance_asks e (suc zero) h = refl
  balance_asks e (suc (suc i)) h = absurd (omega arith)

  -- what an edge fixes
  side_asks : (part : Part) (g v : ℕ)
      → (eq_z (edge_entry m g 2) (pos (code part)) || eq_z (edge_entry m g 2) (pos 3)) ≡ is_asked (side_of part m g v)
  unfolding is_asked normal_row shear_row fixed_if
  side_asks Normal g v = sym (asked_if _)
  side_asks Shear g v = sym (asked_if _)

  jump_asks : (part : Part) (j v f : ℕ) → true ≡ is_asked (jump_of part m j v f)
  unfolding is_asked jump_normal jump_shear agree_row
  jump_asks Normal j v f = refl
  jump_asks Shear j v f = refl

  -- row k, which is row i of those of its kind
  pub balance_asked : (k : ℕ) → k < elements m * 2 → true ≡ is_asked (row_at (equality_rows m) k)
  balance_asked k h =
      let place : k / 2 * 2 + k % 2 ≡ k = omega arith in
      balance_asks (k / 2) (k % 2) (omega arith)
      ∙ ap is_asked
      (sym (balance_at m (k / 2) (k % 2) (omega arith) (omega arith)) ∙ ap (row_at (equality_rows m)) place)

  pub side_asked : (k i : ℕ) → elements m * 2 + i ≡ k → i < edges m * 4 → {part : Part} → part ≡ part_of i
      → {fixed : ℤ} → fixed ≡ edge_entry m (i / 4) 2
      → (eq_z fixed (pos (code part)) || eq_z fixed (pos 3)) ≡ is_asked (row_at (equality_rows m) k)
  side_asked k i e h part fixed =
      let place : elements m * 2 + (i / 4 * 4 + i % 4) ≡ k = omega arith in
      let turn : i % 2 ≡ i % 4 % 2 = omega arith in
      ap₂ (λ p z. eq_z z (pos (code p)) || eq_z z (pos 3)) (part ∙ ap (λ n. cond (eqb n 0) Normal Shear) turn) fixed
      ∙ side_asks (part_of (i % 4)) (i / 4) _
      ∙ ap is_asked (side_place m (i / 4) (i % 4) (omega arith) (omega arith) ∙ ap (row_at (equality_rows m)) place)

  pub jump_asked : (k i : ℕ) → elements m * 2 + edges m * 4 + i ≡ k → i < jumps m * 4
      → true ≡ is_asked (row_at (equality_rows m) k)
  jump_asked k i e h =
      let place : elements m * 2 + edges m * 4 + (i / 4 * 4 + i % 4) ≡ k = omega arith in
      jump_asks (part_of (i % 4)) (i / 4) _ _
      ∙ ap is_asked (jump_place m (i / 4) (i % 4) (omega arith) (omega arith) ∙ ap (row_at (equality_rows m)) place)
