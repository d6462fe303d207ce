-- A mesh whose lines are sound with soil 0 allowed, and in which each soil 0 is given a soil of the mesh: its lines are
-- sound. Line by line: only the soil of an element is another number.
use mathlib.Core.Path.{◌≡◌, refl, sym, ◌∙◌, ap, subst}
use mathlib.Core.Logic.{◌⊎◌, inl, inr}
use mathlib.Core.Bool.{Bool, true, false}
use mathlib.Core.List.{List, [], ◌∷◌}
use Prim.Native.Nat.{ℕ, zero, suc, ◌+◌, ◌*◌, ◌-◌, ◌≤◌, ◌<◌}
use native.Mathlib.Decide.{dec_lt}
use native.Mathlib.Omega.{arith}
use lib.IntN.{ℤ, pos}
use lib.ListN.{length, take, drop, replicate, length-take, length-drop}
use lib.Seq.{ext_get_or, get_or-take, get_or-drop}
use Rattle.integer.specs.Tests.{eq_z}
use Rattle.scope.specs.Columns.{free, at}
use Rattle.scope.specs.Layout.{Group, Placed, width, groups, line_count, number_count, lines_before, numbers_before}
use Rattle.scope.specs.Layout.{line_of, line_numbers}
use Rattle.scope.specs.Mesh.{element_columns, mesh_header, soil_lines, node_lines, element_lines, edge_lines}
use Rattle.scope.specs.Mesh.{jump_lines, mesh_layout, layout_with, mesh_groups, elements, soils}
use Rattle.scope.specs.Statements.{AllWithin, AllSay, LineSound, LinesSound}
use Rattle.scope.specs.NumberRanges.{Between}
use Rattle.scope.specs.Filled.{soil_place, given}
use Rattle.scope.specs.LayerRefusals.{Named}
use Rattle.scope.proofs.Decides.{Decides, equalℤ}
use Rattle.scope.proofs.Lines.{group, line_in_group}
use Rattle.scope.proofs.Filled.{groups_kept}
use Rattle.scope.proofs.Given.{NoSoil, given-length, given_other, given_own, given_zero}
use Rattle.scope.proofs.SoilAllowed.{soil-allowed}

-- ---- every line is one of a group

locate : (gs : List Group) (k : ℕ) → k < line_count gs → (j : ℕ) × (i : ℕ) × (i < (group gs j).lines)
    × (k ≡ lines_before gs j + i)
unfolding line_count lines_before
locate [] k h = absurd (omega arith)
locate (g ∷ gs) k h = by (λ l. locate gs (k - g.lines) l) (dec_lt k g.lines)
  where
    by : (k - g.lines < line_count gs → (j : ℕ) × (i : ℕ) × (i < (group gs j).lines)
        × (k - g.lines ≡ lines_before gs j + i)) → Dec (k < g.lines)
        → (j : ℕ) × (i : ℕ) × (i < (group (g ∷ gs) j).lines) × (k ≡ lines_before (g ∷ gs) j + i)
    by later (yes l) = (0, k, l, omega arith)
    by later (no l) = let (j, i, b, e) = later (omega arith) in (suc j, i, b, omega (arith, e))

-- a line in its place is sound
abbrev PlacedSound : List ℤ → Placed → Type 0
PlacedSound ns l = (length (line_numbers ns l) ≡ width l.group) × AllWithin l.group.limits (line_numbers ns l)
    × AllSay l.group.rules (line_numbers ns l)

free_within : (k : ℕ) (zs : List ℤ) → AllWithin (replicate k free) zs
free_within zero zs = tt
free_within (suc k) [] = tt
free_within (suc k) (z ∷ zs) = (tt, free_within k zs)

-- ---- the least soil matters to no count

module _ (m : List ℤ) where
  as_many : number_count (groups (layout_with true) m) ≡ number_count (groups mesh_layout m)
  unfolding layout_with groups number_count element_lines
  as_many = refl

  pub lines_as_many : line_count (groups (layout_with true) m) ≡ line_count (groups mesh_layout m)
  unfolding layout_with groups line_count element_lines
  lines_as_many = refl

  lines_before_lem : (j : ℕ) → lines_before (groups (layout_with true) m) j ≡ lines_before (groups mesh_layout m) j
  unfolding layout_with groups lines_before element_lines
  lines_before_lem zero = refl
  lines_before_lem (suc zero) = refl
  lines_before_lem (suc (suc zero)) = refl
  lines_before_lem (suc (suc (suc zero))) = refl
  lines_before_lem (suc (suc (suc (suc zero)))) = refl
  lines_before_lem (suc (suc (suc (suc (suc zero))))) = refl
  lines_before_lem (suc (suc (suc (suc (suc (suc j)))))) = refl

  same_lines : (j : ℕ) → (group (groups (layout_with true) m) j).lines ≡ (group (groups mesh_layout m) j).lines
  unfolding layout_with groups element_lines
  same_lines zero = refl
  same_lines (suc zero) = refl
  same_lines (suc (suc zero)) = refl
  same_lines (suc (suc (suc zero))) = refl
  same_lines (suc (suc (suc (suc zero)))) = refl
  same_lines (suc (suc (suc (suc (suc zero))))) = refl
  same_lines (suc (suc (suc (suc (suc (suc j)))))) = refl

module _ (m : List ℤ) (f : ℕ → ℤ) where
  -- ---- the numbers of a line

  at_line : (ns : List ℤ) (a w c : ℕ) → c < w → at (take w (drop a ns)) c ≡ at ns (a + c)
  unfolding at
  at_line ns a w c l = rw (get_or-take, get_or-drop)

  line_length : (a w : ℕ) → length (take w (drop a (given f m))) ≡ length (take w (drop a m))
  line_length a w = simp (length-take, length-drop, given-length)

  same_line : (a w : ℕ) → ((c : ℕ) → c < w → NoSoil m (a + c)) → take w (drop a m) ≡ take w (drop a (given f m))
  unfolding at
  same_line a w none =
      ext_get_or (pos 0) (take w (drop a m)) (take w (drop a (given f m))) (sym (line_length a w))
      (λ c l. let b : c < w = omega (arith, l, length-take w (drop a m)) in at_line m a w c b
      ∙ sym (given_other f m (a + c) (none c b)) ∙ sym (at_line (given f m) a w c b))

  abbrev place : ℕ → ℕ → Placed
  place j i = record {
    group = group (mesh_groups m) j;
    first =
        0 + numbers_before (mesh_groups m) j + i * width (group (mesh_groups m) j);
  }

  abbrev place_with : ℕ → ℕ → Placed
  place_with j i = record {
    group = group (groups (layout_with true) m) j;
    first =
        0 + numbers_before (groups (layout_with true) m) j + i * width (group (groups (layout_with true) m) j);
  }

  -- a line of another group
  kept : (g : Group) (a : ℕ) → ((c : ℕ) → c < width g → NoSoil m (a + c))
      → PlacedSound m (record { group = g; first = a }) → PlacedSound (given f m) (record { group = g; first = a })
  unfolding line_numbers
  kept g a none p = subst (λ (zs : List ℤ). (length zs ≡ width g) × AllWithin g.limits zs × AllSay g.rules zs)
      (same_line a (width g) none) p

  module _ (ok : (e : ℕ) → e < elements m → at m (soil_place m e) ≡ pos 0 → Between (pos 1) (pos (soils m)) (f e)) where
    -- an element's soil
    soil-named : (e : ℕ) → e < elements m → soil_place m e < length m
        → (at m (soil_place m e) ≡ pos 0) ⊎ Named (soils m) (at m (soil_place m e))
        → Named (soils m) (at (given f m) (soil_place m e))
    soil-named e l there h = by (eq_z (at m (soil_place m e)) (pos 0)) (equalℤ (at m (soil_place m e)) (pos 0)) h
      where
        own : ¬ (at m (soil_place m e) ≡ pos 0) → (at m (soil_place m e) ≡ pos 0)
            ⊎ Named (soils m) (at m (soil_place m e)) → Named (soils m) (at (given f m) (soil_place m e))
        own n (inl z) = absurd (n z)
        own n (inr h) = subst (Named (soils m)) (sym (given_own f m (soil_place m e) n)) h

        by : (b : Bool) → Decides b (at m (soil_place m e) ≡ pos 0)
            → (at m (soil_place m e) ≡ pos 0) ⊎ Named (soils m) (at m (soil_place m e))
            → Named (soils m) (at (given f m) (soil_place m e))
        by true d h = let r = ok e l (d.holds tt) in subst (Named (soils m))
            (sym (given_zero f m e l there (d.holds tt))) (r.least, r.most)
        by false d h = own (λ z. absurd (d.passes z)) h

    -- an element's line
    element_sound : (e a : ℕ) → e < elements m → a + 4 ≡ soil_place m e → ((c : ℕ) → c < 4 → NoSoil m (a + c))
        → (n ns : ℕ) → PlacedSound m (record { group = element_lines n ns 0 (soils m); first = a })
        → PlacedSound (given f m) (record { group = element_lines n ns 1 (soils m); first = a })
    unfolding line_numbers element_lines
    element_sound e a l s none n ns p = (
      line_length a element_columns ∙ p.0,
      free_within element_columns (take element_columns (drop a (given f m))),
      (
        (
          corner 0 (omega arith),
          (corner 1 (omega arith), (corner 2 (omega arith), (corner 3 (omega arith), (soil, tt)))),
        ),
        tt,
      ),
    )
      where
        allowed : ((c : ℕ) → c < 4 → Named ns (at (take element_columns (drop a m)) c))
            × ((at (take element_columns (drop a m)) 4 ≡ pos 0)
            ⊎ Named (soils m) (at (take element_columns (drop a m)) 4))
        allowed = (soil-allowed ns (soils m) (take element_columns (drop a m))).0 p.2

        corner : (c : ℕ) → c < 4 → Named ns (at (take element_columns (drop a (given f m))) c)
        corner c b =
            subst (Named ns) (at_line m a element_columns c (omega arith) ∙ sym (given_other f m (a + c) (none c b))
            ∙ sym (at_line (given f m) a element_columns c (omega arith))) (allowed.0 c b)

        there : soil_place m e < length m
        there = omega (arith, s, p.0, length-take element_columns (drop a m), length-drop a m)

        own : (at m (soil_place m e) ≡ pos 0) ⊎ Named (soils m) (at m (soil_place m e))
        own = subst (λ (z : ℤ). (z ≡ pos 0) ⊎ Named (soils m) z)
            (at_line m a element_columns 4 (omega arith) ∙ ap (at m) s) allowed.1

        soil : Named (soils m) (at (take element_columns (drop a (given f m))) 4)
        soil = subst (Named (soils m))
            (sym (at_line (given f m) a element_columns 4 (omega arith) ∙ ap (at (given f m)) s))
            (soil-named e l there own)

    -- ---- line i of group j

    moved : (j i : ℕ) → i < (group (groups (layout_with true) m) j).lines → PlacedSound m (place_with j i)
        → PlacedSound (given f m) (place j i)
    unfolding layout_with mesh_groups groups soil_place numbers_before mesh_header soil_lines node_lines
        element_lines edge_lines jump_lines
    moved zero i l p = kept (place 0 i).group (place 0 i).first (λ c b e d z. absurd (omega arith)) p
    moved (suc zero) i l p = kept (place 1 i).group (place 1 i).first (λ c b e d z. absurd (omega arith)) p
    moved (suc (suc zero)) i l p = kept (place 2 i).group (place 2 i).first (λ c b e d z. absurd (omega arith)) p
    moved (suc (suc (suc zero))) i l p =
        element_sound i (place 3 i).first l (omega arith) (λ c b e d z. absurd (omega arith)) (elements m) _ p
    moved (suc (suc (suc (suc zero)))) i l p = kept (place 4 i).group (place 4 i).first
        (λ c b e d z. absurd (omega arith)) p
    moved (suc (suc (suc (suc (suc zero))))) i l p = kept (place 5 i).group (place 5 i).first
        (λ c b e d z. absurd (omega arith)) p
    moved (suc (suc (suc (suc (suc (suc j)))))) i l p = absurd (omega arith)

    pub given_lines : LinesSound (layout_with true) m → LinesSound mesh_layout (given f m)
    unfolding mesh_groups
    given_lines s = record {
      lines = λ k l. line k (subst (λ (gs : List Group). k < line_count gs) (groups_kept f m) l);
      none_left = subst (λ (gs : List Group). length (given f m) ≤ number_count gs) (sym (groups_kept f m))
          (omega (arith, s.none_left, given-length f m, as_many m));
    }
      where
        line : (k : ℕ) → k < line_count (groups mesh_layout m) → LineSound mesh_layout (given f m) k
        line k l =
            let (j, i, b, e) = locate (groups (layout_with true) m) k (omega (arith, l, lines_as_many m)) in
            let old = s.lines k (omega (arith, l, lines_as_many m)) in
            let from : line_of 0 (groups (layout_with true) m) k ≡ place_with j i =
            ap (line_of 0 (groups (layout_with true) m)) e ∙ line_in_group (groups (layout_with true) m) 0 j i b in
            let to : line_of 0 (groups mesh_layout (given f m)) k ≡ place j i =
            ap (λ (gs : List Group). line_of 0 gs k) (groups_kept f m)
            ∙ ap (line_of 0 (groups mesh_layout m)) (e ∙ ap (λ (a : ℕ). a + i) (lines_before_lem m j))
            ∙ line_in_group (groups mesh_layout m) 0 j i (omega (arith, b, same_lines m j)) in
            let r : PlacedSound (given f m) (line_of 0 (groups mesh_layout (given f m)) k) =
            subst (λ (l : Placed). PlacedSound (given f m) l) (sym to)
            (moved j i b (subst (λ (l : Placed). PlacedSound m l) from
            (old.complete, old.in_limits, old.rules_hold))) in
            record { complete = r.0; in_limits = r.1; rules_hold = r.2 }
