-- Document 01's sheet with borehole tables (document 02, N8): the numbers, and what is said of each.
use Rattle.std.specs.Prelude.{◌≡◌, List, [], ◌∷◌, ◌++◌, ℤ, pos, negsuc, neg_ℤ, replicate}
use Rattle.scope.specs.declared.Place.TheVariants.{Line, Height}
use Rattle.scope.specs.Cases.Outcome.{Passed, Refused}
use Rattle.scope.specs.Rows.{joined}
use Rattle.scope.specs.Filled.{filled}
use Rattle.scope.specs.Table.{tabled_check}
use Rattle.scope.specs.Worked.{zeros, worked_mesh}

-- a layer of soil s from b to u
abbrev pub layer : ℤ → ℤ → ℤ → List ℤ
layer b u s = b ∷ u ∷ s ∷ []

-- the sheet's mesh with soil 0: `1 2 3 4 0`
unfoldable pub soil_zero : List ℤ
soil_zero =
    (pos 4 ∷ pos 1 ∷ pos 1 ∷ pos 3 ∷ pos 12 ∷ pos 0 ∷ [])
    ++ (pos 0 ∷ pos 1 ∷ pos 1 ∷ pos 10 ∷ zeros 6)
    ++ (pos 0 ∷ pos 0 ∷ pos 1 ∷ pos 0 ∷ pos 1 ∷ pos 1 ∷ pos 0 ∷ pos 1 ∷ [])
    ++ (pos 1 ∷ pos 2 ∷ pos 3 ∷ pos 4 ∷ pos 0 ∷ [])
    ++ (pos 3 ∷ pos 4 ∷ pos 3 ∷ pos 0 ∷ pos 0 ∷ negsuc 0 ∷ pos 0 ∷ [])
    ++ (pos 2 ∷ pos 3 ∷ pos 3 ∷ zeros 4)
    ++ (pos 4 ∷ pos 1 ∷ pos 3 ∷ zeros 4)

-- its nodes are 0 and 1 high, its element's height is two quarters
pub record TableSheets : Type 0 where
  -- "0 1 1": the highest node's height is in no layer; "0 2 1": it is in one
  pub gap : tabled_check (layer (pos 0) (pos 1) (pos 1)) worked_mesh ≡ Refused 45 (Height 4)
  pub passes : tabled_check (layer (pos 0) (pos 2) (pos 1)) worked_mesh ≡ Passed
  -- the lowest gap, not the gap at the highest node; a height of 0 is a place
  pub gap_at_0 : tabled_check (layer (pos 2) (pos 3) (pos 1)) worked_mesh ≡ Refused 45 (Height 0)
  -- soil 0: without a table, with one, and what the mesh then is
  pub soil_0_alone : tabled_check [] soil_zero ≡ Refused 4 (Line 7)
  pub soil_0_passes : tabled_check (layer (pos 0) (pos 2) (pos 1)) soil_zero ≡ Passed
  pub soil_0_filled : filled (layer (pos 0) (pos 2) (pos 1)) soil_zero ≡ worked_mesh
  -- lines: too short, outside its limits, soil 0 in the table itself, a number after the 32nd line
  pub short_line : tabled_check (layer (pos 0) (pos 2) (pos 1) ++ pos 2 ∷ []) worked_mesh ≡ Refused 1 (Line 1002)
  pub too_high : tabled_check (layer (pos 0) (pos 2001) (pos 1)) worked_mesh ≡ Refused 2 (Line 1001)
  pub too_low : tabled_check (layer (neg_ℤ (pos 1001)) (pos 2) (pos 1)) worked_mesh ≡ Refused 2 (Line 1001)
  pub own_soil_0 : tabled_check (layer (pos 0) (pos 2) (pos 0)) worked_mesh ≡ Refused 4 (Line 1001)
  pub line_33 : tabled_check (joined (λ l. l) (replicate 32 (layer (pos 0) (pos 2) (pos 1))) ++ pos 0 ∷ []) worked_mesh
      ≡ Refused 1 (Line 1033)
  -- 46: a top that is its bottom, wherever it stands, comes before an overlap; an overlap at the highest node's height
  pub flat : tabled_check
      (layer (pos 0) (pos 2) (pos 1) ++ layer (pos 0) (pos 2) (pos 1) ++ layer (pos 5) (pos 5) (pos 1))
      worked_mesh ≡ Refused 46 (Line 1003)
  pub overlap : tabled_check (layer (pos 0) (pos 2) (pos 1) ++ layer (pos 1) (pos 3) (pos 1)) worked_mesh
      ≡ Refused 46 (Line 1002)
  -- layers that overlap or gape above the highest node pass
  pub above_nodes : tabled_check
      (layer (pos 5) (pos 9) (pos 1) ++ layer (pos 6) (pos 8) (pos 1) ++ layer (pos 0) (pos 2) (pos 1))
      worked_mesh ≡ Passed
