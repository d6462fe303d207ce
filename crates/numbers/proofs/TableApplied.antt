-- The promises about a table that is refused, applied to document 01's sheet: antt computes each answer, and the
-- promise says what is not so of the table.
use mathlib.Core.Path.{◌≡◌, refl}
use mathlib.Core.Logic.{inr}
use mathlib.Core.List.{List, [], ◌∷◌, ◌++◌}
use Prim.Native.Nat.{ℕ, ◌+◌}
use native.Mathlib.Omega.{arith}
use lib.IntN.{ℤ, pos}
use Rattle.scope.specs.declared.Place.TheVariants.{Line}
use Rattle.scope.specs.Answer.{place_for}
use Rattle.scope.specs.LayerRefusals.{LowestGap}
use Rattle.scope.specs.TabledRefusals.{OwnFormFails, OwnLimitsFail, OwnSoilFails, LinesPass, LayersRefused, TabledRefusalRow}
use Rattle.scope.specs.Worked.{worked_mesh}
use Rattle.scope.specs.WorkedTable.{layer}
use Rattle.numbers.specs.TablePromises.{TableAnswers, TableExactly, FirstLayerFails}
use Rattle.numbers.proofs.TablePromises.{table_returned, table_exactly}
use Rattle.numbers.proofs.MixedSays.{opened, refusal}

-- what is promised of a call with the table t that is refused with k and j
asked : (t : List ℤ) (k j : ℕ) → TableAnswers t worked_mesh [] (refusal k j) → TableExactly t worked_mesh [] k j
asked t k j h = table_exactly t worked_mesh [] k j (table_returned h)

-- ---- the table's own lines: a second line that is not whole, a top of 2,001, soil 0

abbrev pub short : List ℤ
short = layer (pos 0) (pos 2) (pos 1) ++ pos 2 ∷ []

abbrev pub high : List ℤ
high = layer (pos 0) (pos 2001) (pos 1)

abbrev pub no_soil : List ℤ
no_soil = layer (pos 0) (pos 2) (pos 0)

short_answered : TableAnswers short worked_mesh [] (refusal 1 1002)
unfolding opened worked_mesh
short_answered = refl

high_answered : TableAnswers high worked_mesh [] (refusal 2 1001)
unfolding opened worked_mesh
high_answered = refl

no_soil_answered : TableAnswers no_soil worked_mesh [] (refusal 4 1001)
unfolding opened worked_mesh
no_soil_answered = refl

pub short_form : OwnFormFails short worked_mesh 1
short_form = ((asked short 1 1002 short_answered).own_lines_asked.form 1).0 (refl, refl)

pub high_limits : OwnLimitsFail high worked_mesh 0
high_limits = ((asked high 2 1001 high_answered).own_lines_asked.limits 0).0 (refl, refl)

pub no_soil_named : OwnSoilFails no_soil worked_mesh 0
no_soil_named = ((asked no_soil 4 1001 no_soil_answered).own_lines_asked.soil 0).0 (refl, refl)

-- as rows of the whole table of refusals
pub high_row : TabledRefusalRow high worked_mesh [] 2 (Line 1001)
unfolding place_for
high_row = ((asked high 2 1001 high_answered).row 2 1001 (λ e. omega arith)).0 (refl, refl)

-- ---- 46 and 45: a layer without height after two that overlap, two that overlap, one that ends too low

abbrev pub flat : List ℤ
flat = layer (pos 0) (pos 2) (pos 1) ++ layer (pos 0) (pos 2) (pos 1) ++ layer (pos 5) (pos 5) (pos 1)

abbrev pub overlap : List ℤ
overlap = layer (pos 0) (pos 2) (pos 1) ++ layer (pos 1) (pos 3) (pos 1)

abbrev pub gap : List ℤ
gap = layer (pos 0) (pos 1) (pos 1)

flat_answered : TableAnswers flat worked_mesh [] (refusal 46 1003)
unfolding opened worked_mesh
flat_answered = refl

overlap_answered : TableAnswers overlap worked_mesh [] (refusal 46 1002)
unfolding opened worked_mesh
overlap_answered = refl

gap_answered : TableAnswers gap worked_mesh [] (refusal 45 4)
unfolding opened worked_mesh
gap_answered = refl

pub flat_row : LayersRefused flat worked_mesh 46 (Line 1003)
unfolding place_for
flat_row = ((asked flat 46 1003 flat_answered).layers_asked.exactly 46 1003 (inr refl)).0 (refl, refl)

-- the second line of the table, whose heights are the first's
pub overlap_line : (lo hi i : ℕ) × LinesPass overlap worked_mesh lo hi × FirstLayerFails overlap lo hi i
    × (1002 ≡ 1001 + i)
overlap_line = (asked overlap 46 1002 overlap_answered).layers_asked.line refl

pub gap_height : (lo hi : ℕ) × LinesPass gap worked_mesh lo hi × LowestGap gap lo hi 4
gap_height = (asked gap 45 4 gap_answered).layers_asked.gap refl
