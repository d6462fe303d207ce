-- What a caller that hands over a table too may rely on (document 02, N8): demands 2 and 3 for `check`, which C calls
-- as `pechuvo_check_numbers`. A table is refused with its own numbers before 5; where it fits, or where there is none,
-- the answer is the one for the filled mesh, so that each promise of `Promises` holds of that mesh.
use Rattle.std.specs.Prelude.{◌≡◌, ◌↔◌, ◌⊎◌, ◌≢◌, List, [], ℕ, ◌+◌, ◌≤◌, ◌<◌, ℤ}
use Rattle.scope.specs.Answer.{place_for, number_of, place_of}
use Rattle.scope.specs.Columns.{has_field}
use Rattle.scope.specs.Accepted.{ClaimAccepted}
use Rattle.scope.specs.Mesh.{mesh_layout, elements}
use Rattle.scope.specs.Statements.{LinesSound}
use Rattle.scope.specs.RefusalTable.{LowestFails, AtAll}
use Rattle.scope.specs.Layers.{layers, TopAbove, Apart}
use Rattle.scope.specs.LayerRefusals.{LowestGap, OneLayer, FilledFrom, Reordered}
use Rattle.scope.specs.Filled.{height_of, filled}
use Rattle.scope.specs.Table.{mesh_read}
use Rattle.scope.specs.TableVerdict.{tabled_verdict, TabledRefusal, TableFits}
use Rattle.scope.specs.TabledRefusals.{OwnFormFails, OwnLimitsFail, OwnSoilFails, LinesPass, LayersRefused, TabledRefusalRow}
use Rattle.numbers.specs.declared.numbers_answer.NumbersAnswer.{NumbersAnswer}
use Rattle.numbers.specs.NumbersAnswer.{answer_of}
use Rattle.numbers.specs.Promises.{Answers}

-- the contract of `check`, and of `pechuvo_check_numbers`
abbrev pub TableAnswers : List ℤ → List ℤ → List ℤ → NumbersAnswer → Type 0
TableAnswers t m c r = r ≡ answer_of (has_field c) (tabled_verdict t m c)

-- the number and the place of every answer, and of the check of three files
pub record TableReturned (t m c : List ℤ) (number place : ℕ) : Type 0 where
  pub number_is : number ≡ number_of (tabled_verdict t m c)
  pub place_is : place ≡ place_of (tabled_verdict t m c)

-- "The table's own form, limits and soil numbers are judged as a mesh's, with 1, 2 and 4 ..; its lines are numbered
-- from 1,001, above any of the mesh's": each of these at such a line comes exactly where line i of the table, counted
-- from 0, is the first that fails, and fails so
pub record OwnLinesAsked (t m : List ℤ) (number place : ℕ) : Type 0 where
  pub form : (i : ℕ) → ((number ≡ 1) × (place ≡ 1001 + i)) ↔ OwnFormFails t m i
  pub limits : (i : ℕ) → ((number ≡ 2) × (place ≡ 1001 + i)) ↔ OwnLimitsFail t m i
  pub soil : (i : ℕ) → ((number ≡ 4) × (place ≡ 1001 + i)) ↔ OwnSoilFails t m i

-- 46 is "with the first line whose top isn't above its bottom, else the first that shares such a height with an earlier
-- line": line i of the table, counted from 0
abbrev pub FirstLayerFails : List ℤ → ℕ → ℕ → ℕ → Type 0
FirstLayerFails t lo hi i =
    LowestFails (layers t) (TopAbove t) i ⊎ (AtAll (layers t) (TopAbove t) × LowestFails (layers t) (Apart t lo hi) i)

-- 46 and 45 come exactly where they are said, with all lines before them; and what their places are: the table's lines
-- "are numbered from 1,001", "45, with the lowest such height in no layer, counted in quarters"
pub record LayersAsked (t m : List ℤ) (number place : ℕ) : Type 0 where
  pub exactly : (k j : ℕ) → (k ≡ 45) ⊎ (k ≡ 46)
      → ((number ≡ k) × (place ≡ j)) ↔ LayersRefused t m k (place_for k j)
  pub line : number ≡ 46
      → (lo hi i : ℕ) × LinesPass t m lo hi × FirstLayerFails t lo hi i × (place ≡ 1001 + i)
  pub gap : number ≡ 45 → (lo hi : ℕ) × LinesPass t m lo hi × LowestGap t lo hi place

-- 0 exactly when the table fits and the claim is accepted on the mesh that is read; each refusal with its place exactly
-- when the order has it, and exactly when a row said by hand has it; before 5 no number but 1 to 4, 45 and 46
pub record TableExactly (t m c : List ℤ) (number place : ℕ) : Type 0 where
  pub zero : (number ≡ 0) ↔ (TableFits t m × ClaimAccepted (mesh_read t m) c)
  pub place_zero : number ≡ 0 → place ≡ 0
  pub refuses : (k j : ℕ) → k ≢ 0 → ((number ≡ k) × (place ≡ j)) ↔ TabledRefusal t m c k (place_for k j)
  pub row : (k j : ℕ) → k ≢ 0 → ((number ≡ k) × (place ≡ j)) ↔ TabledRefusalRow t m c k (place_for k j)
  pub own_lines_asked : OwnLinesAsked t m number place
  pub layers_asked : LayersAsked t m number place
  pub unfit : ¬ TableFits t m → (number ≤ 4) ⊎ ((number ≡ 45) ⊎ (number ≡ 46))

-- where the table fits, the answer is the one for the mesh that is read; "Without a table" that is the mesh
pub record AsFilled (t m c : List ℤ) (r : NumbersAnswer) : Type 0 where
  pub fits : TableFits t m → Answers (mesh_read t m) c r
  pub none : t ≡ [] → Answers m c r

-- what the filled mesh is: its lines are sound, each element's height is in exactly one layer, nothing but soil 0 is
-- changed, and the lines of the table in another order fill it the same way
pub record FilledMesh (t m : List ℤ) : Type 0 where
  pub lines : LinesSound mesh_layout (filled t m)
  pub one_layer : (e : ℕ) → e < elements m → OneLayer t (height_of m e)
  pub filled_from : FilledFrom t m (filled t m)
  pub order : (u : List ℤ) → Reordered t u → filled t m ≡ filled u m
