-- The verdict on the numbers of a mesh and of a claim (document 01, 'Verdict and report'): the first phase that fails,
-- and else what is accepted.
use Rattle.std.specs.Prelude.{cond, ◌&&◌, List, ℕ, suc, ℤ, not}
use Rattle.scope.specs.declared.Place.{Place}
use Rattle.scope.specs.declared.Place.TheVariants.{Line}
use Rattle.scope.specs.Cases.Outcome.{Outcome}
use Rattle.scope.specs.Cases.Outcome.{Passed, Refused as Fails}
use Rattle.scope.specs.Cases.Load.{Load}
use Rattle.scope.specs.Cases.Load.{Absent, Exact}
use Rattle.scope.specs.Cases.OpenRows.{OpenRows}
use Rattle.scope.specs.Cases.OpenRows.{Absent as NoCount, Count}
use Rattle.scope.specs.Cases.Verdict.{Verdict}
use Rattle.scope.specs.Cases.Verdict.{Accepted, Refused}
use Rattle.scope.specs.Phases.{check_steps, check_phases}
use Rattle.scope.specs.Columns.{Rule, has_field, has_multipliers, n, l}
use Rattle.scope.specs.Layout.{Group, Layout, group_at, numbers_at}
use Rattle.scope.specs.Mesh.{some_by_direction}
use Rattle.scope.specs.Rows as R
use Rattle.scope.specs.Rows.{rows_of}
use Rattle.scope.specs.Sums.{live_sum, limit_sum, open_rows}
use Rattle.scope.specs.Claim.{stress, multiplier}
use Rattle.scope.specs.Refusals.{rule_steps, line_steps, line_phases, mesh_phases, claim_phases, field_phases}
use Rattle.scope.specs.Refusals.{multiplier_phases}

-- ---- lines

-- the rules of a line; a line of a group; line k of a file; all its lines
unfoldable pub rules_hold : List Rule → List ℤ → Place → Outcome
rules_hold rs line p = check_steps (rule_steps rs line) p

unfoldable pub line_check : Layout → Group → List ℤ → Place → Outcome
line_check f g line p = check_steps (line_steps f g line) p

unfoldable pub line_at : Layout → List ℤ → ℕ → Outcome
line_at f ns k = line_check f (group_at f ns k) (numbers_at f ns k) (Line (suc k))

unfoldable pub lines_check : Layout → List ℤ → Outcome
lines_check f ns = check_phases (line_phases f ns)

-- ---- a mesh, a claim, and its parts over any rows

unfoldable pub mesh_check : List ℤ → Outcome
mesh_check m = check_phases (mesh_phases m)

unfoldable pub claim_check : List ℤ → List ℤ → Outcome
claim_check m c = check_phases (claim_phases m c)

unfoldable pub field_check : List R.Row → List R.Row → (ℕ → ℤ) → ℤ → ℤ → Outcome
field_check es ss s l n = check_phases (field_phases es ss s l n)

unfoldable pub multipliers_check : List R.Row → List R.Row → ℕ → (ℕ → ℤ) → Outcome
multipliers_check es rs columns w = check_phases (multiplier_phases es rs columns w)

-- ---- what an accepted claim reports

-- l/n, and W/m; on a mesh that lists a soil of kind 1, "used or not, the report's lower load reads none" (document 02,
-- N14)
unfoldable pub lower_load : List ℤ → List ℤ → Load
lower_load m c = cond (has_field c && not (some_by_direction m)) (Exact (l c) (n c)) Absent

unfoldable pub upper_load : List ℤ → List ℤ → Load
upper_load m c =
    cond (has_multipliers c) (Exact (limit_sum (multiplier m c) (rows_of m)) (live_sum (multiplier m c) (rows_of m)))
    Absent

-- "open rows need both parts"
unfoldable pub open_count : List ℤ → List ℤ → OpenRows
open_count m c =
    cond (has_field c && has_multipliers c)
    (Count (open_rows (stress m c) (l c) (n c) (multiplier m c) (rows_of m))) NoCount

-- a refusal as it is, and else what is accepted
unfoldable pub answer : Outcome → Verdict → Verdict
answer Passed v = v
answer (Fails k at) v = Refused k at

-- the verdict on the claim c where its mesh m has passed
unfoldable pub claim_verdict : List ℤ → List ℤ → Verdict
claim_verdict m c =
    answer (claim_check m c) (Accepted (open_count m c) (lower_load m c) (upper_load m c))

-- the verdict on a mesh and a claim
unfoldable pub verdict : List ℤ → List ℤ → Verdict
verdict m c = answer (mesh_check m) (claim_verdict m c)
