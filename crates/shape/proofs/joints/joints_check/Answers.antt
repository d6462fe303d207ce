-- `joints_check` meets its contract. The invariant: the jumps passed are joints, and have used their sides.
use mathlib.Core.Path.{◌≡◌, refl, sym, ◌∙◌, ap, subst}
use mathlib.Core.Bool.{true, false}
use mathlib.Core.List.{List}
use Prim.Native.Nat.{ℕ, suc, ◌≤◌, ◌<◌}
use native.Mathlib.Omega.{arith}
use lib.IntN.{ℤ}
use Rattle.scope.specs.declared.Place.TheVariants.{Line}
use Rattle.scope.specs.Checks.{all_below}
use Rattle.scope.specs.Phases.{check_phase}
use Rattle.scope.specs.Mesh.{jumps, jump_line}
use Rattle.scope.specs.Tests.{is_joint}
use Rattle.shape.proofs.MeshLaws.{jump_line_lem}
use Rattle.shape.proofs.JointTables.{no_jump_yet}
use Rattle.shape.specs.ShapeContracts.{JumpTable}
use Rattle.scope.proofs.Answered.{test_failed}
use Rattle.lines.specs.SearchContracts.{first_failing}
use Rattle.lines.proofs.Loops.{each_below, first_is}
use Rattle.lines.proofs.Asked.{asked_more, asked_stops, asked_all}
use Rattle.shape.proofs.joints.joints_check.Goals as goal

-- the jumps passed are those before the first that fails
used_to : (m : List ℤ) {j : ℕ} {t : List (List ℕ)} → (all_below (is_joint m) j ≡ true) × JumpTable m j t
    → j ≤ jumps m → (j < jumps m → is_joint m j ≡ false)
    → JumpTable m (first_failing (is_joint m) (jumps m)) t
used_to m {j} {t} h within fails =
    subst (λ (k : ℕ). JumpTable m k t)
    (first_is (is_joint m) (jumps m) within (each_below (is_joint m) j h.0) fails) h.1

pub loop-j-init : goal.loop-j-init
unfolding all_below
loop-j-init c = (refl, no_jump_yet _ c.requires)

pub returns-in_err-demand-clause-outcome : goal.returns-in_err-demand-clause-outcome
unfolding check_phase
returns-in_err-demand-clause-outcome c =
    asked_stops (is_joint _) c.loop-j.invariant.0 c.is_joint.ensures c.from_residual.result c.in_err-demand.field-0.0
    c.from_residual.ensures.1 c.at.ensures c.in_err-demand.ensures (λ j. Line (suc (jump_line _ j)))
    (ap Line (jump_line_lem _ c.args.m.now.sized _ c.line_after_elements.ensures)) (jumps _)
    (omega (arith, c.args.m.now.sized.jumps_are))

pub returns-in_err-demand-clause-used : goal.returns-in_err-demand-clause-used
returns-in_err-demand-clause-used c =
    let m = c.args.m.now in
    used_to m.numbers.now c.loop-j.invariant (omega (arith, m.sized.jumps_are, c.loop-j-test.true))
    (λ _. sym c.is_joint.ensures ∙ test_failed _ _ _ c.in_err-demand.ensures)

pub loop-j-preserved : goal.loop-j-preserved
loop-j-preserved c = (
  asked_more (is_joint _) c.loop-j.invariant.0 c.is_joint.ensures _ _ c.in_ok-demand.ensures,
  c.use_sides.ensures,
)

pub returns-clause-outcome : goal.returns-clause-outcome
unfolding check_phase
returns-clause-outcome c =
    asked_all (is_joint _) c.loop-j.invariant.0 44 (λ j. Line (suc (jump_line _ j))) (jumps _)
    (omega (arith, c.args.m.now.sized.jumps_are))

pub returns-clause-used : goal.returns-clause-used
returns-clause-used c =
    let m = c.args.m.now in
    let all : c.loop-j.j ≡ jumps m.numbers.now =
    omega (arith, m.sized.jumps_are, c.loop-j.auto.j-end, c.loop-j-test.false) in
    used_to m.numbers.now c.loop-j.invariant (omega (arith, all)) (λ l. absurd (omega (arith, all, l)))
