-- `balances_passed` meets its contract: two rows more.
use mathlib.Core.Path.{refl, sym, ◌∙◌}
use Prim.Native.Nat.{◌*◌}
use native.Mathlib.Omega.{arith}
use Rattle.scope.specs.Checks.{all_below}
use Rattle.verdict.specs.FieldContracts.{passes}
use Rattle.verdict.proofs.FieldLaws.{more_pass}
use Rattle.verdict.proofs.equality_checks.balances_passed.Goals as goal

pub loop-e-init : goal.loop-e-init
unfolding all_below
loop-e-init c = refl

pub loop-e-preserved : goal.loop-e-preserved
loop-e-preserved c =
    more_pass (passes c.args.field.now) (c.loop-e.e * 2) 2 c.loop-e.invariant
    (sym c.element_passes.ensures ∙ c.if-not-element_passes.false) (omega arith)
