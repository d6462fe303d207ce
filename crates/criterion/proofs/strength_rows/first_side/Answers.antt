-- `first_side` meets its contract: the first side whose test fails, or that each holds.
use mathlib.Core.Path.{◌≡◌}
use mathlib.Core.Bool.{true, false}
use Rattle.std.proofs.Common.{rules, tests}
use Rattle.std.proofs.lemmas.Iterator.{YieldsList-from_slice, IsFirst-from_position}
use lib.IntN.{pos}
use lib.Signed.{le_z}
use Rattle.lines.proofs.Loops.{first_found}
use Rattle.criterion.specs.declared.steps.Step.{Step}
use Rattle.criterion.specs.StrengthContracts.{no_step, side_slack}
use Rattle.criterion.proofs.strength_rows.first_side.Goals as goal

pub returns : goal.returns
returns c =
    let holds = λ (s : Step). le_z (pos 0) (side_slack c.args.pair.now s) in
    let s = c.args.steps.now in
    let found = first_found holds s no_step c.position.result
    (IsFirst-from_position _ _ _ (λ x. holds x ≡ false) (λ x. holds x ≡ true) c.position.ensures.ran
    (YieldsList-from_slice s cc) (λ x q k. search (rules, tests)) (λ x q k. search (rules, tests))) in
    record { found = found.0; none = found.1 }
