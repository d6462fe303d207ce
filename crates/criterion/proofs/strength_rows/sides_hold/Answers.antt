-- `sides_hold` meets its contract: `all` over the sides is the test of each of them.
use Rattle.std.proofs.Common.{rules, tests}
use Rattle.std.proofs.lemmas.Iterator.{YieldsList-from_slice}
use Rattle.std.proofs.lemmas.Iterator.Search.{all_from_yields_List}
use lib.IntN.{pos}
use lib.Signed.{le_z}
use Rattle.criterion.specs.StrengthContracts.{side_slack}
use Rattle.criterion.proofs.strength_rows.sides_hold.Goals as goal

pub returns : goal.returns
returns c =
    let a = c.args in
    all_from_yields_List (λ step. le_z (pos 0) (side_slack a.pair.now step)) _ _ _ c.all.ensures.ran
    (YieldsList-from_slice a.steps.now cc) (λ x b q k. search (rules, tests))
