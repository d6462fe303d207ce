-- `multipliers_from` meets its contract: four numbers of the header, and three a node where there is a field.
use mathlib.Core.Path.{◌∙◌, ap}
use mathlib.Core.Bool.{Bool}
use Prim.Native.Nat.{◌+◌, ◌*◌}
use native.Mathlib.Omega.{arith}
use Rattle.scope.specs.Columns.{has_field}
use Rattle.scope.specs.Claim.{if_there}
use Rattle.lines.proofs.GroupLaws.{few_there}
use Rattle.criterion.proofs.claims.multipliers_from.Goals as goal

pub overflow_mul-result : goal.overflow_mul-result
overflow_mul-result c = omega (arith, few_there _ c.if_there.ensures c.requires)

pub overflow_add-result : goal.overflow_add-result
overflow_add-result c = omega (arith, few_there _ c.if_there.ensures c.requires)

pub returns : goal.returns
unfolding has_field
returns c =
    let n = c.args.nodes in
    ap (λ k. 4 + k * 3) (c.if_there.ensures ∙ ap (λ (b : Bool). if_there b n) c.has_part.ensures)
