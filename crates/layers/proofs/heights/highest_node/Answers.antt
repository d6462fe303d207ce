-- `highest_node` meets its contract: the greatest of the heights of all nodes.
use mathlib.Core.Path.{sym, ◌∙◌, ap}
use native.Mathlib.Omega.{arith}
use Prim.Native.Nat.{ℕ}
use Rattle.std.proofs.Common.{rules, Option}
use Rattle.std.specs.Option.{unwrap_or}
use Rattle.std.proofs.lemmas.Iterator.Adapters.{option_map_id}
use Rattle.std.proofs.lemmas.Iterator.{YieldsList-from_range, YieldsList-from_map}
use Rattle.std.proofs.lemmas.Iterator.Consumers.{max_from_yields_List}
use Rattle.scope.specs.Layout.{count}
use Rattle.scope.specs.Mesh.{nodes, y}
use Rattle.layers.proofs.HeightLaws.{high_is}
use Rattle.layers.proofs.heights.highest_node.Goals as goal

pub returns-clause-same : goal.returns-clause-same
returns-clause-same c =
    let m = c.args.m.now in
    let numbers = YieldsList-from_range 0 m.sizes.nodes (nodes m.numbers.now) c.map.ensures.source
    (omega (arith, m.sized.nodes_are)) in
    let same = sym (option_map_id _)
    ∙ max_from_yields_List _ _ c.max.ensures.ran
    (YieldsList-from_map _ (λ v. count (y m.numbers.now v)) numbers c.map.ensures.closure (λ x r q k. search rules)) in
    c.unwrap_or.ensures ∙ ap (λ (r : Option ℕ). unwrap_or r 0) same ∙ high_is m.sized.facts
