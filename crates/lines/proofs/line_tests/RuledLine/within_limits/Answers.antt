-- `RuledLine::within_limits` meets its contract: of each kind of line, the columns that have limits.
use mathlib.Core.Path.{◌≡◌, ◌∙◌, sym}
use mathlib.Core.Bool.{true}
use mathlib.Core.List.{List}
use mathlib.Core.Logic.{◌⊎◌, inl, inr}
use native.Mathlib.Omega.{arith}
use lib.IntN.{ℤ}
use lib.ListN.{length-take, length-drop}
use Rattle.std.proofs.lemmas.List.{take_rest}
use Rattle.scope.specs.Columns.{up_to, all_within}
use Rattle.scope.specs.Mesh.{element_columns, jump_columns, soil_lines, element_lines, edge_lines, jump_lines}
use Rattle.scope.specs.Table.{layer_lines}
use Rattle.mesh.specs.declared.sizes.Sizes.{Sizes}
use Rattle.lines.specs.declared.layout.Rule.{Rule}
use Rattle.lines.specs.declared.layout.Rule.TheVariants.{Soil, Element, Tabled, Edge, Jump, Layer}
use Rattle.lines.specs.LineContracts.{ranges}
use Rattle.lines.specs.Table.{ruled_lines}
use Rattle.lines.proofs.LineLaws.{all_free, edge_limits, layer_limits, wide}
use Rattle.lines.proofs.line_tests.RuledLine.within_limits.Goals as goal

pub limits_hold-requires : goal.limits_hold-requires
limits_hold-requires c =
    let w = wide Soil c.in-Soil.is c.args.self.now.whole in
    record { least = sym w; most = rw c.soil_most.ensures (sym w) }

pub slice_bounds-limits_hold-count : goal.slice_bounds-limits_hold-count
slice_bounds-limits_hold-count c = let w = wide Edge c.in-Edge.is c.args.self.now.whole in omega arith

pub slice_bounds-limits_hold-start : goal.slice_bounds-limits_hold-start
slice_bounds-limits_hold-start c = let w = wide Edge c.in-Edge.is c.args.self.now.whole in omega arith

pub limits_hold-requires-in-Edge : goal.limits_hold-requires-in-Edge
limits_hold-requires-in-Edge c =
    let w = wide Edge c.in-Edge.is c.args.self.now.whole in
    let s = c.args.self.now.numbers.now in
    rw (take_rest s 2) (record { least = omega (arith, length-drop 2 s); most = omega (arith, length-drop 2 s) })

pub slice_bounds-limits_hold-end-in-Layer : goal.slice_bounds-limits_hold-end-in-Layer
slice_bounds-limits_hold-end-in-Layer c =
    let w = wide Layer c.in-Layer.is c.args.self.now.whole in
    omega (arith, length-take 2 c.args.self.now.numbers.now)

pub limits_hold-requires-in-Layer : goal.limits_hold-requires-in-Layer
limits_hold-requires-in-Layer c =
    let w = wide Layer c.in-Layer.is c.args.self.now.whole in
    let front = length-take 2 c.args.self.now.numbers.now in
    record { least = omega (arith, front); most = omega (arith, front) }

pub returns-in-Soil : goal.returns-in-Soil
unfolding ruled_lines soil_lines up_to ranges
returns-in-Soil c = rw c.in-Soil.is (rw c.soil_most.ensures at c.limits_hold.ensures)

pub returns-in-Edge : goal.returns-in-Edge
unfolding ruled_lines edge_lines up_to ranges
returns-in-Edge c =
    let z = c.args.sizes in
    let s = c.args.self.now.numbers.now in
    rw c.in-Edge.is (c.limits_hold-in-Edge.ensures ∙ rw (take_rest s 2) (sym (edge_limits z.nodes s)))

pub returns-in-Layer : goal.returns-in-Layer
unfolding ruled_lines layer_lines up_to ranges
returns-in-Layer c = rw c.in-Layer.is (c.limits_hold-in-Layer.ensures
    ∙ sym (layer_limits c.args.sizes.soils c.args.self.now.numbers.now))

no_limits : {rule : Rule} (z : Sizes) (s : List ℤ) → (rule ≡ Element) ⊎ ((rule ≡ Tabled) ⊎ (rule ≡ Jump))
    → true ≡ all_within (ruled_lines rule z 0).limits s
unfolding ruled_lines element_lines jump_lines
no_limits z s (inl e) = rw e (sym (all_free element_columns s))
no_limits z s (inr (inl e)) = rw e (sym (all_free element_columns s))
no_limits z s (inr (inr e)) = rw e (sym (all_free jump_columns s))

pub returns-in-Element : goal.returns-in-Element
returns-in-Element c = no_limits c.args.sizes c.args.self.now.numbers.now c.in-Element.is
