-- `RuledLine::rule_check` meets its contract: a soil's angle; of other lines, what they name is within limits of its
-- own.
use mathlib.Core.Path.{◌≡◌, refl, ◌∙◌, sym}
use mathlib.Core.Bool.{true}
use mathlib.Core.List.{List, [], ◌∷◌}
use native.Mathlib.Omega.{arith}
use lib.IntN.{ℤ}
use lib.ListN.{length, length-take, length-drop}
use Rattle.std.proofs.lemmas.List.{take_rest}
use Rattle.integer.proofs.Machine.{limits}
use Rattle.scope.specs.Checks.{demand}
use Rattle.scope.specs.Columns.{all_within, right_angle}
use Rattle.scope.specs.Mesh.{soil_columns, soil_lines, element_lines, edge_lines, jump_lines}
use Rattle.scope.specs.Table.{layer_lines}
use Rattle.scope.specs.Refusals.{rule_number}
use Rattle.scope.specs.Verdict.{rules_hold}
use Rattle.lines.specs.declared.layout.Rule.{Rule}
use Rattle.lines.specs.declared.layout.Rule.TheVariants.{Soil, Element, Tabled, Edge, Jump, Layer}
use Rattle.mesh.specs.declared.sizes.Sizes.{Sizes}
use Rattle.lines.specs.LineContracts.{ranges}
use Rattle.lines.specs.Table.{ruled_lines}
use Rattle.lines.proofs.LineLaws.{SmallAngle, small_angle, angle_read, one_rule, names_check, front_within}
use Rattle.lines.proofs.LineLaws.{cast_count, wide}
use Rattle.lines.proofs.line_tests.RuledLine.rule_check.Goals.{in-Element, in-Tabled, in-Edge, in-Jump, in-Layer}
use Rattle.lines.proofs.line_tests.RuledLine.rule_check.Goals as goal

pub bounds-s-0 : goal.bounds-s-0
bounds-s-0 c = let w = wide Soil c.in-Soil.is c.args.self.now.whole in omega arith

pub bounds-s-1 : goal.bounds-s-1
bounds-s-1 c = let w = wide Soil c.in-Soil.is c.args.self.now.whole in omega arith

pub bounds-s-2 : goal.bounds-s-2
bounds-s-2 c = let w = wide Soil c.in-Soil.is c.args.self.now.whole in omega arith

-- the numbers of a soil's angle are small
angle : {rule : Rule} (z : Sizes) (s : List ℤ) → rule ≡ Soil → length s ≡ soil_columns
    → all_within (ruled_lines rule z 0).limits s ≡ true → SmallAngle s
unfolding ruled_lines
angle z s e w h = small_angle z.sides s (omega arith) (rw e at h)

pub right_angle-right-requires : goal.right_angle-right-requires
right_angle-right-requires c =
    let small = angle c.args.sizes c.args.self.now.numbers.now c.in-Soil.is
    (wide Soil c.in-Soil.is c.args.self.now.whole) c.requires.in_limits in
    record { small_p = search limits; small_q = search limits; small_h = search limits }

pub limits_hold-named-requires : goal.limits_hold-named-requires
limits_hold-named-requires c =
    let w = wide Element c.in-Element.is c.args.self.now.whole in
    record { least = sym w; most = sym w }

pub limits_hold-named-requires-in-Tabled : goal.limits_hold-named-requires-in-Tabled
limits_hold-named-requires-in-Tabled c =
    let w = wide Tabled c.in-Tabled.is c.args.self.now.whole in
    record { least = sym w; most = sym w }

pub slice_bounds-limits_hold-end-in-Edge : goal.slice_bounds-limits_hold-end-in-Edge
slice_bounds-limits_hold-end-in-Edge c =
    let w = wide Edge c.in-Edge.is c.args.self.now.whole in
    omega (arith, length-take 2 c.args.self.now.numbers.now)

pub limits_hold-named-requires-in-Edge : goal.limits_hold-named-requires-in-Edge
limits_hold-named-requires-in-Edge c =
    let w = wide Edge c.in-Edge.is c.args.self.now.whole in
    let front = length-take 2 c.args.self.now.numbers.now in
    record { least = omega (arith, front); most = omega (arith, front) }

pub limits_hold-named-requires-in-Jump : goal.limits_hold-named-requires-in-Jump
limits_hold-named-requires-in-Jump c =
    let w = wide Jump c.in-Jump.is c.args.self.now.whole in
    record { least = sym w; most = sym w }

pub slice_bounds-limits_hold-count : goal.slice_bounds-limits_hold-count
slice_bounds-limits_hold-count c = let w = wide Layer c.in-Layer.is c.args.self.now.whole in omega arith

pub slice_bounds-limits_hold-start : goal.slice_bounds-limits_hold-start
slice_bounds-limits_hold-start c = let w = wide Layer c.in-Layer.is c.args.self.now.whole in omega arith

pub limits_hold-named-requires-in-Layer : goal.limits_hold-named-requires-in-Layer
limits_hold-named-requires-in-Layer c =
    let w = wide Layer c.in-Layer.is c.args.self.now.whole in
    let s = c.args.self.now.numbers.now in
    rw (take_rest s 2) (record { least = omega (arith, length-drop 2 s); most = omega (arith, length-drop 2 s) })

pub returns-in-Soil : goal.returns-in-Soil
unfolding ruled_lines soil_lines rule_number
returns-in-Soil c =
    let a = c.args in
    let s = a.self.now.numbers.now in
    let small = angle a.sizes s c.in-Soil.is (wide Soil c.in-Soil.is a.self.now.whole) c.requires.in_limits in
    rw c.in-Soil.is
    ((rw c.at.ensures at c.demand.ensures) ∙ one_rule right_angle s a.place
    (angle_read s small ∙ sym c.right_angle-right.ensures))

pub returns : goal.returns
unfolding ruled_lines element_lines edge_lines jump_lines layer_lines ranges
returns c =
    let a = c.args in
    let s = a.self.now.numbers.now in
    let n = a.sizes.nodes in
    let ss = a.sizes.soils in
    let nodes = cast_count n (omega arith) in
    let soils = cast_count ss (omega arith) in
    let rules = (ruled_lines a.self.now.rule a.sizes 0).rules in
    let named : demand c.match-self.named 4 a.place ≡ rules_hold rules s a.place =
    elim c.match-self.branch [
      | in-Element w ↦
          let l = wide Element w.in-Element.is a.self.now.whole in
          let e = rw (nodes, soils) at w.limits_hold-named.ensures in
          rw w.in-Element.is (names_check ((1, n) ∷ (1, n) ∷ (1, n) ∷ (1, n) ∷ (1, ss) ∷ []) 0 s a.place (omega arith)
          (w.named-is ∙ e))
      | in-Tabled w ↦
          let l = wide Tabled w.in-Tabled.is a.self.now.whole in
          let e = rw (nodes, soils) at w.limits_hold-named-in-Tabled.ensures in
          rw w.in-Tabled.is (names_check ((1, n) ∷ (1, n) ∷ (1, n) ∷ (1, n) ∷ (0, ss) ∷ []) 0 s a.place (omega arith)
          (w.named-is ∙ e))
      | in-Edge w ↦
          let l = wide Edge w.in-Edge.is a.self.now.whole in
          let e = rw nodes at w.limits_hold-named-in-Edge.ensures in
          rw w.in-Edge.is (names_check ((1, n) ∷ (1, n) ∷ []) 0 s a.place (omega arith)
          (w.named-is ∙ e ∙ front_within _ 2 s (omega arith)))
      | in-Jump w ↦
          let l = wide Jump w.in-Jump.is a.self.now.whole in
          let e = rw nodes at w.limits_hold-named-in-Jump.ensures in
          rw w.in-Jump.is (names_check ((1, n) ∷ (1, n) ∷ (1, n) ∷ (1, n) ∷ []) 0 s a.place (omega arith)
          (w.named-is ∙ e))
      | in-Layer w ↦
          let l = wide Layer w.in-Layer.is a.self.now.whole in
          let e = rw soils at w.limits_hold-named-in-Layer.ensures in
          rw w.in-Layer.is (names_check ((1, ss) ∷ []) 2 s a.place (omega arith)
          (w.named-is ∙ e ∙ rw (take_rest s 2) refl))
    ] in
    (rw c.at-2.ensures at c.demand-2.ensures) ∙ named
