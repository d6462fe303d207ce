-- `pairs_check` meets its contract. The invariant: the pairs of the nodes passed are collected, and they fit.
use mathlib.Core.Path.{refl, ◌∙◌, ap}
use Prim.Native.Nat.{suc}
use native.Mathlib.Numerals.{add-one}
use native.Mathlib.Omega.{arith}
use Rattle.scope.specs.declared.Place.TheVariants.{Node}
use Rattle.scope.specs.Mesh.{pairs_with, nodes}
use Rattle.scope.specs.Phases.{check_phase}
use Rattle.scope.specs.Rows.{strength_pairs, pairs_below}
use Rattle.scope.specs.Tests.{pairs_fit}
use Rattle.scope.proofs.Answered.{test_held}
use Rattle.lines.proofs.Asked.{asked_stops, asked_all}
use Rattle.shape.proofs.PairTables.{none_collected, all_fit, fits_here, more_collected}
use Rattle.shape.proofs.pairs.pairs_check.Goals as goal

pub loop-v-init : goal.loop-v-init
loop-v-init c = rw c.new-pairs.ensures (none_collected _)

pub returns-in_err-add_pairs-clause-outcome : goal.returns-in_err-add_pairs-clause-outcome
unfolding check_phase
returns-in_err-add_pairs-clause-outcome c =
    let h = c.loop-v.invariant in
    let few = c.most_pairs-most.ensures.with_sides ∙ ap pairs_with c.args.marked.now.mesh.sized.sides_are in
    asked_stops (pairs_fit _) (all_fit _ h) (fits_here _ h) c.from_residual.result c.in_err-add_pairs.field-0.0
    c.from_residual.ensures.1 refl (rw few at c.in_err-add_pairs.ensures.outcome) (λ v. Node (suc v))
    (ap Node (add-one _))
    (nodes _) (omega (arith, c.args.marked.now.mesh.sized.nodes_are))

pub loop-v-preserved : goal.loop-v-preserved
loop-v-preserved c =
    let few = c.most_pairs-most.ensures.with_sides ∙ ap pairs_with c.args.marked.now.mesh.sized.sides_are in
    more_collected _ c.loop-v.invariant c.in_ok-add_pairs.ensures.added
    (test_held _ _ _ (rw few at c.in_ok-add_pairs.ensures.outcome))

pub returns-clause-outcome : goal.returns-clause-outcome
unfolding check_phase
returns-clause-outcome c =
    asked_all (pairs_fit _) (all_fit _ c.loop-v.invariant) 42 (λ v. Node (suc v)) (nodes _)
    (omega (arith, c.args.marked.now.mesh.sized.nodes_are))

pub returns-clause-pairs : goal.returns-clause-pairs
unfolding strength_pairs
returns-clause-pairs c =
    c.loop-v.invariant.are ∙ ap (pairs_below _) (omega (arith, c.args.marked.now.mesh.sized.nodes_are))
