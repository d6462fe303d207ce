-- `add_pairs` meets its contract. The invariant: the pairs with the soils passed are added, and they fit.
use mathlib.Core.Path.{◌≡◌, sym, ◌∙◌, ap}
use mathlib.Core.Bool.{Bool}
use Prim.Native.Nat.{◌+◌}
use native.Mathlib.Omega.{arith}
use borrow.Author.Tests.{ltb-true, ltb-false}
use Rattle.scope.specs.declared.Place.TheVariants.{Node}
use Rattle.scope.specs.Checks.{demand}
use Rattle.scope.specs.Mesh.{soils}
use Rattle.scope.proofs.Answered.{passed_on, test_held, test_failed}
use Rattle.shape.proofs.MarkTables.{node_marked}
use Rattle.shape.proofs.PairTables.{none_added, not_added, one_added, too_many, all_added, all_fitted}
use Rattle.shape.proofs.pairs.add_pairs.Goals.{then-marked-v+in_ok-add_pair, else-marked-v}
use Rattle.shape.proofs.pairs.add_pairs.Goals as goal

pub loop-soil-init : goal.loop-soil-init
loop-soil-init c = none_added _ _ _ c.requires.fit

pub returns-in_err-add_pair-clause-outcome : goal.returns-in_err-add_pair-clause-outcome
returns-in_err-add_pair-clause-outcome c =
    let m = c.args.marked.now in
    let has = sym (node_marked _ m.mesh.sized m.marked c.requires.there c.loop-soil-test.true) ∙ c.if-marked-v.true in
    let full = test_failed _ _ _ c.in_err-add_pair.ensures.outcome in
    let many = too_many _ _ c.loop-soil.invariant has (omega (arith, m.mesh.sized.soils_are)) (ltb-false _ _ full) in
    passed_on c.from_residual.result c.in_err-add_pair.field-0.0 c.from_residual.ensures.1
    ∙ c.in_err-add_pair.ensures.outcome ∙ ap (λ (b : Bool). demand b 42 (Node (c.args.v + 1))) (full ∙ sym many)

pub loop-soil-preserved : goal.loop-soil-preserved
loop-soil-preserved c =
    let m = c.args.marked.now in
    let h = c.loop-soil.invariant in
    let mark = sym (node_marked _ m.mesh.sized m.marked c.requires.there c.loop-soil-test.true) in
    elim c.if-marked-v.branch [
      | then-marked-v+in_ok-add_pair w ↦
          let room = test_held _ _ _ w.in_ok-add_pair.ensures.outcome in
          one_added _ _ h (mark ∙ w.if-marked-v.true) (ltb-true _ _ room)
          (ap (λ p. p.items) w.pairs-is ∙ w.in_ok-add_pair.ensures.added)
      | else-marked-v w ↦ rw w.pairs-is (not_added _ _ h (mark ∙ w.if-marked-v.false))
    ]

pub returns : goal.returns
returns c =
    let m = c.args.marked.now.mesh in
    let whole : c.loop-soil.soil ≡ soils m.numbers.now = omega (arith, m.sized.soils_are) in
    let h = rw whole at c.loop-soil.invariant in
    record {
      outcome = sym (ap (λ (b : Bool). demand b 42 (Node (c.args.v + 1))) (all_fitted _ _ h));
      added = all_added _ _ h;
    }
