-- `strengths_check` meets its contract: the first pair that has a row which fails, and of its rows the first, or none.
use mathlib.Core.Path.{◌≡◌, refl, sym, ◌∙◌, ap, subst}
use Prim.Native.Nat.{ℕ}
use native.Mathlib.Omega.{arith}
use lib.Dec.{T}
use lib.ListN.{length}
use Rattle.scope.specs.declared.Place.TheVariants.{Row}
use Rattle.scope.specs.Cases.Outcome.{Refused}
use Rattle.scope.specs.Rows.{first_where}
use Rattle.scope.proofs.Answered.{refused_at}
use Rattle.lines.specs.SearchContracts.{first_failing}
use Rattle.lines.proofs.Loops.{found_within, search_more, search_stops}
use Rattle.mesh.proofs.PairLaws.{pairs_counted}
use Rattle.criterion.specs.StrengthContracts.{pair_holds}
use Rattle.criterion.proofs.StrengthLaws.{strengths_refused, strengths_passed}
use Rattle.verdict.proofs.field_checks.strengths_check.Goals as goal

pub loop-a-init : goal.loop-a-init
unfolding first_where
loop-a-init c = refl

pub pair_holds-requires : goal.pair_holds-requires
pair_holds-requires c =
    let mesh = c.args.field.now.mesh in
    omega (arith, pairs_counted mesh.mesh.numbers.now mesh.pairs.now mesh.paired, c.loop-a-test.true)

pub first_row-requires : goal.first_row-requires
first_row-requires c =
    let mesh = c.args.field.now.mesh in
    omega (arith, pairs_counted mesh.mesh.numbers.now mesh.pairs.now mesh.paired, c.loop-a-test.true)

pub strength_number-row-requires-clause-pair_there : goal.strength_number-row-requires-clause-pair_there
strength_number-row-requires-clause-pair_there c =
    let mesh = c.args.field.now.mesh in
    omega (
      arith,
      pairs_counted mesh.mesh.numbers.now mesh.pairs.now mesh.paired,
      mesh.few,
      c.loop-a-test.true,
    )

pub strength_number-row-requires-clause-side_there : goal.strength_number-row-requires-clause-side_there
strength_number-row-requires-clause-side_there c =
    let mesh = c.args.field.now.mesh.mesh in
    omega (arith, found_within _ _ c.in-Some.ensures.found, mesh.sized.sides_are, mesh.sizes.few_sides)

pub returns-in-Some : goal.returns-in-Some
returns-in-Some c =
    let field = c.args.field.now in
    let mesh = field.mesh in
    let m = mesh.mesh.numbers.now in
    let stops = search_stops (pair_holds m _ _ _) c.loop-a.invariant (length mesh.pairs.now)
    c.loop-a-test.true (sym c.pair_holds.ensures ∙ c.if-pair_holds.false) in
    refused_at c.at.ensures
    ∙ ap (λ (i : ℕ). Refused 22 (Row i)) c.strength_number-row.ensures
    ∙ strengths_refused m _ field.l field.n mesh.mesh.sized.facts.counts (pairs_counted m mesh.pairs.now mesh.paired)
    mesh.mesh.sized.sides_are stops c.loop-a-test.true c.in-Some.ensures.found

pub loop-a-preserved-then-pair_holds : goal.loop-a-preserved-then-pair_holds
loop-a-preserved-then-pair_holds c =
    search_more (pair_holds _ _ _ _) c.loop-a.invariant (sym c.pair_holds.ensures ∙ c.if-pair_holds.true)

-- a pair that has a row which fails has a first one
pub loop-a-preserved : goal.loop-a-preserved
loop-a-preserved c =
    absurd (subst T (sym c.in_default.ensures.none ∙ sym c.pair_holds.ensures ∙ c.if-pair_holds.false) tt)

pub returns : goal.returns
returns c =
    let field = c.args.field.now in
    let mesh = field.mesh in
    let m = mesh.mesh.numbers.now in
    let e : c.loop-a.a ≡ length mesh.pairs.now = omega (arith, c.loop-a.auto.a-end, c.loop-a-test.false) in
    strengths_passed m _ field.l field.n mesh.mesh.sized.facts.counts
    (pairs_counted m mesh.pairs.now mesh.paired)
    (sym (ap (first_failing (pair_holds _ _ _ _)) (sym e) ∙ c.loop-a.invariant)) c.loop-a-test.false
