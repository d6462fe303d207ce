-- `side_sums` meets its contract: one side more, with its multiplier.
use mathlib.Core.Path.{sym, subst, ◌∙◌}
use native.Mathlib.Omega.{arith}
use lib.ListN.{length}
use Rattle.multipliers.specs.MultiplierContracts.{SideSumsAre}
use Rattle.std.proofs.lemmas.List.{length_push}
use Rattle.integer.proofs.Machine.{machine, exact}
use Rattle.multipliers.proofs.PairLaws.{SideRead, side_itself, side_weighted, side_read, all_read}
use Rattle.multipliers.proofs.PairLaws.{no_sides, one_side, sides_room}
use Rattle.multipliers.proofs.multiplier_sums.side_sums.Goals.{In-Some}
use Rattle.multipliers.proofs.multiplier_sums.side_sums.Goals as goal

turn : (c : In-Some)
    → SideRead c.args.sides.now c.args.y.now (length c.loop-side.yielded) c.in-Some.side.now c.in-Some.w.now
turn c =
    let loop = c.loop-side in
    side_read c.requires.as_many loop.yielded _ _ c.next.new.self (cc) (cc) loop.yielded_by c.next.ensures.steps
    c.in-Some.is

pub loop-side-init : goal.loop-side-init
loop-side-init c =
    let none = c.default-sums.ensures in
    no_sides _ _ none.0 none.1.0 none.1.1

pub add_side-sums-requires-clause-weighted : goal.add_side-sums-requires-clause-weighted
add_side-sums-requires-clause-weighted c =
    let read = turn (goal.at.add_side-sums-requires-clause-weighted c).In-Some in
    let itself = side_itself read c.requires.multipliers in
    side_weighted read c.requires.multipliers (exact (search machine depth 30) (omega arith))

pub add_side-sums-requires-clause-sums_fit : goal.add_side-sums-requires-clause-sums_fit
add_side-sums-requires-clause-sums_fit c =
    let read = turn (goal.at.add_side-sums-requires-clause-sums_fit c).In-Some in
    sides_room _ _ _ c.loop-side.invariant (omega (arith, read.below, c.requires.few))

pub loop-side-preserved : goal.loop-side-preserved
loop-side-preserved c =
    let read = turn (goal.at.loop-side-preserved c).In-Some in
    let itself = side_itself read c.requires.multipliers in
    subst (SideSumsAre c.add_side-sums.result c.args.sides.now c.args.y.now)
    (sym (length_push c.loop-side.yielded (c.in-Some.side, c.in-Some.w)))
    (one_side _ _ _ c.loop-side.invariant read.side (exact (search machine depth 30) (omega arith) ∙ read.weight)
    c.add_side-sums.ensures)

pub returns : goal.returns
returns c =
    let loop = c.loop-side in
    let every =
    all_read c.requires.as_many loop.yielded _ _ c.next.new.self (cc) (cc) loop.yielded_by c.next.ensures.steps
    c.in-None.is in
    subst (SideSumsAre loop.sums c.args.sides.now c.args.y.now) every loop.invariant
