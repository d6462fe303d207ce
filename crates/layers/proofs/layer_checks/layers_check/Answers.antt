-- `layers_check` meets its contract: the tops first, then what is between the lowest node and the highest.
use mathlib.Core.Path.{refl, ap₂}
use mathlib.Core.List.{List, [], ◌∷◌}
use Prim.Native.Nat.{ℕ}
use lib.IntN.{ℤ}
use Rattle.scope.specs.Cases.Outcome.{Outcome}
use Rattle.scope.specs.Layers.{lowest, highest, layers_apart_phase, gaps_phase}
use Rattle.scope.specs.Phases.{check_phase, check_phases}
use Rattle.scope.proofs.Answered.{first_refuses, second_decides}
use Rattle.layers.proofs.layer_checks.layers_check.Goals as goal

-- what follows the tops
abbrev between_nodes : List ℤ → ℕ → ℕ → Outcome
between_nodes t lo hi = check_phases (layers_apart_phase t lo hi ∷ gaps_phase t lo hi ∷ [])

pub returns-in_err-tops_check : goal.returns-in_err-tops_check
unfolding check_phases
returns-in_err-tops_check c =
    let m = c.args.m.now.numbers.now in
    first_refuses c.from_residual.result c.in_err-tops_check.field-0.0
    (between_nodes c.args.layers.now.numbers.now (lowest m) (highest m))
    c.from_residual.ensures.1 c.in_err-tops_check.ensures refl

pub returns-in_err-apart_check : goal.returns-in_err-apart_check
unfolding check_phases
returns-in_err-apart_check c =
    let t = c.args.layers.now.numbers.now in
    let gaps = check_phase (gaps_phase t c.of-heights.result.lo c.of-heights.result.hi) in
    second_decides c.in_ok-tops_check.ensures refl
    (first_refuses c.from_residual-in_err-apart_check.result c.in_err-apart_check.field-0.0 gaps
    c.from_residual-in_err-apart_check.ensures.1 c.in_err-apart_check.ensures
    (ap₂ (between_nodes t) c.of-heights.ensures.lo c.of-heights.ensures.hi))

pub returns : goal.returns
unfolding check_phases
returns c =
    let t = c.args.layers.now.numbers.now in
    second_decides c.in_ok-tops_check.ensures refl
    (second_decides c.in_ok-apart_check.ensures
    (ap₂ (between_nodes t) c.of-heights.ensures.lo c.of-heights.ensures.hi) c.gaps_check.ensures)
