-- `soil_numbers` meets its contract: each number is computed as the contract says, within the limits of a soil's line.
use native.Mathlib.Omega.{arith}
use Rattle.integer.proofs.Machine.{machine, fits, exact, bounded}
use Rattle.scope.specs.Mesh.{p, q, h, cohesion}
use Rattle.criterion.proofs.StrengthLaws.{being, p-within, q-within, h-within, cohesion-within}
use Rattle.criterion.proofs.strength_rows.soil_numbers.Goals as goal

pub overflow_mul-result : goal.overflow_mul-result
unfolding p q h cohesion
overflow_mul-result c =
    let facts = c.args.mesh.now.sized.facts.soil c.args.k c.requires.there in
    let h = being c.soil-soil.ensures.h (h-within facts) in
    let radius = c.requires.radius_fits in
    fits (search machine depth 30) (omega arith)

pub overflow_mul-result-3 : goal.overflow_mul-result-3
unfolding p q h cohesion
overflow_mul-result-3 c =
    let facts = c.args.mesh.now.sized.facts.soil c.args.k c.requires.there in
    let q = being c.soil-soil.ensures.q (q-within facts) in
    let cohesion = being c.soil-soil.ensures.cohesion (cohesion-within facts) in
    fits (search machine depth 30) (omega arith)

pub invariant_of-result : goal.invariant_of-result
unfolding p q h cohesion
invariant_of-result c =
    let facts = c.args.mesh.now.sized.facts.soil c.args.k c.requires.there in
    let p = being c.soil-soil.ensures.p (p-within facts) in
    let q = being c.soil-soil.ensures.q (q-within facts) in
    let h = being c.soil-soil.ensures.h (h-within facts) in
    let cohesion = being c.soil-soil.ensures.cohesion (cohesion-within facts) in
    let radius = c.requires.radius_fits in
    record {
      lever_fits = bounded (search machine depth 30) (omega arith);
      friction_fits = bounded (search machine depth 30) (omega arith);
      right_fits = bounded (search machine depth 30) (omega arith);
    }

pub returns : goal.returns
unfolding p q h cohesion
returns c =
    let facts = c.args.mesh.now.sized.facts.soil c.args.k c.requires.there in
    let p = being c.soil-soil.ensures.p (p-within facts) in
    let q = being c.soil-soil.ensures.q (q-within facts) in
    let h = being c.soil-soil.ensures.h (h-within facts) in
    let cohesion = being c.soil-soil.ensures.cohesion (cohesion-within facts) in
    let radius = c.requires.radius_fits in
    record {
      lever = exact (search machine depth 30) (omega arith);
      friction = exact (search machine depth 30) (omega arith);
      right = exact (search machine depth 30) (omega arith);
    }
