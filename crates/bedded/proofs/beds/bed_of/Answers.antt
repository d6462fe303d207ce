-- `bed_of` meets its contract: the soil's numbers, and the difference of two from 0 to 10,000.
use native.Mathlib.Omega.{arith}
use Rattle.integer.specs.Bounds.{Within}
use Rattle.integer.proofs.Machine.{machine, fits, exact, bounded, by_value}
use Rattle.scope.specs.Mesh.{most_cohesion}
use Rattle.scope.specs.Mesh.{p, q, cohesion, cohesion_across}
use Rattle.bedded.proofs.PlaneLaws.{being, p_within, q_within, cohesion_within, across_within, excess_within}
use Rattle.bedded.proofs.beds.bed_of.Goals as goal

pub overflow_sub-result : goal.overflow_sub-result
unfolding cohesion cohesion_across
overflow_sub-result c =
    let facts = c.args.mesh.now.sized.facts.soil c.args.k c.requires.there in
    let along = being c.soil-soil.ensures.cohesion (cohesion_within facts) in
    let across = being c.soil-soil.ensures.across (across_within facts) in
    fits (search machine depth 30) (omega arith)

pub invariant_of-result : goal.invariant_of-result
unfolding p q cohesion cohesion_across
invariant_of-result c =
    let facts = c.args.mesh.now.sized.facts.soil c.args.k c.requires.there in
    let p = being c.soil-soil.ensures.p (p_within facts) in
    let q = being c.soil-soil.ensures.q (q_within facts) in
    let along = being c.soil-soil.ensures.cohesion (cohesion_within facts) in
    let across = being c.soil-soil.ensures.across (across_within facts) in
    let radius = c.requires.radius_fits in
    record {
      radius_fits = bounded (search machine depth 30) (omega arith);
      p_fits = bounded (search machine depth 30) (omega arith);
      q_fits = bounded (search machine depth 30) (omega arith);
      along_fits = bounded (search machine depth 30) (omega arith);
      excess_fits = by_value (Within most_cohesion) (search machine depth 30) (omega arith) (excess_within facts);
    }

pub returns : goal.returns
unfolding p q cohesion cohesion_across
returns c =
    let facts = c.args.mesh.now.sized.facts.soil c.args.k c.requires.there in
    let p = being c.soil-soil.ensures.p (p_within facts) in
    let q = being c.soil-soil.ensures.q (q_within facts) in
    let along = being c.soil-soil.ensures.cohesion (cohesion_within facts) in
    let across = being c.soil-soil.ensures.across (across_within facts) in
    let radius = c.requires.radius_fits in
    record {
      radius = exact (search machine depth 30) (omega arith);
      p = exact (search machine depth 30) (omega arith);
      q = exact (search machine depth 30) (omega arith);
      along = exact (search machine depth 30) (omega arith);
      excess = exact (search machine depth 30) (omega arith);
    }
