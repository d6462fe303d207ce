-- `of_header` meets its contract: each count is there, and few.
use native.Mathlib.Omega.{arith}
use Rattle.mesh.proofs.Places.{count_there, counts_few, sizes_are}
use Rattle.mesh.proofs.sizes.Sizes.of_header.Goals as goal

pub count_at-requires-clause-counted : goal.count_at-requires-clause-counted
count_at-requires-clause-counted c = (count_there c.requires _ (omega arith)).1

pub count_at-requires-2-clause-counted : goal.count_at-requires-2-clause-counted
count_at-requires-2-clause-counted c = (count_there c.requires _ (omega arith)).1

pub count_at-requires-3-clause-counted : goal.count_at-requires-3-clause-counted
count_at-requires-3-clause-counted c = (count_there c.requires _ (omega arith)).1

pub count_at-requires-4-clause-counted : goal.count_at-requires-4-clause-counted
count_at-requires-4-clause-counted c = (count_there c.requires _ (omega arith)).1

pub count_at-requires-5-clause-counted : goal.count_at-requires-5-clause-counted
count_at-requires-5-clause-counted c = (count_there c.requires _ (omega arith)).1

pub count_at-requires-6-clause-counted : goal.count_at-requires-6-clause-counted
count_at-requires-6-clause-counted c = (count_there c.requires _ (omega arith)).1

pub invariant_of-result : goal.invariant_of-result
invariant_of-result c =
    let few = counts_few c.requires in record {
      few_nodes = omega (arith, few, c.count_at.ensures);
      few_elements = omega (arith, few, c.count_at-2.ensures);
      few_soils = omega (arith, few, c.count_at-3.ensures);
      few_edges = omega (arith, few, c.count_at-4.ensures);
      some_side = omega (arith, few, c.count_at-5.ensures);
      few_sides = omega (arith, few, c.count_at-5.ensures);
      few_jumps = omega (arith, few, c.count_at-6.ensures);
    }

pub returns : goal.returns
returns c =
    sizes_are c.requires c.count_at.ensures c.count_at-2.ensures c.count_at-3.ensures c.count_at-4.ensures
    c.count_at-5.ensures c.count_at-6.ensures
