-- `of` meets its contract: the differences across two corners.
use mathlib.Core.Path.{◌∙◌}
use native.Mathlib.Omega.{arith}
use Rattle.integer.proofs.Machine.{Is-read}
use Rattle.scope.specs.Rows.{node, rise_across, run_across}
use Rattle.equality.proofs.elements.Element.of.Goals as goal

pub invariant_of-result-2 : goal.invariant_of-result-2
unfolding rise_across run_across node
invariant_of-result-2 c =
    let v = c.of-v.ensures in
    record {
      there = c.requires;
      corners_are = v;
      span_is = record {
        rise = (Is-read c.rise.ensures (omega arith)).same ∙ rw (v.b.same, v.d.same);
        rise_next = (Is-read c.rise-2.ensures (omega arith)).same ∙ rw (v.a.same, v.c.same);
        run = (Is-read c.run.ensures (omega arith)).same ∙ rw (v.b.same, v.d.same);
        run_next = (Is-read c.run-2.ensures (omega arith)).same ∙ rw (v.a.same, v.c.same);
      };
      soil_is = rw c.element_soil.ensures at c.soil.ensures;
    }
