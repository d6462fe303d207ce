-- `mark_corners` meets its contract. The invariant: the corners passed are marked with the element's soil.
use mathlib.Core.Path.{refl}
use native.Mathlib.Omega.{arith}
use Rattle.shape.proofs.MarkTables.{no_corner_yet, corner_more, all_corners}
use Rattle.shape.proofs.marks.mark_corners.Goals as goal

pub loop-i-init : goal.loop-i-init
loop-i-init c = no_corner_yet _ _ c.requires.lower

pub loop-i-preserved : goal.loop-i-preserved
loop-i-preserved c =
    let facts = c.args.m.now.sized.facts in
    let soil = (facts.element _ c.requires.there).soil_there in
    let is = c.element_soil-soil.ensures in
    let v = c.corner-v.ensures in
    corner_more _ _ _ c.loop-i.invariant v.same is (omega arith) (omega (arith, soil, facts.counts.soils_most, is)) refl

pub returns : goal.returns
returns c = all_corners _ _ _ c.loop-i.invariant (omega arith)
