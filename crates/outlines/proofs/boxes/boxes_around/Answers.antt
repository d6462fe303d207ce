-- `boxes_around` meets its contract: one element more, which reaches as far as the furthest so far.
use mathlib.Core.Path.{◌≡◌}
use mir.Syntax.{w64}
use mir.Val.{to_z, of_z}
use mir.Facts.{to_z-of_z}
use Rattle.outlines.specs.declared.boxes.Boxed.{Boxed}
use Rattle.outlines.proofs.BoxLaws.{one_box_more}
use borrow.Author.Rules.{rules}
use Rattle.outlines.proofs.boxes.boxes_around.Goals as goal

pub loop-e-preserved : goal.loop-e-preserved
loop-e-preserved g c =
    let right = c.higher-right in
    let top = c.higher-top in
    let own = c.box_around-own.result in
    let b : Boxed = record { own = own; right = right.result; top = top.result } in
    let read_right : to_z w64 (of_z w64 right.result) ≡ right.result = to_z-of_z {w = w64} (search rules) in
    let read_top : to_z w64 (of_z w64 top.result) ≡ top.result = to_z-of_z {w = w64} (search rules) in
    let own_right : to_z w64 (of_z w64 own.right) ≡ own.right = to_z-of_z {w = w64} (search rules) in
    let own_top : to_z w64 (of_z w64 own.top) ≡ own.top = to_z-of_z {w = w64} (search rules) in
    rw (c.push.ensures.items, read_right, read_top)
    (one_box_more _ c.loop-e.invariant b c.box_around-own.ensures right.ensures.first
    (rw own_right at right.ensures.second) top.ensures.first (rw own_top at top.ensures.second))
