-- `apart_from` meets its contract: the boxes are apart, or a side of the higher element parts the two, or one of the
-- lower.
use mathlib.Core.Path.{◌∙◌, refl, sym}
use Rattle.integer.proofs.Machine.{is_true}
use Rattle.outlines.proofs.ApartLaws.{by_boxes, by_higher, by_lower}
use Rattle.outlines.proofs.overlaps.BoxedMesh.apart_from.Goals as goal

pub returns-then-apart_from : goal.returns-then-apart_from
returns-then-apart_from c =
    let self = c.args.self.now in
    by_boxes _ self.turned self.boxed c.args.d c.args.e c.requires.lower_there c.requires.there
    (is_true refl (sym c.if-apart_from.ensures))

pub returns-then-parted_by : goal.returns-then-parted_by
returns-then-parted_by c = c.if-parted_by.true ∙ by_higher _ _ _ (sym c.if-parted_by.ensures)

pub returns-else-parted_by : goal.returns-else-parted_by
returns-else-parted_by c = c.parted_by-else-parted_by.ensures ∙ by_lower _ _ _ (sym c.if-parted_by.ensures)
