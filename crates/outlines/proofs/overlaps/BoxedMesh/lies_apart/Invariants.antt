-- `lies_apart` meets its contract. The invariant: the element is apart from those passed, which are the nearest below
-- it.
use Rattle.outlines.proofs.ApartLaws.{ApartDownTo}
use Rattle.outlines.proofs.overlaps.BoxedMesh.lies_apart.Given as goal

abbrev pub invariant-loop-d : goal.invariant-loop-d
invariant-loop-d l = ApartDownTo l.self.mesh.numbers.now l.e l.d
