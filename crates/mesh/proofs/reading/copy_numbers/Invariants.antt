-- The first i numbers are copied.
use Rattle.mesh.proofs.Copied.{Copied}
use Rattle.mesh.proofs.reading.copy_numbers.Given as goal

abbrev pub invariant-loop-i : goal.invariant-loop-i
invariant-loop-i l = Copied l.m l.initial.out l.i l.out
