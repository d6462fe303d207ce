-- `thing` meets its contract: a number that counts from 1 is a count above 0.
use native.Mathlib.Omega.{arith}
use Rattle.mesh.proofs.Places.{one_counted}
use Rattle.mesh.proofs.Mesh.thing.Goals as goal

pub count_at-requires-clause-counted : goal.count_at-requires-clause-counted
count_at-requires-clause-counted c = (one_counted c.requires.counted).0

pub overflow_sub-result : goal.overflow_sub-result
overflow_sub-result c = omega (arith, (one_counted c.requires.counted).1)
