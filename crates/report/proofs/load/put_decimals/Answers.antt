-- Behind a one the decimals are written with their zeros, and the point goes over it.
use mathlib.Core.Path.{ap}
use native.Mathlib.Omega.{arith}
use lib.ListN.{length}
use Rattle.report.proofs.LoadLaws.{no_place, no_decimals, after_one_short, point_room, point_place, with_point}
use Rattle.report.proofs.load.put_decimals.Goals as goal

pub returns-then-d-eq0 : goal.returns-then-d-eq0
returns-then-d-eq0 c = record { place = search no_place; text = search no_decimals }

pub write_digits-point-requires : goal.write_digits-point-requires
write_digits-point-requires c = (search after_one_short, omega (arith, ap length c.requires.blank))

pub bounds-column-point : goal.bounds-column-point
bounds-column-point c = search point_room

pub returns : goal.returns
returns c = record { place = search point_place; text = search with_point }
