-- `circle_of` meets its contract: each polygon's radius and the coordinates of its corners, by computing.
use mathlib.Core.Path.{sym, ap}
use native.Mathlib.Omega.{arith}
use Rattle.scope.specs.Polygon.{polygon_of}
use Rattle.criterion.specs.StrengthContracts.{pairs_of}
use Rattle.criterion.proofs.SideLaws.{last_listed, shown}
use Rattle.criterion.proofs.polygons.circle_of.Goals as goal

pub returns-in-12-clause-radius : goal.returns-in-12-clause-radius
unfolding shown
returns-in-12-clause-radius c = ap (λ k. (polygon_of k).radius) (sym c.in-12.is)

pub returns-in-12-clause-corners : goal.returns-in-12-clause-corners
unfolding shown
returns-in-12-clause-corners c = ap (λ k. pairs_of (polygon_of k).corners) (sym c.in-12.is)

pub returns-in-20-clause-radius : goal.returns-in-20-clause-radius
unfolding shown
returns-in-20-clause-radius c = ap (λ k. (polygon_of k).radius) (sym c.in-20.is)

pub returns-in-20-clause-corners : goal.returns-in-20-clause-corners
unfolding shown
returns-in-20-clause-corners c = ap (λ k. pairs_of (polygon_of k).corners) (sym c.in-20.is)

pub returns-in-36-clause-radius : goal.returns-in-36-clause-radius
unfolding shown
returns-in-36-clause-radius c = ap (λ k. (polygon_of k).radius) (sym c.in-36.is)

pub returns-in-36-clause-corners : goal.returns-in-36-clause-corners
unfolding shown
returns-in-36-clause-corners c = ap (λ k. pairs_of (polygon_of k).corners) (sym c.in-36.is)

pub returns-in_default-clause-radius : goal.returns-in_default-clause-radius
unfolding shown
returns-in_default-clause-radius c =
    ap (λ k. (polygon_of k).radius)
    (sym (last_listed c.requires (λ e. omega arith) (λ e. omega arith) (λ e. omega arith)))

pub returns-in_default-clause-corners : goal.returns-in_default-clause-corners
unfolding shown
returns-in_default-clause-corners c =
    ap (λ k. pairs_of (polygon_of k).corners)
    (sym (last_listed c.requires (λ e. omega arith) (λ e. omega arith) (λ e. omega arith)))
