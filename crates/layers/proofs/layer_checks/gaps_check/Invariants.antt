-- `gaps_check` meets its contract. The invariant: all heights from lo to below h are in some layer. The measure: h
-- rises.
use Prim.Native.Nat.{suc, ◌≤◌, ◌-◌}
use Rattle.layers.proofs.GapLaws.{Covered}
use Rattle.layers.proofs.layer_checks.gaps_check.Given as goal

abbrev pub invariant-loop-h : goal.invariant-loop-h
invariant-loop-h l = record
    { risen : l.fn.heights.lo ≤ l.h; covered : Covered l.layers.numbers.now l.fn.heights.lo l.h }

abbrev pub decreases-loop-h : goal.decreases-loop-h
decreases-loop-h l = suc l.fn.heights.hi - l.h
