-- `run_claims` meets its contract. The loop's invariant: the claims that are done have their reports, and those that
-- are left get theirs as in a run of their own.
use Prim.Native.Nat.{◌*◌}
use Rattle.report.specs.Report.{report_bytes}
use Rattle.run.proofs.RunLaws.{SoFar}
use Rattle.run.proofs.run_claims.Given as goal

abbrev pub invariant-loop-count : goal.invariant-loop-count
invariant-loop-count l =
    SoFar l.m.mesh.numbers.now l.claims l.initial.reports l.at (l.count * report_bytes) l.count l.reports
