-- `reader::column::said` meets its contract: each phase has one of the three answers.
use native.Mathlib.Omega.{arith}
use Rattle.integer.proofs.Machine.{machine, casts, exact}
use Rattle.reader.proofs.OnePass.{said_none, said_down, said_up}
use Rattle.reader.proofs.column.said.Goals as goal

pub returns-in-18 : goal.returns-in-18
returns-in-18 c =
    said_up c.args.c _ (omega (arith, c.in-18.is)) (λ e. omega (arith, c.in-18.is))
    (exact (search (machine, casts) depth 30) (omega arith))

pub returns-in-30 : goal.returns-in-30
returns-in-30 c = said_down c.args.c _ c.in-30.is (exact (search (machine, casts) depth 30) (omega arith))

pub returns-in_default : goal.returns-in_default
returns-in_default c = said_none c.args.c (λ e. grind arith) (λ e. grind arith) (λ e. grind arith)
