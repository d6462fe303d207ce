-- A blank column with the digits of a number at its end.
use native.Mathlib.Omega.{arith}
use Rattle.report.proofs.ColumnLaws.{decimal_short, digits_column}
use Rattle.report.proofs.column.number_column.Goals as goal

pub write_digits-requires : goal.write_digits-requires
write_digits-requires c = omega (arith, decimal_short 20 c.args.k)

pub returns : goal.returns
returns c = search digits_column
