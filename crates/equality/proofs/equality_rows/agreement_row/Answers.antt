-- `agreement_row` meets its contract.
use Rattle.scope.specs.Rows.{agree_row}
use Rattle.equality.specs.EqualityContracts.{row_of}
use Rattle.equality.proofs.equality_rows.agreement_row.Goals as goal

pub returns : goal.returns
unfolding row_of agree_row
returns c =
    rw (
      c.opposite.ensures.column,
      c.opposite-2.ensures.column,
      c.opposite-3.ensures.column,
      c.opposite.ensures.coefficient,
      c.opposite-2.ensures.coefficient,
      c.opposite-3.ensures.coefficient,
    )
