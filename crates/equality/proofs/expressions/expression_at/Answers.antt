-- `expression_at` meets its contract: each coefficient is computed as the definition says.
use mathlib.Core.Path.{◌∙◌}
use native.Mathlib.Omega.{arith}
use Rattle.integer.proofs.Machine.{machine, fits, bounded, exact}
use Rattle.scope.specs.Rows.{sx, sy, t}
use Rattle.equality.proofs.expressions.expression_at.Goals as goal

pub overflow_sub-u : goal.overflow_sub-u
overflow_sub-u c =
    fits (search machine depth 30) (omega arith)

pub new-requires-in-Normal : goal.new-requires-in-Normal
new-requires-in-Normal c =
    bounded (search machine depth 30) (omega arith)

pub overflow_mul-u-in-Normal-2 : goal.overflow_mul-u-in-Normal-2
overflow_mul-u-in-Normal-2 c =
    fits (search machine depth 30) (omega arith)

pub new-requires-in-Normal-2 : goal.new-requires-in-Normal-2
new-requires-in-Normal-2 c =
    bounded (search machine depth 30) (omega arith)

pub new-requires-in-Shear : goal.new-requires-in-Shear
new-requires-in-Shear c =
    bounded (search machine depth 30) (omega arith)

pub overflow_mul-w-in-Shear : goal.overflow_mul-w-in-Shear
overflow_mul-w-in-Shear c =
    fits (search machine depth 30) (omega arith)

pub overflow_mul-u-in-Shear-3 : goal.overflow_mul-u-in-Shear-3
overflow_mul-u-in-Shear-3 c =
    fits (search machine depth 30) (omega arith)

pub overflow_sub-w : goal.overflow_sub-w
overflow_sub-w c =
    fits (search machine depth 30) (omega arith)

pub new-requires-in-Shear-3 : goal.new-requires-in-Shear-3
new-requires-in-Shear-3 c =
    bounded (search machine depth 30) (omega arith)

pub returns-in-Normal : goal.returns-in-Normal
unfolding sx sy t
returns-in-Normal c =
    let a = c.new.ensures in
    let b = c.new-in-Normal.ensures in
    let d = c.new-in-Normal-2.ensures in
    rw (
      c.in-Normal.is,
      a.column,
      b.column,
      d.column,
      a.coefficient ∙ exact (search machine depth 30) (omega arith),
      b.coefficient ∙ exact (search machine depth 30) (omega arith),
      d.coefficient ∙ exact (search machine depth 30) (omega arith),
    )

pub returns-in-Shear : goal.returns-in-Shear
unfolding sx sy t
returns-in-Shear c =
    let a = c.new-in-Shear.ensures in
    let b = c.new-in-Shear-2.ensures in
    let d = c.new-in-Shear-3.ensures in
    rw (
      c.in-Shear.is,
      a.column,
      b.column,
      d.column,
      a.coefficient ∙ exact (search machine depth 30) (omega arith),
      b.coefficient ∙ exact (search machine depth 30) (omega arith),
      d.coefficient ∙ exact (search machine depth 30) (omega arith),
    )
