-- `right_angle` meets its contract: within 1000 no product and no sum leaves 64 bits.
use native.Mathlib.Omega.{arith}
use Rattle.integer.proofs.Machine.{machine, fits, decides}
use Rattle.lines.proofs.line_tests.right_angle.Goals as goal

pub overflow_mul-result : goal.overflow_mul-result
overflow_mul-result c = fits (search machine depth 30) (omega arith)

pub overflow_mul-result-2 : goal.overflow_mul-result-2
overflow_mul-result-2 c = fits (search machine depth 30) (omega arith)

pub overflow_add-result : goal.overflow_add-result
overflow_add-result c = fits (search machine depth 30) (omega arith)

pub overflow_mul-result-3 : goal.overflow_mul-result-3
overflow_mul-result-3 c = fits (search machine depth 30) (omega arith)

pub returns : goal.returns
returns c = decides (search machine depth 30) (omega arith)
