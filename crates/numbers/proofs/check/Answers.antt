-- `check` meets its contract: the claim's flag, and the verdict of the check.
use mathlib.Core.Path.{◌∙◌, ap₂}
use Rattle.scope.specs.Columns.{has_field}
use Rattle.numbers.specs.NumbersAnswer.{answer_of}
use Rattle.numbers.proofs.check.Goals as goal

pub returns : goal.returns
unfolding has_field
returns c = c.answer_of.ensures ∙ ap₂ answer_of c.has_part.ensures c.check_numbers.ensures
