-- `NextAnswer::from` meets its contract: each arm builds what the definition says of its case.
use Rattle.std.proofs.Common.{rules}
use lib.Ieee.{of_bits}
use Rattle.strength.specs.Next.{next_answer}
use Rattle.strength.proofs.NextAnswerFromResultF64StrengthError.from.Goals as goal

pub returns-in-Ok : goal.returns-in-Ok
unfolding next_answer
returns-in-Ok c = search rules

pub returns-in-Err : goal.returns-in-Err
unfolding next_answer of_bits
returns-in-Err c = search rules
