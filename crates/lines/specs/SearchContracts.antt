-- The search for the lowest place that fails (document 01, 'Verdict and report': "lowest place first").
use Rattle.std.specs.Prelude.{Bool, not, ℕ}
use Rattle.scope.specs.Rows.{first_where}

-- the lowest place below n at which a test fails, or n where it holds at all of them
abbrev pub first_failing : (ℕ → Bool) → ℕ → ℕ
first_failing holds n = first_where (λ k. not (holds k)) n
