-- The check of a field: a row that is asked is the row at its place, and rows that pass after others that do, by
-- induction on how many.
use mathlib.Core.Path.{◌≡◌, sym, ◌∙◌, ap, subst}
use mathlib.Core.Bool.{Bool, true}
use Prim.Native.Nat.{ℕ, zero, suc, ◌+◌, ◌<◌}
use native.Mathlib.Nat.{add-zero}
use native.Mathlib.Omega.{arith}
use Rattle.criterion.specs.declared.fields.Field.{Field}
use Rattle.scope.specs.Checks.{all_below}
use Rattle.scope.specs.Columns.{at}
use Rattle.scope.specs.Rows.{Row, equality_rows}
use Rattle.scope.specs.Sums.{row_holds}
use Rattle.scope.specs.Tests.{row_at}
use Rattle.lines.proofs.Loops.{all_more, each_below}
use Rattle.verdict.specs.FieldContracts.{passes}

pub passes_at : (f : Field) {row : Row} {b : Bool} {k l : ℕ} → b ≡ row_holds (at f.stresses.now) f.l f.n row
    → row ≡ row_at (equality_rows f.mesh.mesh.numbers.now) k → k ≡ l → b ≡ passes f l
passes_at f e is place =
    e ∙ ap (row_holds (at f.stresses.now) f.l f.n)
    (is ∙ ap (row_at (equality_rows f.mesh.mesh.numbers.now)) place)

all_on : (f : ℕ → Bool) (k n : ℕ) → all_below f k ≡ true → ((i : ℕ) → i < n → f (k + i) ≡ true)
    → all_below f (k + n) ≡ true
all_on f k zero h g = subst (λ n. all_below f n ≡ true) (sym (add-zero k)) h
all_on f k (suc n) h g =
    let place : k + n + 1 ≡ k + suc n = omega arith in
    subst (λ n. all_below f n ≡ true) place
    (all_more f (all_on f k n h (λ i l. g i (omega arith))) (g n (omega arith)))

pub more_pass : (f : ℕ → Bool) (k n : ℕ) {l : ℕ} → all_below f k ≡ true → all_below (λ i. f (k + i)) n ≡ true
    → k + n ≡ l → all_below f l ≡ true
more_pass f k n h g e =
    subst (λ n. all_below f n ≡ true) e (all_on f k n h (each_below (λ i. f (k + i)) n g))
