-- `holds` meets its contract: an unfixed row holds, and else the machine's test is the test of the two sides.
use mathlib.Core.Path.{◌≡◌, ◌∙◌}
use native.Mathlib.Omega.{arith}
use Prim.Native.Nat.{ℕ}
use lib.IntN.{ℤ, ◌+ℤ◌, ◌*ℤ◌}
use mathlib.Core.Bool.{true}
use mathlib.Core.List.{List}
use Rattle.std.proofs.Common.{map}
use Rattle.integer.specs.Tests.{eq_z}
use Rattle.integer.proofs.Machine.{machine, decides}
use Rattle.scope.specs.Sums.{weighted_sum, left_side, right_side, row_holds}
use Rattle.equality.specs.declared.row.Term.{Term}
use Rattle.equality.specs.declared.row.EqualityRow.{EqualityRow}
use Rattle.equality.specs.EqualityContracts.{entry_of, terms_of, row_of}
use Rattle.equality.proofs.EqualityLaws.{read}
use Rattle.equality.proofs.row.EqualityRow.holds.Goals as goal

-- the test of the two sides, of a row that asks: its terms and its live coefficient are lent
sides_tested : (s : ℕ → ℤ) (l n : ℤ) (r : EqualityRow) {ts : List Term} {live load : ℤ} → r.asked ≡ true
    → ts ≡ terms_of r.terms → live ≡ r.live → load ≡ l
    → eq_z (weighted_sum s (map entry_of ts) +ℤ live *ℤ load) (r.right *ℤ n) ≡ row_holds s l n (row_of r)
unfolding row_holds row_of left_side right_side
sides_tested s l n r e terms live load = rw (terms, live, load, e)

pub returns-then-not-self : goal.returns-then-not-self
unfolding row_holds row_of
returns-then-not-self c = rw c.if-not-self.true

pub returns-else-not-self : goal.returns-else-not-self
returns-else-not-self c =
    let r = c.args.self.now in
    let right = r.right_fits in
    let scale = c.requires.scale_fits in
    decides (search machine depth 30) (omega arith)
    ∙ sides_tested _ _ _ r c.if-not-self.false c.terms.ensures.terms
    (read r.live_fits (omega arith)) (read c.requires.load_fits (omega arith))
