-- The loads of every verdict of the check have denominators above 0: n of an accepted field, m of accepted multipliers.
-- With a table the verdict came early and has no loads, or is the one on the mesh that is read.
use mathlib.Core.Path.{◌≡◌, refl, sym, ◌∙◌, ap, ap₂}
use mathlib.Core.Logic.{inl, inr}
use mathlib.Core.Bool.{Bool, true, false, not, ◌&&◌, cond}
use mathlib.Core.List.{List}
use Prim.Native.Nat.{ℕ}
use native.Mathlib.Omega.{arith}
use lib.Dec.{T}
use lib.Ieee.Bits.{is_true}
use mir.Facts.{and_yes}
use lib.IntN.{ℤ, pos}
use lib.Signed.{lt_z, ◌<ℤ◌}
use Rattle.integer.proofs.TestLaws.{yes_lt_z, eq_z_yes}
use Rattle.scope.specs.Cases.Load.{Load, Absent, Exact}
use Rattle.scope.specs.Cases.OpenRows.{OpenRows}
use Rattle.scope.specs.Cases.Verdict.{Verdict, Accepted, Refused}
use Rattle.scope.specs.Columns.{n, l, has_field, has_multipliers}
use Rattle.scope.specs.Mesh.{some_by_direction}
use Rattle.scope.specs.Accepted.{ClaimAccepted}
use Rattle.scope.specs.Table.{mesh_read}
use Rattle.scope.specs.TableVerdict.{tabled_verdict}
use Rattle.scope.specs.Verdict.{lower_load, upper_load, verdict}
use Rattle.scope.proofs.Exactly.{accepted_exactly, claim_by_parts, verdict_cases}
use Rattle.scope.proofs.Parts.{field-n}
use Rattle.scope.proofs.TableVerdict.{Came, early, late, came}
use Rattle.judge.specs.Judge.{files_verdict, mesh_from}
use Rattle.judge.specs.Handed.{Handed, files, numbers, mesh_of, claim_of, handed_verdict}
use Rattle.book.specs.Book.{proper}

-- the denominators of an accepted claim's loads are above 0
unfoldable pub verdict_proper : Verdict → Bool
verdict_proper (Accepted o carried allowed) = proper carried && proper allowed
verdict_proper (Refused number place) = true

if_there : (b : Bool) (a d : ℤ) → (T b → pos 0 <ℤ d) → proper (cond b (Exact a d) Absent) ≡ true
unfolding proper
if_there true a d h = is_true (lt_z (pos 0) d) (yes_lt_z (h tt))
if_there false a d h = refl

module _ (m c : List ℤ) (a : ClaimAccepted m c) where
  lower_proper : proper (lower_load m c) ≡ true
  unfolding lower_load has_field
  lower_proper =
      if_there (has_field c && not (some_by_direction m)) (l c) (n c)
      (λ t. field-n m c (((claim_by_parts m c).0 a).2
      (eq_z_yes (and_yes (has_field c) (not (some_by_direction m)) t).0)))

  upper_proper : proper (upper_load m c) ≡ true
  unfolding upper_load has_multipliers
  upper_proper = if_there (has_multipliers c) _ _ (λ t. (a.multipliers_meet (eq_z_yes t)).live)

plain_proper : (m c : List ℤ) → verdict_proper (verdict m c) ≡ true
unfolding verdict_proper
plain_proper m c =
    elim (verdict_cases m c) [
      | inl r ↦ ap verdict_proper r.2
      | inr e ↦ let a = (accepted_exactly m c).0 e in ap verdict_proper e
          ∙ ap₂ ◌&&◌ (lower_proper m c a) (upper_proper m c a)
    ]

-- ---- with a table

module _ (t m c : List ℤ) where
  tabled_proper : verdict_proper (tabled_verdict t m c) ≡ true
  unfolding verdict_proper
  tabled_proper = by (came t m c)
    where
      by : Came t m c → verdict_proper (tabled_verdict t m c) ≡ true
      by (early k p r e) = ap verdict_proper e
      by (late f e) = ap verdict_proper e ∙ plain_proper (mesh_read t m) c

  tabled_read : (o : OpenRows) (x y : Load) → tabled_verdict t m c ≡ Accepted o x y
      → verdict (mesh_read t m) c ≡ Accepted o x y
  tabled_read o x y h = by (came t m c)
    where
      by : Came t m c → verdict (mesh_read t m) c ≡ Accepted o x y
      by (early k p r e) = let z : ◌≡◌ {A = ℕ} 0 1 = cc in absurd (omega arith)
      by (late f e) = sym e ∙ h

pub handed_proper : (a : Handed) → verdict_proper (handed_verdict a) ≡ true
unfolding handed_verdict files_verdict
handed_proper (files mesh table claim) = tabled_proper _ _ _
handed_proper (numbers m t c) = tabled_proper t m c

-- an accepted claim is accepted on the mesh that is read
pub accepted_read : (a : Handed) (o : OpenRows) (x y : Load) → handed_verdict a ≡ Accepted o x y
    → verdict (mesh_of a) (claim_of a) ≡ Accepted o x y
unfolding handed_verdict files_verdict mesh_of claim_of mesh_from
accepted_read (files mesh table claim) o x y e = tabled_read _ _ _ o x y e
accepted_read (numbers m t c) o x y e = tabled_read t m c o x y e
