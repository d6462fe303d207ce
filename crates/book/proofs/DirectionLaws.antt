-- A book takes no carried load from a mesh that lists a soil by direction: a verdict there tells none.
use mathlib.Core.Path.{◌≡◌, refl, sym, ◌∙◌, ap}
use mathlib.Core.Logic.{◌⊎◌, inl, inr}
use mathlib.Core.List.{List}
use Prim.Native.Nat.{ℕ}
use native.Mathlib.Omega.{arith}
use lib.IntN.{ℤ}
use Rattle.scope.specs.declared.Place.{Place}
use Rattle.scope.specs.Cases.Load.{Load, Absent}
use Rattle.scope.specs.Cases.OpenRows.{OpenRows}
use Rattle.scope.specs.Cases.Verdict.{Verdict, Accepted, Refused}
use Rattle.scope.specs.Mesh.{ListsDirection}
use Rattle.scope.specs.Verdict.{open_count, lower_load, upper_load, verdict}
use Rattle.scope.proofs.Decides.{is_yes}
use Rattle.scope.proofs.Directions.{lists_direction}
use Rattle.scope.proofs.Exactly.{verdict_cases}
use Rattle.verdict.proofs.PartLaws.{load_untold}
use Rattle.judge.specs.Handed.{mesh_of, claim_of, handed_verdict}
use Rattle.book.specs.declared.bounds.Bound.TheVariants.{Lower}
use Rattle.book.specs.Book.{moved, followed}
use Rattle.book.specs.History.{NoLoadByDirection}
use Rattle.book.proofs.VerdictLaws.{accepted_read}

none_told : (m c : List ℤ) → ListsDirection m → (o : OpenRows) (x y : Load) → verdict m c ≡ Accepted o x y → x ≡ Absent
none_told m c h o x y e = by (verdict_cases m c)
  where
    by : ((k : ℕ) × (p : Place) × (verdict m c ≡ Refused k p))
        ⊎ (verdict m c ≡ Accepted (open_count m c) (lower_load m c) (upper_load m c)) → x ≡ Absent
    by (inl (k, p, r)) = let z : ◌≡◌ {A = ℕ} 0 1 = cc in absurd (omega arith)
    by (inr r) = let lower : lower_load m c ≡ x = cc in sym lower ∙ sym (load_untold m c (is_yes (lists_direction m) h))

pub no_load_by_direction : NoLoadByDirection
unfolding followed moved
no_load_by_direction b a h = by (handed_verdict a) refl
  where
    by : (v : Verdict) → handed_verdict a ≡ v → (followed b v).lower ≡ b.lower
    by (Refused k p) e = refl
    by (Accepted o x y) e =
        ap (λ (z : Load). moved Lower b.lower z) (none_told (mesh_of a) (claim_of a) h o x y (accepted_read a o x y e))
