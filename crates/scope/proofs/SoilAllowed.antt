-- With a table, the lines of elements are judged as if 0 were a soil: a number from 0 on is 0 or one from 1 on.
use mathlib.Core.Path.{◌≡◌, refl, subst, sym}
use mathlib.Core.Logic.{◌⊎◌, inl, inr}
use mathlib.Core.List.{List}
use Prim.Native.Nat.{ℕ, zero, suc, ◌<◌}
use native.Mathlib.Omega.{arith}
use lib.IntN.{ℤ, pos, negsuc}
use lib.Signed.{◌≤ℤ◌}
use Rattle.integer.proofs.Order.{pos_≤ℤ}
use Rattle.scope.specs.Columns.{at}
use Rattle.scope.specs.Layout.{groups}
use Rattle.scope.specs.Mesh.{element_lines, layout_with, nodes, soils}
use Rattle.scope.specs.LayerRefusals.{Named, SoilAllowed, LinesWithTable}

pub zero_or_named : (k : ℕ) (z : ℤ) → pos 0 ≤ℤ z → z ≤ℤ pos k → (z ≡ pos 0) ⊎ Named k z
zero_or_named k (pos zero) l h = inl refl
zero_or_named k (pos (suc n)) l h = inr (pos_≤ℤ (omega arith), h)
zero_or_named k (negsuc n) l h = absurd l.le

named_or_zero : (k : ℕ) (z : ℤ) → (z ≡ pos 0) ⊎ Named k z → (pos 0 ≤ℤ z) × (z ≤ℤ pos k)
named_or_zero k z (inl e) = subst (λ (a : ℤ). (pos 0 ≤ℤ a) × (a ≤ℤ pos k)) (sym e)
    (pos_≤ℤ (omega arith), pos_≤ℤ (omega arith))
named_or_zero k (pos n) (inr h) = (pos_≤ℤ (omega arith), h.1)
named_or_zero k (negsuc n) (inr h) = absurd h.0.le

pub soil-allowed : (ns ss : ℕ) (line : List ℤ) → SoilAllowed ns ss line
unfolding element_lines
soil-allowed ns ss line = (
  λ h. (
    λ c l. corner c l h.0.0 h.0.1.0 h.0.1.1.0 h.0.1.1.1.0,
    zero_or_named ss (at line 4) h.0.1.1.1.1.0.0 h.0.1.1.1.1.0.1,
  ),
  λ h. (
    (
      h.0 0 (omega arith),
      (h.0 1 (omega arith), (h.0 2 (omega arith), (h.0 3 (omega arith), (named_or_zero ss (at line 4) h.1, tt)))),
    ),
    tt,
  ),
)
  where
    corner : (c : ℕ) → c < 4 → Named ns (at line 0) → Named ns (at line 1) → Named ns (at line 2)
        → Named ns (at line 3) → Named ns (at line c)
    corner zero l a b d e = a
    corner (suc zero) l a b d e = b
    corner (suc (suc zero)) l a b d e = d
    corner (suc (suc (suc zero))) l a b d e = e
    corner (suc (suc (suc (suc c)))) l a b d e = absurd (omega arith)

pub lines_with_table : (m : List ℤ) → LinesWithTable m
unfolding layout_with groups element_lines
lines_with_table m = record {
  form = refl;
  limit = refl;
  lower = refl;
  upper = refl;
  elements_there = refl;
  columns = refl;
  rules = soil-allowed (nodes m) (soils m);
}
