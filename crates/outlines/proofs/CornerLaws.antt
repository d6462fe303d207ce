-- What the machine has of an element's corners and turns is what the definitions ask.
use mathlib.Core.Path.{◌≡◌, refl, sym, ◌∙◌, ap, ap₂}
use mathlib.Core.Bool.{Bool, true}
use mathlib.Core.List.{List}
use Prim.Native.Nat.{ℕ, ◌+◌, ◌-◌, ◌%◌, ◌≤◌, ◌<◌}
use native.Mathlib.Omega.{arith}
use lib.IntN.{ℤ, pos, ◌-ℤ◌, ◌*ℤ◌}
use lib.Signed.{lt_z}
use Rattle.integer.specs.Bounds.{Is}
use Rattle.integer.proofs.Machine.{is_true}
use Rattle.mesh.specs.declared.sizes.Sizes.{Sizes}
use Rattle.mesh.specs.MeshContracts.{Sized}
use Rattle.scope.specs.Mesh.{nodes, elements, corner, corner_count, around}
use Rattle.scope.specs.Checks.{all_below}
use Rattle.scope.specs.Tests.{turn, left_turn_at, left_turns}
use Rattle.scope.proofs.Statements.{left_turns_lem}
use Rattle.scope.proofs.Triangles.{around_below, around_is}
use Rattle.lines.proofs.Loops.{each_below}
use Rattle.outlines.specs.OutlineContracts.{Turned}

pub around_corner : (m : List ℤ) (e i : ℕ) {n : ℕ} → n ≡ corner_count m e → corner m e (i % n) ≡ around m e i
around_corner m e i h = sym (around_is m e i _ (sym h))

pub around_there : {m : List ℤ} {s : Sizes} → Sized m s → {e : ℕ} → e < elements m → (i : ℕ) → around m e i < nodes m
unfolding around
around_there {m} k {e} l i = (k.facts.element e l).corner_there (i % corner_count m e) (around_below m e i)

-- a cross product of numbers that the machine has
pub cross_from : {ux uy vx vy p q r s : ℤ} {A B C D : ℕ} → Is ux p A → Is uy q B → Is vx r C → Is vy s D
    → ux *ℤ vy -ℤ vx *ℤ uy ≡ p *ℤ s -ℤ r *ℤ q
cross_from d e f g = ap₂ ◌-ℤ◌ (ap₂ ◌*ℤ◌ d.same g.same) (ap₂ ◌*ℤ◌ f.same e.same)

pub left_turn_from : (m : List ℤ) (e i : ℕ) {r : Bool} {a b c n : ℕ} → n ≡ corner_count m e
    → a ≡ around m e (i + (n - 1)) → b ≡ around m e i → c ≡ around m e (i + 1) → r ≡ lt_z (pos 0) (turn m a b c)
    → r ≡ left_turn_at m e i
unfolding left_turn_at
left_turn_from m e i n d f g h = h ∙ ap (lt_z (pos 0)) (ap₃ (d ∙ ap (λ (k : ℕ). around m e (i + (k - 1))) n) f g)
  where
    ap₃ : {a b c a' b' c' : ℕ} → a ≡ a' → b ≡ b' → c ≡ c' → turn m a b c ≡ turn m a' b' c'
    ap₃ d f g = λ k. turn m (d k) (f k) (g k)

-- the elements passed turn left, and they are all
pub turned : (m : List ℤ) {e : ℕ} → all_below (left_turns m) e ≡ true → elements m ≤ e → Turned m
turned m {e} h l = record {
  left = λ k j. (left_turns_lem m k).holds (is_true refl (each_below (left_turns m) e h k (omega arith)));
}
