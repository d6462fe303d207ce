-- What jump rows mean: normal and shear are the traction turned by the step, whose length is not 0 where the mesh turns
-- left; the sides of a joint by what 44 asks.
use mathlib.Core.Path.{◌≡◌, refl, sym, ◌∙◌, ap, ap₂, subst, subst₂}
use mathlib.Core.Logic.{◌⊎◌, inl, inr}
use mathlib.Core.List.{List, [], ◌∷◌, ◌++◌, append-nil}
use Prim.Native.Nat.{ℕ, zero, suc, ◌+◌, ◌-◌, ◌<◌}
use native.Mathlib.Decide.{dec_lt}
use native.Mathlib.Omega.{arith}
use lib.Dec.{lt→ltb}
use lib.IntN.{ℤ, pos, negsuc, ◌+ℤ◌, ◌-ℤ◌, ◌*ℤ◌, neg_ℤ}
use lib.Signed.{◌<ℤ◌, <ℤ_irrefl}
use Rattle.integer.proofs.Ring.{ring, ring_from, sides as both_sides, terms}
use Rattle.integer.proofs.Order.{by_pos, square_nonneg, +ℤ_mono_<, *ℤ_pos, *ℤ_cancel}
use Rattle.integer.specs.Members.{◌∈◌}
use Rattle.scope.specs.Mesh.{jumps, x, y, corner_count, around, from_node, to_node, jump_from, jump_to}
use Rattle.scope.specs.Rows.{sx, sy, t, count_from, joined, balance_rows, side_rows, jump_step_x, jump_step_y}
use Rattle.scope.specs.Rows.{agree_row, jump_normal, jump_shear, jump_rows, equality_rows}
use Rattle.scope.specs.Sums.{weighted_sum, left_side}
use Rattle.scope.specs.Tests.{turn}
use Rattle.scope.specs.Statements.{LeftTurns, SideAt, IsSide, UsedByJump, FreeSide, Joint, MeshSound}
use Rattle.scope.specs.Printed.{MeetsPrinted}
use Rattle.scope.specs.Jumps.{JumpMeaning, SameTraction, jump_sides, SoundJumps, TipAsksNothing, NoJumps}
use Rattle.scope.proofs.Lists.{each_nil, each_cons}

-- ---- traction

pub jump_meaning : (u w : ℤ) → pos 0 <ℤ (u *ℤ u +ℤ w *ℤ w) → JumpMeaning u w
jump_meaning u w long = record {
  same_traction = λ a b c p q r. (
    λ h. (
      *ℤ_cancel long (ring_from w h.0
          (ring_from u h.1 (ring (u ∷ w ∷ a ∷ b ∷ c ∷ p ∷ q ∷ r ∷ [])
          (both_sides (search terms depth 200 fits 100000) (search terms depth 200 fits 100000)) refl))),
      *ℤ_cancel long (ring_from (neg_ℤ u) h.0
          (ring_from w h.1 (ring (u ∷ w ∷ a ∷ b ∷ c ∷ p ∷ q ∷ r ∷ [])
          (both_sides (search terms depth 200 fits 100000) (search terms depth 200 fits 100000)) refl))),
    ),
    λ h. (
      ring_from w h.0 (ring_from (neg_ℤ u) h.1
          (ring (u ∷ w ∷ a ∷ b ∷ c ∷ p ∷ q ∷ r ∷ [])
          (both_sides (search terms depth 200 fits 100000) (search terms depth 200 fits 100000)) refl)),
      ring_from u h.0 (ring_from w h.1
          (ring (u ∷ w ∷ a ∷ b ∷ c ∷ p ∷ q ∷ r ∷ [])
          (both_sides (search terms depth 200 fits 100000) (search terms depth 200 fits 100000)) refl)),
    ),
  );
  along_is_free = λ a b c k. (
    ring (u ∷ w ∷ a ∷ b ∷ c ∷ k ∷ []) (search terms depth 100) refl,
    ring (u ∷ w ∷ a ∷ b ∷ c ∷ k ∷ []) (search terms depth 100) refl,
  );
}

-- ---- the length of a side

square_or_zero : (a : ℤ) → (a ≡ pos 0) ⊎ (pos 0 <ℤ (a *ℤ a))
square_or_zero (pos zero) = inl refl
square_or_zero (pos (suc n)) =
    inr (*ℤ_pos {a = pos (suc n)} {b = pos (suc n)} (record { lt = lt→ltb 0 (suc n) (omega arith) })
    (record { lt = lt→ltb 0 (suc n) (omega arith) }))
square_or_zero (negsuc n) =
    inr (*ℤ_pos {a = pos (suc n)} {b = pos (suc n)} (record { lt = lt→ltb 0 (suc n) (omega arith) })
    (record { lt = lt→ltb 0 (suc n) (omega arith) }))

long_step : (u w : ℤ) → ¬ ((u ≡ pos 0) × (w ≡ pos 0)) → pos 0 <ℤ (u *ℤ u +ℤ w *ℤ w)
long_step u w some = by (square_or_zero u) (square_or_zero w)
  where
    by : (u ≡ pos 0) ⊎ (pos 0 <ℤ (u *ℤ u)) → (w ≡ pos 0) ⊎ (pos 0 <ℤ (w *ℤ w)) → pos 0 <ℤ (u *ℤ u +ℤ w *ℤ w)
    by (inr h) k = +ℤ_mono_< h (square_nonneg w)
    by (inl e) (inr k) = subst (λ z. pos 0 <ℤ (z *ℤ z +ℤ w *ℤ w)) (sym e)
        (by_pos k (ring (w ∷ []) (search terms depth 100) refl))
    by (inl e) (inl f) = absurd (some (e, f))

-- a left turn at its end leaves a side some length
turn_long : (m : List ℤ) (z a b : ℕ) → pos 0 <ℤ turn m z a b → ¬ ((x m b -ℤ x m a ≡ pos 0) × (y m b -ℤ y m a ≡ pos 0))
unfolding turn
turn_long m z a b h e = <ℤ_irrefl (subst (λ k. pos 0 <ℤ k) flat h)
  where
    flat : turn m z a b ≡ pos 0
    flat =
        ring_from (x m a -ℤ x m z) e.1
        (ring_from (neg_ℤ (y m a -ℤ y m z)) e.0
        (ring (x m a ∷ x m b ∷ x m z ∷ y m a ∷ y m b ∷ y m z ∷ []) (search terms depth 100) refl))

side_long : (m : List ℤ) (a b e i : ℕ) → LeftTurns m e → i < corner_count m e → SideAt m a b e i
    → ¬ ((x m b -ℤ x m a ≡ pos 0) × (y m b -ℤ y m a ≡ pos 0))
side_long m a b e i left h s =
    let z : ℕ = around m e (i + (corner_count m e - 1)) in
    turn_long m z a b (subst₂ (λ (p q : ℕ). pos 0 <ℤ turn m z p q) s.0 s.1 (left i h))

-- ---- joints

module _ (m : List ℤ) where
  uses : (j : ℕ) (a : ℕ × ℕ) → a ∈ jump_sides m j → UsedByJump m a.0 a.1 j
  uses j = each_cons P (inl (refl, refl)) (each_cons P (inr (refl, refl)) (each_nil P))
    where
      P : ℕ × ℕ → Type 0
      P a = UsedByJump m a.0 a.1 j

  free : (j : ℕ) → Joint m j → (a : ℕ × ℕ) → a ∈ jump_sides m j → FreeSide m j a.0 a.1
  free j h = each_cons P h.side (each_cons P h.facing (each_nil P))
    where
      P : ℕ × ℕ → Type 0
      P a = FreeSide m j a.0 a.1

  pub sound_jumps : MeshSound m → SoundJumps m
  unfolding jump_step_x jump_step_y
  sound_jumps s = record {
    outer = λ j h a i. (free j (s.joints j h) a i).outer;
    one_jump = λ j k h g a i l. once j k h g a i l (dec_lt j k) (dec_lt k j);
    no_edge = λ j g h k i. (free j (s.joints j h) (from_node m g, to_node m g) i).no_edge g k (refl, refl);
    has_length = λ j h. long j (s.joints j h).side.outer.is_side;
    facing_step = λ j h. let p = s.joints j h in (
      turned p.at_from.0 p.at_to.0,
      turned p.at_from.1 p.at_to.1,
    );
  }
    where
      once : (j k : ℕ) → j < jumps m → k < jumps m → (a : ℕ × ℕ) → a ∈ jump_sides m j → a ∈ jump_sides m k
          → Dec (j < k) → Dec (k < j) → j ≡ k
      once j k h g a i l (yes d) e = absurd ((free k (s.joints k g) a l).no_earlier_jump j d (uses j a i))
      once j k h g a i l (no d) (yes e) = absurd ((free j (s.joints j h) a i).no_earlier_jump k e (uses k a l))
      once j k h g a i l (no d) (no e) = omega arith

      long : (j : ℕ) → IsSide m (jump_from m j) (jump_to m j)
          → pos 0 <ℤ (jump_step_x m j *ℤ jump_step_x m j +ℤ jump_step_y m j *ℤ jump_step_y m j)
      long j i = long_step (jump_step_x m j) (jump_step_y m j)
          (side_long m (jump_from m j) (jump_to m j) i.element i.place (s.left_turns i.element i.there) i.inside i.same)

      turned : {a b c d : ℤ} → a ≡ b → c ≡ d → b -ℤ d ≡ neg_ℤ (c -ℤ a)
      turned {a} {b} {c} {d} e f = ap₂ (λ p q. p -ℤ q) (sym e) (sym f) ∙ ring (a ∷ c ∷ []) (search terms depth 100) refl

  -- ---- rows

  pub tip_asks_nothing : TipAsksNothing m
  unfolding jump_normal jump_shear agree_row left_side weighted_sum
  tip_asks_nothing s l j v = (
    ring (jump_step_x m j ∷ jump_step_y m j ∷ s (sx v) ∷ s (sy v) ∷ s (t v) ∷ l ∷ [])
        (both_sides (search terms depth 200 fits 100000) (search terms depth 200 fits 100000)) refl,
    ring (jump_step_x m j ∷ jump_step_y m j ∷ s (sx v) ∷ s (sy v) ∷ s (t v) ∷ l ∷ [])
        (both_sides (search terms depth 200 fits 100000) (search terms depth 200 fits 100000)) refl,
  )

  pub no_jumps : NoJumps m
  unfolding equality_rows jump_rows joined count_from
  no_jumps e = rw e (ap (λ rs. balance_rows m ++ rs) (append-nil (side_rows m)))

  -- a field that meets the printed rows
  pub same_traction : MeshSound m → (s : ℕ → ℤ) (l n : ℤ) → MeetsPrinted m s l n → (j : ℕ) → j < jumps m
      → SameTraction m s j
  same_traction sound s l n f j h =
      let side = jump_meaning (jump_step_x m j) (jump_step_y m j) ((sound_jumps sound).has_length j h) in
      record {
        at_from = (side.same_traction _ _ _ _ _ _).0 (f.jump_normal_from j h, f.jump_shear_from j h);
        at_to = (side.same_traction _ _ _ _ _ _).0 (f.jump_normal_to j h, f.jump_shear_to j h);
      }
