-- A small step from z towards w leaves z on the left of the lines that it is left of: the step is one part in K, with K
-- above what the lines are below 0 at w.
use mathlib.Core.Path.{refl}
use mathlib.Core.List.Memᴰ
use mathlib.Core.List.{List, [], ◌∷◌}
use mathlib.Core.Logic.{⊎_elim}
use Prim.Native.Nat.{ℕ, suc, ◌+◌}
use native.Mathlib.Omega.{arith}
use lib.IntN.{ℤ, pos, negsuc, ◌+ℤ◌, ◌-ℤ◌, neg_ℤ, nat_abs}
use lib.Signed.{◌≤ℤ◌, ◌<ℤ◌, lt_z_yes}
use Rattle.integer.proofs.Ring.{ring, terms}
use Rattle.integer.proofs.Order.{by_pos, nn_diff, ≤ℤ_trans, +ℤ_mono, +ℤ_mono_<, *ℤ_nonneg, nonneg, <ℤ→suc≤ℤ, pos_≤ℤ}
use Rattle.integer.proofs.Order.{≡→≤ℤ}
use Rattle.integer.proofs.Linear.{linear, facts, nothing}
use Rattle.integer.specs.Members.{◌∈◌}
use Rattle.plane.specs.Points.{Point}
use Rattle.plane.proofs.Lists.{empty}
use Rattle.plane.proofs.Lines.{Line, value, Above, mix, value_mix}

below_size : (a : ℤ) → neg_ℤ a ≤ℤ pos (nat_abs a)
below_size (pos n) = linear nothing (search facts depth 40) (omega arith)
below_size (negsuc n) = ≡→≤ℤ refl

-- a bound of what the lines of a list are below 0 at w
depth : List Line → Point → ℕ
depth [] w = 0
depth (f ∷ L) w = nat_abs (value f w) + depth L w

depth_bounds : (L : List Line) (w : Point) (f : Line) → f ∈ L → neg_ℤ (value f w) ≤ℤ pos (depth L w)
unfolding depth
depth_bounds [] w f k = empty k
depth_bounds (g ∷ L) w f k =
    ⊎_elim
    (λ e. rw e (≤ℤ_trans (below_size (value g w)) (pos_≤ℤ (omega arith))))
    (λ j. ≤ℤ_trans (depth_bounds L w f j) (pos_≤ℤ (omega arith)))
    (Memᴰ.cases_cons k)

pub step_length : List Line → Point → ℤ
step_length L w = pos (suc (depth L w))

pub step_positive : (L : List Line) (w : Point) → pos 0 <ℤ step_length L w
unfolding step_length
step_positive L w = linear nothing (search facts depth 40) (omega arith)

pub step_above : (L : List Line) (z w : Point) → Above L z → Above L (mix (step_length L w) z (pos 1) w)
unfolding step_length
step_above L z w h f k =
    let one : pos 0 ≤ℤ (value f z -ℤ pos 1) = nn_diff (<ℤ→suc≤ℤ (h f k)) in
    let far : pos 0 ≤ℤ (pos (depth L w) +ℤ value f w) = linear (depth_bounds L w f k) (search facts depth 40)
    (omega arith) in
    rw (value_mix f (pos (suc (depth L w))) z (pos 1) w)
    (by_pos
    (+ℤ_mono_< {a = pos 0} {b = pos 1} (lt_z_yes tt) (+ℤ_mono (*ℤ_nonneg (nonneg (suc (depth L w))) one) far))
    (ring (pos (depth L w) ∷ value f z ∷ value f w ∷ []) (search terms depth 100) refl))
