-- The rows of a soil by direction, two for each corner: the slack of a row is that of the definition's row, by ring
-- laws for each of the two signs of qT.
use mathlib.Core.Path.{◌≡◌, refl, sym, ◌∙◌, ap, ap₂}
use mathlib.Core.Bool.{Bool, true, false, cond, ◌&&◌}
use mathlib.Core.List.{List, [], ◌∷◌}
use Prim.Native.Nat.{ℕ, zero, suc, ◌+◌, ◌*◌, ◌%◌, ◌/◌}
use native.Mathlib.Omega.{arith}
use lib.Dec.{eqb}
use lib.IntN.{ℤ, pos, ◌+ℤ◌, ◌-ℤ◌, ◌*ℤ◌, neg_ℤ}
use borrow.Author.Tests.{ne_eqb}
use Rattle.std.proofs.Math.Bool.{and_assoc}
use Rattle.integer.specs.Bounds.{Within, Is}
use Rattle.integer.proofs.Ring.{ring, terms}
use Rattle.bedded.specs.declared.planes.Bed.{Bed}
use Rattle.bedded.specs.declared.planes.PlaneNumbers.{PlaneNumbers}
use Rattle.bedded.specs.declared.planes.Stresses.{Stresses}
use Rattle.bedded.specs.PlaneContracts.{BedIs, NumbersAre, reserve_of, shear_of, normal_x, normal_y, slack_at}
use Rattle.scope.specs.Checks.{all_below}
use Rattle.scope.specs.Mesh.{p, q, cohesion, cohesion_across}
use Rattle.scope.specs.Polygon.{Point}
use Rattle.scope.specs.Rows.{sx, sy, t, plane_row}
use Rattle.scope.specs.RowNumbers.{plus_minus}
use Rattle.scope.specs.Sums.{weighted_sum, left_side, right_side}
use Rattle.scope.specs.Mesh.{most_friction, most_cohesion}
use Rattle.scope.specs.NumberRanges.{SoilFacts}
use Rattle.scope.proofs.SumBounds.{from_0, apart}

pub being : {v z : ℤ} {B : ℕ} → v ≡ z → Within B z → Is v z B
being e h = record { same = e; inside = h }

-- ---- the numbers of a soil

module _ {m : List ℤ} {s : ℕ} (f : SoilFacts m s) where
  pub p_within : Within most_friction (p m s)
  p_within = from_0 f.p_range

  pub q_within : Within most_friction (q m s)
  q_within = from_0 f.q_range

  pub cohesion_within : Within most_cohesion (cohesion m s)
  cohesion_within = from_0 f.cohesion_range

  pub across_within : Within most_cohesion (cohesion_across m s)
  across_within = from_0 f.across_range

  pub excess_within : Within most_cohesion (cohesion_across m s -ℤ cohesion m s)
  excess_within = apart f.across_range f.cohesion_range

-- ---- the two rows of a corner

-- z for an even row, -z for an odd one
pub plus_even : (z : ℤ) (k : ℕ) → k % 2 ≡ 0 → plus_minus z k ≡ z
unfolding plus_minus
plus_even z k e = rw e

pub minus_odd : (z : ℤ) (k : ℕ) → ¬ (k % 2 ≡ 0) → plus_minus z k ≡ neg_ℤ z
unfolding plus_minus
minus_odd z k f = rw (ne_eqb (k % 2) 0 f)

less_minus : (a b : ℤ) → a +ℤ b ≡ a -ℤ neg_ℤ b
less_minus a b = ring (a ∷ b ∷ []) (search terms depth 100) refl

module _ (h : PlaneNumbers) (t : List (ℤ × ℤ)) where
  -- by the corner j = k/2
  pub slack_even : (j k : ℕ) → k / 2 ≡ j → k % 2 ≡ 0
      → reserve_of h (normal_x t j) (normal_y t j) -ℤ shear_of h (normal_x t j) (normal_y t j) ≡ slack_at h t k
  unfolding slack_at
  slack_even j k e even = rw (sym e, plus_even (shear_of h (normal_x t (k / 2)) (normal_y t (k / 2))) k even)

  pub slack_odd : (j k : ℕ) → k / 2 ≡ j → ¬ (k % 2 ≡ 0)
      → reserve_of h (normal_x t j) (normal_y t j) +ℤ shear_of h (normal_x t j) (normal_y t j) ≡ slack_at h t k
  unfolding slack_at
  slack_odd j k e odd =
      rw (sym e, minus_odd (shear_of h (normal_x t (k / 2)) (normal_y t (k / 2))) k odd)
      (less_minus (reserve_of h (normal_x t (k / 2)) (normal_y t (k / 2)))
      (shear_of h (normal_x t (k / 2)) (normal_y t (k / 2))))

-- two by two
pub all_twos : (f : ℕ → Bool) (n : ℕ) → all_below (λ j. f (2 * j) && f (2 * j + 1)) n ≡ all_below f (n * 2)
unfolding all_below
all_twos f zero = refl
all_twos f (suc n) =
    let even : 2 * n ≡ n * 2 = omega arith in
    let odd : 2 * n + 1 ≡ suc (n * 2) = omega arith in
    let both : suc n * 2 ≡ suc (suc (n * 2)) = omega arith in
    ap₂ ◌&&◌ (all_twos f n) (ap₂ (λ i k. f i && f k) even odd)
    ∙ sym (and_assoc (all_below f (n * 2)) (f (n * 2)) (f (suc (n * 2))))
    ∙ ap (all_below f) (sym both)

-- ---- the definition's row

-- the right side less the left, from the numbers at the node, and as the row has it
regrouped : (f g r along excess x y u v w n l : ℤ) (even : Bool)
    → (g *ℤ n *ℤ (r *ℤ r *ℤ along) +ℤ (g *ℤ n *ℤ excess -ℤ f *ℤ u) *ℤ (x *ℤ x) +ℤ neg_ℤ (f *ℤ v) *ℤ (y *ℤ y)
    +ℤ neg_ℤ (pos 2 *ℤ f *ℤ w) *ℤ (x *ℤ y))
    -ℤ cond even (g *ℤ (v -ℤ u) *ℤ (x *ℤ y) +ℤ g *ℤ w *ℤ (x *ℤ x -ℤ y *ℤ y))
    (neg_ℤ (g *ℤ (v -ℤ u) *ℤ (x *ℤ y) +ℤ g *ℤ w *ℤ (x *ℤ x -ℤ y *ℤ y)))
    ≡ g *ℤ (r *ℤ r *ℤ along +ℤ excess *ℤ (x *ℤ x)) *ℤ n
    -ℤ (((f *ℤ (x *ℤ x) -ℤ cond even g (neg_ℤ g) *ℤ (x *ℤ y)) *ℤ u
    +ℤ ((f *ℤ (y *ℤ y) +ℤ cond even g (neg_ℤ g) *ℤ (x *ℤ y)) *ℤ v
    +ℤ ((f *ℤ (pos 2 *ℤ (x *ℤ y)) +ℤ cond even g (neg_ℤ g) *ℤ (x *ℤ x -ℤ y *ℤ y)) *ℤ w +ℤ pos 0))) +ℤ pos 0 *ℤ l)
regrouped f g r along excess x y u v w n l true =
    ring (f ∷ g ∷ r ∷ along ∷ excess ∷ x ∷ y ∷ u ∷ v ∷ w ∷ n ∷ l ∷ []) (search terms depth 100 fits 10000) refl
regrouped f g r along excess x y u v w n l false =
    ring (f ∷ g ∷ r ∷ along ∷ excess ∷ x ∷ y ∷ u ∷ v ∷ w ∷ n ∷ l ∷ []) (search terms depth 100 fits 10000) refl

-- d has the field's stresses s at node v, and n; corner k/2 of the list is c
pub slack_is : (m : List ℤ) (soil v : ℕ) (c : Point) (r : ℤ) (s : ℕ → ℤ) (l n : ℤ) (corners : List (ℤ × ℤ)) (k : ℕ)
    {h : PlaneNumbers} {b : Bed} {d : Stresses} → NumbersAre h b d → BedIs b m soil r → d.sx ≡ s (sx v)
    → d.sy ≡ s (sy v) → d.t ≡ s (t v) → d.n ≡ n → normal_x corners (k / 2) ≡ c.px → normal_y corners (k / 2) ≡ c.py
    → slack_at h corners k
    ≡ right_side n
    (plane_row r (p m soil) (q m soil) (cohesion m soil) (cohesion_across m soil) v c (plus_minus (q m soil) k))
    -ℤ left_side s l
    (plane_row r (p m soil) (q m soil) (cohesion m soil) (cohesion_across m soil) v c (plus_minus (q m soil) k))
unfolding slack_at reserve_of shear_of plus_minus plane_row right_side left_side weighted_sum
slack_is m soil v c r s l n corners k h b ex ey et en cx cy =
    rw (
      h.base,
      h.aa,
      h.bb,
      h.ab,
      h.shear_ab,
      h.shear_squares,
      b.radius,
      b.p,
      b.q,
      b.along,
      b.excess,
      ex,
      ey,
      et,
      en,
      cx,
      cy,
    )
    (regrouped (p m soil) (q m soil) r (cohesion m soil) (cohesion_across m soil -ℤ cohesion m soil) c.px c.py
    (s (sx v)) (s (sy v)) (s (t v)) n l (eqb (k % 2) 0))
