-- Helly's theorem for open half-planes with whole-number coefficients: if each three of a list have a common point,
-- then all have one, with fractions.
-- By induction on the list, for regions of dimension 2, 1 and 0 alike. Let all lines but g be above 0 at v, and g not.
-- Where few lines are above 0 at w together with g, they are so too where the way from v to w crosses g. So on g itself
-- any one fewer have a common point, and all have one there, a dimension down. From it a small step towards w goes left
-- of g.
use mathlib.Core.Path.{◌≡◌, refl, sym, ◌∙◌}
use mathlib.Core.List.{List, [], ◌∷◌}
use mathlib.Core.Logic.{⊎_elim}
use Prim.Native.Nat.{ℕ, suc, ◌≤◌, zero-le, suc-le-suc}
use native.Mathlib.Omega.{arith}
use lib.IntN.{ℤ, pos, negsuc, ◌+ℤ◌, ◌-ℤ◌, ◌*ℤ◌, neg_ℤ}
use lib.Signed.{◌≤ℤ◌, ◌<ℤ◌}
use lib.ListN.{length}
use Rattle.integer.proofs.RingLaws.{zero_product}
use Rattle.integer.proofs.Ring.{ring, ring_from, terms}
use Rattle.integer.proofs.Order.{by_pos, nn_diff, <ℤ→≤ℤ, <ℤ→≢, <ℤ_or_≤ℤ, +ℤ_mono_<, *ℤ_nonneg, *ℤ_pos, *ℤ_cancel_<}
use Rattle.integer.proofs.Order.{nonneg}
use Rattle.integer.proofs.Linear.{linear, facts}
use Rattle.integer.specs.Members.{◌∈◌}
use Rattle.plane.specs.Points.{Point}
use Rattle.plane.proofs.Lists.{empty, each, first, later}
use Rattle.plane.proofs.Lines.{Line, value, Above, mix, value_mix}
use Rattle.plane.proofs.Step.{step_length, step_positive, step_above}

-- ---- regions

abbrev pub Region : Type 1
Region = Point → Type 0

-- with two points a region has those between them
pub record ConvexRegion (S : Region) : Type 0 where
  pub between : (k l : ℤ) (v w : Point) → pos 0 <ℤ k → pos 0 ≤ℤ l → S v → S w → S (mix k v l w)

-- a point of the region strictly left of each line
pub record Common (S : Region) (L : List Line) : Type 0 where
  pub point : Point
  pub in_region : S point
  pub above : Above L point

-- each n lines of a list have a common point in the region
abbrev pub Few : ℕ → Region → List Line → Type 0
Few n S L = (F : List Line) → length F ≤ n → ((f : Line) → f ∈ F → f ∈ L) → Common S F

abbrev pub Helly : ℕ → Region → Type 0
Helly n S = (L : List Line) → Few n S L → Common S L

few_tail : {n : ℕ} {S : Region} {g : Line} {L : List Line} → Few n S (g ∷ L) → Few n S L
few_tail few F s i = few F s (λ f k. later (i f k))

-- one of the lines alone
few_one : {n : ℕ} {S : Region} {g : Line} {L : List Line} → Few (suc n) S (g ∷ L) → Common S (g ∷ [])
few_one {g = g} few = few (g ∷ []) (suc-le-suc zero-le) (each first (λ f k. empty k))

-- the points of a region on a line
infixl 60 ◌on◌
abbrev pub ◌on◌ : Region → Line → Region
(S on g) v = S v × (value g v ≡ pos 0)

on_convex : {S : Region} (g : Line) → ConvexRegion S → ConvexRegion (S on g)
on_convex g c = record {
  between = λ k l v w hk hl hv hw. (
    c.between k l v w hk hl hv.0 hw.0,
    value_mix g k v l w ∙ rw (hv.1, hw.1) (ring (k ∷ l ∷ []) (search terms depth 100) refl),
  );
}

-- ---- a dimension up

-- where the way from v, not left of g, to w, left of g, crosses g
crossing : Line → Point → Point → Point
crossing g v w = mix (value g w) v (neg_ℤ (value g v)) w

module _ {S : Region} (convex : ConvexRegion S) (g : Line) (v w : Point) (sv : S v) (sw : S w)
    (hv : value g v ≤ℤ pos 0) (hw : pos 0 <ℤ value g w) where
  back : pos 0 ≤ℤ neg_ℤ (value g v)
  back = linear hv (search facts depth 40) (omega arith)

  crosses : (S on g) (crossing g v w)
  unfolding crossing
  crosses = (
    convex.between (value g w) (neg_ℤ (value g v)) v w hw back sv sw,
    value_mix g (value g w) v (neg_ℤ (value g v)) w ∙ ring (value g v ∷ value g w ∷ []) (search terms depth 100) refl,
  )

  crosses_above : (f : Line) → pos 0 <ℤ value f v → pos 0 <ℤ value f w → pos 0 <ℤ value f (crossing g v w)
  unfolding crossing
  crosses_above f kv kw =
      rw (value_mix f (value g w) v (neg_ℤ (value g v)) w) (+ℤ_mono_< (*ℤ_pos hw kv) (*ℤ_nonneg back (<ℤ→≤ℤ kw)))

module _ {S : Region} (convex : ConvexRegion S) (n : ℕ)
    (lower : (g : Line) (v w : Point) → S v → S w → value g v ≤ℤ pos 0 → pos 0 <ℤ value g w → Helly n (S on g)) where
  -- c is left of all of L and not of g
  past : (g : Line) (L : List Line) → Few (suc n) S (g ∷ L) → (c : Common S L) → value g c.point ≤ℤ pos 0
      → Common S (g ∷ L)
  past g L few c h =
      let some : Common S (g ∷ []) = few_one few in
      let w : Point = some.point in
      let left : pos 0 <ℤ value g w = some.above g first in
      let there : Common (S on g) L = lower g c.point w c.in_region some.in_region h left L on_few in
      let z : Point = there.point in
      let K : ℤ = step_length L w in
      record {
        point = mix K z (pos 1) w;
        in_region = convex.between K (pos 1) z w (step_positive L w) (nonneg 1) there.in_region.0 some.in_region;
        above = each (onto K z w there.in_region.1 left) (step_above L z w there.above);
      }
    where
      onto : (K : ℤ) (z w : Point) → value g z ≡ pos 0 → pos 0 <ℤ value g w → pos 0 <ℤ value g (mix K z (pos 1) w)
      onto K z w e k = rw (value_mix g K z (pos 1) w, e)
          (by_pos k (ring (K ∷ value g w ∷ []) (search terms depth 100) refl))

      on_few : Few n (S on g) L
      on_few F s i =
          let d : Common S (g ∷ F) = few (g ∷ F) (suc-le-suc s) (each first (λ f k. later (i f k))) in
          let left : pos 0 <ℤ value g d.point = d.above g first in
          record {
            point = crossing g c.point d.point;
            in_region = crosses convex g c.point d.point c.in_region d.in_region h left;
            above = λ f k.
                crosses_above convex g c.point d.point c.in_region d.in_region h left f (c.above f (i f k))
                (d.above f (later k));
          }

  higher : Helly (suc n) S
  higher [] few = few [] zero-le (λ f k. k)
  higher (g ∷ L) few =
      let c : Common S L = higher L (few_tail few) in
      ⊎_elim
      (λ h. record { point = c.point; in_region = c.in_region; above = each h c.above })
      (λ h. past g L few c h)
      (<ℤ_or_≤ℤ (pos 0) (value g c.point))

-- ---- dimension 0: a line that is above 0 at one point of the region is above 0 at each

abbrev pub Single : Region → Type 0
Single S = (f : Line) (z w : Point) → S z → S w → pos 0 <ℤ value f z → pos 0 <ℤ value f w

lowest : {S : Region} → Single S → Helly 1 S
lowest same [] few = few [] zero-le (λ f k. k)
lowest {S} same (g ∷ L) few =
    let c : Common S L = lowest same L (few_tail few) in
    let some : Common S (g ∷ []) = few_one few in
    record {
      point = c.point;
      in_region = c.in_region;
      above = each (same g some.point c.point some.in_region c.in_region (some.above g first)) c.above;
    }

-- ---- the plane

abbrev pub Plane : Region
Plane v = pos 0 <ℤ v.e

pub plane_convex : ConvexRegion Plane
plane_convex = record { between = λ k l v w hk hl hv hw. +ℤ_mono_< (*ℤ_pos hk hv) (*ℤ_nonneg hl (<ℤ→≤ℤ hw)) }

-- the change of a line's value along a step
slope : Line → ℤ → ℤ → ℤ
slope f a b = f.p *ℤ a +ℤ f.q *ℤ b

-- the step from w to v, times both numbers of parts
gap_x : Point → Point → ℤ
gap_x v w = w.e *ℤ v.x -ℤ v.e *ℤ w.x

gap_y : Point → Point → ℤ
gap_y v w = w.e *ℤ v.y -ℤ v.e *ℤ w.y

slope_gap : (f : Line) (v w : Point) → slope f (gap_x v w) (gap_y v w) ≡ w.e *ℤ value f v -ℤ v.e *ℤ value f w
unfolding slope gap_x gap_y value
slope_gap f v w =
    ring (f.p ∷ f.q ∷ f.r ∷ v.x ∷ v.y ∷ v.e ∷ w.x ∷ w.y ∷ w.e ∷ []) (search terms depth 100 fits 10000) refl

-- a step along two lines that are not parallel is none
along_both : (f g h : Line) (a b c d s t : ℤ)
    → slope g a b ≡ pos 0 → slope h a b ≡ pos 0 → slope g c d ≡ pos 0 → slope h c d <ℤ pos 0 → slope g s t <ℤ pos 0
    → slope f a b ≡ pos 0
unfolding slope
along_both f g h a b c d s t ga ha gc hc gs =
    ⊎_elim (λ e. e) (λ e. absurd (<ℤ→≢ hc e)) (zero_product (slope f a b) (slope h c d) product)
  where
    parallel : a *ℤ d -ℤ b *ℤ c ≡ pos 0
    parallel =
        ⊎_elim (λ e. absurd (<ℤ→≢ gs e)) (λ e. e)
        (zero_product (slope g s t) (a *ℤ d -ℤ b *ℤ c)
        (ring_from (s *ℤ d -ℤ t *ℤ c) ga (ring_from (a *ℤ t -ℤ b *ℤ s) gc
        (ring (g.p ∷ g.q ∷ a ∷ b ∷ c ∷ d ∷ s ∷ t ∷ []) (search terms depth 100 fits 10000) refl))))

    product : slope f a b *ℤ slope h c d ≡ pos 0
    product =
        ring_from (slope f c d) ha (ring_from (f.p *ℤ h.q -ℤ f.q *ℤ h.p) parallel
        (ring (f.p ∷ f.q ∷ h.p ∷ h.q ∷ a ∷ b ∷ c ∷ d ∷ []) (search terms depth 100 fits 10000) refl))

-- a step from left of a line to where it is not
falls : (f : Line) (v w : Point) → Plane v → Plane w → value f v ≤ℤ pos 0 → pos 0 <ℤ value f w
    → slope f (gap_x v w) (gap_y v w) <ℤ pos 0
falls f v w pv pw hv hw =
    rw (slope_gap f v w)
    (by_pos (+ℤ_mono_< (*ℤ_pos pv hw) (*ℤ_nonneg (<ℤ→≤ℤ pw) (nn_diff hv)))
    (ring (value f v ∷ value f w ∷ v.e ∷ w.e ∷ []) (search terms depth 100) refl))

level : (f : Line) (v w : Point) → value f v ≡ pos 0 → value f w ≡ pos 0 → slope f (gap_x v w) (gap_y v w) ≡ pos 0
level f v w hv hw = slope_gap f v w ∙ rw (hv, hw) (ring (v.e ∷ w.e ∷ []) (search terms depth 100) refl)

-- two lines that are not parallel have one point in common
module _ (g : Line) (v w : Point) (pv : Plane v) (pw : Plane w) (hv : value g v ≤ℤ pos 0) (hw : pos 0 <ℤ value g w)
    (h : Line) (t u : Point) (pt : (Plane on g) t) (pu : (Plane on g) u) (ht : value h t ≤ℤ pos 0)
    (hu : pos 0 <ℤ value h u) where
  single : Single (Plane on g on h)
  single f z y pz py k =
      let still : slope f (gap_x z y) (gap_y z y) ≡ pos 0 =
      along_both f g h (gap_x z y) (gap_y z y) (gap_x t u) (gap_y t u) (gap_x v w) (gap_y v w)
      (level g z y pz.0.1 py.0.1) (level h z y pz.1 py.1) (level g t u pt.1 pu.1)
      (falls h t u pt.0 pu.0 ht hu) (falls g v w pv pw hv hw) in
      let same : y.e *ℤ value f z -ℤ z.e *ℤ value f y ≡ pos 0 = sym (slope_gap f z y) ∙ still in
      *ℤ_cancel_< (<ℤ→≤ℤ pz.0.0)
      (by_pos (*ℤ_pos py.0.0 k)
      (ring_from (negsuc 0) same (ring (y.e ∷ z.e ∷ value f z ∷ value f y ∷ []) (search terms depth 100) refl)))

pub helly : Helly 3 Plane
helly = higher plane_convex 2 (λ g v w pv pw hv hw.
    higher (on_convex g plane_convex) 1 (λ h t u pt pu ht hu. lowest (single g v w pv pw hv hw h t u pt pu ht hu)))
