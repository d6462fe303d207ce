-- A line is the function p·x + q·y + r, above 0 on the line's left; it is linear in the three numbers of a point, and
-- so is what is left of a side.
use mathlib.Core.Path.{◌≡◌, refl, sym, ◌∙◌}
use mathlib.Core.List.{List, [], ◌∷◌}
use lib.IntN.{ℤ, pos, ◌+ℤ◌, ◌-ℤ◌, ◌*ℤ◌}
use lib.Signed.{◌<ℤ◌}
use Rattle.integer.proofs.Ring.{ring, terms}
use Rattle.integer.specs.Members.{◌∈◌}
use Rattle.plane.specs.Points.{Point, Side, left_by}

pub record Line : Type 0 where
  pub p : ℤ
  pub q : ℤ
  pub r : ℤ

-- e times the function at (x/e, y/e)
unfoldable pub value : Line → Point → ℤ
value f v = f.p *ℤ v.x +ℤ f.q *ℤ v.y +ℤ f.r *ℤ v.e

-- strictly left of each line of a list
abbrev pub Above : List Line → Point → Type 0
Above L v = (f : Line) → f ∈ L → pos 0 <ℤ value f v

-- k·v + l·w: a point between v and w where k and l are not negative
abbrev pub mix : ℤ → Point → ℤ → Point → Point
mix k v l w = record { x = k *ℤ v.x +ℤ l *ℤ w.x; y = k *ℤ v.y +ℤ l *ℤ w.y; e = k *ℤ v.e +ℤ l *ℤ w.e }

pub value_mix : (f : Line) (k : ℤ) (v : Point) (l : ℤ) (w : Point)
    → value f (mix k v l w) ≡ k *ℤ value f v +ℤ l *ℤ value f w
unfolding value
value_mix f k v l w =
    ring (f.p ∷ f.q ∷ f.r ∷ k ∷ l ∷ v.x ∷ v.y ∷ v.e ∷ w.x ∷ w.y ∷ w.e ∷ []) (search terms depth 100 fits 10000) refl

-- the line along a side
abbrev pub line : Side → Line
line s = record {
  p = s.from.y -ℤ s.to.y;
  q = s.to.x -ℤ s.from.x;
  r = s.from.x *ℤ s.to.y -ℤ s.to.x *ℤ s.from.y;
}

pub line_value : (s : Side) (v : Point) → value (line s) v ≡ left_by s v
unfolding value left_by
line_value s v =
    ring (s.from.x ∷ s.from.y ∷ s.to.x ∷ s.to.y ∷ v.x ∷ v.y ∷ v.e ∷ []) (search terms depth 100 fits 10000) refl

pub left_by_mix : (s : Side) (k : ℤ) (v : Point) (l : ℤ) (w : Point)
    → left_by s (mix k v l w) ≡ k *ℤ left_by s v +ℤ l *ℤ left_by s w
left_by_mix s k v l w = sym (line_value s (mix k v l w)) ∙ value_mix (line s) k v l w
    ∙ rw (line_value s v, line_value s w)
