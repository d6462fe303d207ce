-- What the sums over the rows of a soil by direction hand around (document 02, N14): sums over planes, each of which
-- has two rows.
use Rattle.std.specs.Prelude.{◌≡◌, List, ℕ, ◌+◌, ◌*◌, ℤ, pos, ◌+ℤ◌, ◌-ℤ◌, ◌*ℤ◌}
use Rattle.integer.specs.Bounds.{Within, Is}
use Rattle.scope.specs.Mesh.{most_sides, most_strength}
use Rattle.scope.specs.Bounds.{plane_square}
use Rattle.scope.specs.Columns.{at}
use Rattle.scope.specs.PrintedColumns.{sum_below}
use Rattle.bedded.specs.declared.planes.Bed.{Bed}
use Rattle.bedded.specs.PlaneContracts.{normal_x, normal_y}
use Rattle.multipliers.specs.declared.sums.PairSums.{PairSums}
use Rattle.multipliers.specs.declared.sums.PlaneSums.{PlaneSums}
use Rattle.multipliers.specs.MultiplierContracts.{Grown}

-- the multipliers of a plane's two rows together, and as many times a product of two numbers of its normal
abbrev pub most_both : ℕ
most_both = 2 * most_strength

abbrev pub most_both_squares : ℕ
most_both_squares = most_both * plane_square

-- sums over the planes of a pair, which are half as many as its rows
pub record PlaneSumsFit (a : PlaneSums) : Type 0 where
  pub whole : Within (most_sides * most_strength) a.whole
  pub aa : Within (most_sides * most_strength * plane_square) a.aa
  pub ab : Within (most_sides * most_strength * plane_square) a.ab
  pub bb : Within (most_sides * most_strength * plane_square) a.bb
  pub shear_ab : Within (most_sides * most_strength * plane_square) a.shear_ab
  pub shear_squares : Within (2 * most_sides * most_strength * plane_square) a.shear_squares

-- the two rows of the plane with the normal (x, y)/r are added, with the multipliers u and v
pub record PlaneAdded (x y u v : ℤ) (a b : PlaneSums) : Type 0 where
  pub whole : Grown a.whole b.whole (u +ℤ v) most_both
  pub aa : Grown a.aa b.aa ((u +ℤ v) *ℤ (x *ℤ x)) most_both_squares
  pub ab : Grown a.ab b.ab ((u +ℤ v) *ℤ (x *ℤ y)) most_both_squares
  pub bb : Grown a.bb b.bb ((u +ℤ v) *ℤ (y *ℤ y)) most_both_squares
  pub shear_ab : Grown a.shear_ab b.shear_ab ((u -ℤ v) *ℤ (x *ℤ y)) most_both_squares
  pub shear_squares :
      Grown a.shear_squares b.shear_squares ((u -ℤ v) *ℤ (x *ℤ x -ℤ y *ℤ y)) (2 * most_both_squares)

-- the multipliers of the two rows of plane j: their sum, and their difference
abbrev pub both : List ℤ → ℕ → ℤ
both y j = at y (2 * j) +ℤ at y (2 * j + 1)

abbrev pub difference : List ℤ → ℕ → ℤ
difference y j = at y (2 * j) -ℤ at y (2 * j + 1)

-- f of the normal's numbers over the first n planes, each so many times
unfoldable pub plane_sum : (ℕ → ℤ) → (ℤ → ℤ → ℤ) → List (ℤ × ℤ) → ℕ → ℤ
plane_sum w f t n = sum_below (λ j. w j *ℤ f (normal_x t j) (normal_y t j)) n

-- the first n planes, whose normals are corners t, are summed with the multipliers y of their rows
pub record PlaneSumsAre (a : PlaneSums) (t : List (ℤ × ℤ)) (y : List ℤ) (n : ℕ) : Type 0 where
  pub whole : Is a.whole (sum_below (both y) n) (n * most_both)
  pub aa : Is a.aa (plane_sum (both y) (λ x y. x *ℤ x) t n) (n * most_both_squares)
  pub ab : Is a.ab (plane_sum (both y) (λ x y. x *ℤ y) t n) (n * most_both_squares)
  pub bb : Is a.bb (plane_sum (both y) (λ x y. y *ℤ y) t n) (n * most_both_squares)
  pub shear_ab : Is a.shear_ab (plane_sum (difference y) (λ x y. x *ℤ y) t n) (n * most_both_squares)
  pub shear_squares :
      Is a.shear_squares (plane_sum (difference y) (λ x y. x *ℤ x -ℤ y *ℤ y) t n) (n * (2 * most_both_squares))

-- what the rows add up to, from the sums a over the planes and the numbers b of the soil
pub record BedSumsAre (r : PairSums) (b : Bed) (a : PlaneSums) : Type 0 where
  pub sx_is : r.sx ≡ b.p *ℤ a.aa -ℤ b.q *ℤ a.shear_ab
  pub sy_is : r.sy ≡ b.p *ℤ a.bb +ℤ b.q *ℤ a.shear_ab
  pub t_is : r.t ≡ b.p *ℤ (pos 2 *ℤ a.ab) +ℤ b.q *ℤ a.shear_squares
  pub right_is : r.right ≡ b.q *ℤ (b.radius *ℤ b.radius *ℤ b.along *ℤ a.whole +ℤ b.excess *ℤ a.aa)
