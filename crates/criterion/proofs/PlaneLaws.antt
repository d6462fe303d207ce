-- The rows of a pair whose soil is by direction: the corners of its mesh's polygon are its planes' normals, as near as
-- a mesh with such a soil has them.
use mathlib.Core.Path.{◌≡◌, sym, ◌∙◌, ap, subst}
use mathlib.Core.Bool.{true}
use mathlib.Core.List.{List}
use Prim.Native.Nat.{ℕ, ◌/◌, ◌≤◌, ◌<◌, zero-le}
use native.Mathlib.Decide.{dec_lt}
use native.Mathlib.Omega.{arith}
use lib.IntN.{ℤ}
use lib.ListN.{length, get_or}
use Rattle.std.proofs.lemmas.List.{get_or_past}
use Rattle.integer.specs.Bounds.{Within}
use Rattle.scope.specs.Bounds.{most_plane_radius}
use Rattle.scope.specs.Mesh.{kind_with, sides, by_direction}
use Rattle.scope.specs.NumberRanges.{Counts, SoilFacts}
use Rattle.scope.specs.Polygon.{polygon_of}
use Rattle.scope.specs.PolygonRule.{ListedPolygon}
use Rattle.scope.specs.Rows.{pair_at}
use Rattle.scope.specs.RowNumbers.{corner_at}
use Rattle.scope.proofs.Directions.{kind_sides, is_direction}
use Rattle.scope.proofs.PolygonRule.{listed_polygon}
use Rattle.scope.proofs.SumBounds.{plane_radius, plane_corner}
use Rattle.bedded.specs.declared.planes.Stresses.{Stresses}
use Rattle.bedded.specs.declared.plane_rows.Planes.{Planes}
use Rattle.bedded.specs.declared.plane_rows.StressedPlanes.{StressedPlanes}
use Rattle.bedded.specs.PlaneContracts.{BedIs, NumbersAre, Normals, normal_x, normal_y, slack_at}
use Rattle.bedded.proofs.PlaneLaws.{slack_is}
use Rattle.criterion.specs.StrengthContracts.{pairs_of}
use Rattle.criterion.specs.PlaneContracts.{PlanesAre, StressesAre, PlaneState}
use Rattle.criterion.proofs.SideLaws.{origin, x_of_corner, y_of_corner, length-pairs_of, get_d_in}

-- by the number of sides that the code has
pub radius_as : {s n : ℕ} {r : ℤ} → s ≡ n → r ≡ (polygon_of s).radius → r ≡ (polygon_of n).radius
radius_as e f = f ∙ ap (λ (k : ℕ). (polygon_of k).radius) e

pub corners_as : {s n : ℕ} {t : List (ℤ × ℤ)} → s ≡ n → t ≡ pairs_of (polygon_of s).corners
    → t ≡ pairs_of (polygon_of n).corners
corners_as e f = f ∙ ap (λ (k : ℕ). pairs_of (polygon_of k).corners) e

module _ {m : List ℤ} (counts : Counts m) where
  polygon : ListedPolygon (sides m)
  polygon = listed_polygon (sides m) counts.sides_listed

  counted : {t : List (ℤ × ℤ)} → t ≡ pairs_of (polygon_of (sides m)).corners → length t ≡ sides m
  counted e = ap length e ∙ length-pairs_of (polygon_of (sides m)).corners ∙ polygon.fits.rule.count

  -- the normals of the planes
  x_is : {t : List (ℤ × ℤ)} → t ≡ pairs_of (polygon_of (sides m)).corners → (j : ℕ)
      → normal_x t j ≡ (corner_at (polygon_of (sides m)) j).px
  unfolding corner_at origin
  x_is e j = rw e (x_of_corner (polygon_of (sides m)).corners j)

  y_is : {t : List (ℤ × ℤ)} → t ≡ pairs_of (polygon_of (sides m)).corners → (j : ℕ)
      → normal_y t j ≡ (corner_at (polygon_of (sides m)) j).py
  unfolding corner_at origin
  y_is e j = rw e (y_of_corner (polygon_of (sides m)).corners j)

  -- where a soil is by direction the corners are near
  module _ {soil : ℕ} (f : SoilFacts m soil) (bedded : by_direction m soil ≡ true) where
    one_kind : 1 ≤ kind_with (sides m)
    one_kind = kind_sides f (is_direction m soil bedded)

    pub radius_near : {r : ℤ} → r ≡ (polygon_of (sides m)).radius → Within most_plane_radius r
    radius_near e = subst (Within most_plane_radius) (sym e) (plane_radius polygon one_kind)

    corner_near : (k : ℕ) → Within most_plane_radius (corner_at (polygon_of (sides m)) k).px
        × Within most_plane_radius (corner_at (polygon_of (sides m)) k).py
    unfolding corner_at origin
    corner_near k = by (dec_lt k (length (polygon_of (sides m)).corners))
      where
        by : Dec (k < length (polygon_of (sides m)).corners)
            → Within most_plane_radius (get_or (polygon_of (sides m)).corners k origin).px
            × Within most_plane_radius (get_or (polygon_of (sides m)).corners k origin).py
        by (yes l) = plane_corner polygon one_kind _ (get_d_in (polygon_of (sides m)).corners k origin l)
        by (no l) =
            rw (get_or_past (polygon_of (sides m)).corners k origin (omega arith))
            (record { within = zero-le }, record { within = zero-le })

    pub normals : {t : List (ℤ × ℤ)} → t ≡ pairs_of (polygon_of (sides m)).corners → Normals t
    normals e = record {
      x = λ j. subst (Within most_plane_radius) (sym (x_is e j)) (corner_near j).0;
      y = λ j. subst (Within most_plane_radius) (sym (y_is e j)) (corner_near j).1;
    }

  pub planes_of : (a : ℕ) (planes : Planes) {soil : ℕ} {r : ℤ}
      → planes.corners.now ≡ pairs_of (polygon_of (sides m)).corners → soil ≡ (pair_at m a).soil
      → r ≡ (polygon_of (sides m)).radius → BedIs planes.bed m soil r → PlanesAre planes m a
  planes_of a planes e es er h = record {
    bed = subst (λ s. BedIs planes.bed m s (polygon_of (sides m)).radius) es (subst (BedIs planes.bed m _) er h);
    size = counted e;
    x = x_is e;
    y = y_is e;
  }

-- the pair's planes at the stresses of its node: the slack of row k is that of the definition's row
pub stressed_planes : (m : List ℤ) (a : ℕ) (planes : Planes) (stressed : StressedPlanes) {d : Stresses} (s : ℕ → ℤ)
    {n : ℤ} → PlanesAre planes m a → StressesAre d s (pair_at m a).at n → NumbersAre stressed.numbers planes.bed d
    → stressed.corners.now ≡ planes.corners.now → PlaneState stressed m s n a
stressed_planes m a planes stressed s {n} g state h same = record {
  size = ap length same ∙ g.size;
  each = λ l k.
      ap (λ (t : List (ℤ × ℤ)). slack_at stressed.numbers t k) same
      ∙ slack_is m (pair_at m a).soil (pair_at m a).at (corner_at (polygon_of (sides m)) (k / 2))
      (polygon_of (sides m)).radius s l n planes.corners.now k h g.bed state.sx state.sy state.t state.n (g.x (k / 2))
      (g.y (k / 2));
}
