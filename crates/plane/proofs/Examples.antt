-- Polygons worked out by hand: bars that cross, the unit square with itself, squares that touch, triangles whose boxes
-- overlap. Shared points are shown by their numbers.
use mathlib.Core.List.{List, [], ◌∷◌}
use mathlib.Core.Logic.{inl}
use lib.IntN.{ℤ, pos}
use lib.Signed.{le_z_yes, lt_z_yes}
use Rattle.plane.specs.Points.{Corner, corner_point, left_by, ◌⟶◌}
use Rattle.plane.specs.Polygon.{sides_from, sides, Shared, Convex}
use Rattle.plane.specs.Apart.{Apart}
use Rattle.plane.proofs.Lists.{empty, each, first, later}
use Rattle.plane.proofs.Convex.{triangle, quadrilateral}
use Rattle.plane.proofs.Unparted.{a_side_decides}

abbrev at : ℤ → ℤ → Corner
at x y = record { x = x; y = y }

-- two bars that cross: no corner of one is inside the other, and (3, 3) is inside both
abbrev lying : List Corner
lying = at (pos 0) (pos 2) ∷ at (pos 6) (pos 2) ∷ at (pos 6) (pos 4) ∷ at (pos 0) (pos 4) ∷ []

abbrev standing : List Corner
standing = at (pos 2) (pos 0) ∷ at (pos 4) (pos 0) ∷ at (pos 4) (pos 6) ∷ at (pos 2) (pos 6) ∷ []

bars_share : Shared lying standing
unfolding corner_point left_by sides_from sides
bars_share = record {
  point = record { x = pos 3; y = pos 3; e = pos 1 };
  proper = lt_z_yes tt;
  in_first = each (lt_z_yes tt) (each (lt_z_yes tt) (each (lt_z_yes tt) (each (lt_z_yes tt) (λ s k. empty k))));
  in_second = each (lt_z_yes tt) (each (lt_z_yes tt) (each (lt_z_yes tt) (each (lt_z_yes tt) (λ s k. empty k))));
}

lying_convex : Convex lying
unfolding corner_point left_by
lying_convex = quadrilateral _ _ _ _ (lt_z_yes tt) (lt_z_yes tt) (lt_z_yes tt) (lt_z_yes tt)

standing_convex : Convex standing
unfolding corner_point left_by
standing_convex = quadrilateral _ _ _ _ (lt_z_yes tt) (lt_z_yes tt) (lt_z_yes tt) (lt_z_yes tt)

-- so no line along a side parts them
bars_not_apart : ¬ Apart lying standing
bars_not_apart h = (a_side_decides lying_convex standing_convex).0 h bars_share

-- the unit square with itself: no whole point is inside, and (1/2, 1/2) is
abbrev unit : List Corner
unit = at (pos 0) (pos 0) ∷ at (pos 1) (pos 0) ∷ at (pos 1) (pos 1) ∷ at (pos 0) (pos 1) ∷ []

unit_shares : Shared unit unit
unfolding corner_point left_by sides_from sides
unit_shares = record {
  point = record { x = pos 1; y = pos 1; e = pos 2 };
  proper = lt_z_yes tt;
  in_first = each (lt_z_yes tt) (each (lt_z_yes tt) (each (lt_z_yes tt) (each (lt_z_yes tt) (λ s k. empty k))));
  in_second = each (lt_z_yes tt) (each (lt_z_yes tt) (each (lt_z_yes tt) (each (lt_z_yes tt) (λ s k. empty k))));
}

-- the square beside it touches along a side, and shares no inner point
abbrev beside : List Corner
beside = at (pos 1) (pos 0) ∷ at (pos 2) (pos 0) ∷ at (pos 2) (pos 1) ∷ at (pos 1) (pos 1) ∷ []

touching_none : ¬ Shared unit beside
unfolding corner_point left_by sides_from sides
touching_none =
    (a_side_decides
    (quadrilateral _ _ _ _ (lt_z_yes tt) (lt_z_yes tt) (lt_z_yes tt) (lt_z_yes tt))
    (quadrilateral _ _ _ _ (lt_z_yes tt) (lt_z_yes tt) (lt_z_yes tt) (lt_z_yes tt))).0
    (inl
    (record {
      side = at (pos 1) (pos 0) ⟶ at (pos 1) (pos 1);
      of_first = later first;
      none_left = each (le_z_yes tt) (each (le_z_yes tt) (each (le_z_yes tt) (each (le_z_yes tt) (λ s k. empty k))));
    }))

-- two triangles whose boxes overlap: the long side of the lower one parts them
abbrev low : List Corner
low = at (pos 0) (pos 0) ∷ at (pos 2) (pos 0) ∷ at (pos 0) (pos 2) ∷ []

abbrev high : List Corner
high = at (pos 3) (pos 0) ∷ at (pos 3) (pos 3) ∷ at (pos 0) (pos 3) ∷ []

triangles_none : ¬ Shared low high
unfolding corner_point left_by sides_from sides
triangles_none =
    (a_side_decides (triangle _ _ _ (lt_z_yes tt)) (triangle _ _ _ (lt_z_yes tt))).0
    (inl
    (record {
      side = at (pos 2) (pos 0) ⟶ at (pos 0) (pos 2);
      of_first = later first;
      none_left = each (le_z_yes tt) (each (le_z_yes tt) (each (le_z_yes tt) (λ s k. empty k)));
    }))
