-- The polygons (document 01, 'Rows', Strength): "Polygon corners are all whole-number points on the circle of radius r
-- = 5, 25 or 65 (12, 20 or 36 sides), counterclockwise from (r, 0)". "Sides may also be 108: all whole-number points
-- on the circle of radius 1105, in the same turning order" (document 02, N9).
use Rattle.std.specs.Prelude.{◌≡◌, ◌⊎◌, true, false, List, [], ◌∷◌, ◌++◌, map, ℕ, ℤ, pos, neg_ℤ, eqb, ◌/◌, length, take}

-- a point of the plane
pub record Point : Type 0 where
  pub px : ℤ
  pub py : ℤ

abbrev pub point : ℤ → ℤ → Point
point a b = record { px = a; py = b }

-- a polygon inside a circle: its corners counterclockwise
pub record Polygon : Type 0 where
  pub radius : ℤ
  pub corners : List Point

-- a side, from one corner to the next
pub record Side : Type 0 where
  pub from : Point
  pub to : Point

-- each corner with the one after it, the last with `end`
unfoldable pub sides_to : Point → List Point → List Side
sides_to end [] = []
sides_to end (v ∷ []) = record { from = v; to = end } ∷ []
sides_to end (v ∷ w ∷ rest) = record { from = v; to = w } ∷ sides_to end (w ∷ rest)

-- "Side k runs from corner (a, b) to the next, (c, d)", and the last side to the first corner
unfoldable pub polygon_sides : List Point → List Side
polygon_sides [] = []
polygon_sides (v ∷ rest) = sides_to v (v ∷ rest)

-- "the first half turn of corners, (r, 0) in and (-r, 0) out" (document 02, N14): the first half of them
unfoldable pub half_turn : List Point → List Point
half_turn vs = take (length vs / 2) vs

-- ---- the four polygons

-- a quarter turn counterclockwise
unfoldable pub quarter_turn : Point → Point
quarter_turn v = point (neg_ℤ v.py) v.px

-- a quadrant's corners, the last of which begins the next quadrant and is left out, turned into all four quadrants
unfoldable pub four_quadrants : List Point → List Point
four_quadrants c =
    let second : List Point = map quarter_turn c in
    let third : List Point = map quarter_turn second in
    c ++ (second ++ (third ++ map quarter_turn third))

unfoldable pub twelve : Polygon
twelve = record {
  radius = pos 5;
  corners = four_quadrants
      (point (pos 5) (pos 0) ∷ point (pos 4) (pos 3) ∷ point (pos 3) (pos 4) ∷ []);
}

unfoldable pub twenty : Polygon
twenty = record {
  radius = pos 25;
  corners =
      four_quadrants
      (point (pos 25) (pos 0)
      ∷ point (pos 24) (pos 7)
      ∷ point (pos 20) (pos 15)
      ∷ point (pos 15) (pos 20)
      ∷ point (pos 7) (pos 24)
      ∷ []);
}

unfoldable pub thirty_six : Polygon
thirty_six = record {
  radius = pos 65;
  corners =
      four_quadrants
      (point (pos 65) (pos 0)
      ∷ point (pos 63) (pos 16)
      ∷ point (pos 60) (pos 25)
      ∷ point (pos 56) (pos 33)
      ∷ point (pos 52) (pos 39)
      ∷ point (pos 39) (pos 52)
      ∷ point (pos 33) (pos 56)
      ∷ point (pos 25) (pos 60)
      ∷ point (pos 16) (pos 63)
      ∷ []);
}

unfoldable pub one_hundred_eight : Polygon
one_hundred_eight = record {
  radius = pos 1105;
  corners =
      four_quadrants
      (point (pos 1105) (pos 0)
      ∷ point (pos 1104) (pos 47)
      ∷ point (pos 1100) (pos 105)
      ∷ point (pos 1092) (pos 169)
      ∷ point (pos 1073) (pos 264)
      ∷ point (pos 1071) (pos 272)
      ∷ point (pos 1020) (pos 425)
      ∷ point (pos 1001) (pos 468)
      ∷ point (pos 975) (pos 520)
      ∷ point (pos 952) (pos 561)
      ∷ point (pos 943) (pos 576)
      ∷ point (pos 884) (pos 663)
      ∷ point (pos 855) (pos 700)
      ∷ point (pos 817) (pos 744)
      ∷ point (pos 744) (pos 817)
      ∷ point (pos 700) (pos 855)
      ∷ point (pos 663) (pos 884)
      ∷ point (pos 576) (pos 943)
      ∷ point (pos 561) (pos 952)
      ∷ point (pos 520) (pos 975)
      ∷ point (pos 468) (pos 1001)
      ∷ point (pos 425) (pos 1020)
      ∷ point (pos 272) (pos 1071)
      ∷ point (pos 264) (pos 1073)
      ∷ point (pos 169) (pos 1092)
      ∷ point (pos 105) (pos 1100)
      ∷ point (pos 47) (pos 1104)
      ∷ []);
}

-- the polygon of a mesh with this number of sides: 12, 20, 36, or else 108
unfoldable pub polygon_of : ℕ → Polygon
polygon_of k =
    elim (eqb k 12) [
      | true ↦ twelve
      | false ↦
          elim (eqb k 20) [
            | true ↦ twenty
            | false ↦ elim (eqb k 36) [ true ↦ thirty_six | false ↦ one_hundred_eight ]
          ]
    ]

-- a listed number of sides
abbrev pub SidesListed : ℕ → Type 0
SidesListed k = (k ≡ 12) ⊎ ((k ≡ 20) ⊎ ((k ≡ 36) ⊎ (k ≡ 108)))
