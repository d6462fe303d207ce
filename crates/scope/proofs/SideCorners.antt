-- Side k of a polygon runs from corner k to the next one, and the last side to the first corner: by its list of sides.
use mathlib.Core.Path.{◌≡◌, refl, sym, ◌∙◌, ap}
use mathlib.Core.List.{List, [], ◌∷◌, ◌++◌}
use Prim.Native.Nat.{ℕ, zero, suc, ◌%◌, ◌<◌}
use native.Mathlib.Decide.{dec_lt}
use native.Mathlib.Nat.{mod-eq_of_lt, mod_self}
use native.Mathlib.Omega.{arith}
use lib.IntN.{ℤ, pos}
use lib.ListN.{length, get_or, get_or-append}
use lib.Seq.{get_or-append_seam}
use Rattle.scope.specs.Mesh.{sides}
use Rattle.scope.specs.Polygon.{Point, point, Side, sides_to, polygon_sides, polygon_of, SidesListed}
use Rattle.scope.specs.RowNumbers.{side_at, corner_at}
use Rattle.scope.specs.Printed.{nth_corner, nth_side}
use Rattle.scope.proofs.PolygonRule.{listed_polygon}

abbrev pub between : Point → Point → Side
between v w = record { from = v; to = w }

abbrev origin : Point
origin = point (pos 0) (pos 0)

in_sides_to : (end : Point) (cs : List Point) (k : ℕ) → k < length cs
    → get_or (sides_to end cs) k (between origin origin)
    ≡ between (get_or cs k origin) (get_or (cs ++ (end ∷ [])) (suc k) origin)
unfolding sides_to
in_sides_to end [] k h = absurd (omega arith)
in_sides_to end (v ∷ []) zero h = refl
in_sides_to end (v ∷ []) (suc k) h = absurd (omega arith)
in_sides_to end (v ∷ w ∷ rest) zero h = refl
in_sides_to end (v ∷ w ∷ rest) (suc k) h = in_sides_to end (w ∷ rest) k (omega arith)

next_corner : (v : Point) (rest : List Point) (k : ℕ) → k < length (v ∷ rest)
    → get_or ((v ∷ rest) ++ (v ∷ [])) (suc k) origin ≡ get_or (v ∷ rest) (suc k % length (v ∷ rest)) origin
next_corner v rest k h = by (dec_lt (suc k) (length (v ∷ rest)))
  where
    by : Dec (suc k < length (v ∷ rest)) → get_or ((v ∷ rest) ++ (v ∷ [])) (suc k) origin
        ≡ get_or (v ∷ rest) (suc k % length (v ∷ rest)) origin
    by (yes l) =
        get_or-append (v ∷ rest) (v ∷ []) origin (suc k) l
        ∙ ap (λ i. get_or (v ∷ rest) i origin) (sym (mod-eq_of_lt l))
    by (no l) =
        let e : suc k ≡ length (v ∷ rest) = omega arith in
        ap (λ i. get_or ((v ∷ rest) ++ (v ∷ [])) i origin) e
        ∙ get_or-append_seam (v ∷ rest) v [] origin
        ∙ ap (λ i. get_or (v ∷ rest) i origin)
        (sym (ap (λ i. i % length (v ∷ rest)) e ∙ mod_self (length (v ∷ rest))))

pub polygon_side : (cs : List Point) (k : ℕ) → k < length cs → get_or (polygon_sides cs) k (between origin origin)
    ≡ between (get_or cs k origin) (get_or cs (suc k % length cs) origin)
unfolding polygon_sides
polygon_side [] k h = absurd (omega arith)
polygon_side (v ∷ rest) k h =
    in_sides_to v (v ∷ rest) k h ∙ ap (between (get_or (v ∷ rest) k origin)) (next_corner v rest k h)

module _ (m : List ℤ) (listed : SidesListed (sides m)) (k : ℕ) (h : k < sides m) where
  corner_count : length (polygon_of (sides m)).corners ≡ sides m
  corner_count = (listed_polygon (sides m) listed).fits.rule.count

  pub corner_is : corner_at (polygon_of (sides m)) k ≡ nth_corner m k
  unfolding corner_at
  corner_is = ap (λ i. get_or (polygon_of (sides m)).corners i origin) (sym (mod-eq_of_lt h))

  pub side_is : side_at (polygon_of (sides m)) k ≡ nth_side m k
  unfolding side_at
  side_is =
      polygon_side (polygon_of (sides m)).corners k (omega (arith, corner_count))
      ∙ ap (λ i. between (get_or (polygon_of (sides m)).corners i origin)
      (get_or (polygon_of (sides m)).corners (suc k % length (polygon_of (sides m)).corners) origin))
      (sym (mod-eq_of_lt h))
      ∙ ap (λ n. between (nth_corner m k) (get_or (polygon_of (sides m)).corners (suc k % n) origin)) corner_count
