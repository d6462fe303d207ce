-- No row of a mesh has an entry beyond its columns: group by group, row by row, entry by entry.
use mathlib.Core.List.{List}
use Prim.Native.Nat.{ℕ, ◌*◌, ◌%◌, ◌<◌}
use native.Mathlib.Nat.{mod-lt}
use native.Mathlib.Omega.{arith}
use lib.Dec.{lit<}
use lib.IntN.{ℤ}
use Rattle.scope.proofs.Lists.{of_count, each_nil, each_cons, each_++, each_map, each_joined}
use Rattle.scope.proofs.Directions.{by_kind}
use Rattle.scope.proofs.Pairs.{pairs}
use Rattle.integer.specs.Members.{◌∈◌}
use Rattle.scope.specs.Mesh.{nodes, elements, edges, sides, jumps, corner, from_node, to_node, jump_from, jump_to}
use Rattle.scope.specs.Mesh.{facing_from, facing_to}
use Rattle.scope.specs.Polygon.{Side, polygon_sides, polygon_of, Point, half_turn}
use Rattle.scope.specs.Rows.{Row, sx, sy, t, count_from, node, balance_x, balance_y, balance_rows, normal_row}
use Rattle.scope.specs.Rows.{shear_row, side_rows, agree_row, jump_normal, jump_shear, jump_rows, strength_pairs}
use Rattle.scope.specs.Rows.{strength_row, strength_rows, equality_rows, rows_of, plane_row, rows_by_sides}
use Rattle.scope.specs.Rows.{rows_by_planes}
use Rattle.scope.specs.Bracket.{MeshColumns}

module _ (m : List ℤ) where
  In : ℤ × ℕ → Type 0
  In e = e.1 < 3 * nodes m

  RowIn : Row → Type 0
  RowIn r = (e : ℤ × ℕ) → e ∈ r.entries → In e

  -- a node's three columns
  record Node (v : ℕ) : Type 0 where
    at-sx : sx v < 3 * nodes m
    at-sy : sy v < 3 * nodes m
    at-t : t v < 3 * nodes m

  columns_of : (v : ℕ) → v < nodes m → Node v
  unfolding sx sy t
  columns_of v h = record { at-sx = omega arith; at-sy = omega arith; at-t = omega arith }

  balance_in : (e : ℕ) → ((i : ℕ) → i < 4 → corner m e i < nodes m) → RowIn (balance_x m e) × RowIn (balance_y m e)
  unfolding In RowIn balance_x balance_y node
  balance_in e h = (
    each_joined In _ (count_from 0 4)
        (λ i j. let v = columns_of (corner m e (i % 4)) (h (i % 4) (mod-lt i (lit< tt))) in each_cons In v.at-sx
        (each_cons In v.at-t (each_nil In))),
    each_joined In _ (count_from 0 4)
        (λ i j. let v = columns_of (corner m e (i % 4)) (h (i % 4) (mod-lt i (lit< tt))) in each_cons In v.at-sy
        (each_cons In v.at-t (each_nil In))),
  )

  edge_in : (g v : ℕ) → v < nodes m → RowIn (normal_row m g v) × RowIn (shear_row m g v)
  unfolding In RowIn normal_row shear_row
  edge_in g v h =
      let c = columns_of v h in (
        each_cons In c.at-sx (each_cons In c.at-t (each_cons In c.at-sy (each_nil In))),
        each_cons In c.at-sx (each_cons In c.at-sy (each_cons In c.at-t (each_nil In))),
      )

  -- at a node and the one that faces it
  jump_in : (j v f : ℕ) → v < nodes m → f < nodes m → RowIn (jump_normal m j v f) × RowIn (jump_shear m j v f)
  unfolding In RowIn jump_normal jump_shear agree_row
  jump_in j v f h k =
      let c = columns_of v h in
      let d = columns_of f k in (
        each_cons In c.at-sx (each_cons In c.at-t
            (each_cons In c.at-sy (each_cons In d.at-sx (each_cons In d.at-t (each_cons In d.at-sy (each_nil In)))))),
        each_cons In c.at-sx (each_cons In c.at-sy
            (each_cons In c.at-t (each_cons In d.at-sx (each_cons In d.at-sy (each_cons In d.at-t (each_nil In)))))),
      )

  strength_in : (r p q h C : ℤ) (v : ℕ) (d : Side) → v < nodes m → RowIn (strength_row r p q h C v d)
  unfolding In RowIn strength_row
  strength_in r p q h C v d k = let c = columns_of v k in each_cons In c.at-sx
      (each_cons In c.at-sy (each_cons In c.at-t (each_nil In)))

  plane_in : (r p q ch cv : ℤ) (v : ℕ) (c : Point) (k : ℤ) → v < nodes m → RowIn (plane_row r p q ch cv v c k)
  unfolding In RowIn plane_row
  plane_in r p q ch cv v c k h = let w = columns_of v h in each_cons In w.at-sx
      (each_cons In w.at-sy (each_cons In w.at-t (each_nil In)))

  pub mesh_columns : MeshColumns m
  unfolding RowIn In rows_of equality_rows balance_rows side_rows jump_rows strength_rows rows_by_sides rows_by_planes
  mesh_columns named =
      each_++ RowIn
      (each_++ RowIn
      (each_joined RowIn _ (count_from 0 (elements m)) (λ e j.
      let rows = balance_in e (λ i k. named.corners e i (omega (arith, of_count 0 (elements m) j)) k) in
      each_cons RowIn rows.0 (each_cons RowIn rows.1 (each_nil RowIn))))
      (each_++ RowIn
      (each_joined RowIn _ (count_from 0 (edges m)) (λ g j.
      let k : g < edges m = omega (arith, of_count 0 (edges m) j) in
      let from = edge_in g (from_node m g) (named.froms g k) in
      let to = edge_in g (to_node m g) (named.tos g k) in
      each_cons RowIn from.0 (each_cons RowIn from.1 (each_cons RowIn to.0 (each_cons RowIn to.1 (each_nil RowIn))))))
      (each_joined RowIn _ (count_from 0 (jumps m)) (λ g j.
      let k : g < jumps m = omega (arith, of_count 0 (jumps m) j) in
      let from = jump_in g (jump_from m g) (facing_from m g) (named.jump_froms g k).0 (named.jump_froms g k).1 in
      let to = jump_in g (jump_to m g) (facing_to m g) (named.jump_tos g k).0 (named.jump_tos g k).1 in
      each_cons RowIn from.0 (each_cons RowIn from.1 (each_cons RowIn to.0 (each_cons RowIn to.1 (each_nil RowIn))))))))
      (each_joined RowIn _ (strength_pairs m) (λ a j.
      let there = (((pairs m).exactly a).0 j).0 in
      by_kind (polygon_of (sides m)) m a (λ rs. (r : Row) → r ∈ rs → RowIn r)
      (λ e.
      each_joined RowIn _ (half_turn (polygon_of (sides m)).corners) (λ v k.
      each_cons RowIn (plane_in _ _ _ _ _ a.at v _ there)
      (each_cons RowIn (plane_in _ _ _ _ _ a.at v _ there) (each_nil RowIn))))
      (λ e. each_map RowIn _ (polygon_sides (polygon_of (sides m)).corners)
      (λ d k. strength_in _ _ _ _ _ a.at d there))))
