-- What is tested of a mesh after its lines (document 01, 'Verdict and report', refusals 5 to 8; document 02, 47, 44 and
-- 42), and the row that 21, 22 and 31 test.
use Rattle.std.specs.Prelude.{Bool, not, ◌&&◌, ◌||◌, List, [], ℕ, suc, ◌+◌, ◌-◌, ℤ, pos, ◌-ℤ◌, ◌*ℤ◌, eqb, leb, length}
use Rattle.std.specs.Prelude.{get_or}
use Rattle.std.specs.Int.Signed.{le_z, lt_z}
use Rattle.integer.specs.Tests.{eq_z}
use Rattle.scope.specs.Checks.{some_below, all_below}
use Rattle.scope.specs.Mesh.{pairs_with, elements, edges, sides, x, y, corner_count, around, from_node, to_node}
use Rattle.scope.specs.Mesh.{jump_from, jump_to, facing_from, facing_to}
use Rattle.scope.specs.Rows as R
use Rattle.scope.specs.Rows.{has_corner, pairs_below}

-- twice the area of the triangle of the nodes a, b, c: above 0 where b is a left turn
unfoldable pub turn : List ℤ → ℕ → ℕ → ℕ → ℤ
turn m a b c = (x m b -ℤ x m a) *ℤ (y m c -ℤ y m a) -ℤ (x m c -ℤ x m a) *ℤ (y m b -ℤ y m a)

-- refusal 5: "not a left turn at all four corners"; of a triangle "three left turns are asked" (document 02, N1)
unfoldable pub left_turn_at : List ℤ → ℕ → ℕ → Bool
left_turn_at m e i =
    lt_z (pos 0) (turn m (around m e (i + (corner_count m e - 1))) (around m e i) (around m e (i + 1)))

unfoldable pub left_turns : List ℤ → ℕ → Bool
left_turns m e = all_below (left_turn_at m e) (corner_count m e)

-- the directed side a to b is one of element e's
unfoldable pub has_side : List ℤ → ℕ → ℕ → ℕ → Bool
has_side m a b e = some_below (λ i. eqb (around m e i) a && eqb (around m e (i + 1)) b) (corner_count m e)

-- refusal 6: "a directed side that a lower element has", side i of element e being none of these
unfoldable pub own_side_at : List ℤ → ℕ → ℕ → Bool
own_side_at m e i = not (some_below (has_side m (around m e i) (around m e (i + 1))) e)

unfoldable pub own_sides : List ℤ → ℕ → Bool
own_sides m e = all_below (own_side_at m e) (corner_count m e)

-- refusal 7: "in no element"
unfoldable pub in_element : List ℤ → ℕ → Bool
in_element m v = some_below (has_corner m v) (elements m)

-- refusal 47 (document 02, N10), "A line along one of the two elements' sides decides it": each corner of element d is
-- on the line from node a to node b or right of it
unfoldable pub none_left : List ℤ → ℕ → ℕ → ℕ → Bool
none_left m a b d = all_below (λ j. le_z (turn m a b (around m d j)) (pos 0)) (corner_count m d)

-- the line along a side of element e has all of element d on it or to its right
unfoldable pub parted_by : List ℤ → ℕ → ℕ → Bool
parted_by m e d = some_below (λ i. none_left m (around m e i) (around m e (i + 1)) d) (corner_count m e)

-- a side of one of the two does
unfoldable pub apart_from : List ℤ → ℕ → ℕ → Bool
apart_from m d e = parted_by m d e || parted_by m e d

-- element e is apart from each element below it
unfoldable pub lies_apart : List ℤ → ℕ → Bool
lies_apart m e = all_below (λ d. apart_from m d e) e

-- "An outer side (an element's directed side whose reverse is no element's)", from a to b: what 8 and 44 ask for
unfoldable pub outer_side : List ℤ → ℕ → ℕ → Bool
outer_side m a b = some_below (has_side m a b) (elements m) && not (some_below (has_side m b a) (elements m))

-- edge k goes from a to b
unfoldable pub has_ends : List ℤ → ℕ → ℕ → ℕ → Bool
has_ends m a b k = eqb (from_node m k) a && eqb (to_node m k) b

-- refusal 8: "edge is no element's side, or its reverse is one, or an earlier edge has it"
unfoldable pub outer_edge : List ℤ → ℕ → Bool
outer_edge m g =
    outer_side m (from_node m g) (to_node m g) && not (some_below (has_ends m (from_node m g) (to_node m g)) g)

-- the side from a to b is one of the two that jump k uses: from to to, facing to back to facing from
unfoldable pub used_by_jump : List ℤ → ℕ → ℕ → ℕ → Bool
used_by_jump m a b k =
    (eqb (jump_from m k) a && eqb (jump_to m k) b) || (eqb (facing_to m k) a && eqb (facing_from m k) b)

-- the side from a to b is an outer side "used by no edge or earlier jump", earlier than jump j
unfoldable pub free_side : List ℤ → ℕ → ℕ → ℕ → Bool
free_side m j a b =
    outer_side m a b && not (some_below (has_ends m a b) (edges m)) && not (some_below (used_by_jump m a b) j)

-- nodes with the same coordinates
unfoldable pub same_point : List ℤ → ℕ → ℕ → Bool
same_point m a b = eq_z (x m a) (x m b) && eq_z (y m a) (y m b)

-- refusal 44 (document 02, N6): "unless from to to, and facing to back to facing from, are both outer sides as
-- directed, coordinates equal at each end, used by no edge or earlier jump"
unfoldable pub is_joint : List ℤ → ℕ → Bool
is_joint m j =
    free_side m j (jump_from m j) (jump_to m j)
    && free_side m j (facing_to m j) (facing_from m j)
    && same_point m (jump_from m j) (facing_from m j)
    && same_point m (jump_to m j) (facing_to m j)

-- refusal 42 (document 02, N2): "Pairs are at most 100", and 40 with 108 sides (N9), counted to node v
unfoldable pub pairs_fit : List ℤ → ℕ → Bool
pairs_fit m v = leb (length (pairs_below m (suc v))) (pairs_with (sides m))

-- row k of a list of rows
unfoldable pub row_at : List R.Row → ℕ → R.Row
row_at rs k = get_or rs k (record { kind = R.unfixed; entries = []; live = pos 0; right = pos 0 })
