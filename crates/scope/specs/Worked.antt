-- The numbers of document 01's sheet ('A whole sheet, and its neighbours'), of its neighbours, of fill over clay
-- (document 02, N2), of two blocks on a joint (N6), and of bedded clay (N14). Each header's sixth number is that of its
-- jumps, 0 on document 01's sheet: "document 01's sheet takes a 0 there". Each soil's last two are its kind and cv, "0
-- and 0 on document 01's sheet".
use Rattle.std.specs.Prelude.{List, [], ◌∷◌, ◌++◌, ℕ, ℤ, pos, negsuc, neg_ℤ, ◌-ℤ◌, replicate, get_or}

unfoldable pub zeros : ℕ → List ℤ
zeros k = replicate k (pos 0)

-- "Mesh: 4 1 1 3 12 0 / 0 1 1 10 0 0 0 0 0 0 / 0 0 / 1 0 / 1 1 / 0 1 / 1 2 3 4 1 / 3 4 3 0 0 -1 0 / 2 3 3 0 0 0 0 / 4
-- 1 3 0 0 0 0"
unfoldable pub worked_mesh : List ℤ
worked_mesh =
    (pos 4 ∷ pos 1 ∷ pos 1 ∷ pos 3 ∷ pos 12 ∷ pos 0 ∷ [])
    ++ (pos 0 ∷ pos 1 ∷ pos 1 ∷ pos 10 ∷ zeros 6)
    ++ (pos 0 ∷ pos 0 ∷ pos 1 ∷ pos 0 ∷ pos 1 ∷ pos 1 ∷ pos 0 ∷ pos 1 ∷ [])
    ++ (pos 1 ∷ pos 2 ∷ pos 3 ∷ pos 4 ∷ pos 1 ∷ [])
    ++ (pos 3 ∷ pos 4 ∷ pos 3 ∷ pos 0 ∷ pos 0 ∷ negsuc 0 ∷ pos 0 ∷ [])
    ++ (pos 2 ∷ pos 3 ∷ pos 3 ∷ zeros 4)
    ++ (pos 4 ∷ pos 1 ∷ pos 3 ∷ zeros 4)

-- "four times 0 -20 0", with -l for -20
unfoldable pub worked_stresses : ℕ → List ℤ
worked_stresses l =
    let s : ℤ = neg_ℤ (pos l) in
    pos 0 ∷ s ∷ pos 0 ∷ pos 0 ∷ s ∷ pos 0 ∷ pos 0 ∷ s ∷ pos 0 ∷ pos 0 ∷ s ∷ pos 0 ∷ []

-- "0 0; 30 0 0 0 / 0 0 -30 0 / 0 0 0 0; nodes 1, 2 and 4 twelve zeros each, node 3 (third) 1, ten zeros, 1", with y
-- for -30
unfoldable pub worked_multipliers : ℤ → List ℤ
worked_multipliers y =
    zeros 2 ++ (pos 30 ∷ zeros 5) ++ (y ∷ zeros 29) ++ (pos 1 ∷ zeros 10) ++ (pos 1 ∷ zeros 12)

-- "1 1 1 20" with l for 20, and y for -30
unfoldable pub worked_claim : ℕ → ℤ → List ℤ
worked_claim l y = (pos 1 ∷ pos 1 ∷ pos 1 ∷ pos l ∷ []) ++ worked_stresses l ++ worked_multipliers y

-- the multipliers alone
unfoldable pub multipliers_alone : List ℤ
multipliers_alone = (pos 0 ∷ pos 1 ∷ pos 0 ∷ pos 0 ∷ []) ++ worked_multipliers (neg_ℤ (pos 30))

-- the sheet; l 19, sy -19; and that with the -30 as -29, which is refused with 32
unfoldable pub sheet : List ℤ
sheet = worked_claim 20 (neg_ℤ (pos 30))

unfoldable pub sheet19 : List ℤ
sheet19 = worked_claim 19 (neg_ℤ (pos 30))

unfoldable pub sheet29 : List ℤ
sheet29 = worked_claim 19 (neg_ℤ (pos 29))

-- the field of l 19 in fractions with other denominators, each one more than what is written: -38/2 and 0/5 at node 2,
-- -57/3 and 0/7 at node 3
unfoldable pub nineteen_fractions : ℕ → ℤ × ℕ
nineteen_fractions k =
    let s : ℤ = neg_ℤ (pos 19) in
    get_or
    ((pos 0, 0) ∷ (s, 0) ∷ (pos 0, 0)
    ∷ (pos 0, 4) ∷ (neg_ℤ (pos 38), 1) ∷ (pos 0, 4)
    ∷ (pos 0, 6) ∷ (neg_ℤ (pos 57), 2) ∷ (pos 0, 6)
    ∷ (pos 0, 0) ∷ (s, 0) ∷ (pos 0, 0)
    ∷ []) k (pos 0, 0)

-- the same over 6
unfoldable pub nineteen_sixths : ℕ → ℤ
nineteen_sixths k =
    let s : ℤ = neg_ℤ (pos 114) in
    get_or (pos 0 ∷ s ∷ pos 0 ∷ pos 0 ∷ s ∷ pos 0 ∷ pos 0 ∷ s ∷ pos 0 ∷ pos 0 ∷ s ∷ pos 0 ∷ []) k (pos 0)

-- ---- meshes that differ in a number of an unfixed part

-- "4 1 1 1 12 0 / 0 1 1 10 0 0 0 0 0 0 / 0 0 / 1 0 / 1 1 / 0 1 / 1 2 3 4 1 / 2 3 1 0 z 0 0": the edge's shear is
-- unfixed, with z as its dead number
unfoldable pub one_edge : ℤ → List ℤ
one_edge z =
    (pos 4 ∷ pos 1 ∷ pos 1 ∷ pos 1 ∷ pos 12 ∷ pos 0 ∷ [])
    ++ (pos 0 ∷ pos 1 ∷ pos 1 ∷ pos 10 ∷ zeros 6)
    ++ (pos 0 ∷ pos 0 ∷ pos 1 ∷ pos 0 ∷ pos 1 ∷ pos 1 ∷ pos 0 ∷ pos 1 ∷ [])
    ++ (pos 1 ∷ pos 2 ∷ pos 3 ∷ pos 4 ∷ pos 1 ∷ [])
    ++ (pos 2 ∷ pos 3 ∷ pos 1 ∷ pos 0 ∷ z ∷ zeros 2)

-- the sheet's mesh with the shear of its third edge unfixed, "4 1 1 0 z 0 0"
unfoldable pub free_shear : ℤ → List ℤ
free_shear z =
    (pos 4 ∷ pos 1 ∷ pos 1 ∷ pos 3 ∷ pos 12 ∷ pos 0 ∷ [])
    ++ (pos 0 ∷ pos 1 ∷ pos 1 ∷ pos 10 ∷ zeros 6)
    ++ (pos 0 ∷ pos 0 ∷ pos 1 ∷ pos 0 ∷ pos 1 ∷ pos 1 ∷ pos 0 ∷ pos 1 ∷ [])
    ++ (pos 1 ∷ pos 2 ∷ pos 3 ∷ pos 4 ∷ pos 1 ∷ [])
    ++ (pos 3 ∷ pos 4 ∷ pos 3 ∷ pos 0 ∷ pos 0 ∷ negsuc 0 ∷ pos 0 ∷ [])
    ++ (pos 2 ∷ pos 3 ∷ pos 3 ∷ zeros 4)
    ++ (pos 4 ∷ pos 1 ∷ pos 1 ∷ pos 0 ∷ z ∷ zeros 2)

-- the sheet's mesh with its element written from the second corner on, "2 3 4 1 1"
unfoldable pub turned_mesh : List ℤ
turned_mesh =
    (pos 4 ∷ pos 1 ∷ pos 1 ∷ pos 3 ∷ pos 12 ∷ pos 0 ∷ [])
    ++ (pos 0 ∷ pos 1 ∷ pos 1 ∷ pos 10 ∷ zeros 6)
    ++ (pos 0 ∷ pos 0 ∷ pos 1 ∷ pos 0 ∷ pos 1 ∷ pos 1 ∷ pos 0 ∷ pos 1 ∷ [])
    ++ (pos 2 ∷ pos 3 ∷ pos 4 ∷ pos 1 ∷ pos 1 ∷ [])
    ++ (pos 3 ∷ pos 4 ∷ pos 3 ∷ pos 0 ∷ pos 0 ∷ negsuc 0 ∷ pos 0 ∷ [])
    ++ (pos 2 ∷ pos 3 ∷ pos 3 ∷ zeros 4)
    ++ (pos 4 ∷ pos 1 ∷ pos 3 ∷ zeros 4)

-- the sheet's square as two triangles that repeat their third corners: 1 2 3 3 and 1 3 4 4
unfoldable pub two_triangles : List ℤ
two_triangles =
    (pos 4 ∷ pos 2 ∷ pos 1 ∷ pos 3 ∷ pos 12 ∷ pos 0 ∷ [])
    ++ (pos 0 ∷ pos 1 ∷ pos 1 ∷ pos 10 ∷ zeros 6)
    ++ (pos 0 ∷ pos 0 ∷ pos 1 ∷ pos 0 ∷ pos 1 ∷ pos 1 ∷ pos 0 ∷ pos 1 ∷ [])
    ++ (pos 1 ∷ pos 2 ∷ pos 3 ∷ pos 3 ∷ pos 1 ∷ [])
    ++ (pos 1 ∷ pos 3 ∷ pos 4 ∷ pos 4 ∷ pos 1 ∷ [])
    ++ (pos 3 ∷ pos 4 ∷ pos 3 ∷ pos 0 ∷ pos 0 ∷ negsuc 0 ∷ pos 0 ∷ [])
    ++ (pos 2 ∷ pos 3 ∷ pos 3 ∷ zeros 4)
    ++ (pos 4 ∷ pos 1 ∷ pos 3 ∷ zeros 4)

-- its field of l 20 alone
unfoldable pub field_alone : List ℤ
field_alone = (pos 1 ∷ pos 0 ∷ pos 1 ∷ pos 20 ∷ []) ++ worked_stresses 20

-- ---- "Soft clay under fill was passed at the fill's strength, since a shared node had one soil" (document 02, N2)

-- "6 2 2 1 12 0 / 0 1 1 10 0 0 0 0 0 0 / 0 1 1 5 0 10 0 0 0 0 / 0 0 / 1 0 / 1 1 / 0 1 / 1 2 / 0 2 / 4 3 5 6 1 / 1 2 3
-- 4 2 / 5 6 3 0 0 -1 0": the fill is the lower-numbered element and lies over the clay, of half its cohesion; nodes 3
-- and 4 are corners of both
unfoldable pub fill_over_clay : List ℤ
fill_over_clay =
    (pos 6 ∷ pos 2 ∷ pos 2 ∷ pos 1 ∷ pos 12 ∷ pos 0 ∷ [])
    ++ (pos 0 ∷ pos 1 ∷ pos 1 ∷ pos 10 ∷ zeros 6)
    ++ (pos 0 ∷ pos 1 ∷ pos 1 ∷ pos 5 ∷ pos 0 ∷ pos 10 ∷ zeros 4)
    ++ (pos 0 ∷ pos 0 ∷ pos 1 ∷ pos 0 ∷ pos 1 ∷ pos 1 ∷ pos 0 ∷ pos 1 ∷ pos 1 ∷ pos 2 ∷ pos 0 ∷ pos 2 ∷ [])
    ++ (pos 4 ∷ pos 3 ∷ pos 5 ∷ pos 6 ∷ pos 1 ∷ [])
    ++ (pos 1 ∷ pos 2 ∷ pos 3 ∷ pos 4 ∷ pos 2 ∷ [])
    ++ (pos 5 ∷ pos 6 ∷ pos 3 ∷ pos 0 ∷ pos 0 ∷ negsuc 0 ∷ pos 0 ∷ [])

-- "1 0 1 l", sy 10 - l at nodes 1 and 2 and -l above them: at l 20 beyond the clay's strength at nodes 3 and 4, and
-- nowhere beyond the fill's
unfoldable pub over_clay : ℕ → List ℤ
over_clay l =
    let foot : ℤ = pos 10 -ℤ pos l in
    let top : ℤ = neg_ℤ (pos l) in
    (pos 1 ∷ pos 0 ∷ pos 1 ∷ pos l ∷ [])
    ++ (pos 0 ∷ foot ∷ pos 0 ∷ pos 0 ∷ foot ∷ pos 0 ∷ [])
    ++ (pos 0 ∷ top ∷ pos 0 ∷ pos 0 ∷ top ∷ pos 0 ∷ pos 0 ∷ top ∷ pos 0 ∷ pos 0 ∷ top ∷ pos 0 ∷ [])

-- ---- two blocks on a joint (document 02, N6)

-- "8 2 1 edges 12 jumps / 0 1 1 10 0 0 0 0 0 0 / 0 0 / 1 0 / 1 1 / 0 1 / 1 0 / 2 0 / 2 1 / 1 1 / 1 2 3 4 1 / 5 6 7 8 1
-- / ..": blocks side by side without a common node, on one upright joint from (1, 0) to (1, 1); the edges and jumps as
-- they are given
unfoldable pub blocks : ℕ → ℕ → List ℤ → List ℤ
blocks edge_count jump_count lines =
    (pos 8 ∷ pos 2 ∷ pos 1 ∷ pos edge_count ∷ pos 12 ∷ pos jump_count ∷ [])
    ++ (pos 0 ∷ pos 1 ∷ pos 1 ∷ pos 10 ∷ zeros 6)
    ++ (pos 0 ∷ pos 0 ∷ pos 1 ∷ pos 0 ∷ pos 1 ∷ pos 1 ∷ pos 0 ∷ pos 1 ∷ [])
    ++ (pos 1 ∷ pos 0 ∷ pos 2 ∷ pos 0 ∷ pos 2 ∷ pos 1 ∷ pos 1 ∷ pos 1 ∷ [])
    ++ (pos 1 ∷ pos 2 ∷ pos 3 ∷ pos 4 ∷ pos 1 ∷ [])
    ++ (pos 5 ∷ pos 6 ∷ pos 7 ∷ pos 8 ∷ pos 1 ∷ [])
    ++ lines

-- "3 4 3 0 0 -1 0 / 7 8 3 0 0 0 0": the live load presses on the left block, the right block's top is free
unfoldable pub block_edges : List ℤ
block_edges =
    (pos 3 ∷ pos 4 ∷ pos 3 ∷ pos 0 ∷ pos 0 ∷ negsuc 0 ∷ pos 0 ∷ []) ++ (pos 7 ∷ pos 8 ∷ pos 3 ∷ zeros 4)

-- the jump "2 3 5 8"
unfoldable pub joint : List ℤ
joint = pos 2 ∷ pos 3 ∷ pos 5 ∷ pos 8 ∷ []

unfoldable pub two_blocks : List ℤ
two_blocks = blocks 2 1 (block_edges ++ joint)

-- "1 1 1 40", sx -20 in both blocks, sy -40 in the left one and 0 in the right one, with z for the right block's -20.
-- Multipliers: sy3 = -l and sy8 = 0 by the edges, sx3 = sx8 by the jump, sx3 - sy3 ≤ 20 by the sides 1 and 12 at node
-- 3, sy8 - sx8 ≤ 20 by the sides 6 and 7 at node 8; y for the jump's -30
unfoldable pub on_joint : ℤ → ℤ → List ℤ
on_joint z y =
    let left : List ℤ = neg_ℤ (pos 20) ∷ neg_ℤ (pos 40) ∷ pos 0 ∷ [] in
    let right : List ℤ = z ∷ pos 0 ∷ pos 0 ∷ [] in
    (pos 1 ∷ pos 1 ∷ pos 1 ∷ pos 40 ∷ [])
    ++ left ++ left ++ left ++ left ++ right ++ right ++ right ++ right
    ++ zeros 4
    ++ (pos 30 ∷ zeros 5) ++ (neg_ℤ (pos 30) ∷ pos 0 ∷ [])
    ++ zeros 2 ++ (y ∷ pos 0 ∷ [])
    ++ zeros 24 ++ (pos 1 ∷ zeros 10) ++ (pos 1 ∷ zeros 48) ++ zeros 5 ++ (pos 1 ∷ pos 1 ∷ zeros 5)

-- "6 2 1 2 12 0 / .. / 0 0 / 1 0 / 1 1 / 0 1 / 2 0 / 2 1 / 1 2 3 4 1 / 2 5 6 3 1 / 3 4 3 0 0 -1 0 / 6 3 3 0 0 0 0":
-- the same blocks with common nodes, so that no stress jumps
unfoldable pub shared_blocks : List ℤ
shared_blocks =
    (pos 6 ∷ pos 2 ∷ pos 1 ∷ pos 2 ∷ pos 12 ∷ pos 0 ∷ [])
    ++ (pos 0 ∷ pos 1 ∷ pos 1 ∷ pos 10 ∷ zeros 6)
    ++ (pos 0 ∷ pos 0 ∷ pos 1 ∷ pos 0 ∷ pos 1 ∷ pos 1 ∷ pos 0 ∷ pos 1 ∷ pos 2 ∷ pos 0 ∷ pos 2 ∷ pos 1 ∷ [])
    ++ (pos 1 ∷ pos 2 ∷ pos 3 ∷ pos 4 ∷ pos 1 ∷ [])
    ++ (pos 2 ∷ pos 5 ∷ pos 6 ∷ pos 3 ∷ pos 1 ∷ [])
    ++ (pos 3 ∷ pos 4 ∷ pos 3 ∷ pos 0 ∷ pos 0 ∷ negsuc 0 ∷ pos 0 ∷ [])
    ++ (pos 6 ∷ pos 3 ∷ pos 3 ∷ zeros 4)

-- multipliers alone: sy3 = -l by the loaded top, sy3 = 0 by the free one
unfoldable pub on_shared : List ℤ
on_shared =
    (pos 0 ∷ pos 1 ∷ pos 0 ∷ pos 0 ∷ []) ++ zeros 4 ++ (pos 1 ∷ zeros 5) ++ (negsuc 0 ∷ zeros 1) ++ zeros 72

-- "7 2 1 2 12 1 / .. / 0 0 / 1 0 / 1 1 / 0 1 / 2 0 / 2 1 / 1 1 / 1 2 3 4 1 / 2 5 6 7 1 / 3 4 3 0 0 -1 0 / 6 7 3 0 0 0
-- 0 / 2 3 2 7": a cut down from the top; its tip, node 2, isn't doubled
unfoldable pub cut_with_tip : List ℤ
cut_with_tip =
    (pos 7 ∷ pos 2 ∷ pos 1 ∷ pos 2 ∷ pos 12 ∷ pos 1 ∷ [])
    ++ (pos 0 ∷ pos 1 ∷ pos 1 ∷ pos 10 ∷ zeros 6)
    ++ (pos 0 ∷ pos 0 ∷ pos 1 ∷ pos 0 ∷ pos 1 ∷ pos 1 ∷ pos 0 ∷ pos 1 ∷ [])
    ++ (pos 2 ∷ pos 0 ∷ pos 2 ∷ pos 1 ∷ pos 1 ∷ pos 1 ∷ [])
    ++ (pos 1 ∷ pos 2 ∷ pos 3 ∷ pos 4 ∷ pos 1 ∷ [])
    ++ (pos 2 ∷ pos 5 ∷ pos 6 ∷ pos 7 ∷ pos 1 ∷ [])
    ++ (pos 3 ∷ pos 4 ∷ pos 3 ∷ pos 0 ∷ pos 0 ∷ negsuc 0 ∷ pos 0 ∷ [])
    ++ (pos 6 ∷ pos 7 ∷ pos 3 ∷ zeros 4)
    ++ (pos 2 ∷ pos 3 ∷ pos 2 ∷ pos 7 ∷ [])

-- "1 0 1 20": sx is -10 at every node, sy -20 on the left of the cut and 0 on its right
unfoldable pub on_cut : List ℤ
on_cut =
    let at : ℤ → List ℤ = λ sy. neg_ℤ (pos 10) ∷ sy ∷ pos 0 ∷ [] in
    (pos 1 ∷ pos 0 ∷ pos 1 ∷ pos 20 ∷ [])
    ++ at (neg_ℤ (pos 30)) ++ at (neg_ℤ (pos 10)) ++ at (neg_ℤ (pos 20)) ++ at (neg_ℤ (pos 20))
    ++ at (pos 10) ++ at (pos 0) ++ at (pos 0)

-- ---- bedded clay (document 02, N14)

-- document 01's square of a soil with ch 10, with this number of sides, this h, and this kind and cv: "4 1 1 3 sides 0
-- / 0 1 h 10 0 0 0 0 kind cv / .."
unfoldable pub beds : ℕ → ℕ → ℕ → ℕ → List ℤ
beds side_count h kind cv =
    (pos 4 ∷ pos 1 ∷ pos 1 ∷ pos 3 ∷ pos side_count ∷ pos 0 ∷ [])
    ++ (pos 0 ∷ pos 1 ∷ pos h ∷ pos 10 ∷ zeros 4)
    ++ (pos kind ∷ pos cv ∷ [])
    ++ (pos 0 ∷ pos 0 ∷ pos 1 ∷ pos 0 ∷ pos 1 ∷ pos 1 ∷ pos 0 ∷ pos 1 ∷ [])
    ++ (pos 1 ∷ pos 2 ∷ pos 3 ∷ pos 4 ∷ pos 1 ∷ [])
    ++ (pos 3 ∷ pos 4 ∷ pos 3 ∷ pos 0 ∷ pos 0 ∷ negsuc 0 ∷ pos 0 ∷ [])
    ++ (pos 2 ∷ pos 3 ∷ pos 3 ∷ zeros 4)
    ++ (pos 4 ∷ pos 1 ∷ pos 3 ∷ zeros 4)

-- "1 1 6 l", four times "0 -l 0"; "0 0"; "24 0 0 0 / 0 0 -24 0 / 0 0 0 0"; node 3 "0 0 0 1 0 0 0 0 0 0 1 0": its rows 4
-- and 11, pN - qT of the plane (4, 3) and pN + qT of the plane (-4, 3), have 12·(sx - sy) each
unfoldable pub on_beds : ℕ → List ℤ
on_beds l =
    (pos 1 ∷ pos 1 ∷ pos 6 ∷ pos l ∷ []) ++ worked_stresses l
    ++ zeros 2 ++ (pos 24 ∷ zeros 5) ++ (neg_ℤ (pos 24) ∷ zeros 29)
    ++ zeros 3 ++ (pos 1 ∷ zeros 6) ++ (pos 1 ∷ zeros 13)

-- document 01's sheet with a second soil, which is bedded and which no element has: "4 1 2 3 12 0 / 0 1 1 10 0 0 0 0 0
-- 0 / 0 1 1 10 0 0 0 0 1 5 / .."
unfoldable pub unused_beds : List ℤ
unused_beds =
    (pos 4 ∷ pos 1 ∷ pos 2 ∷ pos 3 ∷ pos 12 ∷ pos 0 ∷ [])
    ++ (pos 0 ∷ pos 1 ∷ pos 1 ∷ pos 10 ∷ zeros 6)
    ++ (pos 0 ∷ pos 1 ∷ pos 1 ∷ pos 10 ∷ zeros 4)
    ++ (pos 1 ∷ pos 5 ∷ [])
    ++ (pos 0 ∷ pos 0 ∷ pos 1 ∷ pos 0 ∷ pos 1 ∷ pos 1 ∷ pos 0 ∷ pos 1 ∷ [])
    ++ (pos 1 ∷ pos 2 ∷ pos 3 ∷ pos 4 ∷ pos 1 ∷ [])
    ++ (pos 3 ∷ pos 4 ∷ pos 3 ∷ pos 0 ∷ pos 0 ∷ negsuc 0 ∷ pos 0 ∷ [])
    ++ (pos 2 ∷ pos 3 ∷ pos 3 ∷ zeros 4)
    ++ (pos 4 ∷ pos 1 ∷ pos 3 ∷ zeros 4)

-- ---- meshes that are refused with 44

-- from to to is no side: "3 2 5 8"; facing to back to facing from is none: the facing nodes in the other order,
-- "2 3 8 5"
unfoldable pub against_its_side : List ℤ
against_its_side = blocks 2 1 (block_edges ++ (pos 3 ∷ pos 2 ∷ pos 5 ∷ pos 8 ∷ []))

unfoldable pub facing_turned : List ℤ
facing_turned = blocks 2 1 (block_edges ++ (pos 2 ∷ pos 3 ∷ pos 8 ∷ pos 5 ∷ []))

-- one side is used by an edge: the left block's, "2 3 3 0 0 0 0", and the right block's, "8 5 3 0 0 0 0"
unfoldable pub side_with_edge : List ℤ
side_with_edge = blocks 1 1 ((pos 2 ∷ pos 3 ∷ pos 3 ∷ zeros 4) ++ joint)

unfoldable pub facing_with_edge : List ℤ
facing_with_edge = blocks 1 1 ((pos 8 ∷ pos 5 ∷ pos 3 ∷ zeros 4) ++ joint)

-- the jump a second time
unfoldable pub jump_twice : List ℤ
jump_twice = blocks 0 2 (joint ++ joint)

-- coordinates differ at an end: the sides "4 1" and "6 7" are a block apart
unfoldable pub sides_apart : List ℤ
sides_apart = blocks 0 1 (pos 4 ∷ pos 1 ∷ pos 7 ∷ pos 6 ∷ [])

-- the joint a second time, from its other side: "8 5 3 2"
unfoldable pub joint_from_behind : List ℤ
joint_from_behind = blocks 0 2 (joint ++ (pos 8 ∷ pos 5 ∷ pos 3 ∷ pos 2 ∷ []))

-- ---- a mesh that is refused with 47

-- "12 3 1 0 12 0 / .. / 0 2 / 6 2 / 6 4 / 0 4 / 4 4 / 6 4 / 6 6 / 4 6 / 2 0 / 4 0 / 4 6 / 2 6 / 1 2 3 4 1 / 5 6 7 8 1 /
-- 9 10 11 12 1": a lying bar, a block that touches both bars, a standing bar that crosses the lying one
unfoldable pub crossing_bars : List ℤ
crossing_bars =
    (pos 12 ∷ pos 3 ∷ pos 1 ∷ pos 0 ∷ pos 12 ∷ pos 0 ∷ [])
    ++ (pos 0 ∷ pos 1 ∷ pos 1 ∷ pos 10 ∷ zeros 6)
    ++ (pos 0 ∷ pos 2 ∷ pos 6 ∷ pos 2 ∷ pos 6 ∷ pos 4 ∷ pos 0 ∷ pos 4 ∷ [])
    ++ (pos 4 ∷ pos 4 ∷ pos 6 ∷ pos 4 ∷ pos 6 ∷ pos 6 ∷ pos 4 ∷ pos 6 ∷ [])
    ++ (pos 2 ∷ pos 0 ∷ pos 4 ∷ pos 0 ∷ pos 4 ∷ pos 6 ∷ pos 2 ∷ pos 6 ∷ [])
    ++ (pos 1 ∷ pos 2 ∷ pos 3 ∷ pos 4 ∷ pos 1 ∷ [])
    ++ (pos 5 ∷ pos 6 ∷ pos 7 ∷ pos 8 ∷ pos 1 ∷ [])
    ++ (pos 9 ∷ pos 10 ∷ pos 11 ∷ pos 12 ∷ pos 1 ∷ [])
