-- Every number and place of a refusal is small: a place is a line, row, column, node or element of a mesh whose header
-- has passed, or the first line.
use mathlib.Core.Path.{◌≡◌, refl}
use mathlib.Core.Logic.{◌⊎◌, inl, inr}
use mathlib.Core.List.{List, ◌++◌}
use Prim.Native.Nat.{ℕ, zero, suc, ◌+◌, ◌*◌, ◌<◌, ◌≤◌}
use native.Mathlib.Nat.{mul-le-mul_right}
use native.Mathlib.Decide.{dec_lt}
use native.Mathlib.Omega.{arith}
use lib.IntN.{ℤ}
use lib.ListN.{length}
use Rattle.scope.specs.declared.Place.{Place}
use Rattle.scope.specs.Answer.{place_number}
use Rattle.scope.specs.Columns.{has_field, has_multipliers, n, l}
use Rattle.scope.specs.Layout.{Layout, group_at, numbers_at, groups, line_count, lines_before}
use Rattle.scope.specs.Bounds.{most_strength_rows}
use Rattle.scope.specs.Mesh.{mesh_header, soil_lines, node_lines, element_lines, edge_lines, jump_lines, mesh_layout, layout_with}
use Rattle.scope.specs.Mesh.{mesh_groups, nodes, elements, soils, edges, sides, jumps, edge_line, jump_line}
use Rattle.scope.specs.Claim.{claim_header, stress_lines, element_multipliers, edge_multipliers, jump_multipliers}
use Rattle.scope.specs.Claim.{strength_multipliers, claim_layout, stress, multiplier}
use Rattle.scope.specs.Rows.{pair_count, equality_rows, strength_rows, rows_of}
use Rattle.scope.specs.Statements.{LineSound, MeshSound}
use Rattle.scope.specs.Phases.{Below, AllHold}
use Rattle.scope.specs.Refusals.{line_steps, line_phases, shape_phases, mesh_phases, field_phases, multiplier_phases}
use Rattle.scope.specs.Refusals.{field_part, multiplier_part, part_phases, claim_phases, Refusal}
use Rattle.scope.specs.NumberRanges.{Counts}
use Rattle.scope.proofs.NumberRanges.{header_counts, mesh_facts}
use Rattle.scope.proofs.Phases.{EachIn, each_refusal, each_join, each_part, own_number}
use Rattle.scope.proofs.Refusals.{line_sound, lines_sound, mesh_sound}
use Rattle.scope.proofs.Exactly.{OfMesh, there_most, each_number}
use Rattle.scope.proofs.Pairs.{few_pairs_lem}
use Rattle.scope.proofs.SideLimits.{few_most}
use Rattle.scope.proofs.PolygonRule.{listed_polygon}
use Rattle.scope.proofs.RowCounts.{equality_count_lem, strength_count}

-- the lines of a mesh whose header has passed
pub mesh_lines_lem : (m : List ℤ) → Counts m → line_count (groups mesh_layout m) ≤ 337
unfolding layout_with groups mesh_header soil_lines node_lines element_lines edge_lines jump_lines line_count
mesh_lines_lem m c = omega (arith, c)

pub claim_lines_lem : (m c : List ℤ) → MeshSound m → line_count (groups (claim_layout m) c) ≤ 421
unfolding claim_layout groups claim_header stress_lines element_multipliers edge_multipliers jump_multipliers
    strength_multipliers line_count
claim_lines_lem m c s =
    omega (
      arith,
      (mesh_facts m s.lines).counts,
      few_most (sides m) (few_pairs_lem m s),
      there_most (has_field c) (nodes m),
      there_most (has_multipliers c) (pair_count m),
      there_most (has_multipliers c) (elements m),
      there_most (has_multipliers c) (edges m),
      there_most (has_multipliers c) (jumps m),
    )

-- a place among lines whose number is bounded once the first line is sound
pub line_places : {f : Layout} {ns : List ℤ} {B most : ℕ} → 0 < B → suc B ≤ most
    → (LineSound f ns 0 → line_count (groups f ns) ≤ B) → EachIn (λ c p. place_number p ≤ most) (line_phases f ns)
line_places {f} {ns} {B} {most} z top few = (
  λ k c h b r. at k h b,
  λ e. (λ k c h b r. end e (dec_lt 0 (line_count (groups f ns))), λ i. tt),
)
  where
    at : (k : ℕ) → k < line_count (groups f ns)
        → Below k (λ j. AllHold (line_steps f (group_at f ns j) (numbers_at f ns j))) → suc k ≤ most
    at zero h b = omega arith
    at (suc k) h b = omega (arith, few (line_sound f ns 0 (b 0 (omega arith))))

    end : Below (line_count (groups f ns)) (λ j. AllHold (line_steps f (group_at f ns j) (numbers_at f ns j)))
        → Dec (0 < line_count (groups f ns)) → suc (line_count (groups f ns)) ≤ most
    end e (yes l) = omega (arith, few (line_sound f ns 0 (e 0 l)))
    end e (no l) = omega arith

edge_line_lem : (m : List ℤ) (g : ℕ) → edge_line m g ≡ 1 + soils m + nodes m + elements m + g
unfolding edge_line mesh_groups layout_with groups mesh_header soil_lines node_lines element_lines edge_lines
    lines_before
edge_line_lem m g = omega arith

jump_line_lem : (m : List ℤ) (j : ℕ) → jump_line m j ≡ 1 + soils m + nodes m + elements m + edges m + j
unfolding jump_line mesh_groups layout_with groups mesh_header soil_lines node_lines element_lines edge_lines
    jump_lines lines_before
jump_line_lem m j = omega arith

pub few_strengths : (m : List ℤ) → MeshSound m → length (strength_rows m) ≤ most_strength_rows
few_strengths m s =
    let listed = (mesh_facts m s.lines).counts.sides_listed in
    let most = mul-le-mul_right (sides m) (few_pairs_lem m s) in
    omega (arith, strength_count m listed, most, (listed_polygon (sides m) listed).fits.rows_fit)

-- ---- numbers

-- the largest number of a refusal: 47
abbrev pub most_number : ℕ
most_number = 47

mesh_most : {k : ℕ} → OfMesh k → k ≤ most_number
mesh_most {k} e = by e.1
  where
    by : (k ≤ 13) ⊎ ((42 ≤ k) × (k ≤ 47)) → k ≤ most_number
    by (inl l) = omega arith
    by (inr l) = l.1

numbers_most : (m c : List ℤ) → EachIn (λ k p. k ≤ most_number) (mesh_phases m ++ claim_phases m c)
numbers_most m c =
    each_number (λ k p. k ≤ most_number) m c (λ k p e. mesh_most e) (
      λ k n h l r. omega (arith, own_number {k = 21} refl r),
      λ e.
          (λ k n h l r. omega (arith, own_number {k = 22} refl r), λ i. tt),
    )
    (λ a b d. (
      λ k n h l r. omega (arith, own_number {k = 31} refl r),
      λ e. (
        λ k n h l r. omega (arith, own_number {k = 32} refl r),
        λ e. (λ k n h l r. omega (arith, own_number {k = 33} refl r), λ i. tt),
      ),
    ))

-- ---- places

-- the largest place: the last strength row
abbrev pub most_place : ℕ
most_place = most_strength_rows

places_most : (m c : List ℤ) → EachIn (λ k p. place_number p ≤ most_place) (mesh_phases m ++ claim_phases m c)
places_most m c =
    each_join Q (mesh_phases m) (claim_phases m c)
    (each_join Q (line_phases mesh_layout m) (shape_phases m)
    (line_places {B = 337} (omega arith) (omega arith) (λ s. mesh_lines_lem m (header_counts m s)))
    (λ a. let counts = (mesh_facts m (lines_sound mesh_layout m a)).counts in (
      λ k n h b r. omega (arith, counts),
      λ e. (
        λ k n h b r. omega (arith, counts),
        λ e. (
          λ k n h b r. omega (arith, counts),
          λ e. (
            λ k n h b r. omega (arith, counts),
            λ e. (
              λ g n h b r. omega (arith, counts, edge_line_lem m g),
              λ e. (
                λ j n h b r. omega (arith, counts, jump_line_lem m j),
                λ e. (λ k n h b r. omega (arith, counts), λ i. tt),
              ),
            ),
          ),
        ),
      ),
    )))
    (λ a.
    let sound = mesh_sound m a in
    let counts = (mesh_facts m sound.lines).counts in
    each_join Q (line_phases (claim_layout m) c) (part_phases m c)
    (line_places {B = 421} (omega arith) (omega arith) (λ z. claim_lines_lem m c sound))
    (λ b.
    each_join Q (field_part m c) (multiplier_part m c)
    (each_part Q (has_field c) (field_phases (equality_rows m) (strength_rows m) (stress m c) (l c) (n c)) (
      λ k n h b r. omega (arith, equality_count_lem m, counts),
      λ e. (λ k n h b r. omega (arith, few_strengths m sound), λ i. tt),
    ))
    (λ d. each_part Q (has_multipliers c)
    (multiplier_phases (equality_rows m) (rows_of m) (3 * nodes m) (multiplier m c)) (
      λ k n h b r. omega (arith, equality_count_lem m, counts),
      λ e. (λ k n h b r. omega (arith, counts), λ e. (λ k n h b r. omega arith, λ i. tt)),
    ))))
  where
    Q : ℕ → Place → Type 0
    Q k p = place_number p ≤ most_place

pub refusal_bounds : {m c : List ℤ} {k : ℕ} {p : Place} → Refusal m c k p
    → (k ≤ most_number) × (place_number p ≤ most_place)
refusal_bounds {m} {c} r = (
  each_refusal (λ k p. k ≤ most_number) (mesh_phases m ++ claim_phases m c) (numbers_most m c) r.by,
  each_refusal (λ k p. place_number p ≤ most_place) (mesh_phases m ++ claim_phases m c) (places_most m c) r.by,
)
