-- The limits that go by a mesh's number of sides (document 02, N9 and N14), said number by number: "Such a mesh has at
-- most 40 nodes and 40 node-and-soil pairs, and its strength multipliers are at most 300; over these, 2, 42 and 12 are
-- given as for other limits." "Kind 1 with 108 sides gets 2, with the soil's line."
use Rattle.std.specs.Prelude.{◌≡◌, ◌↔◌, List, ℕ, suc, ◌+◌, ◌*◌, ◌≤◌, ◌<◌, ℤ, pos, ◌<ℤ◌, length, ◌≤ℤ◌}
use Rattle.scope.specs.declared.Place.TheVariants.{Line}
use Rattle.scope.specs.Columns.{at, has_field}
use Rattle.scope.specs.Mesh.{mesh_header_columns, mesh_layout, nodes, elements, soils, edges, sides, jumps, soil_kind}
use Rattle.scope.specs.Mesh.{equality_count}
use Rattle.scope.specs.Claim.{if_there, claim_layout, multiplier}
use Rattle.scope.specs.Rows.{pair_count}
use Rattle.scope.specs.NumberRanges.{Between}
use Rattle.scope.specs.Statements.{Complete, LinesSound, PairsFit, MeshSound, HasMultipliers}
use Rattle.scope.specs.Refusals.{SoundTo, MeshRefusal, Refusal}
use Rattle.scope.specs.Pairs.{PairsFail}
use Rattle.scope.specs.RefusalTable.{LowestFails}

-- the strength multiplier of pair a and side i, both counted from 0
abbrev pub strength_at : List ℤ → List ℤ → ℕ → ℕ → ℤ
strength_at m c a i = multiplier m c (equality_count m + (a * sides m + i))

-- the line of a claim with multipliers in which pair a has its own, counted from 0: it stands after the header, a
-- field's lines, and those of elements, edges and jumps
abbrev pub strength_line : List ℤ → List ℤ → ℕ → ℕ
strength_line m c a = 1 + if_there (has_field c) (nodes m) + elements m + edges m + jumps m + a

-- the most nodes, the most pairs, the largest strength multiplier and the largest kind of a soil
pub record SideLimits (m : List ℤ) (node_most pair_most strength_most kind_most : ℕ) : Type 0 where
  -- 2, with line 1, whatever else the header says
  pub nodes_refused : mesh_header_columns ≤ length m → pos node_most <ℤ at m 0 → MeshRefusal m 2 (Line 1)
  pub nodes_few : MeshSound m → nodes m ≤ node_most
  -- 42, with the node of the first pair beyond the most
  pub brings_one_more : (v : ℕ) → LowestFails (nodes m) (PairsFit m) v
      ↔ PairsFail m pair_most (suc v)
  pub pairs_few : MeshSound m → pair_count m ≤ pair_most
  -- 12, with the line of one outside its limit: the mesh passes, as do the lines before, and this one has all its
  -- numbers
  pub strength_refused : (c : List ℤ) → MeshSound m → HasMultipliers c → (a i : ℕ) → a < pair_count m → i < sides m
      → ¬ Between (pos 0) (pos strength_most) (strength_at m c a i)
      → SoundTo (claim_layout m) c (strength_line m c a) → Complete (claim_layout m) c (strength_line m c a)
      → Refusal m c 12 (Line (suc (strength_line m c a)))
  pub strength_few : (c : List ℤ) → MeshSound m → LinesSound (claim_layout m) c → HasMultipliers c → (a i : ℕ)
      → a < pair_count m → i < sides m → Between (pos 0) (pos strength_most) (strength_at m c a i)
  -- 2, with the line of soil s, counted from 0, which follows the header: the lines before pass, and this one has all
  -- its numbers
  pub kind_refused : (s : ℕ) → s < soils m → ¬ Between (pos 0) (pos kind_most) (soil_kind m s)
      → SoundTo mesh_layout m (suc s) → Complete mesh_layout m (suc s) → MeshRefusal m 2 (Line (suc (suc s)))
  pub kinds_fit : MeshSound m → (s : ℕ) → s < soils m → soil_kind m s ≤ℤ pos kind_most

pub record LimitsBySides (m : List ℤ) : Type 0 where
  pub with_108 : sides m ≡ 108 → SideLimits m 40 40 300 0
  pub with_fewer : ¬ (sides m ≡ 108) → SideLimits m 100 100 10000 1
