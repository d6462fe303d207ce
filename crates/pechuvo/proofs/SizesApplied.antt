-- The promises of the sizes of a mesh applied to document 01's sheets and a seam of clay, which have no jump, to two
-- blocks on a joint, which have one, to an empty mesh, and to borehole tables: antt computes what is told, and the
-- promise says the rest.
use mathlib.Core.Path.{◌≡◌, refl, sym, ap}
use mathlib.Core.List.{[]}
use Prim.Native.Nat.{ℕ, ◌*◌}
use native.Mathlib.Omega.{arith}
use lib.ListN.{length, get_or}
use Rattle.scope.specs.declared.Place.TheVariants.{Line, Height}
use Rattle.scope.specs.Mesh.{nodes, jumps}
use Rattle.scope.specs.Rows.{side_rows, jump_rows, strength_rows, rows_of}
use Rattle.scope.specs.Claim.{claim_layout}
use Rattle.scope.specs.Statements.{MeshSound, LinesSound, HasMultipliers}
use Rattle.scope.specs.Answer.{place_for}
use Rattle.scope.specs.Phases.{RefusedBy}
use Rattle.scope.specs.Table.{tabled_phases}
use Rattle.scope.specs.TabledRefusals.{TabledMeshRefusalRow}
use Rattle.scope.proofs.Refusals.{lines_passed}
use Rattle.reader.specs.WellFormed.{bytes_of}
use Rattle.judge.specs.declared.room.MeshSizes.{MeshSizes}
use Rattle.judge.specs.ClaimBytes.{claim_bytes}
use Rattle.judge.specs.Room.{no_sizes, sizes_for, mesh_sizes}
use Rattle.pechuvo.specs.Sheets.{Sheet, sheet, seam_mesh, seam_fault, joint_mesh, joint_blocks, soil_zero_mesh}
use Rattle.pechuvo.specs.Sheets.{worked_claim, seam_zero, seam_mixed, seam_claim, tabled_sheets}
use Rattle.pechuvo.specs.Promises.{mesh_in, table_in, mesh_with, claim_in, SizesAsked, SizesOf, SizesTold}
use Rattle.pechuvo.proofs.Sheets.{computed_line}
use Rattle.pechuvo.proofs.PromisesApplied.{at, no_field}
use Rattle.pechuvo.proofs.SizesPromises.{sizes_told}

-- for proofs by computation: besides the definitions that read a file, those of the sizes
unfoldable opened : Unit {0}
unfolding computed_line bytes_of claim_bytes sizes_for mesh_sizes seam_mesh seam_fault joint_mesh joint_blocks
    soil_zero_mesh worked_claim seam_zero seam_mixed seam_claim tabled_sheets
opened = tt

-- an accepted mesh with so many rows of each kind, so many columns, and these lengths of a claim
abbrev sized : (balance side jump strength columns field multipliers both : ℕ) → MeshSizes
sized balance side jump strength columns field multipliers both = record {
  number = 0;
  place = 0;
  balance_rows = balance;
  side_rows = side;
  jump_rows = jump;
  strength_rows = strength;
  columns = columns;
  field_bytes = field;
  multipliers_bytes = multipliers;
  both_bytes = both;
}

-- the lines of a sheet's claim pass
abbrev LinesPass : Sheet → Type 0
LinesPass s = LinesSound (claim_layout (mesh_with s.mesh s.table)) (claim_in (mesh_with s.mesh s.table) s.claim)

-- ---- document 01's sheet: one element, three edges, no jump, four pairs, twelve sides

abbrev sheet_sizes : MeshSizes
sheet_sizes = sized 2 12 0 48 12 197 801 949

sheet-told : SizesTold (at 0).mesh (at 0).table sheet_sizes
unfolding opened
sheet-told = sizes_told (at 0).mesh (at 0).table sheet_sizes refl

pub sheet_sound : MeshSound (mesh_with (at 0).mesh (at 0).table)
sheet_sound = (sheet-told.accepted.0 refl).sound

sheet_sizes_lem : SizesOf (mesh_with (at 0).mesh (at 0).table) sheet_sizes
sheet_sizes_lem = sheet-told.sizes refl

-- 62 rows, none of a jump, and twelve columns
pub sheet_rows : 62 ≡ length (rows_of (mesh_with (at 0).mesh (at 0).table))
sheet_rows = sheet_sizes_lem.rows

pub sheet_no_jumps : (length (jump_rows (mesh_with (at 0).mesh (at 0).table)) ≡ 0)
    × (4 * jumps (mesh_with (at 0).mesh (at 0).table) ≡ 0)
sheet_no_jumps = (sym sheet_sizes_lem.jump.0, sym sheet_sizes_lem.jump.1)

pub sheet-columns : 12 ≡ 3 * nodes (mesh_with (at 0).mesh (at 0).table)
sheet-columns = sheet_sizes_lem.columns

-- its claim has both parts
sheet_lines : LinesPass (at 0)
unfolding opened
sheet_lines = (lines_passed (claim_layout (mesh_with (at 0).mesh (at 0).table))
    (claim_in (mesh_with (at 0).mesh (at 0).table) (at 0).claim)).says refl

pub sheet-length : length (at 0).claim ≡ 949
unfolding opened
sheet-length = (sheet_sizes_lem.lengths (at 0).claim sheet_lines).both refl refl

-- ---- multipliers alone, on two elements with six edges

abbrev alone_sizes : MeshSizes
alone_sizes = sized 4 24 0 72 18 271 1263 1485

alone_told : SizesTold (at 9).mesh (at 9).table alone_sizes
unfolding opened
alone_told = sizes_told (at 9).mesh (at 9).table alone_sizes refl

alone_lines : LinesPass (at 9)
unfolding opened
alone_lines = (lines_passed (claim_layout (mesh_with (at 9).mesh (at 9).table))
    (claim_in (mesh_with (at 9).mesh (at 9).table) (at 9).claim)).says refl

pub alone_length : length (at 9).claim ≡ 1263
unfolding opened
alone_length = ((alone_told.sizes refl).lengths (at 9).claim alone_lines).multipliers no_field refl

-- ---- a field alone, on the seam: twelve pairs on eight nodes

abbrev seam_sizes : MeshSizes
seam_sizes = sized 6 32 0 144 24 345 2256 2552

seam_told : SizesTold seam_fault.mesh seam_fault.table seam_sizes
unfolding opened
seam_told = sizes_told seam_fault.mesh seam_fault.table seam_sizes refl

seam_lines : LinesPass seam_fault
unfolding opened
seam_lines = (lines_passed (claim_layout (mesh_with seam_fault.mesh seam_fault.table))
    (claim_in (mesh_with seam_fault.mesh seam_fault.table) seam_fault.claim)).says refl

no_multipliers : ¬ HasMultipliers (claim_in (mesh_with seam_fault.mesh seam_fault.table) seam_fault.claim)
unfolding opened
no_multipliers e = let z : ◌≡◌ {A = ℕ} 0 1 = cc in omega arith

pub seam_length : length seam_fault.claim ≡ 345
unfolding opened
seam_length = ((seam_told.sizes refl).lengths seam_fault.claim seam_lines).field refl no_multipliers

-- ---- two blocks on a joint: two elements, six edges, a jump, eight pairs

abbrev joint_sizes : MeshSizes
joint_sizes = sized 4 24 4 96 24 345 1602 1898

joint-told : SizesTold joint_blocks.mesh joint_blocks.table joint_sizes
unfolding opened
joint-told = sizes_told joint_blocks.mesh joint_blocks.table joint_sizes refl

joint_sizes_lem : SizesOf (mesh_with joint_blocks.mesh joint_blocks.table) joint_sizes
joint_sizes_lem = joint-told.sizes refl

pub joint-jumps : (4 ≡ length (jump_rows (mesh_with joint_blocks.mesh joint_blocks.table)))
    × (4 ≡ 4 * jumps (mesh_with joint_blocks.mesh joint_blocks.table))
joint-jumps = joint_sizes_lem.jump

-- the normal rows of edges that fix the shear alone are counted
pub joint-sides : 24 ≡ length (side_rows (mesh_with joint_blocks.mesh joint_blocks.table))
joint-sides = joint_sizes_lem.side.0

joint_lines : LinesPass joint_blocks
unfolding opened
joint_lines = (lines_passed (claim_layout (mesh_with joint_blocks.mesh joint_blocks.table))
    (claim_in (mesh_with joint_blocks.mesh joint_blocks.table) joint_blocks.claim)).says refl

pub joint-length : length joint_blocks.claim ≡ 1898
unfolding opened
joint-length = (joint_sizes_lem.lengths joint_blocks.claim joint_lines).both refl refl

-- ---- an empty mesh: 1, line 1, and no sizes; a table that ends at the highest node: 45, four quarters, and none

pub empty_refused : (r : MeshSizes) → SizesAsked [] [] r → RefusedBy (tabled_phases (table_in []) (mesh_in [])) 1
    (Line 1) × (r ≡ no_sizes 1 1)
unfolding opened place_for
empty_refused r h =
    let number : r.number ≡ 1 = ap (λ x. x.number) h in
    let place : r.place ≡ 1 = ap (λ x. x.place) h in
    (((sizes_told [] [] r h).refused 1 1 (λ e. omega arith)).0 (number, place), h)

abbrev gap : Sheet
gap = get_or tabled_sheets 1 (sheet "" "" "")

pub gap_refused : (r : MeshSizes) → SizesAsked gap.mesh gap.table r
    → RefusedBy (tabled_phases (table_in gap.table) (mesh_in gap.mesh)) 45 (Height 4) × (r ≡ no_sizes 45 4)
unfolding opened place_for
gap_refused r h =
    let number : r.number ≡ 45 = ap (λ x. x.number) h in
    let place : r.place ≡ 4 = ap (λ x. x.place) h in
    (((sizes_told gap.mesh gap.table r h).refused 45 4 (λ e. omega arith)).0 (number, place), h)

-- as a row: of the layers, with all lines before it
pub gap_row : (r : MeshSizes) → SizesAsked gap.mesh gap.table r
    → TabledMeshRefusalRow (table_in gap.table) (mesh_in gap.mesh) 45 (Height 4)
unfolding opened place_for
gap_row r h =
    ((sizes_told gap.mesh gap.table r h).row 45 4 (λ e. omega arith)).0
    (ap (λ x. x.number) h, ap (λ x. x.place) h)

pub gap_told : SizesAsked gap.mesh gap.table
    (record {
      number = 45;
      place = 4;
      balance_rows = 0;
      side_rows = 0;
      jump_rows = 0;
      strength_rows = 0;
      columns = 0;
      field_bytes = 0;
      multipliers_bytes = 0;
      both_bytes = 0;
    })
unfolding opened
gap_told = refl

-- ---- soil 0 throughout the seam, and three layers: the sizes of the seam

abbrev layered : Sheet
layered = get_or tabled_sheets 6 (sheet "" "" "")

layered_told : SizesTold layered.mesh layered.table seam_sizes
unfolding opened
layered_told = sizes_told layered.mesh layered.table seam_sizes refl

pub layered_pairs : 144 ≡ length (strength_rows (mesh_with layered.mesh layered.table))
layered_pairs = (layered_told.sizes refl).strength.0
