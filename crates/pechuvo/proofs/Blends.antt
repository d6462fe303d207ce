-- Blends of the fields of two calls (document 02, N11), on files or on numbers, with a table or without: each call's
-- number says that its field is accepted on the mesh that is read, and `scope` blends those. Then applied to shipped
-- claims of one shipped mesh.
use mathlib.Core.Path.{◌≡◌, refl, sym, ◌∙◌}
use mathlib.Core.Logic.{inl}
use mathlib.Core.List.{[]}
use Prim.Native.Nat.{ℕ}
use native.Mathlib.Omega.{arith}
use lib.IntN.{pos}
use Rattle.integer.specs.Fraction.{◌over◌, ◌≈ᶠ◌, ◌≤ᶠ◌}
use Rattle.scope.specs.Fractions.{FractionField}
use Rattle.scope.specs.Parts.{carried, allowed}
use Rattle.scope.specs.Statements.{HasField}
use Rattle.scope.specs.Blends.{Carries}
use Rattle.scope.specs.Worked as Numbers
use Rattle.scope.specs.Table.{has_table, mesh_read}
use Rattle.scope.proofs.Computed.{computed}
use Rattle.scope.proofs.Blends.{blended_claims}
use Rattle.judge.specs.Handed.{Handed, files, numbers, mesh_of, claim_of, HandedBlends}
use Rattle.pechuvo.specs.Promises.{Call, on_files, BlendedCalls}
use Rattle.pechuvo.proofs.TablePromises.{call_field}
use Rattle.pechuvo.proofs.PromisesApplied.{opened, at, room, nineteen_file}
use Rattle.scope.proofs.SameRows.{same_mesh}
use Rattle.pechuvo.proofs.LoadsApplied.{sheet_call, refused_call, numbers_call, sheet_mesh}
use Rattle.pechuvo.proofs.LoadsApplied.{refused_mesh_lem, beyond_mesh, sheet-field, refused_tells, beyond_strength}
use Rattle.pechuvo.proofs.TableApplied.{with_table, soil_call, same_meshes, parts}

pub blended_calls : {a b : Handed} {i j : ℕ} → BlendedCalls a b i j
blended_calls {a} {b} p q same t u x y w = blended_claims x y (mesh_of a) (claim_of a) (mesh_of b) (claim_of b) w same
    (call_field p t) (call_field q u)

-- ---- applied: the files of the sheet, of l 19 and of l 21, which have one mesh

abbrev sheet_files : Handed
sheet_files = files (at 0).mesh [] (at 0).claim

abbrev below_files : Handed
below_files = files (at 1).mesh [] (at 1).claim

abbrev above_files : Handed
above_files = files (at 2).mesh [] (at 2).claim

below_call : Call below_files 0
below_call = on_files (at 1).mesh [] (at 1).claim (pos 6) room 0 0 (at 1).line nineteen_file

below_mesh : mesh_of below_files ≡ Numbers.worked_mesh
unfolding opened Numbers.zeros Numbers.worked_mesh
below_mesh = refl

below_field : HasField (claim_of below_files)
unfolding opened
below_field = refl

-- the sheet and l 19, as often the one as the other
pub half_way : HandedBlends 1 1 sheet_files below_files
half_way = blended_calls sheet_call below_call (same_mesh (sheet_mesh ∙ sym below_mesh)) (sheet-field, inl refl)
    (below_field, inl refl) 1 1 (omega arith)

-- 39/2 is carried
pub half_way_carried : (f : FractionField) × Carries (mesh_of sheet_files) f × (f.load.value ≈ᶠ pos 39 over pos 2)
unfolding opened carried
half_way_carried = let (f, blend) = half_way.can_be_blended in let e = half_way.each f blend in (f, e.0, e.1)

-- and is at most the limit of the multipliers of l 21, a claim that is refused for its field
pub half_way_at_most : half_way_carried.0.load.value ≤ᶠ allowed (mesh_of above_files) (claim_of above_files)
half_way_at_most = half_way_carried.1.at_most (mesh_of above_files) (claim_of above_files)
    (same_mesh (sheet_mesh ∙ sym beyond_mesh)) beyond_strength

-- with a table that gives the soil, and without one
pub with_and_without : HandedBlends 1 2 (files (with_table 0).mesh (with_table 0).table (with_table 0).claim)
    sheet_files
with_and_without = blended_calls soil_call sheet_call (same_mesh same_meshes) (parts.0, inl refl)
    (sheet-field, inl refl) 1 2 (omega arith)

-- the file of a claim that is refused for its multipliers, and numbers handed over
pub file_and_numbers : HandedBlends 2 3 (files (at 4).mesh [] (at 4).claim)
    (numbers Numbers.worked_mesh [] Numbers.sheet19)
unfolding computed mesh_of claim_of mesh_read has_table Numbers.zeros Numbers.worked_stresses
    Numbers.worked_multipliers Numbers.worked_claim Numbers.sheet19
file_and_numbers = blended_calls refused_call numbers_call (same_mesh refused_mesh_lem) refused_tells
    (refl, inl refl) 2 3 (omega arith)
