-- The sizes of a mesh: each count of the sizes is the length of a list of the definition, by the counts of rows.
use mathlib.Core.Path.{◌≡◌, sym, ◌∙◌, ap₂}
use mathlib.Core.List.{List}
use Prim.Native.Nat.{ℕ, ◌*◌}
use native.Mathlib.Omega.{arith}
use lib.IntN.{ℤ}
use lib.ListN.{length}
use Rattle.scope.specs.declared.Place.{Place}
use Rattle.scope.specs.Cases.Outcome.{Passed, Refused}
use Rattle.scope.specs.Answer.{place_number}
use Rattle.scope.specs.Columns.{has_field, has_multipliers}
use Rattle.scope.specs.Claim.{claim_layout}
use Rattle.scope.specs.Mesh.{nodes}
use Rattle.scope.specs.Rows.{balance_rows, side_rows, jump_rows, strength_rows}
use Rattle.scope.proofs.RowCounts.{balance_count, side_count, jump_count, strength_count}
use Rattle.mesh.specs.declared.pairs.ClaimSizes.{ClaimSizes}
use Rattle.mesh.specs.ClaimContracts.{Counted}
use Rattle.judge.specs.declared.room.MeshSizes.{MeshSizes}
use Rattle.reader.specs.File.{file_width}
use Rattle.judge.specs.Judge.{mesh_from, mesh_outcome}
use Rattle.judge.specs.ClaimBytes.{claim_bytes}
use Rattle.judge.specs.Room.{with_field, with_multipliers, with_both, no_sizes, sizes_for, mesh_sizes}

-- the counts of a mesh: each is the length of its list of rows
module _ {m : List ℤ} {s : ClaimSizes} (k : Counted m s) {field multipliers both : ℕ} where
  pub counts_are : field ≡ claim_bytes m with_field → multipliers ≡ claim_bytes m with_multipliers
      → both ≡ claim_bytes m with_both
      → ◌≡◌ {A = MeshSizes} (record {
        number = 0;
        place = 0;
        balance_rows = s.sizes.elements * 2;
        side_rows = s.sizes.edges * 4;
        jump_rows = s.sizes.jumps * 4;
        strength_rows = s.pairs * s.sizes.sides;
        columns = s.sizes.nodes * 3;
        field_bytes = field;
        multipliers_bytes = multipliers;
        both_bytes = both;
      }) (sizes_for Passed m)
  unfolding sizes_for
  counts_are f g h =
      let balances : s.sizes.elements * 2 ≡ length (balance_rows m) =
      omega (arith, k.sizes.elements_are, balance_count m) in
      let sides : s.sizes.edges * 4 ≡ length (side_rows m) = omega (arith, k.sizes.edges_are, side_count m) in
      let jumps : s.sizes.jumps * 4 ≡ length (jump_rows m) = omega (arith, k.sizes.jumps_are, jump_count m) in
      let products : s.pairs * s.sizes.sides ≡ length (strength_rows m) =
      ap₂ ◌*◌ k.pairs_are k.sizes.sides_are ∙ sym (strength_count m k.sizes.counts.sides_listed) in
      let threes : s.sizes.nodes * 3 ≡ 3 * nodes m = omega (arith, k.sizes.nodes_are) in
      λ i. record {
        number = 0;
        place = 0;
        balance_rows = balances i;
        side_rows = sides i;
        jump_rows = jumps i;
        strength_rows = products i;
        columns = threes i;
        field_bytes = f i;
        multipliers_bytes = g i;
        both_bytes = h i;
      }

-- the length of a claim follows from its parts
pub by_parts : (m c d : List ℤ) → has_field c ≡ has_field d → has_multipliers c ≡ has_multipliers d
    → claim_bytes m c ≡ claim_bytes m d
unfolding claim_bytes claim_layout
by_parts m c d f g = rw (f, g)

-- a judged mesh
module _ (mesh table : List ℕ) where
  pub sizes_refused : {k : ℕ} {p : Place} → Refused k p ≡ mesh_outcome file_width mesh table
      → no_sizes k (place_number p) ≡ mesh_sizes mesh table
  unfolding mesh_sizes sizes_for
  sizes_refused e = rw (sym e)

  pub sizes_passed : {ns : List ℤ} {r : MeshSizes} → Passed ≡ mesh_outcome file_width mesh table
      → ns ≡ mesh_from file_width mesh table → r ≡ sizes_for Passed ns → r ≡ mesh_sizes mesh table
  unfolding mesh_sizes
  sizes_passed e read h = h ∙ ap₂ sizes_for e read
