-- What judging a mesh alone answers (document 01, 'Verdict and report'), by the number and the place of its outcome: 0
-- exactly when the mesh passes 1 to 8, 47, 44 and 42, and each of these with its place exactly when the table has it.
use Rattle.std.specs.Prelude.{◌≡◌, ◌↔◌, ◌≢◌, List, ℕ, ℤ}
use Rattle.scope.specs.Cases.Outcome.{Outcome}
use Rattle.scope.specs.Answer.{place_for, mesh_number_of, mesh_place_of}
use Rattle.scope.specs.Statements.{MeshSound}
use Rattle.scope.specs.Refusals.{MeshRefusal}

pub record MeshExactly (m : List ℤ) (o : Outcome) : Type 0 where
  pub passes : (mesh_number_of o ≡ 0) ↔ MeshSound m
  pub place_zero : mesh_number_of o ≡ 0 → mesh_place_of o ≡ 0
  pub refuses : (k j : ℕ) → k ≢ 0 → ((mesh_number_of o ≡ k) × (mesh_place_of o ≡ j)) ↔ MeshRefusal m k (place_for k j)
