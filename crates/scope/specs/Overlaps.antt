-- Elements that lie on each other (document 02, N10), said by pairs of elements, without the order of checks.
use Rattle.std.specs.Prelude.{◌≡◌, ◌≢◌, List, ℕ, suc, ◌<◌, ℤ}
use Rattle.plane.specs.Polygon.{Shared}
use Rattle.scope.specs.Mesh.{elements}
use Rattle.scope.specs.Outline.{outline}
use Rattle.scope.specs.Statements.{MeshSound}
use Rattle.scope.specs.declared.Place.{Place}
use Rattle.scope.specs.Answer.{place_number}
use Rattle.scope.specs.Refusals.{Refusal}

-- "two elements share a point inside both, fractions included"; no two of a mesh do
abbrev pub NoneOnEachOther : List ℤ → Type 0
NoneOnEachOther m = (d e : ℕ) → d < elements m → e < elements m → d ≢ e → ¬ Shared (outline m d) (outline m e)

-- "47, with the higher element of the pair whose higher number is least"
pub record OnEachOther (m : List ℤ) (place : ℕ) : Type 0 where
  pub lower : ℕ
  pub higher : ℕ
  pub named : place ≡ suc higher
  pub below : lower < higher
  pub there : higher < elements m
  pub shared : Shared (outline m lower) (outline m higher)
  pub least : (d e : ℕ) → d < e → e < higher → ¬ Shared (outline m d) (outline m e)

-- a mesh that passes has no such pair
abbrev pub SoundMeshApart : Type 0
SoundMeshApart = (m : List ℤ) → MeshSound m → NoneOnEachOther m

-- a refusal with 47 names such a pair
abbrev pub OverlapNamed : List ℤ → List ℤ → Type 0
OverlapNamed m c = (p : Place) → Refusal m c 47 p → OnEachOther m (place_number p)

-- "Absent such a point the mesh is never refused for this"
abbrev pub NeverForThis : List ℤ → List ℤ → Type 0
NeverForThis m c = NoneOnEachOther m → (p : Place) → ¬ Refusal m c 47 p
