-- What is handed over (document 01, "Loads compared"): "whether the claim is a file or numbers handed over". The
-- bracket for accepted parts, each from a file or from numbers, mixed pairs included.
use Rattle.std.specs.Prelude.{List, ℕ, ℤ}
use Rattle.scope.specs.Blends.{BlendedClaims}
use Rattle.scope.specs.Cases.Verdict.{Verdict}
use Rattle.scope.specs.Accepted.{FieldAccepted, MultipliersAccepted}
use Rattle.scope.specs.Parts.{SameRows, PartsBracket}
use Rattle.reader.specs.File.{file_width}
use Rattle.scope.specs.Table.{mesh_read}
use Rattle.scope.specs.TableVerdict.{tabled_verdict}
use Rattle.judge.specs.Judge.{mesh_from, claim_numbers, files_verdict}

-- a mesh, a table and a claim: three files, or three lists of numbers; an empty table is none
pub data Handed : Type 0 where
  files : List ℕ → List ℕ → List ℕ → Handed
  numbers : List ℤ → List ℤ → List ℤ → Handed

-- the mesh as all after its lines reads it
unfoldable pub mesh_of : Handed → List ℤ
mesh_of (files mesh table claim) = mesh_from file_width mesh table
mesh_of (numbers m t c) = mesh_read t m

unfoldable pub claim_of : Handed → List ℤ
claim_of (files mesh table claim) = claim_numbers file_width (mesh_from file_width mesh table) claim
claim_of (numbers m t c) = c

-- the verdict on it
unfoldable pub handed_verdict : Handed → Verdict
handed_verdict (files mesh table claim) = files_verdict file_width mesh table claim
handed_verdict (numbers m t c) = tabled_verdict t m c

abbrev pub HasAcceptedField : Handed → Type 0
HasAcceptedField a = FieldAccepted (mesh_of a) (claim_of a)

abbrev pub HasAcceptedMultipliers : Handed → Type 0
HasAcceptedMultipliers a = MultipliersAccepted (mesh_of a) (claim_of a)

-- "Parts are on the same mesh when they are judged against the same rows"
abbrev pub OnTheSameMesh : Handed → Handed → Type 0
OnTheSameMesh a b = SameRows (mesh_of a) (mesh_of b)

-- the field of a and the multipliers of b
abbrev pub HandedBracket : Handed → Handed → Type 0
HandedBracket a b = PartsBracket (mesh_of a) (claim_of a) (mesh_of b) (claim_of b)

-- the fields of a and of b, weighted u and v
abbrev pub HandedBlends : ℕ → ℕ → Handed → Handed → Type 0
HandedBlends u v a b = BlendedClaims u v (mesh_of a) (claim_of a) (mesh_of b) (claim_of b)
