-- The bracket for accepted parts holds whatever their numbers came from: a file's parts are those of its numbers.
use Rattle.scope.proofs.Parts.{parts_bracket}
use Rattle.judge.specs.Handed.{Handed, mesh_of, claim_of, HasAcceptedField, HasAcceptedMultipliers, OnTheSameMesh}
use Rattle.judge.specs.Handed.{HandedBracket}

pub handed_bracket : (a b : Handed) → OnTheSameMesh a b → HasAcceptedField a → HasAcceptedMultipliers b
    → HandedBracket a b
handed_bracket a b = parts_bracket (mesh_of a) (claim_of a) (mesh_of b) (claim_of b)
