-- What a run does, said without its steps: which pieces of the input get a report, how many bytes are taken, and why
-- no more claims are judged (document 02, N3).
use Rattle.std.specs.Prelude.{◌≡◌, ◌⊎◌, false, ℕ, suc, ◌+◌, ◌≤◌, ◌<◌, ℤ, length, take, get_or}
use mathlib.Core.List.{List, [], ◌∷◌, flatten}
use Rattle.std.proofs.Math.Option.{some}
use Rattle.scope.specs.declared.Place.{Place}
use Rattle.scope.specs.Cases.Outcome.{Outcome}
use Rattle.scope.specs.Cases.Outcome.{Passed, Refused as Fails}
use Rattle.scope.specs.Cases.Verdict.{Verdict}
use Rattle.scope.specs.Answer.{number_of}
use Rattle.scope.specs.Claim.{claim_header_columns, claim_layout}
use Rattle.reader.specs.File.{file_width, read_line, header_passes}
use Rattle.judge.specs.Judge.{claim_numbers}
use Rattle.judge.specs.ClaimBytes.{claim_bytes}
use Rattle.run.specs.Run.{own_bytes, verdict_on, claims_judged}

-- "refused with 11, 12 or 13"
abbrev pub RefusedByLines : Verdict → Type 0
RefusedByLines v = (number_of v ≡ 11) ⊎ ((number_of v ≡ 12) ⊎ (number_of v ≡ 13))

-- claim i of those that are judged, and the byte of the input that it begins at
abbrev pub claim_at : List (List ℕ) → ℕ → List ℕ
claim_at judged i = get_or judged i []

abbrev pub start_of : List (List ℕ) → ℕ → ℕ
start_of judged i = length (flatten (take i judged))

-- the claims `judged` of an input, with room for so many reports, and how many bytes are taken; on an accepted mesh
pub record InTurn (m : List ℤ) (room : ℕ) (claims : List ℕ) (judged : List (List ℕ)) (bytes : ℕ) : Type 0 where
  -- they are adjoining pieces of the input, from its front
  pub adjoining : flatten judged ≡ take (length (flatten judged)) claims
  -- "Each claim's length follows from its header and the mesh"; a shorter one is "a claim cut short": no byte follows
  pub lengths : (i : ℕ) → i < length judged
      → (length (claim_at judged i) ≡ claim_bytes m (claim_numbers file_width m (claim_at judged i)))
      ⊎ ((length (claim_at judged i) < claim_bytes m (claim_numbers file_width m (claim_at judged i)))
      × (start_of judged i + length (claim_at judged i) ≡ length claims))
  -- each report has its room, and each claim a byte
  pub room_there : length judged ≤ room
  pub byte_there : (i : ℕ) → i < length judged → start_of judged i < length claims
  -- "A claim refused with 11, 12 or 13 ends the run after its report": none but the last is
  pub goes_on : (i : ℕ) → suc i < length judged → ¬ RefusedByLines (verdict_on Passed m (claim_at judged i))
  -- and it ends for no other reason than those: "when the buffer lacks 113 bytes for the next report", "With no claim
  -- byte left", or the last is refused so
  pub ended : (length judged ≡ room)
      ⊎ ((length (flatten judged) ≡ length claims)
      ⊎ ((j : ℕ) × (length judged ≡ suc j) × RefusedByLines (verdict_on Passed m (claim_at judged j))))
  -- all claims are taken but one refused so: "its bytes aren't taken"
  pub taken : ((i : ℕ) → i < length judged → ¬ RefusedByLines (verdict_on Passed m (claim_at judged i)))
      → bytes ≡ length (flatten judged)
  pub not_taken : (j : ℕ) → length judged ≡ suc j → RefusedByLines (verdict_on Passed m (claim_at judged j))
      → bytes ≡ start_of judged j

-- where the header of what is left is no line, or is refused, its claim has no length: whichever bytes are called its
-- own, the verdict is that on all that is left
abbrev pub HeaderAlone : Type 0
HeaderAlone = (o : Outcome) (m : List ℤ) (left : List ℕ)
    → ((h : List ℤ) → read_line file_width claim_header_columns left ≡ some h
    → header_passes (claim_layout m) h ≡ false)
    → verdict_on o m (own_bytes m left) ≡ verdict_on o m left

-- "A refused mesh writes its report once, even with no claim byte, and takes no claim"
abbrev pub RefusedOnce : Type 0
RefusedOnce = (o : Outcome) (k : ℕ) (place : Place) → o ≡ Fails k place → (room : ℕ) (m : List ℤ) (claims : List ℕ)
    → claims_judged (suc room) o m claims ≡ [] ∷ []
