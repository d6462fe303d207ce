-- The verdict as its stages give it: mesh, claim lines, parts.
use mathlib.Core.Path.{◌≡◌, refl, sym, ◌∙◌, ap}
use mathlib.Core.Bool.{false}
use mathlib.Core.List.{List}
use Prim.Native.Nat.{◌≤◌}
use native.Mathlib.Omega.{arith}
use lib.IntN.{ℤ}
use lib.ListN.{length}
use Rattle.scope.specs.Cases.Outcome.{Outcome, Passed}
use Rattle.scope.specs.Cases.Verdict.{Verdict, Accepted}
use Rattle.scope.specs.Checks.{◌then◌}
use Rattle.scope.specs.Claim.{claim_layout}
use Rattle.scope.specs.Mesh.{most_pairs, sides, mesh_layout, layout_with}
use Rattle.scope.specs.NumberRanges.{MeshFacts, ClaimFacts}
use Rattle.scope.specs.Phases.{check_phases}
use Rattle.scope.specs.Refusals.{shape_phases, field_part, multiplier_part, part_phases}
use Rattle.scope.specs.Statements.{MeshSound}
use Rattle.scope.specs.Verdict.{lines_check, mesh_check, open_count, lower_load, upper_load, answer, claim_verdict}
use Rattle.scope.specs.Verdict.{verdict}
use Rattle.scope.proofs.ClaimNumberRanges.{claim_facts}
use Rattle.scope.proofs.NumberRanges.{mesh_facts}
use Rattle.scope.proofs.Pairs.{few_pairs_lem}
use Rattle.scope.proofs.SideLimits.{few_most}
use Rattle.scope.proofs.Refusals.{lines_passed, mesh_checked, mesh_passed, claim_checked, parts_checked}
use Rattle.mesh.specs.declared.pairs.Pair.{Pair}
use Rattle.mesh.specs.PairContracts.{PairsAre}
use Rattle.mesh.proofs.PairLaws.{pairs_counted}
use Rattle.verdict.specs.JudgeContracts.{SoundMesh}
use Rattle.verdict.proofs.Handed.{answer_then}
use Rattle.verdict.proofs.TableLaws.{plain_lines}

-- ---- a mesh

module _ (m : List ℤ) where
  pub mesh_in_two : lines_check (layout_with false) m then check_phases (shape_phases m) ≡ mesh_check m
  mesh_in_two = ap (λ (o : Outcome). o then check_phases (shape_phases m)) (plain_lines m) ∙ sym (mesh_checked m)

  pub facts_of_lines : Passed ≡ lines_check (layout_with false) m → MeshFacts m
  facts_of_lines e = mesh_facts m ((lines_passed mesh_layout m).says (sym (plain_lines m) ∙ sym e))

-- a mesh that passes is sound, and its numbers have what sound lines give
pub record MeshKnown (m : List ℤ) : Type 0 where
  pub facts : MeshFacts m
  pub sound : MeshSound m

pub mesh_known : {m : List ℤ} → mesh_check m ≡ Passed → MeshKnown m
mesh_known {m} e = let sound = (mesh_passed m).says e in record { facts = mesh_facts m sound.lines; sound = sound }

-- its pairs are few: what a mesh with its pairs holds
pub few_counted : (m : List ℤ) (t : List Pair) → mesh_check m ≡ Passed → PairsAre m t → length t ≤ most_pairs
few_counted m t e p =
    omega (arith, pairs_counted m t p, few_most (sides m) (few_pairs_lem m (mesh_known e).sound))

-- what is lent to a claim: what judging answers where it passes
pub sound_mesh :
    {o : Outcome} {m : List ℤ} {t : List Pair} →
    (o ≡ Passed → mesh_check m ≡ Passed) →
    Passed ≡ o →
    PairsAre m t →
    SoundMesh m t
sound_mesh so e p = record { passes = so (sym e); paired = p }

-- ---- a mesh and a claim

module _ (m c : List ℤ) where
  -- its numbers are in their places and within their limits: what a judged claim holds
  pub judged : MeshFacts m → Passed ≡ lines_check (claim_layout m) c → ClaimFacts m c
  judged f e = claim_facts m c ((lines_passed (claim_layout m) c).says (sym e)) f

  -- the verdict where all checks pass
  abbrev pub all_accepted : Verdict
  all_accepted = Accepted (open_count m c) (lower_load m c) (upper_load m c)

  pub mesh_first : answer (mesh_check m) (claim_verdict m c) ≡ verdict m c
  unfolding verdict
  mesh_first = refl

  pub claim_lines_first : answer (lines_check (claim_layout m) c) (answer (check_phases (part_phases m c)) all_accepted)
      ≡ claim_verdict m c
  unfolding claim_verdict
  claim_lines_first =
      answer_then (lines_check (claim_layout m) c) (check_phases (part_phases m c)) all_accepted
      ∙ ap (λ (o : Outcome). answer o all_accepted) (sym (claim_checked m c))

  pub field_first : answer (check_phases (field_part m c)) (answer (check_phases (multiplier_part m c)) all_accepted)
      ≡ answer (check_phases (part_phases m c)) all_accepted
  field_first =
      answer_then (check_phases (field_part m c)) (check_phases (multiplier_part m c)) all_accepted
      ∙ ap (λ (o : Outcome). answer o all_accepted) (sym (parts_checked m c))
