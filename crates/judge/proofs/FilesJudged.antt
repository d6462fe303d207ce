-- What is read into a list that is lent, and judged there: the front of the list is the file's numbers.
use mathlib.Core.Path.{◌≡◌, refl, sym, ap, ap₂, subst, ◌∙◌}
use mathlib.Core.Bool.{true, false, true≢false}
use mathlib.Core.List.{List, [], ◌∷◌, ◌++◌}
use Prim.Native.Nat.{ℕ, ◌≤◌, ◌<◌}
use native.Mathlib.Omega.{arith}
use lib.Dec.{eqb-suc-zero}
use lib.IntN.{ℤ}
use lib.ListN.{length, take, drop, length-append}
use lib.Seq.{take_at, drop_at}
use Rattle.std.specs.Prelude.{Result, Ok, Err, IfOk}
use Rattle.std.proofs.lemmas.Result.{IfOk-at_ok}
use Rattle.arrayvec.specs.ArrayVec.{ArrayVec}
use Rattle.scope.specs.declared.Refusal.{Refusal}
use Rattle.scope.specs.Answer.{outcome_of}
use Rattle.scope.specs.Cases.Outcome.{Outcome, Passed, Refused as Fails}
use Rattle.scope.specs.Cases.Verdict.{Verdict}
use Rattle.scope.specs.Mesh.{pairs_with, sides, mesh_layout}
use Rattle.scope.specs.Claim.{claim_layout}
use Rattle.scope.specs.NumberRanges.{Counts}
use Rattle.scope.specs.Rows.{pair_count}
use Rattle.scope.specs.Table.{has_table, mesh_read, tabled_check}
use Rattle.scope.specs.TableVerdict.{tabled_verdict}
use Rattle.scope.specs.Verdict.{mesh_check, claim_verdict, answer}
use Rattle.scope.proofs.Table.{no_table}
use Rattle.scope.proofs.TableVerdict.{read_passes}
use Rattle.reader.proofs.Most.{numbers_by_length, mesh_most, claim_most, table_most}
use Rattle.reader.proofs.TableForm.{table_there}
use Rattle.reader.specs.File.{file_width, table_numbers_of}
use Rattle.reader.specs.Listed.{Listed}
use Rattle.reader.specs.Most.{most_numbers, mesh_room, table_room, claim_room}
use Rattle.mesh.specs.declared.pairs.Pair.{Pair}
use Rattle.mesh.specs.PairContracts.{PairsAre}
use Rattle.verdict.specs.JudgeContracts.{SoundMesh}
use Rattle.verdict.specs.NumbersLeft.{numbers_left}
use Rattle.verdict.proofs.LeftLaws.{left_alone, left_read}
use Rattle.verdict.proofs.VerdictLaws.{sound_mesh}
use Rattle.judge.specs.declared.JudgedMesh.{JudgedMesh}
use Rattle.judge.specs.Judge.{mesh_numbers, mesh_from, mesh_outcome, claim_numbers, files_verdict}
use Rattle.judge.specs.MeshLeft.{mesh_left}

-- ---- room

pub mesh_by_length : (mesh : List ℕ) → length (mesh_numbers file_width mesh) ≤ most_numbers (length mesh)
unfolding mesh_numbers
mesh_by_length mesh = numbers_by_length mesh_layout mesh

pub mesh_fits : (mesh : List ℕ) → length (mesh_numbers file_width mesh) ≤ mesh_room
unfolding mesh_numbers
mesh_fits mesh = mesh_most mesh

pub claim_by_length : (m : List ℤ) (claim : List ℕ)
    → length (claim_numbers file_width m claim) ≤ most_numbers (length claim)
unfolding claim_numbers
claim_by_length m claim = numbers_by_length (claim_layout m) claim

pub claim_fits : {m : List ℤ} → Counts m → pair_count m ≤ pairs_with (sides m) → (claim : List ℕ)
    → length (claim_numbers file_width m claim) ≤ claim_room
unfolding claim_numbers
claim_fits counts few claim = claim_most counts few claim

-- ---- a table

pub table_fits : (table : List ℕ) → length (table_numbers_of file_width table) ≤ table_room
table_fits table = table_most table

-- an empty file is no table, and any other is one
pub empty_file : (table : List ℕ) → length table ≡ 0 → table_numbers_of file_width table ≡ []
unfolding has_table
empty_file table e = none (table_numbers_of file_width table) (table_there file_width table ∙ rw e)
  where
    none : (t : List ℤ) → has_table t ≡ false → t ≡ []
    none [] h = refl
    none (z ∷ t) h = absurd (true≢false h)

pub some_file : (w : ℕ) (table : List ℕ) → 0 < length table → has_table (table_numbers_of w table) ≡ true
some_file w (b ∷ bs) l = table_there w (b ∷ bs) ∙ rw (eqb-suc-zero (length bs))
some_file w [] l = absurd (omega arith)

-- a mesh without a table
module _ (table : List ℕ) (m : List ℤ) (e : length table ≡ 0) where
  pub alone_check : mesh_check m ≡ tabled_check (table_numbers_of file_width table) m
  alone_check = rw (empty_file table e) (sym (no_table m))

  pub alone_read : m ≡ mesh_read (table_numbers_of file_width table) m
  unfolding mesh_read has_table
  alone_read = rw (empty_file table e, mesh_read)

  pub alone_left : m ≡ numbers_left (table_numbers_of file_width table) m
  alone_left = rw (empty_file table e) (left_alone m)

-- ---- a list with numbers at its front

module _ {zs before after : List ℤ} {r : ℕ} (l : Listed zs before r after) where
  pub front : take r after ≡ zs
  front = ap (take r) l.list ∙ take_at zs (drop r before) r (sym l.count)

  pub fits : r ≤ length after
  fits = omega (arith, l.count, ap length l.list, length-append zs (drop r before))

  pub as_many : r ≡ length (take r after)
  as_many = l.count ∙ sym (ap length front)

  pub behind : drop r after ≡ drop r before
  behind = ap (drop r) l.list ∙ drop_at zs (drop r before) r (sym l.count)

-- what the front is changed to, as long as it, leaves what is behind it
module _ {zs before between : List ℤ} {r : ℕ} (l : Listed zs before r between) where
  pub changed : {now left : List ℤ} → now ≡ left → length left ≡ length zs
      → Listed left before r (now ++ drop r between)
  changed e long = record { count = l.count ∙ sym long; list = ap₂ ◌++◌ e (behind l) }

-- ---- what was answered

-- the outcome of an answer whose case is known
module _ {A : Type 0} {r : Result A Refusal} {o : Outcome} where
  pub passed_as : {x : A} → outcome_of r ≡ o → r ≡ Ok x → Passed ≡ o
  passed_as h e = ap outcome_of (sym e) ∙ h

  pub refused_as : {e : Refusal} → outcome_of r ≡ o → r ≡ Err e → Fails e.number e.place ≡ o
  refused_as h e = ap outcome_of (sym e) ∙ h

-- ---- three files

module _ (mesh table : List ℕ) where
  -- the verdict on a claim file, on the mesh as all after its lines reads it
  abbrev pub on_the_mesh : List ℕ → Verdict
  on_the_mesh claim =
      claim_verdict (mesh_from file_width mesh table) (claim_numbers file_width (mesh_from file_width mesh table) claim)

  pub files_first : (claim : List ℕ)
      → answer (mesh_outcome file_width mesh table) (on_the_mesh claim) ≡ files_verdict file_width mesh table claim
  unfolding files_verdict tabled_verdict mesh_outcome mesh_from
  files_first claim = refl

  -- a mesh file that passes with its table, as all after its lines reads it
  read_sound : {t : List Pair} → Passed ≡ mesh_outcome file_width mesh table
      → PairsAre (mesh_from file_width mesh table) t → SoundMesh (mesh_from file_width mesh table) t
  unfolding mesh_outcome mesh_from
  read_sound = sound_mesh (read_passes (table_numbers_of file_width table) (mesh_numbers file_width mesh))

  -- the list that `judge_mesh_file` leaves, where the mesh passes
  module _ (r : JudgedMesh) {before after : List ℤ} (outcome : outcome_of r.pairs ≡ mesh_outcome file_width mesh table)
      (list : Listed (mesh_left file_width mesh table) before r.count after) where
    pub judged_read : {p : ArrayVec Pair} → r.pairs ≡ Ok p → take r.count after ≡ mesh_from file_width mesh table
    unfolding mesh_outcome mesh_from mesh_left
    judged_read e =
        front list ∙ left_read (table_numbers_of file_width table) (mesh_numbers file_width mesh) (passed_as outcome e)

    -- what `passed_mesh` requires: it answers the pairs of the mesh that it leaves
    pub judged_sound : {p : ArrayVec Pair} → IfOk r.pairs (λ p. PairsAre (mesh_from file_width mesh table) p.items)
        → r.pairs ≡ Ok p → SoundMesh (take r.count after) p.items
    judged_sound {p} pairs e =
        let m = mesh_from file_width mesh table in
        subst (λ (m : List ℤ). SoundMesh m p.items) (sym (judged_read e))
        (read_sound (passed_as outcome e) (IfOk-at_ok (λ (p : ArrayVec Pair). PairsAre m p.items) e pairs))
