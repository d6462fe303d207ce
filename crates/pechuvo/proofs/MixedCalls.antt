-- The promises of runs, of sizes and of books applied to the sheet of `MixedFiles`, with 12 and with 108 sides and
-- with bedded clay: antt computes what is told, or takes the verdict that `MixedApplied` has, and the promises say the
-- rest.
use mathlib.Core.Path.{◌≡◌, refl, sym, ◌∙◌, ap, subst}
use mathlib.Core.Logic.{⊎_elim}
use mathlib.Core.List.Memᴰ
use mathlib.Core.List.{List, [], ◌∷◌, ◌++◌, map, flat_map, flatten}
use Prim.Native.Nat.{ℕ, ◌/◌}
use native.Mathlib.Omega.{arith}
use lib.IntN.{ℤ, pos}
use lib.ListN.{length, replicate}
use Rattle.scope.specs.Cases.Verdict.{Verdict}
use Rattle.scope.proofs.SameRows.{same_mesh}
use Rattle.scope.specs.Parts.{SameRows}
use Rattle.scope.specs.Mesh.{ListsDirection}
use Rattle.scope.specs.Claim.{claim_layout}
use Rattle.scope.specs.Statements.{LinesSound, HasField, HasMultipliers}
use Rattle.numbers.specs.MixedSheet.{soils_written, mixed_claim, claim_108, bedded_claim, even}
use Rattle.numbers.proofs.MixedApplied.{mixed_parts, many_parts, bedded_parts, bedded_kind}
use Rattle.reader.specs.File.{file_width}
use Rattle.reader.specs.WellFormed.{bytes_of}
use Rattle.judge.specs.declared.room.MeshSizes.{MeshSizes}
use Rattle.judge.specs.ClaimBytes.{claim_bytes}
use Rattle.judge.specs.Judge.{files_verdict}
use Rattle.judge.specs.Room.{sizes_for, mesh_sizes}
use Rattle.report.specs.Report.{report_bytes}
use Rattle.judge.specs.Handed.{Handed, files, mesh_of}
use Rattle.book.specs.History.{AskOrCommit, asks, commits, handed_of, EachOnMesh}
use Rattle.run.specs.declared.RunAnswer.{RunAnswer}
use Rattle.run.specs.Run.{own_bytes, verdict_on, ends_run, taken_of, line_of, claims_judged, ran, run}
use Rattle.run.specs.InTurn.{claim_at, InTurn}
use Rattle.book.specs.Book.{proper, takes_ask, takes_commit, better, moved, followed, unjudged, judged, asked}
use Rattle.book.specs.Book.{committed}
use Rattle.pechuvo.specs.declared.books.BookForC.{BookForC}
use Rattle.pechuvo.specs.BookInC.{bound_of, book_of, told_book, book_answer}
use Rattle.pechuvo.specs.Sheets.{Sheet}
use Rattle.pechuvo.specs.MixedFiles.{told, BookSays, mixed_files, many_files, bedded_files}
use Rattle.pechuvo.specs.Promises.{mesh_with, claim_in, RunAsked, RunCall, SingleCall, judged_in, report_at}
use Rattle.pechuvo.specs.Promises.{SizesAsked, SizesOf, MeshAccepted}
use Rattle.pechuvo.specs.BookPromises.{AskAnswers, CommitAnswers, Made, begun, then_ask, then_commit, KeepsTheBest}
use Rattle.pechuvo.proofs.RunPromises.{run_call}
use Rattle.pechuvo.proofs.SizesPromises.{sizes_told}
use Rattle.pechuvo.proofs.BookPromises.{book_asked, book_committed, ask_then_commit, after_any_calls}
use Rattle.pechuvo.proofs.MixedApplied as Mixed
use Rattle.pechuvo.proofs.MixedApplied.{mixed_verdict, mixed_reads, mixed_call_says, many_verdict, many_reads}
use Rattle.pechuvo.proofs.MixedApplied.{many_call_says, bedded_verdict, bedded_reads, bedded_call_says}
use Rattle.pechuvo.proofs.MixedApplied.{mixed_files_say, many_files_say, bedded_files_say}

-- for proofs by computation: the definitions of a run, of sizes and of a book too
unfoldable opened : Unit {0}
unfolding Mixed.opened flat_map flatten bytes_of claim_bytes own_bytes verdict_on ends_run taken_of line_of
    claims_judged ran run sizes_for mesh_sizes proper takes_ask takes_commit better moved followed unjudged judged
    asked committed bound_of told_book
opened = tt

-- ---- sizes

module _ (s : Sheet) (m c : List ℤ) (r : MeshSizes) (h : SizesAsked s.mesh s.table r) (accepted : r.number ≡ 0)
    (reads : (mesh_with s.mesh s.table ≡ m) × (claim_in m s.claim ≡ c)) (parts : HasField c × HasMultipliers c)
    (lines : LinesSound (claim_layout m) c) where
  sizes_say : SizesOf m r
  sizes_say = subst (λ (x : List ℤ). SizesOf x r) reads.0 ((sizes_told s.mesh s.table r h).sizes accepted)

  length_says : length s.claim ≡ r.both_bytes
  length_says =
      (sizes_say.lengths s.claim (subst (LinesSound (claim_layout m)) (sym reads.1) lines)).both
      (subst HasField (sym reads.1) parts.0) (subst HasMultipliers (sym reads.1) parts.1)

-- three elements, two edges, a jump and ten pairs on eight nodes
abbrev sized : (strength multipliers both : ℕ) → MeshSizes
sized strength multipliers both = record {
  number = 0;
  place = 0;
  balance_rows = 6;
  side_rows = 8;
  jump_rows = 4;
  strength_rows = strength;
  columns = 24;
  field_bytes = 345;
  multipliers_bytes = multipliers;
  both_bytes = both;
}

mixed_sized : SizesAsked mixed_files.mesh mixed_files.table (sized 120 1721 2017)
unfolding opened
mixed_sized = refl

pub mixed_sizes : SizesOf (soils_written 12 0) (sized 120 1721 2017) × (length mixed_files.claim ≡ 2017)
mixed_sizes = (
  sizes_say mixed_files (soils_written 12 0) (mixed_claim 64 even)
      (sized 120 1721 2017) mixed_sized refl mixed_reads mixed_parts mixed_call_says.accepted.lines,
  length_says mixed_files (soils_written 12 0) (mixed_claim 64 even)
      (sized 120 1721 2017) mixed_sized refl mixed_reads mixed_parts mixed_call_says.accepted.lines,
)

many_sized : SizesAsked many_files.mesh many_files.table (sized 1080 13241 13537)
unfolding opened
many_sized = refl

pub many_sizes : SizesOf (soils_written 108 0) (sized 1080 13241 13537) × (length many_files.claim ≡ 13537)
many_sizes = (
  sizes_say many_files (soils_written 108 0) (claim_108 64 even)
      (sized 1080 13241 13537) many_sized refl many_reads many_parts many_call_says.accepted.lines,
  length_says many_files (soils_written 108 0) (claim_108 64 even)
      (sized 1080 13241 13537) many_sized refl many_reads many_parts many_call_says.accepted.lines,
)

bedded_sized : SizesAsked bedded_files.mesh bedded_files.table (sized 120 1721 2017)
unfolding opened
bedded_sized = refl

pub bedded_sizes : SizesOf (soils_written 12 1) (sized 120 1721 2017) × (length bedded_files.claim ≡ 2017)
bedded_sizes = (
  sizes_say bedded_files (soils_written 12 1) (bedded_claim 65 even)
      (sized 120 1721 2017) bedded_sized refl bedded_reads bedded_parts bedded_call_says.accepted.lines,
  length_says bedded_files (soils_written 12 1) (bedded_claim 65 even)
      (sized 120 1721 2017) bedded_sized refl bedded_reads bedded_parts bedded_call_says.accepted.lines,
)

-- ---- books: an ask of an empty book and its commit

abbrev empty_for_c : BookForC
empty_for_c = record {
  lower_there = 0;
  upper_there = 0;
  lower_numerator = pos 0;
  lower_denominator = pos 0;
  upper_numerator = pos 0;
  upper_denominator = pos 0;
  count = 0;
}

-- 64 on w over m
abbrev book_with : (w m : ℕ) → BookForC
book_with w m = record {
  lower_there = 1;
  upper_there = 1;
  lower_numerator = pos 64;
  lower_denominator = pos 1;
  upper_numerator = pos w;
  upper_denominator = pos m;
  count = 1;
}

abbrev bedded_book : BookForC
bedded_book = record {
  lower_there = 0;
  upper_there = 1;
  lower_numerator = pos 0;
  lower_denominator = pos 0;
  upper_numerator = pos 15600;
  upper_denominator = pos 240;
  count = 1;
}

-- with a verdict that antt has computed
module _ (s : Sheet) {v : Verdict} (b : BookForC) (e : files_verdict file_width s.mesh s.table s.claim ≡ v) where
  ask_lem : told b ≡ book_answer empty_for_c (asked (book_of empty_for_c) v)
      → AskAnswers empty_for_c s.mesh s.table s.claim (told b)
  ask_lem h = h ∙ ap (λ (x : Verdict). book_answer empty_for_c (asked (book_of empty_for_c) x)) (sym e)

  commit_lem : told b ≡ book_answer empty_for_c (committed (book_of empty_for_c) 0 v)
      → CommitAnswers empty_for_c 0 s.mesh s.table s.claim (told b)
  commit_lem h = h ∙ ap (λ (x : Verdict). book_answer empty_for_c (committed (book_of empty_for_c) 0 x)) (sym e)

empty_made : Made [] empty_for_c
unfolding bound_of
empty_made = begun empty_for_c refl

-- both calls are on one mesh
both_on : (s : Sheet) → EachOnMesh (mesh_of (files s.mesh s.table s.claim))
    (asks (files s.mesh s.table s.claim) ∷ commits 0 (files s.mesh s.table s.claim) ∷ [])
both_on s k there =
    ⊎_elim (λ e. same e refl)
    (λ later. ⊎_elim (λ e. same e refl) (λ none. absurd (Memᴰ.not-nil none)) (Memᴰ.cases_cons later))
    (Memᴰ.cases_cons there)
  where
    same : {q : AskOrCommit Handed} → k ≡ q → mesh_of (handed_of q) ≡ mesh_of (files s.mesh s.table s.claim)
        → SameRows (mesh_of (handed_of k)) (mesh_of (files s.mesh s.table s.claim))
    same e f = same_mesh (ap (λ (x : AskOrCommit Handed). mesh_of (handed_of x)) e ∙ f)

book_says : (s : Sheet) (b : BookForC) → AskAnswers empty_for_c s.mesh s.table s.claim (told b)
    → CommitAnswers empty_for_c 0 s.mesh s.table s.claim (told b) → BookSays s empty_for_c b
book_says s b h g = record {
  asked = book_asked empty_for_c s.mesh s.table s.claim h;
  committed = book_committed empty_for_c s.mesh s.table s.claim 0 g;
  agree = λ r k. ask_then_commit empty_for_c s.mesh s.table s.claim h k;
  kept = kept;
  bracket = kept.bracket (mesh_of (files s.mesh s.table s.claim)) (both_on s);
}
  where
    kept : KeepsTheBest (asks (files s.mesh s.table s.claim) ∷ commits 0 (files s.mesh s.table s.claim) ∷ []) b
    kept = after_any_calls
        (then_commit (then_ask empty_made s.mesh s.table s.claim (told b) h) 0 s.mesh s.table s.claim (told b) g)

mixed_asked : AskAnswers empty_for_c mixed_files.mesh mixed_files.table mixed_files.claim (told (book_with 15360 240))
unfolding opened
mixed_asked = ask_lem mixed_files (book_with 15360 240) mixed_verdict refl

mixed_committed : CommitAnswers empty_for_c 0 mixed_files.mesh mixed_files.table mixed_files.claim
    (told (book_with 15360 240))
unfolding opened
mixed_committed = commit_lem mixed_files (book_with 15360 240) mixed_verdict refl

pub mixed_book : BookSays mixed_files empty_for_c (book_with 15360 240)
mixed_book = book_says mixed_files (book_with 15360 240) mixed_asked mixed_committed

pub mixed_followed : book_of (book_with 15360 240) ≡ followed (book_of empty_for_c)
    (files_verdict file_width mixed_files.mesh mixed_files.table mixed_files.claim)
mixed_followed = mixed_book.committed.follows refl

many_asked : AskAnswers empty_for_c many_files.mesh many_files.table many_files.claim (told (book_with 53181440 830960))
unfolding opened
many_asked = ask_lem many_files (book_with 53181440 830960) many_verdict refl

many_committed : CommitAnswers empty_for_c 0 many_files.mesh many_files.table many_files.claim
    (told (book_with 53181440 830960))
unfolding opened
many_committed = commit_lem many_files (book_with 53181440 830960) many_verdict refl

pub many_book : BookSays many_files empty_for_c (book_with 53181440 830960)
many_book = book_says many_files (book_with 53181440 830960) many_asked many_committed

bedded_asked : AskAnswers empty_for_c bedded_files.mesh bedded_files.table bedded_files.claim (told bedded_book)
unfolding opened
bedded_asked = ask_lem bedded_files bedded_book bedded_verdict refl

bedded_committed : CommitAnswers empty_for_c 0 bedded_files.mesh bedded_files.table bedded_files.claim
    (told bedded_book)
unfolding opened
bedded_committed = commit_lem bedded_files bedded_book bedded_verdict refl

pub bedded_best : BookSays bedded_files empty_for_c bedded_book
bedded_best = book_says bedded_files bedded_book bedded_asked bedded_committed

bedded_listed : ListsDirection (mesh_with bedded_files.mesh bedded_files.table)
bedded_listed = subst ListsDirection (sym bedded_reads.0) (1, bedded_kind.1, bedded_kind.0)

pub no_load_of_beds : (book_of bedded_book).lower ≡ (book_of empty_for_c).lower
no_load_of_beds = bedded_best.asked.no_load bedded_listed

-- ---- runs: each with one claim, in a buffer of 120 bytes

abbrev lent : List ℕ
lent = replicate 120 7

abbrev left : Sheet → List ℕ
left s = s.line ++ replicate 7 7

abbrev ran_once : ℕ → RunAnswer
ran_once bytes = record { reports = 1; bytes = bytes }

abbrev judged_of : Sheet → List (List ℕ)
judged_of s = judged_in s.mesh s.table s.claim lent

-- the report is that of a single call on the claim's own bytes, and the claim is taken in its turn
abbrev RunSays : Sheet → ℕ → Type 0
RunSays s bytes =
    RunCall s.mesh s.table s.claim lent (judged_of s) 1 bytes (left s)
    × SingleCall s.mesh s.table (claim_at (judged_of s) 0) (report_at 0 (left s))
    × InTurn (mesh_with s.mesh s.table) (length lent / report_bytes) s.claim (judged_of s) bytes

run_says : (s : Sheet) (bytes : ℕ) → RunAsked s.mesh s.table s.claim lent (ran_once bytes) (left s)
    → MeshAccepted s.mesh s.table → RunSays s bytes
run_says s bytes h accepted =
    let made = run_call s.mesh s.table s.claim lent (ran_once bytes) (left s) h in
    (made, made.single_calls 0 (omega arith), made.in_turn accepted)

mixed_ran : RunAsked mixed_files.mesh mixed_files.table mixed_files.claim lent (ran_once 2017) (left mixed_files)
unfolding opened
mixed_ran = record { reports_are = refl; bytes_are = refl; buffer_is = refl }

pub mixed_run : RunSays mixed_files 2017
mixed_run = run_says mixed_files 2017 mixed_ran mixed_files_say.mesh_accepted

many_ran : RunAsked many_files.mesh many_files.table many_files.claim lent (ran_once 13537) (left many_files)
unfolding opened
many_ran = record { reports_are = refl; bytes_are = refl; buffer_is = refl }

pub many_run : RunSays many_files 13537
many_run = run_says many_files 13537 many_ran many_files_say.mesh_accepted

bedded_ran : RunAsked bedded_files.mesh bedded_files.table bedded_files.claim lent (ran_once 2017) (left bedded_files)
unfolding opened
bedded_ran = record { reports_are = refl; bytes_are = refl; buffer_is = refl }

pub bedded_run : RunSays bedded_files 2017
bedded_run = run_says bedded_files 2017 bedded_ran bedded_files_say.mesh_accepted
