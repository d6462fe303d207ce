-- "Numbers handed to it get the refusals that a file of them, with columns as wide as needed, would get": a file is
-- checked as its numbers are, and where no check of its lines fails its numbers are read back.
use mathlib.Core.Path.{◌≡◌, refl, sym, ap, ◌∙◌, subst}
use mathlib.Core.Bool.{Bool, true, false, true≢false}
use mathlib.Core.List.{List, [], ◌∷◌}
use Prim.Native.Nat.{ℕ, ◌+◌, ◌<◌}
use native.Mathlib.Omega.{arith}
use lib.IntN.{ℤ}
use Rattle.scope.specs.declared.Place.{Place}
use Rattle.scope.specs.Cases.Outcome.{Outcome}
use Rattle.scope.specs.Cases.Outcome.{Passed, Refused as Fails}
use Rattle.scope.specs.Cases.Verdict.{Refused}
use Rattle.scope.specs.Mesh.{mesh_layout, layout_with, element_lines, sides}
use Rattle.scope.specs.Claim.{claim_layout}
use Rattle.scope.specs.Verdict.{mesh_check, claim_verdict, answer, verdict, lines_check}
use Rattle.scope.specs.Phases.{check_phases}
use Rattle.scope.specs.Table.{table_layout, table_line_phases, has_table, mesh_read, tabled_check}
use Rattle.scope.specs.TableVerdict.{tabled_verdict}
use Rattle.scope.proofs.TableVerdict.{read_passes, no_table_verdict}
use Rattle.verdict.proofs.TableLaws.{lines_refuse, table_refuses, tabled_refuses}
use Rattle.scope.proofs.NumberRanges.{some_sides_lem, counts}
use Rattle.scope.proofs.Checks.{passed_is_not_refused}
use Rattle.scope.proofs.Refusals.{lines_passed, mesh_checked, mesh_passed, claim_checked}
use Rattle.reader.specs.File.{numbers_of, file_of, widths, table_numbers_of, table_of}
use Rattle.reader.specs.WellFormed.{Fit}
use Rattle.reader.proofs.Regular.{mesh_regular, layout_regular, same_numbers, claim_regular}
use Rattle.reader.proofs.Written.{wide_enough, written_checked, written_passed}
use Rattle.reader.proofs.TableForm.{raised, table_raised, table_written_checked, table_written_passed}
use Rattle.reader.proofs.TableForm.{table_written-there}
use Rattle.judge.specs.Judge.{mesh_numbers, mesh_from, claim_numbers, files_verdict}

mesh_lines_refused : (m c : List ℤ) (k : ℕ) (p : Place) → lines_check mesh_layout m ≡ Fails k p
    → verdict m c ≡ Refused k p
unfolding verdict answer
mesh_lines_refused m c k p e = rw (mesh_checked m, e)

claim_lines_refused : (m c : List ℤ) (k : ℕ) (p : Place) → lines_check (claim_layout m) c ≡ Fails k p
    → verdict m c ≡ answer (mesh_check m) (Refused k p)
unfolding verdict claim_verdict answer
claim_lines_refused m c k p e = rw (claim_checked m c, e)

pub some_side_lem : (m : List ℤ) → lines_check mesh_layout m ≡ Passed → 0 < sides m
some_side_lem m e = some_sides_lem (counts m ((lines_passed mesh_layout m).says e))

-- the claim's numbers, where the mesh's lines pass
claim_numbers_lem : (w : ℕ) (m c : List ℤ) → Fit w c → 0 < sides m
    → verdict m (numbers_of w (claim_layout m) (file_of w (claim_layout m) c)) ≡ verdict m c
claim_numbers_lem w m c x s = by (lines_check (claim_layout m) c) refl
  where
    by : (o : Outcome) → lines_check (claim_layout m) c ≡ o → verdict m
        (numbers_of w (claim_layout m) (file_of w (claim_layout m) c)) ≡ verdict m c
    by Passed e = ap (verdict m) (written_passed w (claim_layout m) (claim_regular m s) c x e)
    by (Fails k p) e =
        claim_lines_refused m (numbers_of w (claim_layout m) (file_of w (claim_layout m) c)) k p
        (written_checked w (claim_layout m) (claim_regular m s) c x ∙ e)
        ∙ sym (claim_lines_refused m c k p e)

-- two lists, where there is no table
alone_verdict : (w : ℕ) (m c : List ℤ) → Fit w m → Fit w c → verdict
    (numbers_of w mesh_layout (file_of w mesh_layout m))
    (numbers_of w (claim_layout (numbers_of w mesh_layout (file_of w mesh_layout m))) (file_of w (claim_layout m) c))
    ≡ verdict m c
alone_verdict w m c x y = by (lines_check mesh_layout m) refl
  where
    read : List ℤ
    read = numbers_of w mesh_layout (file_of w mesh_layout m)

    by : (o : Outcome) → lines_check mesh_layout m ≡ o → verdict (numbers_of w mesh_layout (file_of w mesh_layout m))
        (numbers_of w (claim_layout (numbers_of w mesh_layout (file_of w mesh_layout m)))
        (file_of w (claim_layout m) c)) ≡ verdict m c
    by Passed e = rw (written_passed w mesh_layout mesh_regular m x e) (claim_numbers_lem w m c y (some_side_lem m e))
    by (Fails k p) e =
        mesh_lines_refused read (numbers_of w (claim_layout read) (file_of w (claim_layout m) c)) k p
        (written_checked w mesh_layout mesh_regular m x ∙ e)
        ∙ sym (mesh_lines_refused m c k p e)

-- ---- with a table

-- a table adds a soil that an element may name, and no column
same_file : (b : Bool) (w : ℕ) (m : List ℤ) → file_of w (layout_with b) m ≡ file_of w mesh_layout m
unfolding file_of layout_with element_lines widths
same_file b w m = refl

-- an outcome that passes where its places are moved passes where they are not
lowered : (o : Outcome) → raised o ≡ Passed → o ≡ Passed
unfolding raised
lowered Passed e = refl
lowered (Fails k p) e = passed_is_not_refused (sym e)

-- a list with no number is no table
without_table : (t : List ℤ) → has_table t ≡ false → t ≡ []
unfolding has_table
without_table [] e = refl
without_table (z ∷ t) e = absurd (true≢false e)

module _ (t m c : List ℤ) where
  -- a claim on a mesh that passes is judged as its numbers are
  claim_with : (w : ℕ) → Fit w c
      → tabled_verdict t m (numbers_of w (claim_layout (mesh_read t m)) (file_of w (claim_layout (mesh_read t m)) c))
      ≡ tabled_verdict t m c
  unfolding tabled_verdict verdict answer
  claim_with w y = by (tabled_check t m) refl
    where
      read : List ℤ
      read = numbers_of w (claim_layout (mesh_read t m)) (file_of w (claim_layout (mesh_read t m)) c)

      by : (o : Outcome) → tabled_check t m ≡ o → answer (tabled_check t m) (claim_verdict (mesh_read t m) read)
          ≡ answer (tabled_check t m) (claim_verdict (mesh_read t m) c)
      by (Fails k p) e = rw e
      by Passed e =
          let passes : mesh_check (mesh_read t m) ≡ Passed = read_passes t m e in
          let side : 0 < sides (mesh_read t m) = some_side_lem (mesh_read t m)
          ((lines_passed mesh_layout (mesh_read t m)).passed ((mesh_passed (mesh_read t m)).says passes).lines) in
          let same : answer (mesh_check (mesh_read t m)) (claim_verdict (mesh_read t m) read)
          ≡ answer (mesh_check (mesh_read t m)) (claim_verdict (mesh_read t m) c) =
          claim_numbers_lem w (mesh_read t m) c y side in
          ap (λ (o : Outcome). answer o (claim_verdict (mesh_read t m) read)) (e ∙ sym passes) ∙ same
          ∙ ap (λ (o : Outcome). answer o (claim_verdict (mesh_read t m) c)) (passes ∙ sym e)

-- for every three lists of whole numbers and every width that holds them all, the verdict on the files written from
-- them is the verdict on the lists
module _ (w : ℕ) (m t c : List ℤ) (x : Fit w m) (z : Fit w t) (y : Fit w c) where
  read : List ℤ
  read = numbers_of w mesh_layout (file_of w mesh_layout m)

  table : List ℤ
  table = table_numbers_of w (table_of w t)

  claim : List ℕ
  claim = file_of w (claim_layout (mesh_read t m)) c

  Written : Type 0
  Written = tabled_verdict table read (numbers_of w (claim_layout (mesh_read table read)) claim) ≡ tabled_verdict t m c

  lines_read : (b : Bool) → lines_check (layout_with b) read ≡ lines_check (layout_with b) m
  unfolding read
  lines_read b =
      ap (lines_check (layout_with b))
      (sym (ap (numbers_of w mesh_layout) (same_file b w m)) ∙ sym (same_numbers b w (file_of w (layout_with b) m)))
      ∙ written_checked w (layout_with b) (layout_regular b) m x

  no_table_there : has_table t ≡ false → Written
  unfolding Written read table claim mesh_read has_table
  no_table_there none =
      let empty : t ≡ [] = without_table t none in
      let read_none : table_numbers_of w (table_of w t) ≡ [] = without_table _ (table_written-there w m t z ∙ none) in
      subst (λ (s : List ℤ). tabled_verdict s read (numbers_of w (claim_layout (mesh_read s read)) claim)
      ≡ tabled_verdict t m c) (sym read_none)
      (subst (λ (s : List ℤ). tabled_verdict [] read
      (numbers_of w (claim_layout (mesh_read [] read)) (file_of w (claim_layout (mesh_read s m)) c))
      ≡ tabled_verdict s m c) (sym empty)
      (no_table_verdict read _ ∙ alone_verdict w m c x y ∙ sym (no_table_verdict m c)))

  table_there_too : has_table t ≡ true → Written
  unfolding Written read table claim
  table_there_too some = by (lines_check (layout_with true) m) refl
    where
      there : has_table (table_numbers_of w (table_of w t)) ≡ true
      there = table_written-there w m t z ∙ some

      by : (o : Outcome) → lines_check (layout_with true) m ≡ o
          → tabled_verdict (table_numbers_of w (table_of w t)) (numbers_of w mesh_layout (file_of w mesh_layout m))
          (numbers_of w (claim_layout
          (mesh_read (table_numbers_of w (table_of w t)) (numbers_of w mesh_layout (file_of w mesh_layout m))))
          (file_of w (claim_layout (mesh_read t m)) c)) ≡ tabled_verdict t m c
      by (Fails k p) e = sym (tabled_refuses _ _ _ (lines_refuse _ _ there (lines_read true ∙ e)))
          ∙ tabled_refuses t m c (lines_refuse t m some e)
      by Passed e = rw (read_back) (on_the_mesh (check_phases (table_line_phases t m)) refl)
        where
          read_back : numbers_of w mesh_layout (file_of w mesh_layout m) ≡ m
          read_back =
              sym (ap (numbers_of w mesh_layout) (same_file true w m))
              ∙ sym (same_numbers true w (file_of w (layout_with true) m))
              ∙ written_passed w (layout_with true) (layout_regular true) m x e

          lines : check_phases (table_line_phases (table_numbers_of w (table_of w t)) m)
              ≡ check_phases (table_line_phases t m)
          lines = table_raised _ m ∙ ap raised (table_written_checked w m t z) ∙ sym (table_raised t m)

          on_the_mesh : (o : Outcome) → check_phases (table_line_phases t m) ≡ o
              → tabled_verdict (table_numbers_of w (table_of w t)) m
              (numbers_of w (claim_layout (mesh_read (table_numbers_of w (table_of w t)) m))
              (file_of w (claim_layout (mesh_read t m)) c)) ≡ tabled_verdict t m c
          on_the_mesh (Fails k p) f =
              sym (tabled_refuses _ _ _ (table_refuses (record { tabled = there; lines = e }) (lines ∙ f)))
              ∙ tabled_refuses t m c (table_refuses (record { tabled = some; lines = e }) f)
          on_the_mesh Passed f =
              rw (table_written_passed w m t z (lowered (lines_check (table_layout m) t) (sym (table_raised t m) ∙ f)))
              (claim_with t m c w y)

  -- the two cases
  pub numbers-verdict : files_verdict w (file_of w mesh_layout m) (table_of w t)
      (file_of w (claim_layout (mesh_read t m)) c) ≡ tabled_verdict t m c
  unfolding files_verdict mesh_numbers mesh_from claim_numbers Written read table claim
  numbers-verdict = by (has_table t) refl
    where
      by : (b : Bool) → has_table t ≡ b → Written
      by true e = table_there_too e
      by false e = no_table_there e

-- such a width there is
pub width-there : (m t c : List ℤ) → (w : ℕ) × Fit w m × Fit w t × Fit w c
width-there m t c =
    let (u, e) = wide_enough m in
    let (v, f) = wide_enough t in
    let (w, g) = wide_enough c in
    (u + v + w, e (u + v + w) (omega arith), f (u + v + w) (omega arith), g (u + v + w) (omega arith))
