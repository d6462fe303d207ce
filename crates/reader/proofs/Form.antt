-- A file is refused for its form where a line isn't well formed or bytes are left over, after lines that are good: from
-- the front, line by line, and then by the lines' numbers.
use mathlib.Core.Path.{◌≡◌, refl, sym, ap, ◌∙◌}
use mathlib.Core.Logic.{◌↔◌, ◌≢◌, ◌⊎◌, inl, inr}
use mathlib.Core.List.{List, [], ◌∷◌, map}
use mathlib.Core.Option.{Option, none, some, none-ne-some}
use Prim.Native.Nat.{ℕ, zero, suc, ◌+◌, ◌≤◌, ◌<◌}
use native.Mathlib.Omega.{arith}
use lib.IntN.{ℤ}
use lib.ListN.{length, take, drop, length-drop}
use lib.Seq.{drop-drop}
use Rattle.scope.specs.declared.Place.{Place}
use Rattle.scope.specs.declared.Place.TheVariants.{Line}
use Rattle.scope.specs.Cases.Outcome.{Outcome}
use Rattle.scope.specs.Cases.Outcome.{Passed, Refused}
use Rattle.scope.specs.Checks.{◌then◌}
use Rattle.scope.specs.Columns.{Rule}
use Rattle.scope.specs.Layout.{Group, Layout, width, groups, line_count, group_at}
use Rattle.scope.proofs.Checks.{passed_is_not_refused, then_refused}
use Rattle.scope.proofs.Lines.{group}
use Rattle.scope.proofs.InOrder.{check_from, lines_length, group_by_number, line_check_other}
use Rattle.scope.specs.Verdict.{line_check, lines_check}
use Rattle.scope.proofs.Refusals.{line_check_passed}
use Rattle.reader.specs.File.{line_bytes, read_line, read_lines, numbers_of}
use Rattle.reader.specs.WellFormed.{GoodLine, IllFormed, SomeColumns, Regular, bytes_of, line_start, FormFails}
use Rattle.reader.proofs.Line.{line_means}
use Rattle.reader.proofs.File.{read_all, file_lines, read_none, read_some, widths_of, columns_of, lines_header}
use Rattle.reader.proofs.File.{file_in_order}
use Rattle.scope.specs.Refusals.{rule_number}

-- ---- good lines

pub unread : (w : ℕ) (g : Group) (bs : List ℕ) → read_line w (width g) bs ≡ none → IllFormed w g bs
unread w g bs e zs h = none-ne-some zs (sym e ∙ (line_means w (width g) bs zs).1 h)

-- a line that is read and passes is good
pub good : (w : ℕ) (f : Layout) (g : Group) (bs : List ℕ) (p : Place) (zs : List ℤ)
    → read_line w (width g) bs ≡ some zs → line_check f g zs p ≡ Passed → GoodLine w g bs
good w f g bs p zs o e =
    let l = (line_means w (width g) bs zs).0 o in
    let h = (line_check_passed f g zs p).says e in
    record { numbers = zs; well_formed = l; in_limits = h.1; rules_hold = h.2 }

-- and a good line is read and passes
pub good_read : (w : ℕ) (g : Group) (bs : List ℕ) (h : GoodLine w g bs) → read_line w (width g) bs ≡ some h.numbers
good_read w g bs h = (line_means w (width g) bs h.numbers).1 h.well_formed

pub good_passed : (w : ℕ) (f : Layout) (g : Group) (bs : List ℕ) (p : Place) (h : GoodLine w g bs)
    → line_check f g h.numbers p ≡ Passed
good_passed w f g bs p h = (line_check_passed f g h.numbers p).passed (h.well_formed.count, h.in_limits, h.rules_hold)

pub ill_formed_unread : (w : ℕ) (g : Group) (bs : List ℕ) → IllFormed w g bs → read_line w (width g) bs ≡ none
ill_formed_unread w g bs h = by (read_line w (width g) bs) refl
  where
    by : (o : Option (List ℤ)) → read_line w (width g) bs ≡ o → o ≡ none
    by none o = refl
    by (some zs) o = absurd (h zs ((line_means w (width g) bs zs).0 o))

-- ---- refusals of form

-- a line whose numbers are all there is not refused for its form
pub not_form : (f : Layout) → f.form_number ≢ f.limit_number → ((s : Rule) → f.form_number ≢ rule_number s)
    → (g : Group)
    (zs : List ℤ) (p q : Place) → length zs ≡ width g → line_check f g zs p ≡ Refused f.form_number q → ⊥
not_form f not_limit not_rule g zs p q l e = by (line_check_other f g zs p q f.form_number l e)
  where
    by : (f.form_number ≡ f.limit_number) ⊎ ((s : Rule) × (f.form_number ≡ rule_number s)) → ⊥
    by (inl h) = not_limit h
    by (inr h) = not_rule h.0 h.1

-- `FormFails`, by the lines from the front
abbrev FailsAt : ℕ → List Group → List ℕ → ℕ → Type 0
FailsAt w [] bs zero = 0 < length bs
FailsAt w [] bs (suc i) = ⊥
FailsAt w (g ∷ ls) bs zero = IllFormed w g bs
FailsAt w (g ∷ ls) bs (suc i) = GoodLine w g bs × FailsAt w ls (drop (line_bytes w (width g)) bs) i

-- line q of a file is at fault, where the first of these lines is line j
abbrev Found : ℕ → List Group → List ℕ → ℕ → ℕ → Type 0
Found w ls bs j q = (i : ℕ) × (q ≡ j + i) × FailsAt w ls bs i

fails : (w : ℕ) (f : Layout) → Regular f → (ls : List Group) → SomeColumns ls → (bs : List ℕ) (j q : ℕ)
    → check_from f ls (read_all w ls bs) j ≡ Refused f.form_number (Line (suc q)) → Found w ls bs j q
unfolding read_lines check_from
fails w f r [] c [] j q e = passed_is_not_refused e
fails w f r [] c (b ∷ bs) j q e = let s : suc j ≡ suc q = cc in (0, omega arith, omega arith)
fails w f r (g ∷ ls) c bs j q e = by (fails w f r ls c.1 next (suc j) q) (read_line w (width g) bs) refl
  where
    next : List ℕ
    next = drop (line_bytes w (width g)) bs

    rest : Outcome
    rest = check_from f ls (read_all w ls next) (suc j)

    refused : Outcome → Type 0
    refused o = o ≡ Refused f.form_number (Line (suc q))

    split : (refused rest → Found w ls next (suc j) q) → (zs : List ℤ) → read_line w (width g) bs ≡ some zs
        → refused (line_check f g zs (Line (suc j))) ⊎ ((line_check f g zs (Line (suc j)) ≡ Passed) × refused rest)
        → Found w (g ∷ ls) bs j q
    split later zs o (inl d) = absurd
        (not_form f r.not_limit r.not_rule g zs (Line (suc j)) (Line (suc q))
        ((line_means w (width g) bs zs).0 o).count d)
    split later zs o (inr d) = let (i, s, h) =
        later d.1 in (suc i, omega arith, (good w f g bs (Line (suc j)) zs o d.0, h))

    by : (refused rest → Found w ls next (suc j) q) → (o : Option (List ℤ)) → read_line w (width g) bs ≡ o
        → Found w (g ∷ ls) bs j q
    by later none o = let s : suc j ≡ suc q = cc (read_none w f g ls bs j c.0 o) in (0, omega arith, unread w g bs o)
    by later (some zs) o =
        split later zs o ((then_refused (line_check f g zs (Line (suc j))) rest f.form_number (Line (suc q))).0
        (sym (read_some w f g ls bs j zs o) ∙ e))

failed : (w : ℕ) (f : Layout) (ls : List Group) → SomeColumns ls → (bs : List ℕ) (j i : ℕ) → FailsAt w ls bs i
    → check_from f ls (read_all w ls bs) j ≡ Refused f.form_number (Line (suc (j + i)))
unfolding read_lines check_from
failed w f [] c [] j zero h = absurd (omega arith)
failed w f [] c (b ∷ bs) j zero h = ap (λ x. Refused f.form_number (Line (suc x))) (omega arith)
failed w f [] c bs j (suc i) h = absurd h
failed w f (g ∷ ls) c bs j zero h =
    read_none w f g ls bs j c.0 (ill_formed_unread w g bs h) ∙ ap (λ x. Refused f.form_number (Line (suc x)))
    (omega arith)
failed w f (g ∷ ls) c bs j (suc i) h =
    read_some w f g ls bs j h.0.numbers (good_read w g bs h.0)
    ∙ ap (λ x. x then check_from f ls (read_all w ls (drop (line_bytes w (width g)) bs)) (suc j))
    (good_passed w f g bs (Line (suc j)) h.0)
    ∙ failed w f ls c.1 (drop (line_bytes w (width g)) bs) (suc j) i h.1
    ∙ ap (λ x. Refused f.form_number (Line (suc x))) (omega arith)

-- ---- lines by their numbers

start : ℕ → List Group → ℕ → ℕ
start w ls i = bytes_of w (take i (map width ls))

-- all lines before i are good, and line i is at fault
abbrev GoodTo : ℕ → List Group → List ℕ → ℕ → Type 0
GoodTo w ls bs i = (k : ℕ) → k < i → GoodLine w (group ls k) (drop (start w ls k) bs)

abbrev Fault : ℕ → List Group → List ℕ → ℕ → Type 0
Fault w ls bs i = ((i < length ls) × IllFormed w (group ls i) (drop (start w ls i) bs))
    ⊎ ((i ≡ length ls) × (start w ls i < length bs))

-- a line further on
module _ (w : ℕ) (g : Group) (ls : List Group) (bs : List ℕ) where
  next : List ℕ
  next = drop (line_bytes w (width g)) bs

  start-next : (k : ℕ) → drop (start w ls k) next ≡ drop (start w (g ∷ ls) (suc k)) bs
  unfolding start bytes_of next
  start-next k = drop-drop (start w ls k) (line_bytes w (width g)) bs

  good_on : (i : ℕ) → GoodLine w g bs → GoodTo w ls next i → GoodTo w (g ∷ ls) bs (suc i)
  unfolding start bytes_of
  good_on i h a zero l = h
  good_on i h a (suc k) l = rw (start-next k) at (a k (omega arith))

  good_back : (i : ℕ) → GoodTo w (g ∷ ls) bs (suc i) → GoodTo w ls next i
  good_back i a k l = rw (start-next k) (a (suc k) (omega arith))

  fault_on : (i : ℕ) → Fault w ls next i → Fault w (g ∷ ls) bs (suc i)
  unfolding start bytes_of next
  fault_on i (inl h) = inl (omega (arith, h.0), rw (start-next i) at h.1)
  fault_on i (inr h) = inr (ap suc h.0, omega (arith, h.1, length-drop (line_bytes w (width g)) bs))

  fault_back : (i : ℕ) → Fault w (g ∷ ls) bs (suc i) → Fault w ls next i
  unfolding start bytes_of next
  fault_back i (inl h) = inl (omega (arith, h.0), rw (start-next i) h.1)
  fault_back i (inr h) = inr (omega (arith, h.0), omega (arith, h.1, length-drop (line_bytes w (width g)) bs))

by_number : (w : ℕ) (ls : List Group) (bs : List ℕ) (i : ℕ) → FailsAt w ls bs i → GoodTo w ls bs i × Fault w ls bs i
unfolding start bytes_of next
by_number w [] bs zero h = (λ k l. absurd (omega arith), inr (refl, h))
by_number w [] bs (suc i) h = absurd h
by_number w (g ∷ ls) bs zero h = (λ k l. absurd (omega arith), inl (omega arith, h))
by_number w (g ∷ ls) bs (suc i) h =
    let n = by_number w ls (next w g ls bs) i h.1 in
    (good_on w g ls bs i h.0 n.0, fault_on w g ls bs i n.1)

from_front : (w : ℕ) (ls : List Group) (bs : List ℕ) (i : ℕ) → GoodTo w ls bs i → Fault w ls bs i → FailsAt w ls bs i
unfolding start bytes_of next
from_front w [] bs zero a (inl h) = absurd (omega (arith, h.0))
from_front w [] bs zero a (inr h) = h.1
from_front w [] bs (suc i) a (inl h) = absurd (omega (arith, h.0))
from_front w [] bs (suc i) a (inr h) = absurd (omega (arith, h.0))
from_front w (g ∷ ls) bs zero a (inl h) = h.1
from_front w (g ∷ ls) bs zero a (inr h) = absurd (omega (arith, h.0))
from_front w (g ∷ ls) bs (suc i) a b =
    (a 0 (omega arith), from_front w ls (next w g ls bs) i (good_back w g ls bs i a) (fault_back w g ls bs i b))

-- ---- the theorem on form

-- the header's numbers, where it can be read
unfoldable header_of : ℕ → Layout → List ℕ → List ℤ
header_of w f bs = elim (read_line w (width f.header) bs) [ none ↦ [] | some h ↦ h ]

header_is : (w : ℕ) (f : Layout) (bs : List ℕ) (h : List ℤ) → read_line w (width f.header) bs ≡ some h
    → header_of w f bs ≡ h
unfolding header_of
header_is w f bs h o = rw (o, header_of)

group_at_lem : (f : Layout) (h : List ℤ) (k : ℕ) → k < line_count (groups f h)
    → group_at f h k ≡ group (file_lines f h) k
group_at_lem f h k l = group_by_number (groups f h) k l

start-at : (w : ℕ) (f : Layout) (h : List ℤ) (k : ℕ) → line_start w f h k ≡ start w (file_lines f h) k
unfolding line_start start
start-at w f h k = rw (widths_of (groups f h))

-- `FormFails`, with the lines as a list
module _ (w : ℕ) (f : Layout) (h : List ℤ) (bs : List ℕ) (j : ℕ) where
  abbrev AtFault : Type 0
  AtFault = ((j < line_count (groups f h)) × IllFormed w (group_at f h j) (drop (line_start w f h j) bs))
      ⊎ ((j ≡ line_count (groups f h)) × (line_start w f h j < length bs))

  in_file : AtFault → j ≤ line_count (groups f h)
  in_file (inl d) = omega (arith, d.0)
  in_file (inr d) = omega (arith, d.0)

  fault_by_layout : Fault w (file_lines f h) bs j → AtFault
  fault_by_layout (inl d) = let m : j < line_count (groups f h) =
      omega (arith, d.0, lines_length (groups f h)) in inl (m, rw (group_at_lem f h j m, start-at w f h j) d.1)
  fault_by_layout (inr d) = inr (d.0 ∙ lines_length (groups f h), rw (start-at w f h j) d.1)

  fault_by_list : AtFault → Fault w (file_lines f h) bs j
  fault_by_list (inl d) =
      inl (omega (arith, d.0, lines_length (groups f h)), rw (group_at_lem f h j d.0, start-at w f h j) at d.1)
  fault_by_list (inr d) = inr (d.0 ∙ sym (lines_length (groups f h)), rw (start-at w f h j) at d.1)

  good_by_layout : j ≤ line_count (groups f h) → GoodTo w (file_lines f h) bs j → (i : ℕ) → i < j
      → GoodLine w (group_at f h i) (drop (line_start w f h i) bs)
  good_by_layout m a i l = rw (group_at_lem f h i (omega arith), start-at w f h i) (a i l)

  good_by_list : j ≤ line_count (groups f h)
      → ((i : ℕ) → i < j → GoodLine w (group_at f h i) (drop (line_start w f h i) bs)) → GoodTo w (file_lines f h) bs j
  good_by_list m a i l = rw (group_at_lem f h i (omega arith), start-at w f h i) at (a i l)

form_fails : (w : ℕ) (f : Layout) → Regular f → (bs : List ℕ) (j : ℕ)
    → lines_check f (numbers_of w f bs) ≡ Refused f.form_number (Line (suc j)) → FormFails w f bs j
unfolding start bytes_of
form_fails w f r bs j e =
    let h = header_of w f bs in
    let ls = file_lines f h in
    let o = file_in_order w f r bs h (λ k o. ap f.body (header_is w f bs k o)) in
    let (i, s, x) = fails w f r ls (columns_of (groups f h) (r.some_columns h)) bs 0 j (sym o ∙ e) in
    let k : i ≡ j = omega arith in
    let (a, b) = by_number w ls bs j (rw k at x) in
    let c = fault_by_layout w f h bs j b in
    let first : 0 < j → GoodLine w f.header bs = λ l. rw (lines_header f h r) at (a 0 l) in
    record {
      header = h;
      is_header = λ l. rw (header_is w f bs (first l).numbers (good_read w f.header bs (first l)))
          (first l).well_formed;
      before = good_by_layout w f h bs j (in_file w f h bs j c) a;
      here = c;
    }

-- where line 0 is at fault no header is read, and else it is the one that is given
header_given : (w : ℕ) (f : Layout) → Regular f → (bs : List ℕ) (h : List ℤ) (j : ℕ)
    → (0 < j → read_line w (width f.header) bs ≡ some h) → FailsAt w (file_lines f h) bs j → (k : List ℤ)
    → read_line w (width f.header) bs ≡ some k → h ≡ k
header_given w f r bs h zero g x k o =
    let l = (line_means w (width f.header) bs k).0 o in
    let ill : IllFormed w f.header bs = rw (lines_header f h r) at x in
    absurd (ill k l)
header_given w f r bs h (suc j) g x k o = cc (g (omega arith))

form_failed : (w : ℕ) (f : Layout) → Regular f → (bs : List ℕ) (j : ℕ) → FormFails w f bs j
    → lines_check f (numbers_of w f bs) ≡ Refused f.form_number (Line (suc j))
form_failed w f r bs j x =
    let h = x.header in
    let a = good_by_list w f h bs j (in_file w f h bs j x.here) x.before in
    let b = fault_by_list w f h bs j x.here in
    let y = from_front w (file_lines f h) bs j a b in
    let g : 0 < j → read_line w (width f.header) bs ≡ some h =
    λ l. (line_means w (width f.header) bs h).1 (x.is_header l) in
    file_in_order w f r bs h (λ k o. ap f.body (header_given w f r bs h j g y k o))
    ∙ failed w f (file_lines f h) (columns_of (groups f h) (r.some_columns h)) bs 0 j y
    ∙ ap (λ i. Refused f.form_number (Line (suc i))) (omega arith)

-- a file is refused for its form at line j exactly when lines 0 to j - 1 are well formed and pass their own checks, and
-- line j isn't well formed, or all lines are there and bytes follow the last
pub form_refused : (w : ℕ) (f : Layout) → Regular f → (bs : List ℕ) (j : ℕ)
    → (lines_check f (numbers_of w f bs) ≡ Refused f.form_number (Line (suc j))) ↔ FormFails w f bs j
form_refused w f r bs j = (form_fails w f r bs j, form_failed w f r bs j)
