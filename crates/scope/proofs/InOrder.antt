-- The checks of a file's lines, one line after the other: what `line_of` finds by the line's number is what is met on
-- the way from the front.
use mathlib.Core.Path.{◌≡◌, refl, sym, ap, ap₂, ◌∙◌}
use mathlib.Core.Logic.{◌⊎◌, inl, inr}
use mathlib.Core.List.{List, [], ◌∷◌, ◌++◌}
use Prim.Native.Nat.{ℕ, zero, suc, ◌+◌, ◌*◌, ◌-◌, ◌≤◌, ◌<◌}
use native.Mathlib.Nat.{zero-add, suc-add}
use native.Mathlib.Omega.{arith}
use lib.Dec.{leb, ltb}
use lib.IntN.{ℤ}
use lib.ListN.{length, take, drop, replicate, length-append, length-take, length-drop, length-replicate}
use lib.Seq.{drop-drop, take_at, drop_at}
use borrow.Author.Tests.{ne_eqb, leb-true, ltb-true, ltb-false, le-leb}
use borrow.Table.Steps.{cases}
use Rattle.scope.specs.declared.Place.{Place}
use Rattle.scope.specs.declared.Place.TheVariants.{Line}
use Rattle.scope.specs.Cases.Outcome.{Outcome}
use Rattle.scope.specs.Cases.Outcome.{Refused}
use Rattle.scope.specs.Checks.{demand, ◌then◌, lowest}
use Rattle.scope.specs.Layout.{Group, Layout, width, groups, line_count, number_count, line_of, line_numbers}
use Rattle.scope.specs.Columns.{Rule}
use Rattle.scope.specs.Phases.{FirstFails}
use Rattle.scope.specs.Refusals.{rule_number, line_steps}
use Rattle.scope.proofs.Refusals.{lines_checked, line_exact, rule_number_lem}
use Rattle.scope.proofs.Lines.{group}
use Rattle.scope.proofs.Checks.{then_assoc, then_Passed, lowest_cong}
use Rattle.scope.specs.Verdict.{line_check, line_at, lines_check}

-- the group of each line
unfoldable pub lines_of : List Group → List Group
lines_of [] = []
lines_of (g ∷ gs) = replicate g.lines g ++ lines_of gs

-- the checks of lines of these groups on these numbers; the first line has the number j, counted from 0
unfoldable pub check_from : Layout → List Group → List ℤ → ℕ → Outcome
check_from f [] ns j = demand (leb (length ns) 0) f.form_number (Line (suc j))
check_from f (g ∷ ls) ns j = line_check f g (take (width g) ns) (Line (suc j))
    then check_from f ls (drop (width g) ns) (suc j)

-- the numbers before line k
unfoldable numbers_to : List Group → ℕ → ℕ
numbers_to [] k = 0
numbers_to (g ∷ ls) zero = 0
numbers_to (g ∷ ls) (suc k) = width g + numbers_to ls k

lowest_first : (f : ℕ → Outcome) (n : ℕ) → lowest f (suc n) ≡ f 0 then lowest (λ k. f (suc k)) n
unfolding lowest
lowest_first f zero = sym (then_Passed (f 0))
lowest_first f (suc n) = rw (lowest_first f n) (then_assoc (f 0) (lowest (λ k. f (suc k)) n) (f (suc n)))

pub same_test : (a b c d : ℕ) → (a ≤ b → c ≤ d) → (c ≤ d → a ≤ b) → leb a b ≡ leb c d
same_test a b c d h i =
    cases (leb a b)
    (λ t. t ∙ sym (le-leb c d (h (leb-true a b t))))
    (λ t. cases (leb c d) (λ u. le-leb a b (i (leb-true c d u)) ∙ sym u) (λ u. t ∙ sym u))

-- line k of some lines, found by its number
abbrev line_by : Layout → List Group → List ℤ → ℕ → ℕ → Outcome
line_by f ls ns j k = line_check f (group ls k) (take (width (group ls k)) (drop (numbers_to ls k) ns))
    (Line (suc (j + k)))

-- at most k of n numbers belong to the lines before line j
abbrev all_taken : Layout → ℕ → ℕ → ℕ → Outcome
all_taken f n k j = demand (leb n k) f.form_number (Line (suc j))

-- from the front, or by number
in_order : (f : Layout) (ls : List Group) (ns : List ℤ) (j : ℕ)
    → lowest (line_by f ls ns j) (length ls) then all_taken f (length ns) (numbers_to ls (length ls)) (j + length ls)
    ≡ check_from f ls ns j
unfolding check_from numbers_to lowest
in_order f [] ns j = ap (all_taken f (length ns) 0) (omega arith)
in_order f (g ∷ ls) ns j =
    let n = length ls in
    let rest = drop (width g) ns in
    let next : ℕ → Outcome = λ k. line_by f (g ∷ ls) ns j (suc k) in
    let end : Outcome = all_taken f (length ns) (width g + numbers_to ls n) (j + suc n) in
    let first : line_by f (g ∷ ls) ns j 0 ≡ line_check f g (take (width g) ns) (Line (suc j)) =
    ap (λ x. line_check f g (take (width g) ns) (Line (suc x))) (omega arith) in
    let shift : (k : ℕ) → j + suc k ≡ suc j + k = λ k. omega arith in
    let others : (k : ℕ) → k < n → next k ≡ line_by f ls rest (suc j) k = λ k h.
    rw (shift k, drop-drop (numbers_to ls k) (width g) ns) in
    let taken : end ≡ all_taken f (length rest) (numbers_to ls n) (suc j + n) =
    ap₂ (λ t x. demand t f.form_number (Line (suc x)))
    (same_test (length ns) (width g + numbers_to ls n) (length rest) (numbers_to ls n)
    (λ h. rw length-drop (omega arith)) (λ h. omega (arith, length-drop (width g) ns)))
    (shift n) in
    ap (λ x. x then end) (lowest_first (line_by f (g ∷ ls) ns j) n)
    ∙ then_assoc (line_by f (g ∷ ls) ns j 0) (lowest next n) end
    ∙ ap₂ ◌then◌ first (ap₂ ◌then◌ (lowest_cong next (line_by f ls rest (suc j)) n others) taken
    ∙ in_order f ls rest (suc j))

-- ---- a line found by its number

pub lines_length : (gs : List Group) → length (lines_of gs) ≡ line_count gs
unfolding lines_of line_count
lines_length [] = refl
lines_length (g ∷ gs) = rw (length-append, length-replicate, lines_length gs)

-- a lines of one group, and other lines after them
group_within : (a : ℕ) (g : Group) (ls : List Group) (k : ℕ) → k < a → group (replicate a g ++ ls) k ≡ g
group_within (suc a) g ls zero h = refl
group_within (suc a) g ls (suc k) h = group_within a g ls k (omega arith)
group_within zero g ls k h = absurd (omega arith)

group_after : (a : ℕ) (g : Group) (ls : List Group) (k : ℕ) → group (replicate a g ++ ls) (a + k) ≡ group ls k
group_after zero g ls k = rw (zero-add k)
group_after (suc a) g ls k = rw (suc-add a k) (group_after a g ls k)

numbers_to_within : (a : ℕ) (g : Group) (ls : List Group) (k : ℕ) → k < a
    → numbers_to (replicate a g ++ ls) k ≡ k * width g
unfolding numbers_to
numbers_to_within (suc a) g ls zero h = omega arith
numbers_to_within (suc a) g ls (suc k) h = omega (arith, numbers_to_within a g ls k (omega arith))
numbers_to_within zero g ls k h = absurd (omega arith)

numbers_to_after : (a : ℕ) (g : Group) (ls : List Group) (k : ℕ)
    → numbers_to (replicate a g ++ ls) (a + k) ≡ a * width g + numbers_to ls k
unfolding numbers_to
numbers_to_after zero g ls k = rw (zero-add k) (omega arith)
numbers_to_after (suc a) g ls k = rw (suc-add a k) (omega (arith, numbers_to_after a g ls k))

numbers_to_all : (gs : List Group) → numbers_to (lines_of gs) (line_count gs) ≡ number_count gs
unfolding numbers_to lines_of line_count number_count
numbers_to_all [] = refl
numbers_to_all (g ∷ gs) = numbers_to_after g.lines g (lines_of gs) (line_count gs)
    ∙ ap (λ x. g.lines * width g + x) (numbers_to_all gs)

line_by_number : (from : ℕ) (gs : List Group) (k : ℕ) → k < line_count gs
    → ((line_of from gs k).group ≡ group (lines_of gs) k)
    × ((line_of from gs k).first ≡ from + numbers_to (lines_of gs) k)
unfolding line_of line_count lines_of
line_by_number from [] k h = absurd (omega arith)
line_by_number from (g ∷ gs) k h =
    cases (ltb k g.lines)
    (λ t.
    let l = ltb-true k g.lines t in
    rw (t, line_of) (
      sym (group_within g.lines g (lines_of gs) k l),
      ap (λ x. from + x) (sym (numbers_to_within g.lines g (lines_of gs) k l)),
    ))
    (λ t.
    let a = g.lines in
    let l = ltb-false k g.lines t in
    let d = k - a in
    let e : k ≡ a + d = omega arith in
    let i = line_by_number (from + a * width g) gs d (omega arith) in
    rw (t, line_of) (
      i.0 ∙ sym (group_after a g (lines_of gs) d) ∙ ap (group (replicate a g ++ lines_of gs)) (sym e),
      i.1 ∙ omega (arith, ap (numbers_to (replicate a g ++ lines_of gs)) e, numbers_to_after a g (lines_of gs) d),
    ))

pub group_by_number : (gs : List Group) (k : ℕ) → k < line_count gs → (line_of 0 gs k).group ≡ group (lines_of gs) k
group_by_number gs k h = (line_by_number 0 gs k h).0

-- the line check goes from the front
pub lines_in_order : (f : Layout) (ns : List ℤ) → lines_check f ns ≡ check_from f (lines_of (groups f ns)) ns 0
unfolding line_at line_numbers
lines_in_order f ns =
    let gs = groups f ns in
    let n = line_count gs in
    let same : (k : ℕ) → k < n → line_at f ns k ≡ line_by f (lines_of gs) ns 0 k = λ k h.
    let e = line_by_number 0 gs k h in
    rw (e.0, e.1, zero-add (numbers_to (lines_of gs) k), zero-add k) in
    lines_checked f ns
    ∙ ap (λ x. x then all_taken f (length ns) (number_count gs) n)
    (lowest_cong (line_at f ns) (line_by f (lines_of gs) ns 0) n same)
    ∙ (rw (lines_length gs, numbers_to_all gs, zero-add n) at (in_order f (lines_of gs) ns 0))

-- ---- one line's check

-- where numbers are missing, the refusal is one of form
pub line_check_short : (f : Layout) (g : Group) (line : List ℤ) (p : Place) → length line < width g
    → line_check f g line p ≡ Refused f.form_number p
unfolding line_check
line_check_short f g line p h = rw (ne_eqb (length line) (width g) (λ e. omega arith))

-- where none is missing, it is another
pub line_check_other : (f : Layout) (g : Group) (line : List ℤ) (p q : Place) (c : ℕ) → length line ≡ width g
    → line_check f g line p ≡ Refused c q → (c ≡ f.limit_number) ⊎ ((r : Rule) × (c ≡ rule_number r))
line_check_other f g line p q c h e = from ((line_exact f g line p).refuses.why c q e).0
  where
    from : FirstFails (line_steps f g line) c → (c ≡ f.limit_number) ⊎ ((r : Rule) × (c ≡ rule_number r))
    from (inl x) = absurd (x.0 h)
    from (inr (x, inl y)) = inl (sym y.1)
    from (inr (x, inr (y, z))) = inr (rule_number_lem g.rules line c z)

-- ---- the first of some lines

pub check_line : (f : Layout) (g : Group) (ls : List Group) (zs rest : List ℤ) (j : ℕ) → length zs ≡ width g
    → check_from f (g ∷ ls) (zs ++ rest) j ≡ line_check f g zs (Line (suc j)) then check_from f ls rest (suc j)
unfolding check_from
check_line f g ls zs rest j e = rw (take_at zs rest (width g) e, drop_at zs rest (width g) e)

pub check_short : (f : Layout) (g : Group) (ls : List Group) (ns : List ℤ) (j : ℕ) → length ns < width g
    → check_from f (g ∷ ls) ns j ≡ Refused f.form_number (Line (suc j))
unfolding check_from
check_short f g ls ns j h = rw (line_check_short f g (take (width g) ns) (Line (suc j)) (rw length-take (omega arith)))
