-- Laws of a group of lines whose columns all have one limit: its numbers are looked at in one go, and the first that
-- is outside tells the line.
use mathlib.Core.Path.{◌≡◌, refl, sym, ◌∙◌, ap}
use mathlib.Core.Bool.{Bool, true, false, ◌&&◌}
use mathlib.Core.List.{List, [], ◌∷◌}
use Prim.Native.Nat.{ℕ, zero, suc, ◌+◌, ◌*◌, ◌/◌, ◌%◌, ◌<◌, ◌≤◌, min}
use native.Mathlib.Nat.{suc-mul, mul-le-mul_right, mod-lt, div-add-mod', le-div_iff_mul-le, div-lt_iff_lt-mul}
use native.Mathlib.Nat.{lt-div-mul-add}
use native.Mathlib.Omega.{arith}
use lib.IntN.{ℤ, pos}
use lib.Dec.{eqb}
use lib.ListN.{length, get_or, take, drop, replicate, length-take, length-drop, length-replicate}
use lib.Seq.{get_or-take, get_or-drop}
use mir.Syntax.{w64}
use mir.Val.{SFits}
use borrow.Author.Tests.{eq-eqb, ne_eqb}
use Rattle.scope.specs.declared.Place.TheVariants.{Line}
use Rattle.scope.specs.Cases.Outcome.{Passed, Refused}
use Rattle.scope.specs.Checks.{demand, ◌then◌}
use Rattle.scope.specs.Columns.{Limit, between, within, all_within, at}
use Rattle.scope.specs.Layout.{Layout}
use Rattle.scope.specs.Verdict.{line_check, rules_hold}
use Rattle.lines.specs.Table.{even_lines}
use Rattle.lines.specs.LineContracts.{line_step, group_check}
use Rattle.lines.specs.SearchContracts.{first_failing}
use Rattle.scope.proofs.Checks.{demand_then, all_lowest, first_refused}
use Rattle.lines.proofs.LineLaws.{read, read_limit}
use Rattle.lines.proofs.Loops.{found_within, holds_before, fails_there}

-- ---- the numbers of one line

all_inside : (w : ℕ) (a : Limit) (s : List ℤ) → ((j : ℕ) → j < w → within a (get_or s j (pos 0)) ≡ true)
    → all_within (replicate w a) s ≡ true
unfolding all_within
all_inside zero a s h = refl
all_inside (suc w) a [] h = refl
all_inside (suc w) a (z ∷ s) h = rw (h 0 (omega arith)) (all_inside w a s (λ j l. h (suc j) (omega arith)))

one_outside : (w : ℕ) (a : Limit) (s : List ℤ) (j : ℕ) → j < w → j < length s → within a (get_or s j (pos 0)) ≡ false
    → all_within (replicate w a) s ≡ false
unfolding all_within
one_outside zero a s j h l e = absurd (omega arith)
one_outside (suc w) a [] j h l e = absurd (omega arith)
one_outside (suc w) a (z ∷ s) zero h l e = rw e
one_outside (suc w) a (z ∷ s) (suc j) h l e = by (within a z) (one_outside w a s j (omega arith) (omega arith) e)
  where
    by : (b : Bool) → all_within (replicate w a) s ≡ false → b && all_within (replicate w a) s ≡ false
    by true r = r
    by false r = refl

-- ---- the group

-- its line k: form, then limits
even_line : (f : Layout) (n w : ℕ) (a : Limit) (s : List ℤ) (line k : ℕ)
    → line_step f (even_lines n w a) s line k
    ≡ demand (eqb (length (take w (drop (k * w) s))) w) f.form_number (Line (line + k))
    then demand (all_within (replicate w a) (take w (drop (k * w) s))) f.limit_number (Line (line + k))
unfolding line_check rules_hold even_lines
even_line f n w a s line k =
    let numbers = take w (drop (k * w) s) in
    let place = Line (line + k) in
    rw (length-replicate w a)
    (sym (demand_then (eqb (length numbers) w) f.form_number place
    (demand (all_within (replicate w a) numbers) f.limit_number place)))

-- the whole lines of a list, at most n, and how many of their numbers are within the limit before the first that is not
pub record EvenRun (s : List ℤ) (n w : ℕ) (a : Limit) (whole run : ℕ) : Type 0 where
  pub some_column : 0 < w
  pub whole_is : whole ≡ min (length s / w) n
  pub most : run ≤ whole * w
  pub inside : (i : ℕ) → i < run → within a (get_or s i (pos 0)) ≡ true
  pub outside : run < whole * w → within a (get_or s run (pos 0)) ≡ false

pub whole_there : (s : List ℤ) (n w whole : ℕ) → 0 < w → whole ≡ min (length s / w) n → whole * w ≤ length s
whole_there s n w whole p e = (le-div_iff_mul-le p).0 (omega arith)

module _ {s : List ℤ} {n w : ℕ} {a : Limit} {whole run : ℕ} (h : EvenRun s n w a whole run) (f : Layout)
    (line : ℕ) where
  -- line j ends before line i begins
  lines_apart : (i j : ℕ) → j < i → j * w + w ≤ i * w
  lines_apart i j l = omega (arith, suc-mul j w, mul-le-mul_right w l)

  lines_there : whole * w ≤ length s
  lines_there = whole_there s n w whole h.some_column h.whole_is

  whole_line : (k : ℕ) → k < whole → eqb (length (take w (drop (k * w) s))) w ≡ true
  whole_line k l = eq-eqb (length (take w (drop (k * w) s))) w
      (omega (arith, length-take w (drop (k * w) s), length-drop (k * w) s, lines_apart whole k l, lines_there))

  number_at : (k j : ℕ) → j < w → within a (get_or (take w (drop (k * w) s)) j (pos 0))
      ≡ within a (get_or s (k * w + j) (pos 0))
  number_at k j l = ap (within a) (get_or-take w (drop (k * w) s) j (pos 0) l ∙ get_or-drop (k * w) s j (pos 0))

  passes : (k : ℕ) → k < whole → k * w + w ≤ run → line_step f (even_lines n w a) s line k ≡ Passed
  passes k l r =
      even_line f n w a s line k
      ∙ rw (
        whole_line k l,
        all_inside w a (take w (drop (k * w) s))
            (λ j i. number_at k j i ∙ h.inside (k * w + j) (omega arith)),
      )

  -- the number after the run is in line run / w
  pub even_outside : run < whole * w → Refused f.limit_number (Line (line + run / w))
      ≡ group_check f (even_lines n w a) s line
  unfolding group_check even_lines
  even_outside l =
      let i : ℕ = run / w in
      let few : i < whole = (div-lt_iff_lt-mul h.some_column).1 l in
      let column : i * w + run % w ≡ run = div-add-mod' run w in
      let small : run % w < w = mod-lt run h.some_column in
      let there : run % w < length (take w (drop (i * w) s)) =
      omega (arith, length-take w (drop (i * w) s), length-drop (i * w) s, lines_apart whole i few, lines_there) in
      let outside : within a (get_or (take w (drop (i * w) s)) (run % w) (pos 0)) ≡ false =
      number_at i (run % w) small ∙ ap (λ (j : ℕ). within a (get_or s j (pos 0))) column ∙ h.outside l in
      sym
      (first_refused (line_step f (even_lines n w a) s line) n f.limit_number (Line (line + i)) i (
        omega (arith, h.whole_is),
        λ j b. passes j (omega arith) (omega (arith, lines_apart i j b)),
        even_line f n w a s line i
            ∙ rw (whole_line i few, one_outside w a (take w (drop (i * w) s)) (run % w) small there outside),
      ))

  pub even_short : whole * w ≤ run → whole < n → Refused f.form_number (Line (line + whole))
      ≡ group_check f (even_lines n w a) s line
  unfolding group_check even_lines
  even_short l b =
      let all : whole ≡ length s / w = omega (arith, h.whole_is) in
      let few : length s < whole * w + w =
      omega (arith, lt-div-mul-add {a = length s} h.some_column, ap (λ (k : ℕ). k * w) all) in
      sym
      (first_refused (line_step f (even_lines n w a) s line) n f.form_number (Line (line + whole)) whole (
        b,
        λ j d. passes j d (omega (arith, lines_apart whole j d)),
        even_line f n w a s line whole
            ∙ rw (ne_eqb (length (take w (drop (whole * w) s))) w
            (λ e. omega (arith, e, length-take w (drop (whole * w) s), length-drop (whole * w) s, h.some_column))),
      ))

  pub even_passed : whole * w ≤ run → n ≤ whole → Passed ≡ group_check f (even_lines n w a) s line
  unfolding group_check even_lines
  even_passed l b =
      sym (all_lowest (line_step f (even_lines n w a) s line) n
      (λ k d. passes k (omega arith) (omega (arith, lines_apart whole k (omega arith)))))

-- number k is within the limits as the machine reads them
abbrev pub inside : ℤ → ℤ → List ℤ → ℕ → Bool
inside lo hi s k = within (between (read lo) (read hi)) (at s k)

module _ (s : List ℤ) (n w whole : ℕ) {lo hi : ℤ} (f : SFits w64 lo) (g : SFits w64 hi) (p : 0 < w)
    (e : whole ≡ min (length s / w) n) where
  as_read : (k : ℕ) {b : Bool} → inside lo hi s k ≡ b → within (between lo hi) (get_or s k (pos 0)) ≡ b
  unfolding at
  as_read k d = sym (ap (λ (l : Limit). within l (get_or s k (pos 0))) (read_limit f g)) ∙ d

  pub first_found : {run : ℕ} → run ≡ first_failing (inside lo hi s) (whole * w)
      → EvenRun s n w (between lo hi) whole run
  first_found {run} r = record {
    some_column = p;
    whole_is = e;
    most = found_within (inside lo hi s) (whole * w) r;
    inside = λ i l. as_read i (holds_before (inside lo hi s) (whole * w) r i l);
    outside = λ l. as_read run (fails_there (inside lo hi s) (whole * w) r l);
  }
