-- Laws of a file's layout: line i of group j stands where the groups before it end, by induction on the groups.
use mathlib.Core.Path.{◌≡◌, ◌∙◌, ap, subst}
use mathlib.Core.List.{List, [], ◌∷◌}
use Prim.Native.Nat.{ℕ, zero, suc, ◌+◌, ◌*◌, ◌-◌, ◌<◌, ◌≤◌}
use native.Mathlib.Nat.{add_assoc, add-zero, zero-add}
use native.Mathlib.Omega.{arith}
use lib.IntN.{ℤ}
use lib.ListN.{length, get_or, take, drop, length-take, length-drop}
use lib.Seq.{get_or-take, get_or-drop}
use borrow.Author.Tests.{lt-ltb, le-ltb}
use Rattle.scope.specs.Columns.{Limit, free, at}
use Rattle.scope.specs.Layout.{Group, Layout, Placed, width, groups, line_count, lines_before, numbers_before}
use Rattle.scope.specs.Layout.{line_of, line_numbers, entry}
use Rattle.scope.specs.Statements.{Within, AllWithin, AllSay, Complete, InLimits, LineSound, LinesSound}

-- no group at all
abbrev pub no_group : Group
no_group = record { lines = 0; limits = []; rules = [] }

-- group j
abbrev pub group : List Group → ℕ → Group
group gs j = get_or gs j no_group

pub line_here : (g : Group) (gs : List Group) (from k : ℕ) → k < g.lines
    → line_of from (g ∷ gs) k ≡ record { group = g; first = from + k * width g }
unfolding line_of
line_here g gs from k h = rw (lt-ltb k g.lines h, line_of)

pub line_after : (g : Group) (gs : List Group) (from k : ℕ) → g.lines ≤ k
    → line_of from (g ∷ gs) k ≡ line_of (from + g.lines * width g) gs (k - g.lines)
unfolding line_of
line_after g gs from k h = rw (le-ltb k g.lines h, line_of)

pub line_in_group : (gs : List Group) (from j i : ℕ) → i < (group gs j).lines
    → line_of from gs (lines_before gs j + i)
    ≡ record { group = group gs j; first = from + numbers_before gs j + i * width (group gs j) }
unfolding lines_before numbers_before
line_in_group [] from j i h = absurd (omega arith)
line_in_group (g ∷ gs) from zero i h = rw (zero-add, add-zero) (line_here g gs from i h)
line_in_group (g ∷ gs) from (suc j) i h =
    line_after g gs from (g.lines + lines_before gs j + i) (omega arith)
    ∙ ap (line_of (from + g.lines * width g) gs) less
    ∙ line_in_group gs (from + g.lines * width g) j i h
    ∙ ap (λ (k : ℕ). record { group = group gs j; first = k + i * width (group gs j) })
    (add_assoc from (g.lines * width g) (numbers_before gs j))
  where
    less : g.lines + lines_before gs j + i - g.lines ≡ lines_before gs j + i
    less = omega arith

pub line_below : (gs : List Group) (j i : ℕ) → i < (group gs j).lines → lines_before gs j + i < line_count gs
unfolding lines_before line_count
line_below [] j i h = absurd (omega arith)
line_below (g ∷ gs) zero i h = omega arith
line_below (g ∷ gs) (suc j) i h = omega (arith, line_below gs j i h)

-- the numbers of line i of group j
abbrev pub line_in : List Group → List ℤ → ℕ → ℕ → List ℤ
line_in gs ns j i = take (width (group gs j)) (drop (numbers_before gs j + i * width (group gs j)) ns)

pub at_line_in : (gs : List Group) (ns : List ℤ) (j i c : ℕ) → c < width (group gs j)
    → at (line_in gs ns j i) c ≡ entry gs ns j i c
unfolding at entry
at_line_in gs ns j i c h = rw (get_or-take, get_or-drop)

-- each number of a line is within its own limit
pub within-at : (limits : List Limit) (zs : List ℤ) (c : ℕ) → length zs ≡ length limits → c < length limits
    → AllWithin limits zs → Within (get_or limits c free) (at zs c)
unfolding at
within-at [] zs c e h w = absurd (omega arith)
within-at (a ∷ limits) [] c e h w = absurd (omega arith)
within-at (a ∷ limits) (z ∷ zs) zero e h w = w.0
within-at (a ∷ limits) (z ∷ zs) (suc c) e h w = within-at limits zs c (omega arith) (omega arith) w.1

-- each number of a line that is there whole, within its limits, is within its own
pub line_within : (f : Layout) (ns : List ℤ) (j i : ℕ) → i < (group (groups f ns) j).lines
    → Complete f ns (lines_before (groups f ns) j + i) → InLimits f ns (lines_before (groups f ns) j + i) → (c : ℕ)
    → c < width (group (groups f ns) j) → Within (get_or (group (groups f ns) j).limits c free)
    (entry (groups f ns) ns j i c)
unfolding line_numbers
line_within f ns j i h whole within c l =
    let gs : List Group = groups f ns in
    let e : line_of 0 gs (lines_before gs j + i)
    ≡ record { group = group gs j; first = numbers_before gs j + i * width (group gs j) } =
    line_in_group gs 0 j i h ∙ ap (λ (a : ℕ). record { group = group gs j; first = a + i * width (group gs j) })
    (zero-add (numbers_before gs j)) in
    let g : (length (line_in gs ns j i) ≡ width (group gs j)) × AllWithin (group gs j).limits (line_in gs ns j i) =
    subst (λ (l : Placed). (length (line_numbers ns l) ≡ width l.group) × AllWithin l.group.limits (line_numbers ns l))
    e (whole, within) in
    subst (λ (z : ℤ). Within (get_or (group gs j).limits c free) z) (at_line_in gs ns j i c l)
    (within-at (group gs j).limits (line_in gs ns j i) c g.0 l g.1)

-- what a sound line says of its numbers in the file
pub record LineFacts (gs : List Group) (ns : List ℤ) (j i : ℕ) : Type 0 where
  pub there : numbers_before gs j + i * width (group gs j) + width (group gs j) ≤ length ns
  pub within : (c : ℕ) → c < width (group gs j) → Within (get_or (group gs j).limits c free) (entry gs ns j i c)
  pub rules : AllSay (group gs j).rules (line_in gs ns j i)

-- a placed line is sound
abbrev PlacedSound : List ℤ → Placed → Type 0
PlacedSound ns l = (length (line_numbers ns l) ≡ width l.group) × AllWithin l.group.limits (line_numbers ns l)
    × AllSay l.group.rules (line_numbers ns l)

pub line_facts_of : (f : Layout) (ns : List ℤ) (j i : ℕ) → LineSound f ns (lines_before (groups f ns) j + i)
    → i < (group (groups f ns) j).lines → 0 < width (group (groups f ns) j) → LineFacts (groups f ns) ns j i
unfolding line_numbers
line_facts_of f ns j i k h w =
    let gs : List Group = groups f ns in
    let e : line_of 0 gs (lines_before gs j + i)
    ≡ record { group = group gs j; first = numbers_before gs j + i * width (group gs j) } =
    line_in_group gs 0 j i h ∙ ap (λ (a : ℕ). record { group = group gs j; first = a + i * width (group gs j) })
    (zero-add (numbers_before gs j)) in
    let g : PlacedSound ns (record { group = group gs j; first = numbers_before gs j + i * width (group gs j) }) =
    subst (λ (l : Placed). PlacedSound ns l) e (k.complete, k.in_limits, k.rules_hold) in
    record {
      there = there (numbers_before gs j + i * width (group gs j)) (width (group gs j)) g.0 w;
      within = λ c l. subst (λ (z : ℤ). Within (get_or (group gs j).limits c free) z) (at_line_in gs ns j i c l)
          (within-at (group gs j).limits (line_in gs ns j i) c g.0 l g.1);
      rules = g.2;
    }
  where
    there : (a b : ℕ) → length (take b (drop a ns)) ≡ b → 0 < b → a + b ≤ length ns
    there a b e p = omega (arith, simp (length-take, length-drop) at e)

pub line_facts : (f : Layout) (ns : List ℤ) → LinesSound f ns → (j i : ℕ) → i < (group (groups f ns) j).lines
    → 0 < width (group (groups f ns) j) → LineFacts (groups f ns) ns j i
line_facts f ns s j i h w =
    line_facts_of f ns j i (s.lines (lines_before (groups f ns) j + i) (line_below (groups f ns) j i h)) h w
