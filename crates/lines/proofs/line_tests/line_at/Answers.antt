-- `line_at` meets its contract: a line whose end is past the last number is too short, and any other is checked by
-- itself.
use mathlib.Core.Path.{◌≡◌, ◌∙◌, ap, ap₂}
use mathlib.Core.Bool.{false}
use mathlib.Core.List.{List}
use Prim.Native.Nat.{ℕ, ◌+◌, ◌*◌, ◌-◌, ◌<◌}
use native.Mathlib.Omega.{arith}
use lib.IntN.{ℤ}
use lib.Dec.{leb}
use lib.ListN.{length, take, drop, length-take, length-drop}
use Rattle.scope.specs.declared.Place.TheVariants.{Line}
use Rattle.scope.specs.Layout.{width}
use Rattle.scope.specs.Verdict.{line_check}
use Rattle.scope.proofs.Answered.{first_refuses, second_decides}
use Rattle.lines.specs.LineContracts.{file_numbers}
use Rattle.lines.specs.Table.{ruled_lines}
use Rattle.lines.proofs.LineLaws.{line_there, past_end, width_is}
use Rattle.lines.proofs.line_tests.line_at.Goals as goal

-- the numbers of line k, w columns wide
part : (s : List ℤ) (k : ℕ) {w v : ℕ} → w ≡ v → take (k * w + w - k * w) (drop (k * w) s) ≡ take v (drop (k * v) s)
part s k e = ap₂ (λ (a b : ℕ). take a (drop b s)) (omega arith) (ap (λ (w : ℕ). k * w) e)

-- it ends past the last number
short : (s : List ℤ) (k : ℕ) {w v : ℕ} → 0 < w → w ≡ v → leb (k * w + w) (length s) ≡ false
    → length (drop (k * v) s) < v
short s k {w} {v} some e h =
    let past = past_end _ _ h in
    let same : k * w ≡ k * v = ap (λ (w : ℕ). k * w) e in
    omega (arith, length-drop (k * v) s)

pub returns-in_err-demand : goal.returns-in_err-demand
unfolding file_numbers
returns-in_err-demand c =
    let a = c.args in
    let g = ruled_lines a.rule a.sizes 0 in
    let rest = drop (a.k * width g) a.s.now in
    let p = Line (a.line + a.k) in
    first_refuses c.from_residual.result c.in_err-demand.field-0.0
    (line_check (file_numbers a.file) g (take (width g) rest) p)
    c.from_residual.ensures.1 c.in_err-demand.ensures
    (line_there (file_numbers a.file) g rest p _ (short a.s.now a.k c.requires.few.some_column c.requires.wide))

pub invariant_of-check : goal.invariant_of-check
invariant_of-check c =
    let a = c.args in
    let w = c.requires.wide ∙ width_is a.rule a.sizes 0 in
    record { whole = omega (arith, length-take {A = ℤ}, length-drop {A = ℤ}) }

pub returns : goal.returns
unfolding file_numbers
returns c =
    let a = c.args in
    let g = ruled_lines a.rule a.sizes 0 in
    let rest = drop (a.k * width g) a.s.now in
    let p = Line (a.line + a.k) in
    second_decides c.in_ok-demand.ensures
    (line_there (file_numbers a.file) g rest p _ (short a.s.now a.k c.requires.few.some_column c.requires.wide))
    (c.check.ensures
    ∙ ap (λ (s : List ℤ). line_check (file_numbers a.file) g s p) (part a.s.now a.k c.requires.wide))
