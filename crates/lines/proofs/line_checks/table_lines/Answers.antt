-- `table_lines` meets its contract: the lines of the one group that a table has, and then what is left over.
use mathlib.Core.Path.{◌≡◌, sym, ◌∙◌, ap}
use Prim.Native.Nat.{ℕ, ◌+◌, ◌*◌, ◌<◌, ◌≤◌}
use mathlib.Core.List.{List}
use Prim.Native.Nat.{◌/◌}
use lib.IntN.{ℤ}
use Rattle.std.specs.Prelude.{min}
use Rattle.scope.specs.Cases.Outcome.{Outcome, Passed, Refused}
use Rattle.mesh.specs.declared.sizes.Sizes.{Sizes}
use lib.ListN.{length}
use lib.Dec.{leb}
use Rattle.scope.specs.declared.Place.TheVariants.{Line}
use Rattle.scope.specs.Checks.{demand}
use Rattle.scope.specs.Layers.{layer_columns, most_layers}
use Rattle.scope.specs.Table.{layer_lines, table_lines}
use borrow.Author.Rules.{rules}
use borrow.Author.Tests.{le-leb, lt-leb}
use Rattle.scope.proofs.Answered.{first_refuses, second_decides}
use Rattle.lines.specs.declared.layout.TheConstants.{MESH_FILE}
use Rattle.lines.specs.declared.layout.Rule.TheVariants.{Layer}
use Rattle.lines.specs.LineContracts.{file_numbers, group_check}
use Rattle.lines.specs.Table.{ruled_lines}
use Rattle.lines.proofs.GroupLaws.{table_check}
use Rattle.lines.proofs.line_checks.table_lines.Goals as goal

-- as many lines as the definition has
counted : (t : List ℤ) {n : ℕ} → n ≡ min ((length t + 2) / layer_columns) most_layers → n ≡ table_lines t
unfolding table_lines
counted t e = e

-- what the group says
group : (t : List ℤ) (s : Sizes) {n : ℕ} {o : Outcome}
    → o ≡ group_check (file_numbers MESH_FILE) (ruled_lines Layer s n) t 1001 → n ≡ table_lines t
    → o ≡ group_check (file_numbers MESH_FILE) (ruled_lines Layer s (table_lines t)) t 1001
group t s e n = e ∙ ap (λ (n : ℕ). group_check (file_numbers MESH_FILE) (ruled_lines Layer s n) t 1001) n

-- numbers after the last line, or none
left_over : (t : List ℤ) {n : ℕ} → n ≡ table_lines t → n * layer_columns < length t
    → Refused 1 (Line (1001 + n)) ≡ demand (leb (length t) (table_lines t * layer_columns)) 1
    (Line (1001 + table_lines t))
left_over t e l = rw (← e, lt-leb _ _ l)

none_over : (t : List ℤ) {n : ℕ} → n ≡ table_lines t → length t ≤ n * layer_columns
    → Passed ≡ demand (leb (length t) (table_lines t * layer_columns)) 1 (Line (1001 + table_lines t))
none_over t e l = rw (← e, le-leb _ _ l)

pub returns-in_err-ruled_check : goal.returns-in_err-ruled_check
returns-in_err-ruled_check c m e =
    let t = c.args.t.now in
    let s = c.args.s in
    first_refuses c.from_residual.result c.in_err-ruled_check.field-0.0
    (demand (leb (length t) (table_lines t * layer_columns)) 1 (Line (1001 + table_lines t)))
    c.from_residual.ensures.1
    (group t s c.in_err-ruled_check.ensures (counted t c.table_count-count.ensures))
    (sym (table_check t m s e))

pub returns-then-count-t : goal.returns-then-count-t
returns-then-count-t c m e =
    let t = c.args.t.now in
    let n = counted t c.table_count-count.ensures in
    second_decides (group t c.args.s c.in_ok-ruled_check.ensures n) (sym (table_check t m c.args.s e))
    (c.refused.ensures ∙ left_over t n c.if-count-t.true)

pub returns : goal.returns
returns c m e =
    let t = c.args.t.now in
    let n = counted t c.table_count-count.ensures in
    second_decides (group t c.args.s c.in_ok-ruled_check.ensures n) (sym (table_check t m c.args.s e))
    (none_over t n c.if-count-t.false)

pub ruled_check-requires : goal.ruled_check-requires
unfolding ruled_lines layer_lines
ruled_check-requires c = search rules
