-- `group_check` meets its contract: lines with rules of their own one by one, and others in one go.
use mathlib.Core.Path.{sym, ◌∙◌, ap}
use mir.Syntax.{w64}
use mir.Val.{SFits}
use mir.Facts.{to_z-of_z}
use borrow.Author.Rules.{rules}
use Rattle.scope.specs.Layout.{width}
use Rattle.lines.specs.declared.layout.Kind.{Kind}
use Rattle.lines.specs.Table.{kind_lines}
use Rattle.lines.proofs.LineLaws.{width_is}
use Rattle.lines.proofs.line_checks.group_check.Goals as goal

pub ruled_check-requires : goal.ruled_check-requires
unfolding kind_lines
ruled_check-requires c =
    let g = c.requires.good in
    let z = c.args.sizes in
    let columns = ap (λ (k : Kind). width (kind_lines k z c.args.g.lines c.args.g.columns)) c.in-Ruled.is in
    record {
      few = record {
        few_lines = g.few.few_lines;
        some_column = g.few.some_column;
        few_columns = g.few.few_columns;
        line_most = c.requires.small_line;
      };
      wide = g.wide ∙ columns ∙ width_is _ z _ ∙ sym (width_is _ z 0);
    }

pub returns-in-Ruled : goal.returns-in-Ruled
unfolding kind_lines
returns-in-Ruled c = rw c.in-Ruled.is c.ruled_check.ensures

pub returns-in-Even : goal.returns-in-Even
unfolding kind_lines
returns-in-Even c =
    let low : SFits w64 c.in-Even.lo = search rules in
    let high : SFits w64 c.in-Even.hi = search rules in
    rw c.in-Even.is (rw (to_z-of_z low, to_z-of_z high) at c.even_check.ensures)
