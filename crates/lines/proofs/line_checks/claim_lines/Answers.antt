-- `claim_lines` meets its contract: the header is the first group, and its flags say how many lines each part has.
use mathlib.Core.Path.{refl, ◌∙◌, sym, ap₂}
use mathlib.Core.Bool.{Bool}
use Rattle.std.proofs.lemmas.List.{take_rest}
use Rattle.scope.specs.Columns.{has_field, has_multipliers}
use Rattle.scope.specs.Claim.{claim_header}
use Rattle.scope.proofs.Answered.{passed_on}
use Rattle.lines.specs.Table.{claim_body}
use Rattle.lines.proofs.GroupLaws.{claim_header_there, claim_starts, claim_header_group, claim_body_lem, stop_here}
use Rattle.lines.proofs.GroupLaws.{go_on}
use Rattle.lines.proofs.line_checks.claim_lines.Goals as goal

pub returns-in_err-claim_header : goal.returns-in_err-claim_header
returns-in_err-claim_header c =
    let cs = c.args.c.now in
    λ m k.
    passed_on c.from_residual.result c.in_err-claim_header.field-0.0 c.from_residual.ensures.1
    ∙ stop_here (claim_starts m cs) (c.in_err-claim_header.ensures ∙ claim_header_group cs) refl

pub slice_bounds-groups_check-count : goal.slice_bounds-groups_check-count
slice_bounds-groups_check-count c = claim_header_there c.args.c.now (sym c.in_ok-claim_header.ensures)

pub slice_bounds-groups_check-start : goal.slice_bounds-groups_check-start
slice_bounds-groups_check-start c = claim_header_there c.args.c.now (sym c.in_ok-claim_header.ensures)

pub groups_check-requires : goal.groups_check-requires
groups_check-requires c = record { table = c.claim_groups-groups.ensures.table }

pub returns : goal.returns
unfolding claim_header has_field has_multipliers
returns c =
    let cs = c.args.c.now in
    let s = c.args.s in
    let flags = ap₂ (λ (a b : Bool). claim_body s.sizes s.pairs a b) c.has_part.ensures c.has_part-2.ensures in
    λ m k.
    go_on (claim_starts m cs) (c.in_ok-claim_header.ensures ∙ claim_header_group cs) refl (take_rest cs _) _
    (c.claim_groups-groups.ensures.same ∙ flags ∙ claim_body_lem k cs)
    c.groups_check.ensures
