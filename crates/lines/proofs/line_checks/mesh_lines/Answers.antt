-- `mesh_lines` meets its contract: the header is the first group, and its counts are small where it has passed.
use mathlib.Core.Path.{refl, ◌∙◌, sym}
use Rattle.std.proofs.lemmas.List.{take_rest}
use Rattle.scope.specs.Mesh.{mesh_header}
use Rattle.scope.proofs.Answered.{passed_on}
use Rattle.lines.proofs.GroupLaws.{header_counts, mesh_starts, mesh_header_group, mesh_body_lem, stop_here, go_on}
use Rattle.lines.proofs.line_checks.mesh_lines.Goals as goal

pub returns-in_err-mesh_header : goal.returns-in_err-mesh_header
returns-in_err-mesh_header c =
    let m = c.args.m.now in
    passed_on c.from_residual.result c.in_err-mesh_header.field-0.0 c.from_residual.ensures.1
    ∙ stop_here (mesh_starts _ m) (c.in_err-mesh_header.ensures ∙ mesh_header_group m) refl

pub of_header-s-requires : goal.of_header-s-requires
of_header-s-requires c = header_counts c.args.m.now (sym c.in_ok-mesh_header.ensures)

pub slice_bounds-groups_check-count : goal.slice_bounds-groups_check-count
slice_bounds-groups_check-count c = (header_counts c.args.m.now (sym c.in_ok-mesh_header.ensures)).there

pub slice_bounds-groups_check-start : goal.slice_bounds-groups_check-start
slice_bounds-groups_check-start c = (header_counts c.args.m.now (sym c.in_ok-mesh_header.ensures)).there

pub groups_check-requires : goal.groups_check-requires
groups_check-requires c = record { table = c.mesh_groups.ensures.table }

pub returns : goal.returns
unfolding mesh_header
returns c =
    let m = c.args.m.now in
    go_on (mesh_starts _ m) (c.in_ok-mesh_header.ensures ∙ mesh_header_group m) refl (take_rest c.args.m.now _) _
    (c.mesh_groups.ensures.same ∙ mesh_body_lem _ c.of_header-s.ensures) c.groups_check.ensures
