-- `Source::claim_body` meets its contract: the header's flags tell the table, whose numbers fit.
use Rattle.scope.specs.Columns.{has_field, has_multipliers}
use Rattle.reader.proofs.LinesAfterHeader.{claim_lines_lem}
use Rattle.reader.proofs.file_lines.Source.claim_body.Goals as goal

pub read_groups-requires : goal.read_groups-requires
unfolding has_field has_multipliers
read_groups-requires c =
    rw (claim_lines_lem c.args.s c.args.out.now c.claim_groups-groups.ensures c.has_part.ensures c.has_part-2.ensures)
    c.requires

pub returns : goal.returns
unfolding has_field has_multipliers
returns c =
    rw (claim_lines_lem c.args.s c.args.out.now c.claim_groups-groups.ensures c.has_part.ensures c.has_part-2.ensures)
    at c.read_groups.ensures
