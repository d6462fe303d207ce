-- `open_by_planes` meets its contract: the open rows of the pair's planes.
use mathlib.Core.Path.{sym, ◌∙◌}
use Rattle.multipliers.proofs.PairLaws.{pair_length}
use Rattle.multipliers.proofs.PlaneSumLaws.{planes_few, planes_weighted}
use Rattle.multipliers.proofs.OpenLaws.{planes_opened}
use Rattle.multipliers.proofs.open_rows.open_by_planes.Goals as goal

pub planes_at-requires : goal.planes_at-requires
planes_at-requires c = rw c.requires.same_mesh (record { there = c.requires.there; bedded = c.requires.bedded })

pub planes_open-requires : goal.planes_open-requires
planes_open-requires c =
    let rows = c.args.rows.now in
    let counts = rows.mesh.mesh.sized.facts.counts in
    let long = pair_length c.requires.there rows.of_each_row c.of_pair.ensures in
    let state = rw c.requires.same_mesh at c.planes_at.ensures in
    record {
      as_many = state.size ∙ sym long;
      few = planes_few _ counts long;
      multipliers_fit = planes_weighted c.requires.there rows.of_each_row c.of_pair.ensures;
    }

pub returns : goal.returns
returns c =
    let rows = c.args.rows.now in
    let counts = rows.mesh.mesh.sized.facts.counts in
    let state = rw c.requires.same_mesh at c.planes_at.ensures in
    planes_opened _ _ _ _ _ c.args.a c.requires.there counts rows.of_each_row c.of_pair.ensures _ state
    c.requires.bedded c.planes_open.ensures
