-- Document 01's sheet with tables: antt computes each from the definitions.
use mathlib.Core.Path.{refl}
use Rattle.scope.specs.Worked.{zeros, worked_mesh}
use Rattle.scope.specs.Layers.{layers, bottom, top, soil, node_at, none_above, lowest, highest, has, soil_at}
use Rattle.scope.specs.Layers.{top_above, apart, in_layer}
use Rattle.scope.specs.Filled.{height_of, soil_place, soil_of, given_number, given, filled, with_soils}
use Rattle.scope.specs.Table.{layer_lines, table_lines, table_layout, has_table, mesh_read, tabled_check}
use Rattle.scope.specs.WorkedTable.{soil_zero, TableSheets}
use Rattle.scope.proofs.Computed.{computed}

pub table_sheets : TableSheets
unfolding computed layers bottom top soil node_at none_above lowest highest has soil_at top_above apart in_layer
    height_of soil_place soil_of given_number given filled with_soils layer_lines table_lines table_layout
    has_table mesh_read tabled_check zeros worked_mesh soil_zero
table_sheets = record {
  gap = refl;
  passes = refl;
  gap_at_0 = refl;
  soil_0_alone = refl;
  soil_0_passes = refl;
  soil_0_filled = refl;
  short_line = refl;
  too_high = refl;
  too_low = refl;
  own_soil_0 = refl;
  line_33 = refl;
  flat = refl;
  overlap = refl;
  above_nodes = refl;
}
