-- The sheets give their lines: antt computes the definitions, from the bytes of the three files to the bytes of the
-- line.
use mathlib.Core.Path.{◌≡◌, refl}
use mathlib.Core.List.{map}
use Rattle.integer.specs.Decimal.{digits_within, digits, last_digits, right_justified, is_digit, all_digits}
use Rattle.integer.specs.Decimal.{value_after, proper_digits}
use Rattle.scope.specs.Cases.Outcome.{has_passed}
use Rattle.scope.specs.Layers.{layers, bottom, top, soil, node_at, none_above, lowest, highest, has, soil_at}
use Rattle.scope.specs.Layers.{top_above, apart, in_layer}
use Rattle.scope.specs.Filled.{height_of, soil_place, soil_of, given_number, given, filled, with_soils}
use Rattle.scope.specs.Table.{layer_lines, table_lines, table_layout, has_table, mesh_read, tabled_check}
use Rattle.scope.specs.TableVerdict.{tabled_verdict}
use Rattle.scope.proofs.Computed.{computed}
use Rattle.reader.specs.Spelling.{spelling, column, unsigned, negated, signed, read_column}
use Rattle.reader.specs.File.{line_bytes, read_columns, read_line, widths, read_lines, header_passes, numbers_of}
use Rattle.reader.specs.File.{left_over, read_rows, table_numbers_of, columns, write_lines, file_of, table_of}
use Rattle.report.specs.Text.{pointed, fixed, none_text}
use Rattle.report.specs.Report.{load_text, lower_text, upper_text, open_text, four_columns, report_line, is_decimals}
use Rattle.report.specs.Report.{usual_decimals}
use Rattle.judge.specs.Judge.{mesh_numbers, mesh_from, mesh_outcome, claim_numbers, files_verdict}
use Rattle.pechuvo.specs.Check.{answered, check}
use Rattle.pechuvo.specs.Bytes.{bytes, with_word, numbers_after, numbers}
use Rattle.pechuvo.specs.Sheets.{sheet_with, sheet, printed_with, printed, worked_mesh, pull_mesh, pull_claim}
use Rattle.pechuvo.specs.Sheets.{starred, unit_square, seam_mesh, seam_fault, joint_mesh, joint_blocks, noticing}
use Rattle.pechuvo.specs.Sheets.{two_thirds_mesh, two_thirds_claim, with_decimals, soil_zero_mesh, worked_claim}
use Rattle.pechuvo.specs.Sheets.{seam_zero, seam_mixed, seam_claim, tabled_sheets}
use Rattle.pechuvo.specs.SheetsBeds.{bedded_block, bedded_half, bedded_unused}
use Rattle.pechuvo.specs.Shipped.{as_files, shipped}

-- for proofs by computation: the definitions of a table and of a filled mesh are open
unfoldable computed_table : Unit {0}
unfolding layers bottom top soil node_at none_above lowest highest has soil_at top_above apart in_layer
    height_of soil_place soil_of given_number given filled with_soils layer_lines table_lines table_layout has_table
    mesh_read tabled_check tabled_verdict left_over read_rows table_numbers_of table_of mesh_from mesh_outcome
computed_table = tt

-- and so is every definition between the bytes of three files and the bytes of the line
unfoldable pub computed_line : Unit {0}
unfolding digits_within digits last_digits right_justified is_digit all_digits value_after proper_digits computed
    computed_table spelling column unsigned negated signed read_column line_bytes read_columns read_line widths
    read_lines has_passed header_passes numbers_of columns write_lines file_of pointed fixed none_text load_text
    lower_text upper_text open_text four_columns report_line is_decimals usual_decimals mesh_numbers claim_numbers
    files_verdict answered check bytes with_word numbers_after numbers sheet_with sheet printed_with printed
    worked_mesh pull_mesh pull_claim starred
computed_line = tt

pub starred_sheets : map printed starred ≡ map (λ s. s.line) starred
unfolding computed_line
starred_sheets = refl

pub noticing_sheets : map printed noticing ≡ map (λ s. s.line) noticing
unfolding computed_line unit_square seam_mesh seam_fault joint_mesh joint_blocks noticing
noticing_sheets = refl

pub decimals_sheets : map (λ s. printed_with s.0 s.1) with_decimals ≡ map (λ s. s.1.line) with_decimals
unfolding computed_line two_thirds_mesh two_thirds_claim with_decimals
decimals_sheets = refl

pub tabled_sheets_lem : map printed tabled_sheets ≡ map (λ s. s.line) tabled_sheets
unfolding computed_line soil_zero_mesh worked_claim seam_zero seam_mixed seam_claim tabled_sheets
tabled_sheets_lem = refl

-- the files that ship are the ones that the definition writes
pub shipped-written : map (λ s. (s.mesh, s.claim)) as_files ≡ shipped
unfolding computed_line seam_mesh seam_fault joint_mesh joint_blocks bedded_block bedded_half bedded_unused as_files
    shipped
shipped-written = refl
