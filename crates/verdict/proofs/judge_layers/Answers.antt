-- `judge_layers` meets its contract: the table's lines, the layers, and where they pass the shape of the filled mesh.
use mathlib.Core.Path.{◌≡◌, refl, sym, ◌∙◌, ap, subst}
use mathlib.Core.List.{List}
use native.Mathlib.Omega.{arith}
use lib.IntN.{ℤ}
use lib.ListN.{length}
use Rattle.std.specs.Prelude.{IfOk}
use Rattle.scope.specs.Cases.Outcome.{Outcome, Passed}
use Rattle.scope.specs.Filled.{with_soils, filled}
use Rattle.scope.specs.Layers.{layer_phases}
use Rattle.scope.specs.NumberRanges.{MeshFacts}
use Rattle.scope.specs.Phases.{check_phases}
use Rattle.scope.specs.Refusals.{shape_phases}
use Rattle.scope.specs.Table.{table_line_phases}
use Rattle.scope.specs.Checks.{◌then◌}
use Rattle.scope.proofs.Answered.{first_refuses, second_decides}
use Rattle.scope.proofs.TableVerdict.{read_filled}
use Rattle.mesh.specs.declared.sizes.Sizes.{Sizes}
use Rattle.mesh.specs.MeshContracts.{SizesAre}
use Rattle.mesh.specs.PairContracts.{PairsAre}
use Rattle.mesh.proofs.Copied.{copied_whole}
use Rattle.layers.specs.LayerContracts.{Fillable}
use Rattle.verdict.specs.JudgeContracts.{LinesPassed}
use Rattle.verdict.proofs.TableLaws.{header_there, stages_left, TableKnown, table_known, named_facts_lem, layers_same}
use Rattle.verdict.proofs.TableLaws.{fillable, filled_facts}
use Rattle.verdict.proofs.LeftLaws.{table_leaves, layers_leave, layers_fill}
use Rattle.verdict.proofs.judge_layers.Goals as goal

-- the table's lines have passed
known : {t m : List ℤ} {s : Sizes} → LinesPassed t m → SizesAre m s → Passed ≡ check_phases (table_line_phases t m)
    → TableKnown t m s
known p k e = record { passed = p; sizes = k; table = sym e }

pub of_header-s-requires : goal.of_header-s-requires
of_header-s-requires c = header_there c.requires.lines_passed

pub returns-in_err-table_lines-clause-outcome : goal.returns-in_err-table_lines-clause-outcome
returns-in_err-table_lines-clause-outcome c =
    let t = c.args.t.now in
    let m = c.args.m.now in
    first_refuses c.from_residual.result c.in_err-table_lines.field-0.0
    (check_phases (layer_phases t m) then check_phases (shape_phases (filled t m)))
    c.from_residual.ensures.1 (c.in_err-table_lines.ensures m (sym c.of_header-s.ensures.soils_are))
    (stages_left c.requires.lines_passed)

pub new-layers-requires : goal.new-layers-requires
new-layers-requires c =
    let sizes = c.of_header-s.ensures in
    table_known (known c.requires.lines_passed sizes (c.in_ok-table_lines.ensures c.args.m.now (sym sizes.soils_are)))

pub new-requires : goal.new-requires
new-requires c =
    subst MeshFacts (sym (c.name_soils.ensures ∙ ap with_soils c.requires.copied))
    (named_facts_lem c.requires.lines_passed)

pub returns-in_err-table_lines-clause-left : goal.returns-in_err-table_lines-clause-left
returns-in_err-table_lines-clause-left c =
    c.requires.copied
    ∙ table_leaves c.requires.lines_passed
    (c.in_err-table_lines.ensures c.args.m.now (sym c.of_header-s.ensures.soils_are))

pub returns-in-Err-clause-outcome : goal.returns-in-Err-clause-outcome
returns-in-Err-clause-outcome c =
    let t = c.args.t.now in
    let m = c.args.m.now in
    let passed = c.requires.lines_passed in
    let named = c.new.ensures ∙ c.name_soils.ensures ∙ ap with_soils c.requires.copied in
    second_decides (c.in_ok-table_lines.ensures m (sym c.of_header-s.ensures.soils_are)) (stages_left passed)
    (ap (λ (o : Outcome). o then check_phases (shape_phases (filled t m)))
    (c.in-Err.ensures ∙ layers_same passed c.new-layers.ensures named))

pub returns-in-Err-clause-left : goal.returns-in-Err-clause-left
returns-in-Err-clause-left c =
    let m = c.args.m.now in
    let passed = c.requires.lines_passed in
    let named = c.new.ensures ∙ c.name_soils.ensures ∙ ap with_soils c.requires.copied in
    copied_whole m c.name_soils.new.m c.copy_numbers.ensures (omega (arith, ap length c.requires.copied))
    ∙ layers_leave passed (c.in_ok-table_lines.ensures m (sym c.of_header-s.ensures.soils_are))
    (c.in-Err.ensures ∙ layers_same passed c.new-layers.ensures named)

pub fill-requires-clause-fillable : goal.fill-requires-clause-fillable
fill-requires-clause-fillable c =
    let m = c.args.m.now in
    let sizes = c.of_header-s.ensures in
    let passed = c.requires.lines_passed in
    let named = c.new.ensures ∙ c.name_soils.ensures ∙ ap with_soils c.requires.copied in
    let layers = c.in_default.ensures ∙ layers_same passed c.new-layers.ensures named in
    subst (λ (t : List ℤ). Fillable t m c.of_header-s.result) (sym c.new-layers.ensures)
    (fillable (known passed sizes (c.in_ok-table_lines.ensures m (sym sizes.soils_are))) (sym layers))

pub new-requires-2 : goal.new-requires-2
new-requires-2 c =
    let m = c.args.m.now in
    let sizes = c.of_header-s.ensures in
    let passed = c.requires.lines_passed in
    let named = c.new.ensures ∙ c.name_soils.ensures ∙ ap with_soils c.requires.copied in
    let layers = c.in_default.ensures ∙ layers_same passed c.new-layers.ensures named in
    subst MeshFacts (sym (c.fill.ensures ∙ ap (λ (t : List ℤ). filled t m) c.new-layers.ensures))
    (filled_facts (known passed sizes (c.in_ok-table_lines.ensures m (sym sizes.soils_are))) (sym layers))

pub returns-clause-outcome : goal.returns-clause-outcome
returns-clause-outcome c =
    let m = c.args.m.now in
    let passed = c.requires.lines_passed in
    let named = c.new.ensures ∙ c.name_soils.ensures ∙ ap with_soils c.requires.copied in
    let layers = c.in_default.ensures ∙ layers_same passed c.new-layers.ensures named in
    let read = c.new-2.ensures ∙ c.fill.ensures ∙ ap (λ (t : List ℤ). filled t m) c.new-layers.ensures in
    second_decides (c.in_ok-table_lines.ensures m (sym c.of_header-s.ensures.soils_are)) (stages_left passed)
    (second_decides layers refl (c.mesh_shape.ensures.outcome
    ∙ ap (λ (m : List ℤ). check_phases (shape_phases m)) read))

pub returns-clause-pairs : goal.returns-clause-pairs
returns-clause-pairs c =
    let t = c.args.t.now in
    let m = c.args.m.now in
    let read = c.new-2.ensures ∙ c.fill.ensures ∙ ap (λ (t : List ℤ). filled t m) c.new-layers.ensures in
    subst (λ (m : List ℤ). IfOk c.mesh_shape.result (λ p. PairsAre m p.items))
    (read ∙ sym (read_filled t m c.requires.lines_passed.tabled)) c.mesh_shape.ensures.pairs

pub returns-clause-left : goal.returns-clause-left
returns-clause-left c =
    let m = c.args.m.now in
    let passed = c.requires.lines_passed in
    let named = c.new.ensures ∙ c.name_soils.ensures ∙ ap with_soils c.requires.copied in
    let layers = c.in_default.ensures ∙ layers_same passed c.new-layers.ensures named in
    c.fill.ensures ∙ ap (λ (t : List ℤ). filled t m) c.new-layers.ensures
    ∙ layers_fill passed (c.in_ok-table_lines.ensures m (sym c.of_header-s.ensures.soils_are)) layers
