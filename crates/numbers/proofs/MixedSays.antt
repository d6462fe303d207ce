-- What the promises say of any answer that accepts a claim on the sheet of `MixedSheet`: each promise, with what it
-- asks of the mesh computed by antt once for every number of sides and either kind.
use mathlib.Core.Path.{◌≡◌, refl, subst, subst₂}
use mathlib.Core.Logic.{inl, ◌≢◌}
use mathlib.Core.List.{List}
use Prim.Native.Nat.{ℕ, zero, suc, ◌<◌}
use native.Mathlib.Omega.{arith}
use lib.IntN.{ℤ, pos}
use lib.Signed.{lt_z_yes}
use Rattle.scope.proofs.SameRows.{same_mesh}
use Rattle.std.specs.Prelude.{Result}
use Rattle.scope.specs.declared.Refusal as Answered
use Rattle.scope.specs.Mesh.{soils, elements, sides, corner, corner_count, around, element_soil, jumps}
use Rattle.scope.specs.Mesh.{from_node, to_node, ByDirection, ListsDirection}
use Rattle.integer.specs.Fraction.{◌over◌, ◌≈ᶠ◌}
use Rattle.integer.specs.Members.{◌∈◌}
use Rattle.scope.specs.Polygon.{point, half_turn, polygon_of}
use Rattle.scope.specs.Rows.{pair_count}
use Rattle.scope.specs.Columns.{n, l}
use Rattle.scope.specs.Parts.{carried}
use Rattle.scope.specs.Accepted.{FieldAccepted, MultipliersAccepted}
use Rattle.scope.specs.Meaning.{Inward}
use Rattle.scope.specs.Answer.{outcome_of, mesh_number_of}
use Rattle.scope.specs.Statements.{MeshSound, HasField, HasMultipliers}
use Rattle.scope.specs.Triangles.{FourLeftTurns}
use Rattle.scope.specs.Layers.{layers, bottom, top, soil, node_at, none_above, lowest, highest, has, soil_at}
use Rattle.scope.specs.Layers.{top_above, apart, in_layer}
use Rattle.scope.specs.Filled.{height_of, soil_place, soil_of, given_number, given, filled, with_soils}
use Rattle.scope.specs.Table.{layer_lines, table_lines, table_layout, has_table, mesh_read, tabled_check}
use Rattle.scope.specs.TableVerdict.{tabled_verdict, TableFits}
use Rattle.scope.specs.LayerRefusals.{Reordered, SameLine}
use Rattle.scope.specs.Worked.{zeros}
use Rattle.scope.proofs.Computed.{computed}
use Rattle.numbers.specs.declared.numbers_answer.NumbersAnswer.{NumbersAnswer}
use Rattle.numbers.specs.Promises.{Answers, Returned, TellsField, MeshAnswered, CriterionForEachPair, PairsAsked}
use Rattle.numbers.specs.Promises.{OverlapsAsked, JumpsAsked, SidesAsked, TrianglesRead, TrianglesAsked}
use Rattle.numbers.specs.TablePromises.{TableAnswers}
use Rattle.numbers.specs.MixedSheet.{mixed, two_layers, layers_turned, lower_layer, unfilled, soils_written}
use Rattle.numbers.specs.MixedSheet.{mixed_field, mixed_multipliers, mixed_claim, claim_108, bedded_claim}
use Rattle.numbers.specs.MixedSheet.{MeshSays, ClaimSays, PlainSays, BeddedSays, FewNodes, TableSays, RefusedSays}
use Rattle.numbers.proofs.Promises.{mesh_answered_exactly, returned, returns_zero_exactly, numbers_listed}
use Rattle.numbers.proofs.Promises.{field_exactly, multipliers_exactly, criterion_for_each_pair, directions_asked}
use Rattle.numbers.proofs.Promises.{tractions_on_joints, pairs_asked, sides_asked, overlaps_asked, jumps_asked}
use Rattle.numbers.proofs.Promises.{triangles_asked}
use Rattle.numbers.proofs.Reported.{field-reported, multipliers_reported, open_rows_reported, field_in_fractions}
use Rattle.numbers.proofs.Reported.{call_bracket, accepted_parts, fractions_bracket}
use Rattle.numbers.proofs.Blends.{blended_answers}
use Rattle.numbers.proofs.TablePromises.{table_returned, table_exactly, as_filled, filled_mesh}

-- for proofs by computation: the definitions of a table and of the sheet too
unfoldable pub opened : Unit {0}
unfolding computed layers bottom top soil node_at none_above lowest highest has soil_at top_above apart
    in_layer height_of soil_place soil_of given_number given filled with_soils layer_lines table_lines table_layout
    has_table mesh_read tabled_check tabled_verdict zeros mixed two_layers layers_turned lower_layer mixed_field
    mixed_multipliers mixed_claim claim_108 bedded_claim
opened = tt

-- ---- what the promises say of any answer that accepts a claim on such a mesh

-- what antt computes of the mesh
pub record Facts (m : List ℤ) : Type 0 where
  pub three : elements m ≡ 3
  pub repeats : (corner m 0 2 ≡ corner m 0 3) × (corner m 1 2 ≡ corner m 1 3)
  pub four_different : ¬ (corner m 2 2 ≡ corner m 2 3)
  pub turns : FourLeftTurns m 2
  pub edge : (1 < corner_count m 1) × (2 < corner_count m 1) × (from_node m 0 ≡ around m 1 1)
      × (to_node m 0 ≡ around m 1 2) × (around m 1 3 ≡ 0)
  pub around_3 : (corner m 1 1 ≡ 2) × (corner m 0 2 ≡ 2)
  pub soils_there : (element_soil m 1 ≡ 0) × (element_soil m 0 ≡ 1)
  pub five_pairs : 4 < pair_count m
  pub fill_kind : ¬ ByDirection m 0
  pub one_jump : 0 < jumps m

-- by the promises of any call on the mesh, on numbers or on files
module _ (m c : List ℤ) (number place : ℕ) (sound : MeshSound m) (facts : Facts m) (triangles : TrianglesAsked m)
    (pairs : PairsAsked m number place) (overlaps : OverlapsAsked m number place) (joints : JumpsAsked m)
    (polygons : SidesAsked m c number place) where
  there : (e : ℕ) → e < 3 → e < elements m
  there e l = omega (arith, l, facts.three)

  read : (e : ℕ) → e < 3 → TrianglesRead m e
  read e l = triangles.read sound e (there e l)

  pub mesh_says : MeshSays m
  mesh_says = record {
    triangles = ((read 0 (omega arith)).triangle facts.repeats.0, (read 1 (omega arith)).triangle facts.repeats.1);
    no_repeat = λ i j l k same.
        let at = (read 2 (omega arith)).only_repeat i j l k same in
        facts.four_different (subst₂ (λ (a b : ℕ). corner m 2 a ≡ corner m 2 b) at.0 at.1 same);
    as_before = (read 2 (omega arith)).passed_before facts.turns;
    areas = λ e l. (triangles.read sound e l).area_above_0;
    outward =
        let side = facts.edge in
        subst (λ (v : ℕ). Inward m 0 v) side.4
        ((read 1 (omega arith)).outward 0 1 side.0 side.2 side.3 (sound.left_turns 1 (there 1 (omega arith))) 2
        (omega arith) side.1);
    fill_pair =
        ((pairs.sound sound).exactly (record { at = 2; soil = 0 })).1
        (record {
          element = 1;
          there = there 1 (omega arith);
          has-corner = (1, omega arith, facts.around_3.0);
          same =
              facts.soils_there.0;
        });
    clay_pair =
        ((pairs.sound sound).exactly (record { at = 2; soil = 1 })).1
        (record {
          element = 0;
          there = there 0 (omega arith);
          has-corner = (2, omega arith, facts.around_3.1);
          same =
              facts.soils_there.1;
        });
    in_order = pairs.listed.ascending 3 4 (omega arith) facts.five_pairs;
    pairs = pairs.sound sound;
    apart = overlaps.sound sound;
    joints = joints.sound sound;
    polygon = polygons.polygon sound;
  }

  pub few_nodes : number ≡ 0 → HasMultipliers c → sides m ≡ 108 → FewNodes m c
  few_nodes z there e =
      let limits = polygons.limits.with_108 e in record {
        few_nodes = limits.nodes_few sound;
        few_pairs = limits.pairs_few sound;
        small_multipliers = polygons.small_multipliers z there e;
      }

-- by those of any answer that accepts a claim on it
module _ (m c : List ℤ) (r : NumbersAnswer) (h : Answers m c r) (accepted : r.number ≡ 0) (facts : Facts m) where
  answered : Returned m c r.number r.place
  answered = returned h

  sound : MeshSound m
  sound = ((returns_zero_exactly m c r.number r.place answered).exactly.0 accepted).mesh

  says : MeshSays m
  says = mesh_says m c r.number r.place sound facts (triangles_asked m) (pairs_asked m c r.number r.place answered)
      (overlaps_asked m c r.number r.place answered) (jumps_asked m) (sides_asked m c r.number r.place answered)

  pub many_says_lem : HasMultipliers c → sides m ≡ 108 → FewNodes m c
  many_says_lem = few_nodes m c r.number r.place sound facts (triangles_asked m)
      (pairs_asked m c r.number r.place answered) (overlaps_asked m c r.number r.place answered) (jumps_asked m)
      (sides_asked m c r.number r.place answered) accepted

  -- the mesh alone has the number 0
  pub mesh_alone : {A : Type 0} (a : Result A Answered.Refusal) → MeshAnswered m a → mesh_number_of (outcome_of a) ≡ 0
  mesh_alone a g = (mesh_answered_exactly m a g).passes.1 sound

  module _ (has_field : HasField c) (has_multipliers : HasMultipliers c) where
    tells : TellsField c r.number
    tells = (has_field, inl accepted)

    field_there : r.field ≡ 1
    field_there = (field-reported m c r h).exactly.1 (has_field, accepted)

    multipliers_there : r.multipliers ≡ 1
    multipliers_there = (multipliers_reported m c r h).exactly.1 (has_multipliers, accepted)

    criterion : CriterionForEachPair m c
    criterion = criterion_for_each_pair m c r.number r.place answered tells

    pub claim_says : r.open_rows ≡ 0 → ClaimSays m c r
    claim_says none = record {
      mesh = says;
      accepted = (returns_zero_exactly m c r.number r.place answered).exactly.0 accepted;
      place_zero = (returns_zero_exactly m c r.number r.place answered).place_zero accepted;
      listed = (numbers_listed m c r.number r.place answered).listed;
      never_47 = (overlaps_asked m c r.number r.place answered).never says.apart;
      field = field;
      rows_met = ((field_exactly m c r.number r.place answered).exactly.0 field).3;
      multipliers = multipliers;
      columns = ((multipliers_exactly m c r.number r.place answered).exactly.0 multipliers).3;
      limit = (multipliers_reported m c r h).printed multipliers_there;
      m_above_0 = (multipliers_reported m c r h).m_above_0 multipliers_there;
      fill = criterion.pairs (record { at = 2; soil = 0 }) says.fill_pair facts.fill_kind;
      joint = tractions_on_joints m c r.number r.place answered tells 0 facts.one_jump;
      bracket = call_bracket h field_there multipliers_there;
      parts = accepted_parts h (same_mesh refl) tells multipliers;
      none_open = (call_bracket h field_there multipliers_there).equal.0 equal;
      open_rows = (open_rows_reported m c r h).count field_there multipliers_there;
      closed = equal;
      fractions = fractions_bracket h multipliers_there m sound (same_mesh refl);
      in_fractions = field_in_fractions m c r h field_there;
      blended = blended_answers h h (same_mesh refl) tells tells 1 2 (omega arith);
    }
      where
        field : FieldAccepted m c
        field = (field_exactly m c r.number r.place answered).told.1 tells

        multipliers : MultipliersAccepted m c
        multipliers = ((multipliers_exactly m c r.number r.place answered).told.0 (has_multipliers, accepted)).0

        equal : carried c ≈ᶠ r.w over r.m
        equal = ((open_rows_reported m c r h).closed field_there multipliers_there).0 none

    pub plain_says : ¬ ByDirection m 1 → ¬ ListsDirection m → PlainSays m c r
    plain_says kind none = record {
      clay = criterion.pairs (record { at = 2; soil = 1 }) says.clay_pair kind;
      told = let e = (field-reported m c r h).load field_there none in
          ((field-reported m c r h).told.1 (field_there, none), e.0, e.1);
      exact = (call_bracket h field_there multipliers_there).told none;
    }

    pub bedded_says : ByDirection m 1 → (1 < soils m) → point (pos 4) (pos 3) ∈ half_turn (polygon_of (sides m)).corners
        → BeddedSays m c r
    bedded_says kind second at_plane = record {
      plane = (directions_asked m c r.number r.place answered).accepted tells
          (record { at = 2; soil = 1 }) says.clay_pair kind (point (pos 4) (pos 3)) at_plane;
      untold = (field-reported m c r h).untold (1, second, kind);
    }

pub refused_says : (m c : List ℤ) (r : NumbersAnswer) → Answers m c r → r.field ≢ 1 → r.multipliers ≢ 1 → RefusedSays r
refused_says m c r h no_field no_multipliers = record {
  no_field = (field-reported m c r h).none no_field;
  no_multipliers = (multipliers_reported m c r h).none no_multipliers;
  no_rows = (open_rows_reported m c r h).one_part (inl no_field);
}

-- ---- of any call with a table that accepts a claim

module _ (t m c : List ℤ) (r : NumbersAnswer) (h : TableAnswers t m c r) where
  pub table_fits : r.number ≡ 0 → TableFits t m
  table_fits e = ((table_exactly t m c r.number r.place (table_returned h)).zero.0 e).0

  -- the answer is that on the mesh d that is read
  pub on_filled : TableFits t m → {d : List ℤ} → mesh_read t m ≡ d → Answers d c r
  on_filled fits e = subst (λ (d : List ℤ). Answers d c r) e ((as_filled h).fits fits)

-- ---- the sheet: its answers, and what antt computes of its mesh

-- accepted, with this limit
abbrev pub answer : (l n w m : ℕ) → NumbersAnswer
answer l n w m = record
    { number = 0; place = 0; field = 1; multipliers = 1; l = pos l; n = pos n; w = pos w; m = pos m; open_rows = 0 }

abbrev pub refusal : (number place : ℕ) → NumbersAnswer
refusal number place =
    record {
      number = number;
      place = place;
      field = 0;
      multipliers = 0;
      l = pos 0;
      n = pos 0;
      w = pos 0;
      m = pos 0;
      open_rows = 0;
    }

-- whatever the number of sides and the kind of the clay
module _ (side_count kind : ℕ) where
  pub filled_lem : mesh_read two_layers (unfilled side_count kind) ≡ soils_written side_count kind
  unfolding opened
  filled_lem = refl

  pub facts_lem : Facts (soils_written side_count kind)
  unfolding opened
  facts_lem = record {
    three = refl;
    repeats = (refl, refl);
    four_different = λ e. let z : ◌≡◌ {A = ℕ} 6 7 = e in omega arith;
    turns = turn_at;
    edge = (omega arith, omega arith, refl, refl, refl);
    around_3 = (refl, refl);
    soils_there = (refl, refl);
    five_pairs = omega arith;
    fill_kind = λ e. let z : ◌≡◌ {A = ℕ} 0 1 = cc in omega arith;
    one_jump = omega arith;
  }
    where
      turn_at : FourLeftTurns (soils_written side_count kind) 2
      turn_at zero l = lt_z_yes tt
      turn_at (suc zero) l = lt_z_yes tt
      turn_at (suc (suc zero)) l = lt_z_yes tt
      turn_at (suc (suc (suc zero))) l = lt_z_yes tt
      turn_at (suc (suc (suc (suc i)))) l = absurd (omega (arith, l))

-- ---- the table, and its lines the other way round

turned : Reordered two_layers layers_turned
unfolding opened
turned = record {
  to = other;
  from = other;
  to_there = λ i l. below i;
  from_there = λ i l. below i;
  from_to = twice;
  to_from = twice;
  same = same_line;
}
  where
    other : ℕ → ℕ
    other zero = 1
    other (suc i) = 0

    below : (i : ℕ) → other i < 2
    below zero = omega arith
    below (suc i) = omega arith

    twice : (i : ℕ) → i < 2 → other (other i) ≡ i
    twice zero l = refl
    twice (suc zero) l = refl
    twice (suc (suc i)) l = absurd (omega (arith, l))

    same_line : (i : ℕ) → i < 2 → SameLine two_layers layers_turned i (other i)
    same_line zero l = record { bottoms = refl; tops = refl; soils = refl }
    same_line (suc zero) l = record { bottoms = refl; tops = refl; soils = refl }
    same_line (suc (suc i)) l = absurd (omega (arith, l))

pub table_facts : (side_count kind : ℕ) → TableFits two_layers (unfilled side_count kind)
    → TableSays two_layers layers_turned (unfilled side_count kind)
unfolding opened
table_facts side_count kind fits =
    let mesh = filled_mesh two_layers (unfilled side_count kind) (fits refl) in
    record {
      fits = fits;
      lower = mesh.one_layer 0 (omega arith);
      upper = mesh.one_layer 1 (omega arith);
      any_order = mesh.order layers_turned turned;
      lines = mesh.lines;
      only_soils = mesh.filled_from;
    }
