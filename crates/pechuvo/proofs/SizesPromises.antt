-- The promises of the sizes of a mesh hold of every call: the counts are lengths of the definition's lists, and a claim
-- that passes is as long as its parts say.
use mathlib.Core.Path.{◌≡◌, refl, sym, ap, ◌∙◌, subst₂}
use mathlib.Core.Bool.{true, false}
use mathlib.Core.Logic.{◌↔◌, ◌⊎◌, inl, inr, ◌≢◌}
use mathlib.Core.List.{List, ◌++◌}
use Prim.Native.Nat.{ℕ, ◌+◌, ◌*◌}
use native.Mathlib.Omega.{arith}
use lib.IntN.{ℤ, pos}
use lib.Ieee.Bits.{is_true, is_false}
use lib.ListN.{length, length-append}
use Rattle.integer.specs.Tests.{eq_z}
use Rattle.integer.proofs.TestLaws.{yes_eq_z, no_eq_z}
use Rattle.scope.specs.declared.Place.{Place}
use Rattle.scope.specs.Cases.Outcome.{Outcome}
use Rattle.scope.specs.Cases.Outcome.{Passed, Refused}
use Rattle.scope.specs.Columns.{at, has_field, has_multipliers}
use Rattle.scope.specs.Mesh.{nodes}
use Rattle.scope.specs.Rows.{balance_rows, side_rows, jump_rows, equality_rows, strength_rows, rows_of}
use Rattle.scope.specs.Claim.{claim_header_columns, if_there, claim_layout}
use Rattle.scope.specs.Answer.{place_number, place_for, mesh_number_of, mesh_place_of}
use Rattle.scope.specs.Phases.{RefusedBy, check_phases}
use Rattle.scope.specs.Table.{mesh_read, tabled_phases, tabled_check}
use Rattle.scope.specs.Statements.{LinesSound, MeshSound}
use Rattle.scope.specs.Verdict.{mesh_check}
use Rattle.scope.proofs.RowCounts.{balance_count, side_count, jump_count, strength_count}
use Rattle.scope.proofs.NumberRanges.{counts}
use Rattle.scope.proofs.Checks.{passed_is_not_refused, then_refused}
use Rattle.scope.proofs.PlaceKinds.{place_number_lem, mesh_place_kind, mesh_exactly}
use Rattle.scope.proofs.Refusals.{lines_passed, mesh_passed, mesh_exact}
use Rattle.scope.proofs.Table.{tabled_exact}
use Rattle.scope.proofs.TabledRefusals.{tabled_mesh_exactly}
use Rattle.scope.proofs.TableVerdict.{table_phases, table_phases_exact, in_two, early_number, early_kind}
use Rattle.reader.specs.File.{file_width, line_bytes}
use Rattle.judge.specs.declared.room.MeshSizes.{MeshSizes}
use Rattle.judge.specs.Judge.{mesh_outcome}
use Rattle.judge.specs.ClaimBytes.{claim_bytes}
use Rattle.judge.specs.Room.{with_field, with_multipliers, with_both, no_sizes, sizes_for, mesh_sizes}
use Rattle.judge.proofs.ClaimBytes.{claim_length, claim_bytes_lem}
use Rattle.judge.proofs.RoomLaws.{by_parts}
use Rattle.pechuvo.specs.Promises.{mesh_in, table_in, mesh_with, claim_in, MeshAccepted, SizesAsked, ClaimLengths}
use Rattle.pechuvo.specs.Promises.{SizesOf, SizesTold}
use Rattle.pechuvo.proofs.TablePromises.{accepted_mesh, mesh_accepted}

-- whether a part is there, as the layout asks it
there : {z : ℤ} → z ≡ pos 1 → eq_z z (pos 1) ≡ true
there {z} e = is_true (eq_z z (pos 1)) (yes_eq_z e)

not_there : {z : ℤ} → (¬ (z ≡ pos 1)) → eq_z z (pos 1) ≡ false
not_there {z} e = is_false (eq_z z (pos 1)) (no_eq_z e)

-- the sizes of a mesh with this outcome
module _ (m : List ℤ) (r : MeshSizes) where
  number_of_lem : (o : Outcome) → r ≡ sizes_for o m → (r.number ≡ mesh_number_of o) × (r.place ≡ mesh_place_of o)
  unfolding sizes_for
  number_of_lem Passed e = (ap (λ x. x.number) e, ap (λ x. x.place) e)
  number_of_lem (Refused k p) e = (ap (λ x. x.number) e, ap (λ x. x.place) e)

  none_of : (o : Outcome) → r ≡ sizes_for o m → r.number ≢ 0 → r ≡ no_sizes r.number r.place
  unfolding sizes_for
  none_of Passed e h = absurd (h (ap (λ x. x.number) e))
  none_of (Refused k p) e h = e ∙ sym (λ i. no_sizes (ap (λ x. x.number) e i) (ap (λ x. x.place) e i))

-- a refusal of a mesh and its table has a number, and the place for that number
module _ (t m : List ℤ) where
  named : (n : ℕ) (p : Place) → tabled_check t m ≡ Refused n p → (n ≢ 0) × (p ≡ place_for n (place_number p))
  named n p e = by ((then_refused (check_phases (table_phases t m)) (mesh_check (mesh_read t m)) n p).0
      (sym (in_two t m) ∙ e))
    where
      by : (check_phases (table_phases t m) ≡ Refused n p)
          ⊎ ((check_phases (table_phases t m) ≡ Passed) × (mesh_check (mesh_read t m) ≡ Refused n p))
          → (n ≢ 0) × (p ≡ place_for n (place_number p))
      by (inl d) =
          let r = (table_phases_exact t m).refuses.why n p d in
          (λ z. omega (arith, (early_number t m n p r).0), early_kind t m n p r)
      by (inr (a, d)) = (
        λ z. passed_is_not_refused
            (sym ((mesh_passed (mesh_read t m)).passed
            ((mesh_exactly (mesh_read t m) (Refused n p) (sym d)).passes.0 z)) ∙ d),
        mesh_place_kind ((mesh_exact (mesh_read t m)).refuses.why n p d),
      )

  refused_as : (o : Outcome) → o ≡ tabled_check t m → (k j : ℕ) → k ≢ 0
      → ((mesh_number_of o ≡ k) × (mesh_place_of o ≡ j)) ↔ RefusedBy (tabled_phases t m) k (place_for k j)
  refused_as Passed e k j nonzero = (
    λ h. absurd (nonzero (sym h.0)),
    λ r. passed_is_not_refused
        (e ∙ (tabled_exact t m).refuses.refused k (place_for k j) r),
  )
  refused_as (Refused n p) e k j nonzero = (
    λ h. subst₂ (RefusedBy (tabled_phases t m)) h.0
        ((named n p (sym e)).1 ∙ ap (λ (i : ℕ). place_for i (place_number p)) h.0 ∙ ap (place_for k) h.1)
        ((tabled_exact t m).refuses.why n p (sym e)),
    λ r. let same : Refused n p ≡ Refused k (place_for k j) = e
        ∙ (tabled_exact t m).refuses.refused k (place_for k j) r in
        (ap mesh_number_of same, ap mesh_place_of same ∙ place_number_lem k j),
  )

  zero_passes : (o : Outcome) → o ≡ tabled_check t m → mesh_number_of o ≡ 0 → o ≡ Passed
  zero_passes Passed e z = refl
  zero_passes (Refused n p) e z = absurd ((named n p (sym e)).0 z)

module _ (mesh table : List ℕ) (r : MeshSizes) (asked : SizesAsked mesh table r) where
  abbrev m : List ℤ
  m = mesh_with mesh table

  abbrev o : Outcome
  o = mesh_outcome file_width mesh table

  told : r ≡ sizes_for o m
  unfolding mesh_sizes
  told = asked

  numbers : (r.number ≡ mesh_number_of o) × (r.place ≡ mesh_place_of o)
  numbers = number_of_lem m r o told

  all_pass : r.number ≡ 0 → o ≡ Passed
  unfolding mesh_outcome
  all_pass e = zero_passes (table_in table) (mesh_in mesh) o refl (sym numbers.0 ∙ e)

  accepted : r.number ≡ 0 → MeshAccepted mesh table
  accepted e = accepted_mesh mesh table (all_pass e)

  sound : r.number ≡ 0 → MeshSound m
  sound e = (accepted e).sound

  passed : r.number ≡ 0 → r ≡ sizes_for Passed m
  passed e = told ∙ ap (λ (q : Outcome). sizes_for q m) (all_pass e)

  module _ (e : r.number ≡ 0) where
    are_balance : r.balance_rows ≡ length (balance_rows m)
    unfolding sizes_for
    are_balance = ap (λ x. x.balance_rows) (passed e)

    are_side : r.side_rows ≡ length (side_rows m)
    unfolding sizes_for
    are_side = ap (λ x. x.side_rows) (passed e)

    are_jump : r.jump_rows ≡ length (jump_rows m)
    unfolding sizes_for
    are_jump = ap (λ x. x.jump_rows) (passed e)

    are_strength : r.strength_rows ≡ length (strength_rows m)
    unfolding sizes_for
    are_strength = ap (λ x. x.strength_rows) (passed e)

    are_columns : r.columns ≡ 3 * nodes m
    unfolding sizes_for
    are_columns = ap (λ x. x.columns) (passed e)

    are_field : r.field_bytes ≡ claim_bytes m with_field
    unfolding sizes_for
    are_field = ap (λ x. x.field_bytes) (passed e)

    are_multipliers : r.multipliers_bytes ≡ claim_bytes m with_multipliers
    unfolding sizes_for
    are_multipliers = ap (λ x. x.multipliers_bytes) (passed e)

    are_both : r.both_bytes ≡ claim_bytes m with_both
    unfolding sizes_for
    are_both = ap (λ x. x.both_bytes) (passed e)

    -- all rows are the rows of each kind
    all_rows_lem : r.balance_rows + r.side_rows + r.jump_rows + r.strength_rows ≡ length (rows_of m)
    unfolding rows_of equality_rows
    all_rows_lem =
        omega (
          arith,
          are_balance,
          are_side,
          are_jump,
          are_strength,
          length-append (balance_rows m ++ (side_rows m ++ jump_rows m)) (strength_rows m),
          length-append (balance_rows m) (side_rows m ++ jump_rows m),
          length-append (side_rows m) (jump_rows m),
        )

    header_once : r.field_bytes + r.multipliers_bytes ≡ r.both_bytes + line_bytes file_width claim_header_columns
    unfolding has_field has_multipliers at if_there line_bytes
    header_once =
        omega (
          arith,
          are_field,
          are_multipliers,
          are_both,
          claim_bytes_lem m with_field,
          claim_bytes_lem m with_multipliers,
          claim_bytes_lem m with_both,
        )

    module _ (claim : List ℕ) (lines : LinesSound (claim_layout m) (claim_in m claim)) where
      long : length claim ≡ claim_bytes m (claim_in m claim)
      long = claim_length m claim ((mesh_passed m).passed (sound e))
          ((lines_passed (claim_layout m) (claim_in m claim)).passed lines)

      kinds : ClaimLengths m r claim
      unfolding has_field has_multipliers at
      kinds = record {
        field = λ f g. long ∙ by_parts m (claim_in m claim) with_field (there f) (not_there g) ∙ sym are_field;
        multipliers = λ f g. long ∙ by_parts m (claim_in m claim) with_multipliers (not_there f) (there g)
            ∙ sym are_multipliers;
        both = λ f g. long ∙ by_parts m (claim_in m claim) with_both (there f) (there g) ∙ sym are_both;
      }

    sizes_of : SizesOf m r
    sizes_of = record {
      balance = (are_balance, omega (arith, are_balance, balance_count m));
      side = (are_side, omega (arith, are_side, side_count m));
      jump = (are_jump, omega (arith, are_jump, jump_count m));
      strength = (are_strength, are_strength ∙ strength_count m (counts m (sound e).lines).sides_listed);
      rows = all_rows_lem;
      columns = are_columns;
      lengths = kinds;
      one_header_more = header_once;
    }

  refused_lem : (k j : ℕ) → k ≢ 0
      → ((r.number ≡ k) × (r.place ≡ j)) ↔ RefusedBy (tabled_phases (table_in table) (mesh_in mesh)) k (place_for k j)
  unfolding mesh_outcome
  refused_lem k j h =
      let x = refused_as (table_in table) (mesh_in mesh) o refl k j h in
      (λ p. x.0 (sym numbers.0 ∙ p.0, sym numbers.1 ∙ p.1), λ y. let p = x.1 y in (numbers.0 ∙ p.0, numbers.1 ∙ p.1))

  pub sizes_told : SizesTold mesh table r
  unfolding mesh_outcome
  sizes_told = record {
    accepted = (accepted, λ a. numbers.0 ∙ ap mesh_number_of (mesh_accepted mesh table a));
    place_zero = λ e. numbers.1 ∙ ap mesh_place_of (all_pass e);
    refused = refused_lem;
    row = λ k j h.
        let e = tabled_mesh_exactly (table_in table) (mesh_in mesh) k (place_for k j) in
        let x = refused_lem k j h in (λ p. e.0 (x.0 p), λ y. x.1 (e.1 y));
    refused_sizes = none_of m r o told;
    sizes = sizes_of;
  }
