-- The bracket for accepted parts: an accepted field meets the rows and accepted multipliers meet the columns in the
-- sense of the bracket, row by row.
use mathlib.Core.Path.{◌≡◌, refl, sym, ◌∙◌, ap, subst}
use mathlib.Core.Logic.{◌⊎◌, inl, inr}
use mathlib.Core.Bool.{true}
use mathlib.Core.List.{List}
use Prim.Native.Nat.{ℕ, ◌+◌, ◌*◌, ◌-◌, ◌<◌}
use native.Mathlib.Decide.{dec_lt}
use native.Mathlib.Omega.{arith}
use lib.IntN.{ℤ, pos}
use lib.Signed.{◌≤ℤ◌, ◌<ℤ◌}
use lib.Ieee.Bits.{is_true}
use lib.ListN.{length, get_or-append, length-append}
use lib.Seq.{get_or-append-add}
use Rattle.integer.proofs.Order.{≤ℤ_split}
use Rattle.integer.specs.Tests.{eq_z}
use Rattle.integer.proofs.TestLaws.{yes_eq_z}
use Rattle.scope.specs.Columns.{at, has_field, has_multipliers, n, l}
use Rattle.scope.specs.Mesh.{nodes}
use Rattle.scope.specs.Rows.{Kind, asked, unfixed, strength, Row, equality_rows, strength_rows, rows_of}
use Rattle.scope.specs.Sums.{is_open, open_rows}
use Rattle.scope.specs.Claim.{stress, multiplier}
use Rattle.scope.specs.Verdict.{open_count}
use Rattle.scope.specs.Statements.{NoneOnUnfixed, MeshSound}
use Rattle.scope.specs.Accepted.{FieldAccepted, MultipliersAccepted}
use Rattle.scope.specs.NumberRanges.{MeshFacts, ClaimFacts}
use Rattle.scope.specs.Meets.{FieldMeets}
use Rattle.scope.specs.Bracket.{NodesNamed, MultipliersMeet, Bracket}
use Rattle.scope.specs.Parts.{carried, allowed, SameRows, PartsBracket, OpenRowsCount}
use Rattle.scope.proofs.Lists.{row_in}
use Rattle.scope.proofs.NumberRanges.{mesh_facts}
use Rattle.scope.proofs.ClaimNumberRanges.{claim_facts}
use Rattle.scope.proofs.OpenPlaces.{number_of_lem}
use Rattle.scope.proofs.RowCounts.{equality_count_lem, equality_kind, strength_count, strength_kind}
use Rattle.scope.proofs.Columns.{mesh_columns}
use Rattle.scope.proofs.Bracket.{is_open_lem, bracket}
use Rattle.scope.proofs.SameRows.{same_met, same_mesh}
use Rattle.scope.specs.Tests.{row_at}

-- ---- rows by their place in both lists

rows_front : (m : List ℤ) (k : ℕ) → k < length (equality_rows m) → row_at (rows_of m) k ≡ row_at (equality_rows m) k
unfolding row_at rows_of
rows_front m k h = get_or-append (equality_rows m) (strength_rows m) _ k h

rows_back : (m : List ℤ) (k : ℕ) → row_at (rows_of m) (length (equality_rows m) + k) ≡ row_at (strength_rows m) k
unfolding row_at rows_of
rows_back m k = get_or-append-add (equality_rows m) (strength_rows m) k _

-- place k of all rows is place k of the equality rows, or a place of the strength rows after them
pub record BackPlace (m : List ℤ) (k : ℕ) : Type 0 where
  pub place : ℕ
  pub there : place < length (strength_rows m)
  pub after : k ≡ length (equality_rows m) + place

front_or_back : (m : List ℤ) (k : ℕ) → k < length (rows_of m) → (k < length (equality_rows m)) ⊎ BackPlace m k
unfolding rows_of
front_or_back m k h = by (dec_lt k (length (equality_rows m)))
  where
    by : Dec (k < length (equality_rows m)) → (k < length (equality_rows m)) ⊎ BackPlace m k
    by (yes f) = inl f
    by (no f) =
        inr
        (record {
          place = k - length (equality_rows m);
          there = omega (arith, length-append (equality_rows m) (strength_rows m));
          after = omega arith;
        })

-- ---- multipliers

never : {X : Type 0} {k : Kind} → k ≡ strength → k ≡ unfixed → X
never e f = let z : ◌≡◌ {A = ℕ} 0 1 = cc in absurd (omega arith)

if_unfixed : (w : ℤ) (r : Row) → NoneOnUnfixed w r → r.kind ≡ unfixed → w ≡ pos 0
if_unfixed w r h e = by r.kind h e
  where
    by : (k : Kind) → elim k as (λ x. Type 0) [ asked ↦ Unit {0} | unfixed ↦ w ≡ pos 0 | strength ↦ Unit {0} ]
        → k ≡ unfixed → w ≡ pos 0
    by asked h e = let z : ◌≡◌ {A = ℕ} 0 1 = cc in absurd (omega arith)
    by unfixed h e = h
    by strength h e = never refl e

module _ (m c : List ℤ) (a : MultipliersAccepted m c) where
  mesh : MeshFacts m
  mesh = mesh_facts m a.mesh.lines

  facts : ClaimFacts m c
  facts = claim_facts m c a.lines mesh

  none_unfixed : (k : ℕ) → k < length (rows_of m) → (row_at (rows_of m) k).kind ≡ unfixed → multiplier m c k ≡ pos 0
  none_unfixed k h e = by (front_or_back m k h)
    where
      by : (k < length (equality_rows m)) ⊎ BackPlace m k → multiplier m c k ≡ pos 0
      by (inl f) = if_unfixed (multiplier m c k) (row_at (equality_rows m) k) (a.meet.unfixed k f)
          (ap (λ (r : Row). r.kind) (sym (rows_front m k f)) ∙ e)
      by (inr b) = never (strength_kind m (row_at (strength_rows m) b.place)
          (row_in (strength_rows m) b.place b.there))
          (ap (λ (r : Row). r.kind) (sym (rows_back m b.place) ∙ ap (row_at (rows_of m)) (sym b.after)) ∙ e)

  none_negative : (k : ℕ) → k < length (rows_of m) → (row_at (rows_of m) k).kind ≡ strength → pos 0 ≤ℤ multiplier m c k
  none_negative k h e = by (front_or_back m k h)
    where
      by : (k < length (equality_rows m)) ⊎ BackPlace m k → pos 0 ≤ℤ multiplier m c k
      by (inl f) = absurd (equality_kind m (row_at (equality_rows m) k) (row_in (equality_rows m) k f)
          (ap (λ (r : Row). r.kind) (sym (rows_front m k f)) ∙ e))
      by (inr b) =
          subst (λ (i : ℕ). pos 0 ≤ℤ multiplier m c i) (omega (arith, b.after, equality_count_lem m))
          (facts.strength_range a.there b.place
          (omega (arith, b.there, strength_count m mesh.counts.sides_listed))).least

  pub multipliers_meet_lem : MultipliersMeet (multiplier m c) (rows_of m) (3 * nodes m)
  multipliers_meet_lem =
      record { none_unfixed = none_unfixed; none_negative = none_negative; columns_zero = a.meet.sums }

-- ---- the bracket

has-field : (c : List ℤ) → at c 0 ≡ pos 1 → has_field c ≡ true
unfolding has_field
has-field c e = is_true (eq_z (at c 0) (pos 1)) (yes_eq_z e)

has_multipliers_lem : (c : List ℤ) → at c 1 ≡ pos 1 → has_multipliers c ≡ true
unfolding has_multipliers
has_multipliers_lem c e = is_true (eq_z (at c 1) (pos 1)) (yes_eq_z e)

pub nodes-named : (m : List ℤ) → MeshSound m → NodesNamed m
nodes-named m s =
    let f : MeshFacts m = mesh_facts m s.lines in
    record {
      corners = λ e i h k. (f.element e h).corner_there i k;
      froms = λ g h. (f.edge g h).from_there;
      tos = λ g h. (f.edge g h).to_there;
      jump_froms = λ j h. ((f.jump j h).from_there, (f.jump j h).facing_from_there);
      jump_tos = λ j h. ((f.jump j h).to_there, (f.jump j h).facing_to_there);
    }

above_0 : {z : ℤ} → pos 0 ≤ℤ z → ¬ (z ≡ pos 0) → pos 0 <ℤ z
above_0 {z} h f = by (≤ℤ_split h)
  where
    by : (pos 0 <ℤ z) ⊎ (pos 0 ≡ z) → pos 0 <ℤ z
    by (inl l) = l
    by (inr e) = absurd (f (sym e))

-- an accepted field has n above 0
pub field-n : (m c : List ℤ) → FieldAccepted m c → pos 0 <ℤ n c
field-n m c a =
    let f : ClaimFacts m c = claim_facts m c a.lines (mesh_facts m a.mesh.lines) in
    above_0 f.n_range.least (f.parts_fit.with_field a.there)

-- a field of whole numbers that meets the rows of m, against accepted multipliers for the same rows
pub whole_bracket : (m d k : List ℤ) → SameRows m d → MultipliersAccepted d k → (t : ℕ → ℤ) (j e : ℤ)
    → FieldMeets t j e (rows_of m) → Bracket t j e (multiplier d k) (rows_of d)
whole_bracket m d k same w t j e met =
    bracket t j e (multiplier d k) (rows_of d) (3 * nodes d) (mesh_columns d (nodes-named d w.mesh))
    (same_met m d same t j e met) (multipliers_meet_lem d k w)

-- any accepted field and any accepted multipliers, of one claim or of two, on meshes with the same rows
pub parts_bracket : (m c d k : List ℤ) → SameRows m d → FieldAccepted m c → MultipliersAccepted d k
    → PartsBracket m c d k
unfolding carried allowed
parts_bracket m c d k same f w =
    let sums : Bracket (stress m c) (l c) (n c) (multiplier d k) (rows_of d) =
    whole_bracket m d k same w (stress m c) (l c) (n c) f.meets in
    record {
      n_above_0 = field-n m c f;
      m_above_0 = w.meet.live;
      at_most = record { cross-≤ = sums.at_most };
      equal = (λ e. sums.equal.0 e.cross-≡, λ h. record { cross-≡ = sums.equal.1 h });
      sums = sums;
    }

-- ---- open rows

-- the count of an accepted claim with both parts
pub open_rows_count : (m c : List ℤ) → FieldAccepted m c → MultipliersAccepted m c → OpenRowsCount m c
unfolding open_count open_rows carried allowed
open_rows_count m c f w =
    let b : PartsBracket m c m c = parts_bracket m c m c (same_mesh refl) f w in
    let places = number_of_lem (is_open (stress m c) (l c) (n c)) (multiplier m c) (rows_of m) in
    record {
      both = rw (has-field c f.there, has_multipliers_lem c w.there);
      number = record {
        places = places.places;
        count = places.count;
        ascending = places.ascending;
        exactly = λ i. (
          λ j. let h = (places.exactly i).0 j in
              (h.0, (is_open_lem (stress m c) (l c) (n c) (multiplier m c i, row_at (rows_of m) i)).0 h.1),
          λ h. (places.exactly i).1
              (h.0, (is_open_lem (stress m c) (l c) (n c) (multiplier m c i, row_at (rows_of m) i)).1 h.1),
        );
      };
      none = (
        λ e. record { cross-≡ = b.sums.count.0 e },
        λ e. b.sums.count.1 e.cross-≡,
      );
    }
