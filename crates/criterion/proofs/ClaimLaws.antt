-- A claim's numbers by their place: the field's stresses begin at 4, the multipliers after them, and each number is
-- within its limit.
use mathlib.Core.Path.{◌≡◌, refl, sym, ◌∙◌, ap, subst, fun_ext}
use mathlib.Core.Bool.{true}
use mathlib.Core.Logic.{◌⊎◌, ⊎_elim, ∥∥₁_elim}
use mathlib.Core.List.{List}
use Prim.Native.Nat.{ℕ, ◌+◌, ◌*◌, ◌-◌, ◌≤◌, ◌<◌, zero-le}
use native.Mathlib.Nat.{ℕ_set, zero-mul}
use native.Mathlib.Bridge.{le_prop}
use native.Mathlib.Decide.{dec_lt}
use native.Mathlib.Omega.{arith}
use lib.IntN.{ℤ, pos}
use lib.ListN.{length, get_or, take, drop, length-drop}
use lib.Seq.{get_or-drop, take_all}
use Rattle.std.proofs.lemmas.List.{get_or_past}
use Rattle.integer.specs.Bounds.{Within, AllWithin}
use Rattle.integer.proofs.BoundLaws.{Within-le, all_within_lem}
use Rattle.integer.specs.Tests.{eq_z}
use Rattle.scope.specs.Claim.{most_scale, most_load, most_stress, most_multiplier}
use Rattle.scope.specs.Columns.{at, has_field, has_multipliers, n, l}
use Rattle.scope.specs.Layout.{groups, numbers_before}
use Rattle.scope.specs.Mesh.{strength_multiplier, nodes, elements, edges, sides, jumps, equality_count}
use Rattle.scope.specs.Rows.{pair_count}
use Rattle.scope.specs.Claim.{claim_header, claim_layout, if_there, stress_lines, stress, multiplier}
use Rattle.scope.proofs.SideLimits.{strength_most}
use Rattle.scope.specs.NumberRanges.{ClaimFacts}
use Rattle.scope.proofs.SumBounds.{between, from_0}
use Rattle.criterion.specs.StrengthContracts.{multipliers_from}

-- ---- places

stress_is : (m c : List ℤ) → stress m c ≡ at (drop 4 c)
unfolding stress at groups claim_layout claim_header numbers_before
stress_is m c = fun_ext (λ j. sym (get_or-drop 4 c j (pos 0)))

multiplier_is : (m c : List ℤ) → multiplier m c ≡ at (drop (multipliers_from m c) c)
unfolding multiplier at groups claim_layout claim_header stress_lines numbers_before multipliers_from
multiplier_is m c =
    fun_ext
    (λ j. ap (λ n. get_or c (n + j) (pos 0)) (omega arith) ∙ sym (get_or-drop (multipliers_from m c) c j (pos 0)))

-- where the multipliers begin, as the code counts it
pub start_is : (m c : List ℤ) {k r : ℕ} → k ≡ nodes m → r ≡ 4 + if_there (has_field c) k * 3
    → r ≡ multipliers_from m c
unfolding multipliers_from
start_is m c ek e = e ∙ ap (λ k. 4 + if_there (has_field c) k * 3) ek

-- ---- a claim by its facts

-- a part is there whole, or has no lines
flagged : {z : ℤ} → (z ≡ pos 0) ⊎ (z ≡ pos 1) → (k : ℕ)
    → (z ≡ pos 1 → if_there (eq_z z (pos 1)) k ≡ k) × (z ≡ pos 0 → if_there (eq_z z (pos 1)) k ≡ 0)
unfolding if_there
flagged f k = (λ e. rw e, λ e. rw e)

module _ {m c : List ℤ} (f : ClaimFacts m c) where
  field-there : at c 0 ≡ pos 1 → (k : ℕ) → if_there (has_field c) k ≡ k
  unfolding has_field
  field-there e k = (flagged f.field_flag k).0 e

  field_not : at c 0 ≡ pos 0 → (k : ℕ) → if_there (has_field c) k ≡ 0
  unfolding has_field
  field_not e k = (flagged f.field_flag k).1 e

  multipliers_there : at c 1 ≡ pos 1 → (k : ℕ) → if_there (has_multipliers c) k ≡ k
  unfolding has_multipliers
  multipliers_there e k = (flagged f.multipliers_flag k).0 e

  multipliers_not : at c 1 ≡ pos 0 → (k : ℕ) → if_there (has_multipliers c) k ≡ 0
  unfolding has_multipliers
  multipliers_not e k = (flagged f.multipliers_flag k).1 e

  -- where the claim ends
  with_multipliers_lem : at c 1 ≡ pos 1
      → length c ≡ multipliers_from m c + equality_count m + pair_count m * sides m
  unfolding multipliers_from
  with_multipliers_lem e =
      f.size
      ∙ rw (
        multipliers_there e (elements m),
        multipliers_there e (edges m),
        multipliers_there e (jumps m),
        multipliers_there e (pair_count m),
      )
      (omega arith)

  without_multipliers : at c 1 ≡ pos 0 → length c ≡ multipliers_from m c
  unfolding multipliers_from
  without_multipliers e =
      f.size
      ∙ rw (
        multipliers_not e (elements m),
        multipliers_not e (edges m),
        multipliers_not e (jumps m),
        multipliers_not e (pair_count m),
      )
      (omega (arith, zero-mul (sides m)))

  -- each number within its limit
  stress-within : at c 0 ≡ pos 1 → (j : ℕ) → j < nodes m * 3 → Within most_stress (at c (4 + j))
  unfolding stress groups claim_layout claim_header numbers_before
  stress-within e j h = between (f.stress_range e j h)

  multiplier-at : (k : ℕ) → multiplier m c k ≡ at c (multipliers_from m c + k)
  unfolding multiplier groups claim_layout claim_header stress_lines numbers_before multipliers_from
  multiplier-at k = ap (λ n. at c (n + k)) (omega arith)

  equality_within : at c 1 ≡ pos 1 → (k : ℕ) → k < equality_count m
      → Within most_multiplier (at c (multipliers_from m c + k))
  equality_within e k h = subst (Within most_multiplier) (multiplier-at k) (between (f.equality_range e k h))

  strength_within : at c 1 ≡ pos 1 → (k : ℕ) → k < pair_count m * sides m
      → Within (strength_multiplier (sides m)) (at c (multipliers_from m c + (equality_count m + k)))
  strength_within e k h =
      subst (Within (strength_multiplier (sides m))) (multiplier-at _) (from_0 (f.strength_range e k h))

  before_multipliers : (i : ℕ) → 4 + i < multipliers_from m c → Within most_stress (at c (4 + i))
  unfolding multipliers_from
  before_multipliers i l = ⊎_elim none some f.field_flag
    where
      none : at c 0 ≡ pos 0 → Within most_stress (at c (4 + i))
      none e = absurd (omega (arith, field_not e (nodes m)))

      some : at c 0 ≡ pos 1 → Within most_stress (at c (4 + i))
      some e = stress-within e i (omega (arith, field-there e (nodes m)))

-- ---- the claim from a place on, as it is lent

abbrev pub rest : ℕ → List ℤ → List ℤ
rest k c = take (length c - k) (drop k c)

rest_is : (k : ℕ) (l : List ℤ) → rest k l ≡ drop k l
rest_is k l = take_all (length l - k) (drop k l) (omega (arith, length-drop k l))

rest_length : (k : ℕ) (l : List ℤ) → length (rest k l) ≡ length l - k
rest_length k l = ap length (rest_is k l) ∙ length-drop k l

rest-at : (k : ℕ) (l : List ℤ) (i : ℕ) → at (rest k l) i ≡ at l (k + i)
unfolding at
rest-at k l i = ap (λ z. get_or z i (pos 0)) (rest_is k l) ∙ get_or-drop k l i (pos 0)

pub stress_of : (m c : List ℤ) → at (rest 4 c) ≡ stress m c
stress_of m c = ap at (rest_is 4 c) ∙ sym (stress_is m c)

module _ (m c : List ℤ) {k : ℕ} (e : k ≡ multipliers_from m c) where
  -- the multipliers are all that follows, from place k on
  pub multiplier_of : at (rest k c) ≡ multiplier m c
  multiplier_of = rw e (ap at (rest_is _ c) ∙ sym (multiplier_is m c))

  at_row : {B : ℕ} (i : ℕ) → Within B (at c (multipliers_from m c + i)) → Within B (at (rest k c) i)
  at_row {B} i h = subst (Within B) (sym (rest-at k c i ∙ ap (λ j. at c (j + i)) e)) h

  module _ (f : ClaimFacts m c) where
    abbrev rows : ℕ
    rows = equality_count m + pair_count m * sides m

    all_counted : length (rest k c) ≡ if_there (has_multipliers c) rows
    all_counted = ⊎_elim none some f.multipliers_flag
      where
        none : at c 1 ≡ pos 0 → length (rest k c) ≡ if_there (has_multipliers c) rows
        none z = omega (arith, rest_length k c, without_multipliers f z, multipliers_not f z rows)

        some : at c 1 ≡ pos 1 → length (rest k c) ≡ if_there (has_multipliers c) rows
        some z = omega (arith, rest_length k c, with_multipliers_lem f z, multipliers_there f z rows)

    all_within : AllWithin most_multiplier (rest k c)
    unfolding at
    all_within =
        all_within_lem (rest k c)
        (λ i h. ⊎_elim (none i h) (λ z. some i h z (dec_lt i (equality_count m))) f.multipliers_flag)
      where
        none : (i : ℕ) → i < length (rest k c) → at c 1 ≡ pos 0 → Within most_multiplier (at (rest k c) i)
        none i h z = absurd (omega (arith, rest_length k c, without_multipliers f z))

        some : (i : ℕ) → i < length (rest k c) → at c 1 ≡ pos 1 → Dec (i < equality_count m)
            → Within most_multiplier (at (rest k c) i)
        some i h z (yes d) = at_row i (equality_within f z i d)
        some i h z (no d) =
            let j : ℕ = i - (equality_count m) in
            let same : equality_count m + j ≡ i = omega arith in
            let few : j < pair_count m * sides m = omega (arith, rest_length k c, with_multipliers_lem f z) in
            let w = at_row (equality_count m + j) (strength_within f z j few) in
            subst (λ i. Within most_multiplier (at (rest k c) i)) same
            (Within-le w (omega (arith, strength_most (sides m))))

    each_strength : (i : ℕ) → i < pair_count m * sides m
        → Within (strength_multiplier (sides m)) (at (rest k c) (equality_count m + i))
    unfolding at
    each_strength i h =
        ⊎_elim none (λ z. at_row (equality_count m + i) (strength_within f z i h)) f.multipliers_flag
      where
        none : at c 1 ≡ pos 0 → Within (strength_multiplier (sides m)) (at (rest k c) (equality_count m + i))
        none z =
            let past : length (rest k c) ≤ equality_count m + i =
            omega (arith, rest_length k c, without_multipliers f z) in
            rw (get_or_past (rest k c) (equality_count m + i) (pos 0) past) (record { within = zero-le })

-- what follows the header is within the stresses' limit, the multipliers too
each_stress : {m c : List ℤ} → ClaimFacts m c → AllWithin most_stress (rest 4 c)
unfolding at
each_stress {m} {c} f =
    record {
      each = λ i. subst (Within most_stress) (sym (rest-at 4 c i)) (by i (dec_lt (4 + i) (multipliers_from m c)));
    }
  where
    by : (i : ℕ) → Dec (4 + i < multipliers_from m c) → Within most_stress (at c (4 + i))
    by i (yes l) = before_multipliers f i l
    by i (no l) =
        let j : ℕ = 4 + i - (multipliers_from m c) in
        let same : multipliers_from m c + j ≡ 4 + i = omega arith in
        subst (Within most_stress) (rest-at (multipliers_from m c) c j ∙ ap (at c) same)
        (Within-le ((all_within m c refl f).each j) (omega arith))

-- ---- of a claim whose lines have passed: its facts are known truncated, and each goal here has one proof

within_one : {B : ℕ} (z : ℤ) → IsProp (Within B z)
within_one z x y = λ i. record { within = le_prop x.within y.within i }

all_within_one : {B : ℕ} (l : List ℤ) → IsProp (AllWithin B l)
all_within_one l x y = λ i. record { each = λ k. within_one (get_or l k (pos 0)) (x.each k) (y.each k) i }

module _ {m c : List ℤ} (t : ∥ ClaimFacts m c ∥₁) where
  pub scale_within : Within most_scale (n c)
  scale_within = ∥∥₁_elim t (within_one _) (λ f. from_0 f.n_range)

  pub load_within : Within most_load (l c)
  load_within = ∥∥₁_elim t (within_one _) (λ f. between f.l_range)

  -- a field's stresses are there, three for each node
  pub stresses_there : has_field c ≡ true → 3 * nodes m ≤ length (rest 4 c)
  unfolding if_there
  stresses_there e =
      ∥∥₁_elim t le_prop
      (λ f. let lines : if_there (has_field c) (nodes m) ≡ nodes m = rw e in omega (arith, rest_length 4 c, f.size))

  pub stresses_within : AllWithin most_stress (rest 4 c)
  stresses_within = ∥∥₁_elim t (all_within_one _) each_stress

  -- the multipliers, from place k on
  module _ {k : ℕ} (e : k ≡ multipliers_from m c) where
    pub multipliers_start : k ≤ length c
    unfolding multipliers_from
    multipliers_start = ∥∥₁_elim t le_prop (λ f. omega (arith, f.size))

    pub multipliers_counted : length (rest k c)
        ≡ if_there (has_multipliers c) (equality_count m + pair_count m * sides m)
    multipliers_counted = ∥∥₁_elim t (ℕ_set _ _) (all_counted m c e)

    pub multipliers_within : AllWithin most_multiplier (rest k c)
    multipliers_within = ∥∥₁_elim t (all_within_one _) (all_within m c e)

    pub strengths_within : (i : ℕ) → i < pair_count m * sides m
        → Within (strength_multiplier (sides m)) (at (rest k c) (equality_count m + i))
    strengths_within i h = ∥∥₁_elim t (within_one _) (λ f. each_strength m c e f i h)
