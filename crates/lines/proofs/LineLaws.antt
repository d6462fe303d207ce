-- Laws of the check of one line, one for each return and each turn of a loop: numbers within limits by induction on
-- the list, form and limits and rules by the tests that led there.
use mathlib.Core.Path.{◌≡◌, refl, sym, ◌∙◌, ap, ap₂, subst}
use mathlib.Core.Bool.{Bool, true, false, cond, not, ◌&&◌, ◌||◌, and-true}
use mathlib.Core.List.{List, [], ◌∷◌, ◌++◌, map}
use Rattle.std.proofs.Math.Bool.{and_assoc}
use Prim.Native.Nat.{ℕ, zero, suc, ◌+◌, ◌<◌, ◌≤◌}
use native.Mathlib.Decide.{dec_lt}
use native.Mathlib.Omega.{arith}
use lib.IntN.{ℤ, pos, negsuc, ◌+ℤ◌, ◌*ℤ◌}
use lib.Signed.{le_z, le_z_yes}
use lib.Dec.{T, leb, leb→le}
use lib.Ieee.Bits.{is_true, is_false}
use lib.ListN.{length, get_or, take, drop, replicate, length-take}
use lib.Seq.{drop-cons}
use borrow.Author.Tests.{eq-eqb, ne_eqb, le-leb}
use mir.Syntax.{w64}
use mir.Val.{SFits, to_z, of_z}
use mir.Facts.{to_z-of_z, to_z_pos}
use Rattle.integer.specs.Bounds.{Within}
use Rattle.integer.proofs.Machine.{Within-SFits}
use Rattle.integer.proofs.Order.{≤ℤ_pos}
use Rattle.integer.specs.Tests.{eq_z}
use Rattle.integer.proofs.TestLaws.{eq_z_yes, yes_eq_z, no_eq_z}
use Rattle.std.specs.Bool.{Decides}
use Rattle.std.specs.List.{list_any}
use Rattle.std.specs.Ordering.{int_eq}
use Rattle.std.proofs.lemmas.Bool.Decides.{same_from_decides, Decides-int_eq}
use Rattle.scope.specs.declared.Place.{Place}
use Rattle.scope.specs.declared.Place.TheVariants.{Line}
use Rattle.scope.specs.Cases.Outcome.{Passed, Refused}
use Rattle.scope.specs.Checks.{demand, ◌then◌}
use Rattle.scope.proofs.Checks.{demand_then}
use Rattle.scope.specs.Columns as C
use Rattle.scope.specs.Columns.{Limit, between, free, within, is_one_of, all_within, Rule, right_angle, naming, parts}
use Rattle.scope.specs.Columns.{at_most_where}
use Rattle.scope.specs.Columns.{has_field, has_multipliers, names, all_named, rule_test, at}
use Rattle.scope.specs.Layout.{Group, Layout, width, groups, line_of, line_numbers}
use Rattle.scope.specs.Verdict.{line_check, line_at, rules_hold}
use Rattle.scope.specs.Mesh.{most_nodes, most_sides, listed_sides, nodes_for_108, most_jumps, mesh_header_columns}
use Rattle.scope.specs.Mesh.{soil_columns, mesh_layout, layout_with}
use Rattle.scope.specs.Mesh.{mesh_header, soil_lines, element_lines, edge_lines, jump_lines}
use Rattle.scope.specs.Table.{layer_lines}
use Rattle.mesh.specs.declared.sizes.Sizes.{Sizes}
use Rattle.lines.specs.declared.layout.Rule.{Rule as Lines}
use Rattle.lines.specs.declared.layout.Rule.TheVariants.{Soil, Element, Tabled, Edge, Jump, Layer}
use Rattle.lines.specs.Table.{ruled_lines, rule_width}
use Rattle.scope.proofs.Refusals.{line_check_passed}
use Rattle.scope.specs.Refusals.{rule_number}

-- ---- a number and a limit

-- numbers as the machine reads them
abbrev pub read : ℤ → ℤ
read z = to_z w64 (of_z w64 z)

pub read_limit : {lo hi : ℤ} → SFits w64 lo → SFits w64 hi → between (read lo) (read hi) ≡ between lo hi
read_limit f g = ap₂ between (to_z-of_z f) (to_z-of_z g)

-- what a test `!t` says of t, where t is b
pub not_so : {t b : Bool} → t ≡ b → t ≡ false → b ≡ false
not_so e h = sym e ∙ h

pub so : {t b : Bool} → t ≡ b → t ≡ true → b ≡ true
so e h = sym e ∙ h

-- ---- the library's tests of equality

pub Decides-eq_z : (x y : ℤ) → Decides (eq_z x y) (x ≡ y)
Decides-eq_z x y = (λ e. eq_z_yes (subst T (sym e) tt), λ e. is_true (eq_z x y) (yes_eq_z e))

pub listed : (z : ℤ) (zs : List ℤ) → list_any (λ y. int_eq y z) zs ≡ is_one_of zs z
unfolding is_one_of
listed z [] = refl
listed z (y ∷ zs) =
    let back = Decides-eq_z z y in
    ap₂ ◌||◌
    (same_from_decides (int_eq y z) (eq_z z y) (Decides-int_eq y z) (λ e. sym (back.0 e), λ e. back.1 (sym e)))
    (listed z zs)

-- ---- limits

-- numbers after the last limit are not looked at
pub front_within : (ls : List Limit) (w : ℕ) (s : List ℤ) → length ls ≤ w → all_within ls (take w s) ≡ all_within ls s
unfolding all_within
front_within [] w s h = refl
front_within (a ∷ ls) zero s h = absurd (omega arith)
front_within (a ∷ ls) (suc w) [] h = refl
front_within (a ∷ ls) (suc w) (z ∷ s) h = ap (λ (b : Bool). within a z && b) (front_within ls w s (omega arith))

-- the first limits, and then the others
pub split_within : (ls ks : List Limit) (s : List ℤ)
    → all_within (ls ++ ks) s ≡ all_within ls s && all_within ks (drop (length ls) s)
unfolding all_within
split_within [] ks s = refl
split_within (a ∷ ls) [] [] = refl
split_within (a ∷ ls) (b ∷ ks) [] = refl
split_within (a ∷ ls) ks (z ∷ s) = ap (λ (t : Bool). within a z && t) (split_within ls ks s)
    ∙ sym (and_assoc (within a z) (all_within ls s) (all_within ks (drop (length ls) s)))

-- ---- a line: form, limits, rules

pub line_short : (f : Layout) (g : Group) (s : List ℤ) (p : Place) → length s < width g
    → Refused f.form_number p ≡ line_check f g (take (width g) s) p
unfolding line_check
line_short f g s p h =
    rw (ne_eqb (length (take (width g) s)) (width g) (λ e. omega (arith, length-take (width g) s, e)))

-- none of its numbers is missing
pub line_limits : (f : Layout) (g : Group) (line : List ℤ) (p : Place) {b : Bool} → length line ≡ width g
    → all_within g.limits line ≡ b → demand b f.limit_number p then rules_hold g.rules line p ≡ line_check f g line p
unfolding line_check rules_hold
line_limits f g line p {b} whole w = demand_then b f.limit_number p (rules_hold g.rules line p)
    ∙ rw (eq-eqb (length line) (width g) whole, w)

-- what a test `a <= b` says that fails
pub past_end : (a b : ℕ) → leb a b ≡ false → b < a
past_end a b e = by (dec_lt b a)
  where
    by : Dec (b < a) → b < a
    by (yes l) = l
    by (no l) = absurd (subst T (sym (le-leb a b (omega arith)) ∙ e) tt)

pub not_past_end : (a b : ℕ) → leb a b ≡ true → a ≤ b
not_past_end a b e = leb→le a b (subst T (sym e) tt)

-- it has as many numbers as columns, or is too short
pub line_there : (f : Layout) (g : Group) (s : List ℤ) (p : Place) (b : Bool) → (b ≡ false → length s < width g)
    → demand b f.form_number p then line_check f g (take (width g) s) p ≡ line_check f g (take (width g) s) p
line_there f g s p true h = refl
line_there f g s p false h = line_short f g s p (h refl)

-- a line with one rule
pub one_rule : (r : Rule) (line : List ℤ) (p : Place) {b : Bool} → rule_test r line ≡ b
    → demand b (rule_number r) p ≡ rules_hold (r ∷ []) line p
unfolding rules_hold
one_rule r line p e = rw e

-- neither how many things a mesh has nor how many lines there are matters
pub width_is : (r : Lines) (z : Sizes) (n : ℕ) → width (ruled_lines r z n) ≡ rule_width r
unfolding ruled_lines soil_lines element_lines edge_lines jump_lines layer_lines
width_is Soil z n = refl
width_is Element z n = refl
width_is Tabled z n = refl
width_is Edge z n = refl
width_is Jump z n = refl
width_is Layer z n = refl

pub wide : {rule : Lines} (r : Lines) {n : ℕ} → rule ≡ r → n ≡ rule_width rule → n ≡ rule_width r
wide r e h = h ∙ ap rule_width e

-- a line that has passed is whole
pub passed_whole : (f : Layout) (g : Group) (line : List ℤ) (p : Place) → line_check f g line p ≡ Passed
    → length line ≡ width g
passed_whole f g line p e = ((line_check_passed f g line p).says e).0

-- ---- a soil

pub both_true : (a b : Bool) → a && b ≡ true → (a ≡ true) × (b ≡ true)
both_true true b e = (refl, e)
both_true false b e = absurd (subst T (sym e) tt)

pub small : (l B : ℕ) (z : ℤ) → within (between (pos l) (pos B)) z ≡ true → Within B z
unfolding within
small l B (pos n) e = record { within = ≤ℤ_pos (le_z_yes (subst T (sym (both_true (le_z (pos l) (pos n)) _ e).1) tt)) }
small l B (negsuc n) e = absurd (subst T (sym e) tt)

-- p, q and h within 1000
pub record SmallAngle (s : List ℤ) : Type 0 where
  pub p : Within 1000 (get_or s 0 (pos 0))
  pub q : Within 1000 (get_or s 1 (pos 0))
  pub h : Within 1000 (get_or s 2 (pos 0))

pub small_angle : (k : ℕ) (s : List ℤ) → soil_columns ≤ length s → all_within (soil_lines 0 k).limits s ≡ true
    → SmallAngle s
unfolding soil_lines all_within
small_angle k [] l e = absurd (omega arith)
small_angle k (p ∷ []) l e = absurd (omega arith)
small_angle k (p ∷ q ∷ []) l e = absurd (omega arith)
small_angle k (p ∷ q ∷ h ∷ s) l e =
    let a = both_true _ _ e in
    let b = both_true _ _ a.1 in
    let d = both_true _ _ b.1 in
    record { p = small 0 1000 p a.0; q = small 1 1000 q b.0; h = small 1 1000 h d.0 }

-- the rule of a soil, of the numbers as the machine reads them
pub angle_read : (s : List ℤ) → SmallAngle s →
    rule_test right_angle s
    ≡ eq_z
    (read (get_or s 0 (pos 0)) *ℤ read (get_or s 0 (pos 0)) +ℤ read (get_or s 1 (pos 0)) *ℤ read (get_or s 1 (pos 0)))
    (read (get_or s 2 (pos 0)) *ℤ read (get_or s 2 (pos 0)))
unfolding rule_test at
angle_read s a =
    rw (
      to_z-of_z (Within-SFits a.p (omega arith)),
      to_z-of_z (Within-SFits a.q (omega arith)),
      to_z-of_z (Within-SFits a.h (omega arith)),
    )

-- ---- numbers that name things

pub all_free : (k : ℕ) (s : List ℤ) → all_within (replicate k free) s ≡ true
unfolding all_within within
all_free zero s = refl
all_free (suc k) [] = refl
all_free (suc k) (z ∷ s) = all_free k s

-- a count as the machine casts it
pub cast_count : (n : ℕ) → n ≤ most_nodes → to_z w64 n ≡ pos n
cast_count n h = to_z_pos w64 (omega arith)

-- the columns from column k on, each with the least and the most that it may name
abbrev pub columns_from : ℕ → List (ℕ × ℕ) → List (ℕ × ℕ × ℕ)
columns_from k [] = []
columns_from k (b ∷ bs) = (k, b.0, b.1) ∷ columns_from (suc k) bs

abbrev pub named : ℕ × ℕ → Limit
named b = between (pos b.0) (pos b.1)

-- they have limits of their own
pub names_within : (bs : List (ℕ × ℕ)) (k : ℕ) (s : List ℤ) → k + length bs ≤ length s
    → rule_test (naming (columns_from k bs)) s ≡ all_within (map named bs) (drop k s)
unfolding rule_test all_named names at all_within within
names_within [] k s h = refl
names_within (b ∷ bs) k s h = rw (drop-cons s k (pos 0) (omega arith))
    (ap (λ (t : Bool). within (named b) (get_or s k (pos 0)) && t) (names_within bs (suc k) s (omega arith)))

-- so a line whose one rule is that they are named is refused where these limits fail
pub names_check : (bs : List (ℕ × ℕ)) (k : ℕ) (s : List ℤ) (p : Place) {b : Bool} → k + length bs ≤ length s
    → b ≡ all_within (map named bs) (drop k s) → demand b 4 p ≡ rules_hold (naming (columns_from k bs) ∷ []) s p
unfolding rule_number
names_check bs k s p l e = one_rule (naming (columns_from k bs)) s p (names_within bs k s l ∙ sym e)

pub edge_limits : (ns : ℕ) (s : List ℤ) → all_within (edge_lines 0 ns).limits s
    ≡ all_within (drop 2 (edge_lines 0 ns).limits) (drop 2 s)
unfolding edge_lines all_within within
edge_limits ns [] = refl
edge_limits ns (a ∷ []) = refl
edge_limits ns (a ∷ b ∷ s) = refl

-- a layer: two limits, and the name of its soil
pub layer_limits : (ss : ℕ) (s : List ℤ) → all_within (layer_lines 0 ss).limits s
    ≡ all_within (take 2 (layer_lines 0 ss).limits) (take 2 s)
unfolding layer_lines all_within within
layer_limits ss [] = refl
layer_limits ss (a ∷ []) = refl
layer_limits ss (a ∷ b ∷ []) = refl
layer_limits ss (a ∷ b ∷ d ∷ s) = refl

-- ---- the header of a mesh

pub mesh_header_line : (m : List ℤ) → line_check mesh_layout mesh_header (take mesh_header_columns m) (Line 1)
    ≡ line_at mesh_layout m 0
unfolding line_at line_of groups line_numbers layout_with mesh_header
mesh_header_line m = refl

-- the number of sides z is listed, and the number of jumps j is within its limits
abbrev pub last_of_header : ℤ → ℤ → Bool
last_of_header z j = is_one_of listed_sides z && within (between (pos 0) (pos most_jumps)) j

pub last_read : {z j : ℤ} → SFits w64 z → SFits w64 j → last_of_header z j ≡ last_of_header (read z) (read j)
last_read f g = ap₂ last_of_header (sym (to_z-of_z f)) (sym (to_z-of_z g))

-- the limits of the counts, and then the numbers of sides and of jumps
pub mesh_header_limits : (m : List ℤ) → mesh_header_columns ≤ length m →
    all_within mesh_header.limits (take mesh_header_columns m)
    ≡ all_within (take 4 mesh_header.limits) (take 4 m) && last_of_header (get_or m 4 (pos 0)) (get_or m 5 (pos 0))
unfolding mesh_header all_within within
mesh_header_limits m l =
    front_within mesh_header.limits mesh_header_columns m (omega arith)
    ∙ split_within (take 4 mesh_header.limits) (drop 4 mesh_header.limits) m
    ∙ ap₂ ◌&&◌ (sym (front_within (take 4 mesh_header.limits) 4 m (omega arith)))
    (rw (
      drop-cons m 4 (pos 0) (omega arith),
      drop-cons m 5 (pos 0) (omega arith),
      and-true (within (between (pos 0) (pos most_jumps)) (get_or m 5 (pos 0))),
    ) refl)

pub first_fails : {a d : Bool} (b : Bool) → d ≡ a && b → a ≡ false → d ≡ false
first_fails b e f = e ∙ rw f

pub second_decides : {a b d : Bool} → d ≡ a && b → a ≡ true → d ≡ b
second_decides e f = e ∙ rw f

-- its rule, of the numbers as the machine reads them
pub nodes_read : (m : List ℤ) → mesh_header_columns ≤ length m
    → SFits w64 (get_or m 0 (pos 0)) → SFits w64 (get_or m 4 (pos 0))
    → rule_test (at_most_where 0 nodes_for_108 4 most_sides) (take mesh_header_columns m)
    ≡ cond (eq_z (read (get_or m 4 (pos 0))) (pos most_sides))
    (le_z (read (get_or m 0 (pos 0))) (pos nodes_for_108)) true
unfolding rule_test at
nodes_read [] l f g = absurd (omega arith)
nodes_read (a ∷ []) l f g = absurd (omega arith)
nodes_read (a ∷ b ∷ []) l f g = absurd (omega arith)
nodes_read (a ∷ b ∷ d ∷ []) l f g = absurd (omega arith)
nodes_read (a ∷ b ∷ d ∷ e ∷ []) l f g = absurd (omega arith)
nodes_read (a ∷ b ∷ d ∷ e ∷ z ∷ m) l f g = rw (to_z-of_z f, to_z-of_z g) refl

-- ---- the header of a claim

-- its rule, by what is there
module _ (f g n l : ℤ) where
  pub with_field_lem : f ≡ pos 1 → not (eq_z n (pos 0)) ≡ rule_test parts (f ∷ g ∷ n ∷ l ∷ [])
  unfolding rule_test has_field has_multipliers C.n C.l at
  with_field_lem e = rw e

  pub no_part : ¬ (f ≡ pos 1) → ¬ (g ≡ pos 1) → false ≡ rule_test parts (f ∷ g ∷ n ∷ l ∷ [])
  unfolding rule_test has_field has_multipliers C.n C.l at
  no_part a b = rw (is_false (eq_z f (pos 1)) (no_eq_z a), is_false (eq_z g (pos 1)) (no_eq_z b))

  pub no_field_but_n : ¬ (f ≡ pos 1) → g ≡ pos 1 → ¬ (n ≡ pos 0) → false ≡ rule_test parts (f ∷ g ∷ n ∷ l ∷ [])
  unfolding rule_test has_field has_multipliers C.n C.l at
  no_field_but_n a b d = rw (is_false (eq_z f (pos 1)) (no_eq_z a), b, is_false (eq_z n (pos 0)) (no_eq_z d))

  pub no_field : ¬ (f ≡ pos 1) → g ≡ pos 1 → n ≡ pos 0 → eq_z l (pos 0) ≡ rule_test parts (f ∷ g ∷ n ∷ l ∷ [])
  unfolding rule_test has_field has_multipliers C.n C.l at
  no_field a b d = rw (is_false (eq_z f (pos 1)) (no_eq_z a), b, d)

-- the rule of the numbers as the machine reads them
pub parts_read : (c : List ℤ) → SFits w64 (get_or c 0 (pos 0)) → SFits w64 (get_or c 1 (pos 0))
    → SFits w64 (get_or c 2 (pos 0)) → SFits w64 (get_or c 3 (pos 0)) →
    rule_test parts c
    ≡ rule_test parts
    (read (get_or c 0 (pos 0)) ∷ read (get_or c 1 (pos 0)) ∷ read (get_or c 2 (pos 0)) ∷ read (get_or c 3 (pos 0)) ∷ [])
unfolding rule_test has_field has_multipliers C.n C.l at
parts_read c f g h i = rw (to_z-of_z f, to_z-of_z g, to_z-of_z h, to_z-of_z i)
