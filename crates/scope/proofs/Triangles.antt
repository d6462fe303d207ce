-- An element has three corners or four, by whether its third and fourth node are the same; a turn at two equal nodes is
-- 0, so no other repeat turns left. Without triangles the corners around an element are its four, and each check is
-- document 01's.
use mathlib.Core.Path.{◌≡◌, refl, sym, ◌∙◌, ap, subst}
use mathlib.Core.Logic.{◌↔◌}
use mathlib.Core.List.{List, [], ◌∷◌}
use Prim.Native.Nat.{ℕ, zero, suc, ◌+◌, ◌-◌, ◌%◌, ◌<◌, ◌≤◌}
use native.Mathlib.Nat.{mod-lt}
use native.Mathlib.Omega.{arith}
use lib.Dec.{eqb, lit<}
use lib.IntN.{ℤ, pos}
use lib.Signed.{◌<ℤ◌, <ℤ_irrefl}
use borrow.Author.Tests.{eqb-true, eqb-false, eq-eqb, ne_eqb}
use borrow.Table.Steps.{cases}
use Rattle.integer.proofs.Ring.{ring, terms}
use Rattle.scope.specs.Mesh.{elements, x, y, corner, corner_count, around}
use Rattle.scope.specs.Rows.{node}
use Rattle.scope.specs.Tests.{turn}
use Rattle.scope.specs.Statements.{LeftTurns, OwnSides, IsSide, OuterEdge}
use Rattle.scope.specs.Triangles.{OnlyRepeat, ReadAsTriangle, FourLeftTurns, OwnSidesBefore, SideBefore}
use Rattle.scope.specs.Triangles.{OuterEdgeBefore, PassedBefore, SameAnswer, SameRefusals, NoTriangles}
use Rattle.scope.specs.Triangles.{WithoutTriangles}

-- ---- three or four

pub three_corners : (m : List ℤ) (e : ℕ) → corner m e 2 ≡ corner m e 3 → corner_count m e ≡ 3
unfolding corner_count
three_corners m e h = rw (eq-eqb (corner m e 2) (corner m e 3) h)

pub four_corners : (m : List ℤ) (e : ℕ) → (corner m e 2 ≡ corner m e 3 → ⊥) → corner_count m e ≡ 4
unfolding corner_count
four_corners m e h = rw (ne_eqb (corner m e 2) (corner m e 3) h)

-- an element by its number of corners, with what is known of its third and its fourth
pub data Shape (m : List ℤ) (e : ℕ) : Type 0 where
  triangle : corner m e 2 ≡ corner m e 3 → corner_count m e ≡ 3 → Shape m e
  quadrilateral : (corner m e 2 ≡ corner m e 3 → ⊥) → corner_count m e ≡ 4 → Shape m e

pub shape_of : (m : List ℤ) (e : ℕ) → Shape m e
shape_of m e =
    cases (eqb (corner m e 2) (corner m e 3))
    (λ t. let h = eqb-true (corner m e 2) (corner m e 3) t in triangle h (three_corners m e h))
    (λ t. let h = eqb-false (corner m e 2) (corner m e 3) t in quadrilateral h (four_corners m e h))

pub some_corners : (m : List ℤ) (e : ℕ) → (3 ≤ corner_count m e) × (corner_count m e ≤ 4)
some_corners m e = by (shape_of m e)
  where
    by : Shape m e → (3 ≤ corner_count m e) × (corner_count m e ≤ 4)
    by (triangle h c) = (omega arith, omega arith)
    by (quadrilateral h c) = (omega arith, omega arith)

-- a place around an element is one of its four
pub around_below : (m : List ℤ) (e i : ℕ) → i % corner_count m e < 4
around_below m e i = let (l, h) = some_corners m e in omega (arith, mod-lt i {m = corner_count m e} (omega arith))

pub around_is : (m : List ℤ) (e i k : ℕ) → corner_count m e ≡ k → around m e i ≡ corner m e (i % k)
unfolding around
around_is m e i k h = ap (λ (n : ℕ). corner m e (i % n)) h

-- ---- turns at equal nodes

module _ (m : List ℤ) (a b : ℕ) where
  pub turn_aab : turn m a a b ≡ pos 0
  unfolding turn
  turn_aab = ring (x m a ∷ x m b ∷ y m a ∷ y m b ∷ []) (search terms depth 100) refl

  turn_abb : turn m a b b ≡ pos 0
  unfolding turn
  turn_abb = ring (x m a ∷ x m b ∷ y m a ∷ y m b ∷ []) (search terms depth 100) refl

  turn_aba : turn m a b a ≡ pos 0
  unfolding turn
  turn_aba = ring (x m a ∷ x m b ∷ y m a ∷ y m b ∷ []) (search terms depth 100) refl

never : {z : ℤ} → z ≡ pos 0 → pos 0 <ℤ z → ⊥
never e h = <ℤ_irrefl (subst (λ z. pos 0 <ℤ z) e h)

-- three nodes that turn left are different
pub record Different (a b c : ℕ) : Type 0 where
  pub first_second : a ≡ b → ⊥
  pub second_third : b ≡ c → ⊥
  pub first_third : a ≡ c → ⊥

pub turns_different : (m : List ℤ) (a b c : ℕ) → pos 0 <ℤ turn m a b c → Different a b c
turns_different m a b c h = record {
  first_second = λ e. never (ap (λ v. turn m v b c) e ∙ turn_aab m b c) h;
  second_third = λ e. never (ap (λ v. turn m a v c) e ∙ turn_abb m a c) h;
  first_third = λ e. never (ap (λ v. turn m v b c) e ∙ turn_aba m c b) h;
}

-- ---- the statements

-- the left turn at corner i of an element with k corners
pub turn_at : (m : List ℤ) (e k : ℕ) → corner_count m e ≡ k → LeftTurns m e → (i : ℕ) → i < k
    → pos 0 <ℤ turn m (corner m e ((i + (k - 1)) % k)) (corner m e (i % k)) (corner m e ((i + 1) % k))
unfolding around
turn_at m e k c left i h =
    subst (λ (n : ℕ). pos 0 <ℤ turn m (corner m e ((i + (n - 1)) % n)) (corner m e (i % n)) (corner m e ((i + 1) % n)))
    c (left i (omega arith))

-- what holds of each pair of places below 4
six_pairs : (P : ℕ → ℕ → Type 0) → P 0 1 → P 0 2 → P 0 3 → P 1 2 → P 1 3 → P 2 3 → (i j : ℕ) → i < j → j < 4 → P i j
six_pairs P a b c d e f zero zero l h = absurd (omega arith)
six_pairs P a b c d e f zero (suc zero) l h = a
six_pairs P a b c d e f zero (suc (suc zero)) l h = b
six_pairs P a b c d e f zero (suc (suc (suc zero))) l h = c
six_pairs P a b c d e f zero (suc (suc (suc (suc j)))) l h = absurd (omega arith)
six_pairs P a b c d e f (suc zero) zero l h = absurd (omega arith)
six_pairs P a b c d e f (suc zero) (suc zero) l h = absurd (omega arith)
six_pairs P a b c d e f (suc zero) (suc (suc zero)) l h = d
six_pairs P a b c d e f (suc zero) (suc (suc (suc zero))) l h = e
six_pairs P a b c d e f (suc zero) (suc (suc (suc (suc j)))) l h = absurd (omega arith)
six_pairs P a b c d e f (suc (suc zero)) zero l h = absurd (omega arith)
six_pairs P a b c d e f (suc (suc zero)) (suc zero) l h = absurd (omega arith)
six_pairs P a b c d e f (suc (suc zero)) (suc (suc zero)) l h = absurd (omega arith)
six_pairs P a b c d e f (suc (suc zero)) (suc (suc (suc zero))) l h = f
six_pairs P a b c d e f (suc (suc zero)) (suc (suc (suc (suc j)))) l h = absurd (omega arith)
six_pairs P a b c d e f (suc (suc (suc i))) j l h = absurd (omega arith)

abbrev Repeat : List ℤ → ℕ → ℕ → ℕ → Type 0
Repeat m e i j = corner m e i ≡ corner m e j → (i ≡ 2) × (j ≡ 3)

pub only_repeat : (m : List ℤ) (e : ℕ) → OnlyRepeat m e
only_repeat m e left = by (shape_of m e)
  where
    by : Shape m e → (i j : ℕ) → i < j → j < 4 → Repeat m e i j
    by (triangle t c) =
        let d = turns_different m _ _ _ (turn_at m e 3 c left 1 (lit< tt)) in
        six_pairs (Repeat m e)
        (λ h. absurd (d.first_second h)) (λ h. absurd (d.first_third h)) (λ h. absurd (d.first_third (h ∙ sym t)))
        (λ h. absurd (d.second_third h)) (λ h. absurd (d.second_third (h ∙ sym t))) (λ h. (refl, refl))
    by (quadrilateral t c) =
        let d = turns_different m _ _ _ (turn_at m e 4 c left 1 (lit< tt)) in
        let f = turns_different m _ _ _ (turn_at m e 4 c left 3 (lit< tt)) in
        let g = turns_different m _ _ _ (turn_at m e 4 c left 2 (lit< tt)) in
        six_pairs (Repeat m e)
        (λ h. absurd (d.first_second h)) (λ h. absurd (d.first_third h)) (λ h. absurd (f.second_third (sym h)))
        (λ h. absurd (d.second_third h)) (λ h. absurd (g.first_third h)) (λ h. (refl, refl))

pub read_as_triangle : (m : List ℤ) (e : ℕ) → ReadAsTriangle m e
read_as_triangle m e h =
    let c = three_corners m e h in
    record {
      three = c;
      first = around_is m e 0 3 c;
      second = around_is m e 1 3 c;
      third = around_is m e 2 3 c;
      again = around_is m e 3 3 c;
    }

-- four left turns are at four different corners
four_different : (m : List ℤ) (e : ℕ) → FourLeftTurns m e → ¬ (corner m e 2 ≡ corner m e 3)
unfolding node
four_different m e left =
    (turns_different m (corner m e 1) (corner m e 2) (corner m e 3) (left 2 (lit< tt))).second_third

pub passed_before : (m : List ℤ) (e : ℕ) → PassedBefore m e
unfolding node
passed_before m e left =
    let c = four_corners m e (four_different m e left) in
    record { four = c; corners = λ i. around_is m e i 4 c }

-- ---- a mesh without triangles: 5, 6 and 8 are document 01's

same_answer : {count : ℕ} {P Q : ℕ → Type 0} → ((k : ℕ) → k < count → P k ↔ Q k) → SameAnswer count P Q
same_answer same = record {
  pass = (λ all k l. (same k l).0 (all k l), λ all k l. (same k l).1 (all k l));
  fail = λ k. (
    λ f. record {
      there = f.there;
      lower = λ j l. (same j (omega (arith, l, f.there))).0 (f.lower j l);
      fails = λ q. f.fails ((same k f.there).1 q);
    },
    λ f. record {
      there = f.there;
      lower = λ j l. (same j (omega (arith, l, f.there))).1 (f.lower j l);
      fails = λ p. f.fails ((same k f.there).0 p);
    },
  );
}

module _ (m : List ℤ) (none : NoTriangles m) where
  four : (e : ℕ) → e < elements m → corner_count m e ≡ 4
  four e l = four_corners m e (none e l)

  same_corner : (e : ℕ) → e < elements m → (i : ℕ) → around m e i ≡ node m e i
  unfolding node
  same_corner e l i = around_is m e i 4 (four e l)

  -- 5
  same_turns : (e : ℕ) → e < elements m → LeftTurns m e ↔ FourLeftTurns m e
  unfolding around node
  same_turns e l = (
    turn_at m e 4 (four e l),
    λ left. subst (λ (n : ℕ). (i : ℕ) → i < n
        → pos 0 <ℤ turn m (corner m e ((i + (n - 1)) % n)) (corner m e (i % n)) (corner m e ((i + 1) % n)))
        (sym (four e l)) left,
  )

  -- 6
  to_own : (e : ℕ) → e < elements m → OwnSides m e → OwnSidesBefore m e
  to_own e l own i h d b j k s =
      let there : d < elements m = omega arith in
      own i (omega (arith, h, four e l)) d b j (omega (arith, k, four d there)) (
        same_corner d there j ∙ s.0 ∙ sym (same_corner e l i),
        same_corner d there (j + 1) ∙ s.1 ∙ sym (same_corner e l (i + 1)),
      )

  from_own : (e : ℕ) → e < elements m → OwnSidesBefore m e → OwnSides m e
  from_own e l own i h d b j k s =
      let there : d < elements m = omega arith in
      own i (omega (arith, h, four e l)) d b j (omega (arith, k, four d there)) (
        sym (same_corner d there j) ∙ s.0 ∙ same_corner e l i,
        sym (same_corner d there (j + 1)) ∙ s.1 ∙ same_corner e l (i + 1),
      )

  -- 8
  to_side : {a b : ℕ} → IsSide m a b → SideBefore m a b
  to_side s = record {
    element = s.element;
    there = s.there;
    place = s.place;
    four = omega (arith, s.inside, four s.element s.there);
    first = sym (same_corner s.element s.there s.place) ∙ s.same.0;
    second = sym (same_corner s.element s.there (s.place + 1)) ∙ s.same.1;
  }

  from_side : {a b : ℕ} → SideBefore m a b → IsSide m a b
  from_side s = record {
    element = s.element;
    there = s.there;
    place = s.place;
    inside = omega (arith, s.four, four s.element s.there);
    same = (
      same_corner s.element s.there s.place ∙ s.first,
      same_corner s.element s.there (s.place + 1) ∙ s.second,
    );
  }

  same_edge : (g : ℕ) → OuterEdge m g ↔ OuterEdgeBefore m g
  same_edge g = (
    λ e. record {
      is_side = to_side e.outer.is_side;
      reverse_is_none = λ s. e.outer.reverse_is_none (from_side s);
      is_first = e.is_first;
    },
    λ e. record {
      outer = record { is_side = from_side e.is_side; reverse_is_none = λ s. e.reverse_is_none (to_side s) };
      is_first = e.is_first;
    },
  )

  same_refusals : SameRefusals m
  same_refusals = record {
    five = same_answer same_turns;
    six = same_answer (λ e l. (to_own e l, from_own e l));
    eight = same_answer (λ g l. same_edge g);
  }

pub without_triangles : (m : List ℤ) → WithoutTriangles m
without_triangles m =
    record { same = same_refusals m; passed_before = λ left e l. four_different m e (left e l) }
