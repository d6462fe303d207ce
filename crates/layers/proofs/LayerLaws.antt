-- The search for the first layer that has a height, and overlaps by pairs: two layers share a height from lo to hi
-- exactly where both have begun, neither has ended and hi is not passed.
use mathlib.Core.Path.{◌≡◌, refl, sym, ◌∙◌, ap, ap₂, subst}
use mathlib.Core.Bool.{Bool, true, false, cond, not, ◌&&◌}
use mathlib.Core.List.{List}
use Prim.Native.Nat.{ℕ, ◌*◌, ◌≤◌, ◌<◌, max}
use native.Mathlib.Omega.{arith}
use lib.Dec.{T}
use lib.IntN.{ℤ, pos, negsuc, ◌*ℤ◌, nat_abs}
use lib.Signed.{le_z, lt_z, ◌≤ℤ◌, ◌<ℤ◌, ≤ℤ_refl, lt_z_yes, lt_z_no, clash_ℤ}
use Rattle.std.proofs.Common.{Option, None, Some, Ordering, Less, Equal, Greater, is_le, is_lt, int_cmp}
use Rattle.std.specs.Cmp.{int_ranks}
use Rattle.std.specs.Ordering.{MatchOrdering}
use Rattle.std.specs.Int.{int_max}
use Rattle.std.specs.Option.{MatchOption, IfNone, IfSome}
use Rattle.std.proofs.lemmas.Int.{by_lt_z}
use Rattle.integer.specs.Bounds.{Within, Is}
use Rattle.integer.proofs.Machine.{Machine, Flag, peaks, left_below, right_below, flag_le_z, flag_lt_z}
use Rattle.integer.proofs.TestLaws.{same_test}
use Rattle.integer.proofs.Linear.{linear, facts, ◌&◌, nothing}
use Rattle.integer.proofs.Order.{≤ℤ_trans, ≤ℤ_antisym, <ℤ→≤ℤ, <ℤ→≢, ≡→≤ℤ, nonneg, ≤ℤ_pos}
use Rattle.scope.specs.Checks.{some_below}
use Rattle.scope.specs.Rows.{first_where}
use Rattle.scope.specs.Layers.{layers, bottom, top, Has, has, Apart, apart}
use Rattle.scope.proofs.Decides.{Decides, both, opposite, some_below_lem, at_mostℤ, belowℤ, is_yes, is_no}
use Rattle.scope.proofs.Layers.{first_is, apart_says}
use Rattle.layers.specs.LayerContracts.{higher, meeting, meet}

pub nonneg_pos : {z : ℤ} → pos 0 ≤ℤ z → z ≡ pos (nat_abs z)
nonneg_pos {z = pos n} l = refl
nonneg_pos {z = negsuc n} l = absurd l.le

-- ---- the first that has a height

fails : {b : Bool} → b ≡ false → T (not b)
fails e = subst (λ (b : Bool). T (not b)) (sym e) tt

-- the first of the layers that was found, and otherwise there is none
pub first_found :
    (t : List ℤ) (q : ℕ) {n : ℕ} →
    n ≡ layers t →
    (r : Option ℕ) →
    MatchOption r
    ((i : ℕ) → 0 ≤ i → i < n → has t q i ≡ false)
    (λ i. (0 ≤ i) × (i < n) × (has t q i ≡ true) × ((k : ℕ) → 0 ≤ k → k < i → has t q k ≡ false)) →
    IfSome r (λ i. (i < n) × (i ≡ first_where (has t q) (layers t)))
    × IfNone r (first_where (has t q) (layers t) ≡ layers t)
first_found t q e None none = (
  tt,
  sym (first_is (has t q) (layers t) (layers t) (record {
    fits = omega arith;
    before = λ i l. fails (none i (omega arith) (omega arith));
    passes = λ l. absurd (omega arith);
  })),
)
first_found t q e (Some i) (_, there, passes, before) = (
  (
    there,
    first_is (has t q) (layers t) i (record {
      fits = omega arith;
      before = λ k l. fails (before k (omega arith) l);
      passes = λ l. subst T (sym passes) tt;
    }),
  ),
  tt,
)

-- ---- a test by an order, and a test and another

pub ranked :
    (a b : ℤ) (r : Ordering) →
    MatchOrdering r (a <ℤ b) (a ≡ b) (b <ℤ a) →
    (is_le r ≡ le_z a b) × (is_lt r ≡ lt_z a b)
ranked a b Less h = (sym (is_yes (at_mostℤ a b) (<ℤ→≤ℤ h)), sym (is_yes (belowℤ a b) h))
ranked a b Equal h = (sym (is_yes (at_mostℤ a b) (≡→≤ℤ h)), sym (is_no (belowℤ a b) (λ l. <ℤ→≢ l h)))
ranked a b Greater h =
    (sym (is_no (at_mostℤ a b) (λ l. clash_ℤ h l)), sym (is_no (belowℤ a b) (λ l. clash_ℤ h (<ℤ→≤ℤ l))))

-- the reading of `(a..b).contains(&z)`
abbrev pub flag_contains :
    {v w u : ℤ} →
    Machine v →
    Machine w →
    Machine u →
    Flag (is_le (int_cmp v w) && is_lt (int_cmp w u))
flag_contains {v} {w} {u} h k l =
    record {
      plain = le_z h.plain k.plain && lt_z k.plain l.plain;
      peak = max (peaks h k) (peaks k l);
      says = λ o.
          ap₂ ◌&&◌
          ((ranked v w (int_cmp v w) (int_ranks v w)).0 ∙ (flag_le_z h k).says (left_below (peaks h k) (peaks k l) o))
          ((ranked w u (int_cmp w u) (int_ranks w u)).1 ∙ (flag_lt_z k l).says (right_below (peaks h k) (peaks k l) o));
    }

pub and_second : {a b x y : Bool} → x ≡ true → x ≡ a → y ≡ b → y ≡ (a && b)
and_second {a = true} h e d = d
and_second {a = false} h e d = absurd (subst T (sym h ∙ e) tt)

pub and_not_first : {a x : Bool} (b : Bool) → x ≡ false → x ≡ a → x ≡ (a && b)
and_not_first {a = true} b h e = absurd (subst T (sym e ∙ h) tt)
and_not_first {a = false} b h e = h

-- ---- the larger of two numbers

max_higher : (a b : ℤ) → int_max a b ≡ higher a b
unfolding higher
max_higher a b = by_lt_z a b (λ l. is_second (<ℤ→≤ℤ l) ∙ sym (ap choice (is_yes (belowℤ a b) l)))
    (λ l. is_first l ∙ sym (ap choice (is_no (belowℤ a b) (λ k. clash_ℤ k l))))
  where
    choice : Bool → ℤ
    choice c = cond c b a

    is_second : a ≤ℤ b → int_max a b ≡ b
    is_second l = ap (λ (c : Bool). cond c a b) (is_no (belowℤ b a) (λ k. clash_ℤ k l))

    is_first : b ≤ℤ a → int_max a b ≡ a
    is_first l =
        by_lt_z b a (λ k. ap (λ (c : Bool). cond c a b) (is_yes (belowℤ b a) k)) (λ k. is_second k ∙ ≤ℤ_antisym l k)

-- what both are, the larger is
higher_either : (P : ℤ → Type 0) (a b : ℤ) → P a → P b → P (higher a b)
unfolding higher
higher_either P a b p q = go (lt_z a b)
  where
    go : (c : Bool) → P (cond c b a)
    go true = q
    go false = p

pub higher_is : {v w p q r : ℤ} {B : ℕ} → Is v p B → Is w q B → r ≡ int_max v w → Is r (higher p q) B
higher_is {p} {q} {B = B} a b e =
    record {
      same = e ∙ ap₂ int_max a.same b.same ∙ max_higher p q;
      inside = higher_either (Within B) p q a.inside b.inside;
    }

higher_above : (a b : ℤ) → (a ≤ℤ higher a b) × (b ≤ℤ higher a b)
unfolding higher
higher_above a b = go (lt_z a b) lt_z_yes lt_z_no
  where
    go : (c : Bool) → (T c → a <ℤ b) → (T (not c) → b ≤ℤ a) → (a ≤ℤ cond c b a) × (b ≤ℤ cond c b a)
    go true f g = (<ℤ→≤ℤ (f tt), ≤ℤ_refl b)
    go false f g = (≤ℤ_refl a, g tt)

-- ---- two layers

abbrev Meet : List ℤ → ℕ → ℕ → ℕ → ℕ → Type 0
Meet t lo hi i j = ((meeting t lo i j ≤ℤ pos hi) × (meeting t lo i j <ℤ top t i)) × (meeting t lo i j <ℤ top t j)

module _ (t : List ℤ) (lo hi i j : ℕ) where
  meet_says : Decides (meet t lo hi i j) (Meet t lo hi i j)
  unfolding meet
  meet_says =
      let from = meeting t lo i j in
      both (both (at_mostℤ from (pos hi)) (belowℤ from (top t i))) (belowℤ from (top t j))

  -- where they meet both have begun, and lo is reached
  begun : (bottom t i ≤ℤ meeting t lo i j) × (bottom t j ≤ℤ meeting t lo i j) × (pos lo ≤ℤ meeting t lo i j)
  unfolding meeting
  begun =
      let inner = higher_above (bottom t i) (bottom t j) in
      let outer = higher_above (higher (bottom t i) (bottom t j)) (pos lo) in
      (≤ℤ_trans inner.0 outer.0, ≤ℤ_trans inner.1 outer.0, outer.1)

  -- a height that both have is not below it
  not_below_lem :
      (q : ℕ) →
      4 * lo ≤ q →
      (pos 4 *ℤ bottom t i) ≤ℤ pos q →
      (pos 4 *ℤ bottom t j) ≤ℤ pos q →
      (pos 4 *ℤ meeting t lo i j) ≤ℤ pos q
  unfolding meeting
  not_below_lem q l h k =
      let low : (pos 4 *ℤ pos lo) ≤ℤ pos q = linear nothing (search facts depth 40) (omega arith) in
      higher_either (λ z. (pos 4 *ℤ z) ≤ℤ pos q) _ _ (higher_either (λ z. (pos 4 *ℤ z) ≤ℤ pos q) _ _ h k) low

  pair_meets : (q : ℕ) → 4 * lo ≤ q → q ≤ 4 * hi → Has t q i → Has t q j → Meet t lo hi i j
  pair_meets q l u h k =
      let b = not_below_lem q l h.0 k.0 in
      let most : (pos q) ≤ℤ (pos 4 *ℤ pos hi) = linear nothing (search facts depth 40) (omega arith) in (
        (
          linear (b & most) (search facts depth 40) (omega arith),
          linear (b & h.1) (search facts depth 40) (omega arith),
        ),
        linear (b & k.1) (search facts depth 40) (omega arith),
      )

  -- the height at which they meet, in quarters, is in both
  pair_shares : Meet t lo hi i j → (q : ℕ) × (4 * lo ≤ q) × (q ≤ 4 * hi) × Has t q i × Has t q j
  pair_shares h =
      let b = begun in
      let k : ℕ = nat_abs (meeting t lo i j) in
      let e : meeting t lo i j ≡ pos k = nonneg_pos (≤ℤ_trans (nonneg lo) b.2) in
      let bi : bottom t i ≤ℤ pos k = rw e at b.0 in
      let bj : bottom t j ≤ℤ pos k = rw e at b.1 in
      let bl : pos lo ≤ℤ pos k = rw e at b.2 in
      let uh : pos k ≤ℤ pos hi = rw e at h.0.0 in
      let ti : pos k <ℤ top t i = rw e at h.0.1 in
      let tj : pos k <ℤ top t j = rw e at h.1 in (
        4 * k,
        omega (arith, ≤ℤ_pos bl),
        omega (arith, ≤ℤ_pos uh),
        (linear bi (search facts depth 40) (omega arith), linear ti (search facts depth 40) (omega arith)),
        (linear bj (search facts depth 40) (omega arith), linear tj (search facts depth 40) (omega arith)),
      )

pub apart_by_pairs : (t : List ℤ) (lo hi i : ℕ) → not (some_below (meet t lo hi i) i) ≡ apart t lo hi i
apart_by_pairs t lo hi i =
    let pairs = opposite (some_below_lem (meet_says t lo hi i) i) in
    let heights = apart_says t lo hi i in
    same_test (λ s. heights.passes (to (pairs.holds s))) (λ s. pairs.passes (from (heights.holds s)))
  where
    Pair : Type 0
    Pair = (j : ℕ) × (j < i) × Meet t lo hi i j

    to : ¬ Pair → Apart t lo hi i
    to none q l u h j b g = none (j, b, pair_meets t lo hi i j q l u h g)

    from : Apart t lo hi i → ¬ Pair
    from a (j, b, m) = let w = pair_shares t lo hi i j m in a w.0 w.1 w.2 w.3 j b w.4
