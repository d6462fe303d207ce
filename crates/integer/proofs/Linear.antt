-- Linear consequences in ℤ, handed to `omega`.
-- At a goal `a ≤ℤ b`, `a <ℤ b`, `a ≡ b` over ℤ, the negation of one, or `⊥`, with facts h and k of these kinds, write
--     linear (h & k) (search facts depth 40) (omega arith)
-- and `linear nothing ..` where no such fact is needed. Facts on natural numbers need no mention: `omega` reads them
-- where they stand.
-- Each number is read as a difference of two natural numbers, by a rule for each operator; `search` finds the readings,
-- and `omega` proves what the goal then says of natural numbers.
-- A product of unknowns is multiplied out, and each monomial is one more unknown to `omega`. Readings go 12 operators
-- deep; a search that stops at its count wants `fits 10000` after `depth 40`.
-- Example (`example_order`, checked after `linear`): a + 3 ≤ c, from h : a + 2 ≤ b and k : b < c - 3n:
--     linear (h & k) (search facts depth 40) (omega arith)
use mathlib.Core.Path.{◌≡◌, refl, sym, ◌∙◌, ap, ap₂}
use mathlib.Core.List.{[], ◌∷◌}
use Prim.Native.Nat.{ℕ, suc, ◌+◌, ◌*◌, ◌-◌, ◌≤◌, ◌<◌}
use native.Mathlib.Nat.{le_antisymm}
use native.Mathlib.Omega.{arith}
use lib.IntN.{ℤ, pos, negsuc, ◌+ℤ◌, ◌-ℤ◌, ◌*ℤ◌, neg_ℤ, sub_ℕ, +ℤ_idl, +ℤ_idr}
use lib.Signed.{◌≤ℤ◌, ◌<ℤ◌}
use Rattle.integer.proofs.RingLaws.{pos_injective, subℕ_is}
use Rattle.integer.proofs.Ring.{ring, ring_from, terms}
use Rattle.integer.proofs.Order.{le_diff, diff_le, <ℤ→suc≤ℤ, suc≤ℤ→<ℤ, ≡→≤ℤ, ≤ℤ_antisym}

-- ---- a number as a difference of two natural numbers

unfoldable pub above : ℤ → ℕ
above (pos n) = n
above (negsuc n) = 0

unfoldable pub below : ℤ → ℕ
below (pos n) = 0
below (negsuc n) = suc n

pub parts : (z : ℤ) → z ≡ pos (above z) -ℤ pos (below z)
unfolding above below
parts (pos n) = sym (+ℤ_idr (pos n))
parts (negsuc n) = ring (pos n ∷ []) (search terms depth 100) refl

module _ {x y : ℤ} (a b c d : ℕ) (e : x ≡ pos a -ℤ pos b) (f : y ≡ pos c -ℤ pos d) where
  pub parts_+ℤ : x +ℤ y ≡ pos (a + c) -ℤ pos (b + d)
  parts_+ℤ = ap₂ ◌+ℤ◌ e f ∙ ring (pos a ∷ pos b ∷ pos c ∷ pos d ∷ []) (search terms depth 100) refl

  pub parts_*ℤ : x *ℤ y ≡ pos (a * c + b * d) -ℤ pos (a * d + b * c)
  parts_*ℤ = ap₂ ◌*ℤ◌ e f ∙ ring (pos a ∷ pos b ∷ pos c ∷ pos d ∷ []) (search terms depth 100) refl

  pub ≤ℤ_parts : x ≤ℤ y → a + d ≤ c + b
  ≤ℤ_parts h =
      let (k, g) = le_diff h in
      let line : pos a -ℤ pos b +ℤ pos k ≡ pos c -ℤ pos d = ap (λ z. z +ℤ pos k) (sym e) ∙ sym g ∙ f in
      let same : a + d + k ≡ c + b =
      pos_injective (ring_from (pos 1) line
      (ring (pos a ∷ pos b ∷ pos c ∷ pos d ∷ pos k ∷ []) (search terms depth 100) refl)) in
      omega arith

  pub parts_≤ℤ : a + d ≤ c + b → x ≤ℤ y
  parts_≤ℤ h =
      let k : ℕ = c + b - (a + d) in
      let same : a + d + k ≡ c + b = omega arith in
      diff_le k (f ∙ ring_from (negsuc 0) (ap pos same)
      (ring (pos a ∷ pos b ∷ pos c ∷ pos d ∷ pos k ∷ []) (search terms depth 100) refl)
      ∙ ap (λ z. z +ℤ pos k) (sym e))

pub parts_neg_ℤ : {x : ℤ} (a b : ℕ) → x ≡ pos a -ℤ pos b → neg_ℤ x ≡ pos b -ℤ pos a
parts_neg_ℤ a b e = ap neg_ℤ e ∙ ring (pos a ∷ pos b ∷ []) (search terms depth 100) refl

module _ {x y : ℤ} (a b c d : ℕ) (e : x ≡ pos a -ℤ pos b) (f : y ≡ pos c -ℤ pos d) where
  next : x +ℤ pos 1 ≡ pos (suc a) -ℤ pos b
  next = ap (λ z. z +ℤ pos 1) e ∙ ring (pos a ∷ pos b ∷ []) (search terms depth 100) refl

  pub <ℤ_parts : x <ℤ y → a + d < c + b
  <ℤ_parts h = let g : suc a + d ≤ c + b = ≤ℤ_parts (suc a) b c d next f (<ℤ→suc≤ℤ h) in omega arith

  pub parts_<ℤ : a + d < c + b → x <ℤ y
  parts_<ℤ h = suc≤ℤ→<ℤ (parts_≤ℤ (suc a) b c d next f (omega arith))

  pub ≡_parts : x ≡ y → a + d ≡ c + b
  ≡_parts h = le_antisymm (≤ℤ_parts a b c d e f (≡→≤ℤ h)) (≤ℤ_parts c d a b f e (≡→≤ℤ (sym h)))

  pub parts_≡ : a + d ≡ c + b → x ≡ y
  parts_≡ h = ≤ℤ_antisym (parts_≤ℤ a b c d e f (omega arith)) (parts_≤ℤ c d a b f e (omega arith))

-- ---- the reading of a number, which `search` finds. All readings of a number at one level are equally deep: so
-- `search` takes an operator apart where it can, and takes what is left for an unknown

pub data Level : Type 0 where
  base : Level
  over : Level → Level

pub data Deep : Level → Type 0 where
  bottom : Deep base
  deeper : {n : Level} → Deep n → Deep (over n)

-- `search` tries a rule of fewer premises first: two of these put a rule behind the operators'
pub data Late : Type 0 where
  late : Late

pub record Lin (n : Level) (z : ℤ) : Type 0 where
  pub up : ℕ
  pub down : ℕ
  pub says : z ≡ pos up -ℤ pos down

abbrev pub lin_pos : {n : Level} (k : ℕ) → Lin n (pos k)
lin_pos k = record { up = k; down = 0; says = sym (+ℤ_idr (pos k)) }

abbrev pub lin_negsuc : {n : Level} (k : ℕ) → Lin n (negsuc k)
lin_negsuc k = record { up = 0; down = suc k; says = sym (+ℤ_idl (negsuc k)) }

-- what sums of natural numbers with literals compute to
abbrev pub lin_subℕ : {n : Level} (j k : ℕ) → Lin n (sub_ℕ j k)
lin_subℕ j k = record { up = j; down = k; says = subℕ_is j k }

abbrev pub lin_unknown : {n : Level} {x : ℤ} → Deep n → Late → Late → Lin n x
lin_unknown {x = x} d u v = record { up = above x; down = below x; says = parts x }

abbrev pub lin_neg_ℤ : {n : Level} {x : ℤ} → Lin n x → Lin (over n) (neg_ℤ x)
lin_neg_ℤ h = record { up = h.down; down = h.up; says = parts_neg_ℤ h.up h.down h.says }

abbrev pub lin_+ℤ : {n : Level} {x y : ℤ} → Lin n x → Lin n y → Lin (over n) (x +ℤ y)
lin_+ℤ h k = record { up = h.up + k.up; down = h.down + k.down; says = parts_+ℤ h.up h.down k.up k.down h.says k.says }

abbrev pub lin_*ℤ : {n : Level} {x y : ℤ} → Lin n x → Lin n y → Lin (over n) (x *ℤ y)
lin_*ℤ h k =
    record {
      up = h.up * k.up + h.down * k.down;
      down = h.up * k.down + h.down * k.up;
      says = parts_*ℤ h.up h.down k.up k.down h.says k.says;
    }

-- ---- the reading of a fact

abbrev pub levels : Level
levels = over (over (over (over (over (over (over (over (over (over (over (over base)))))))))))

pub record Fact (A : Type 0) : Type 1 where
  pub plain : Type 0
  pub to : A → plain
  pub from : plain → A

abbrev pub fact_≤ℤ : {a b : ℤ} → Lin levels a → Lin levels b → Fact (a ≤ℤ b)
fact_≤ℤ h k =
    record {
      plain = h.up + k.down ≤ k.up + h.down;
      to = ≤ℤ_parts h.up h.down k.up k.down h.says k.says;
      from = parts_≤ℤ h.up h.down k.up k.down h.says k.says;
    }

abbrev pub fact_<ℤ : {a b : ℤ} → Lin levels a → Lin levels b → Fact (a <ℤ b)
fact_<ℤ h k =
    record {
      plain = h.up + k.down < k.up + h.down;
      to = <ℤ_parts h.up h.down k.up k.down h.says k.says;
      from = parts_<ℤ h.up h.down k.up k.down h.says k.says;
    }

abbrev pub fact_≡ : {a b : ℤ} → Lin levels a → Lin levels b → Fact (a ≡ b)
fact_≡ h k =
    record {
      plain = h.up + k.down ≡ k.up + h.down;
      to = ≡_parts h.up h.down k.up k.down h.says k.says;
      from = parts_≡ h.up h.down k.up k.down h.says k.says;
    }

abbrev pub fact_⊥ : Fact ⊥
fact_⊥ = record { plain = ⊥; to = λ t. t; from = λ t. t }

abbrev pub fact_¬ : {A : Type 0} → Fact A → Fact (¬ A)
fact_¬ f = record { plain = ¬ f.plain; to = λ h p. h (f.from p); from = λ h a. h (f.to a) }

-- several facts
pub record Both (A B : Type 0) : Type 0 where
  pub one : A
  pub two : B

infixr 2 ◌&◌
abbrev pub ◌&◌ : {A B : Type 0} → A → B → Both A B
a & b = record { one = a; two = b }

abbrev pub fact_& : {A B : Type 0} → Fact A → Fact B → Fact (Both A B)
fact_& f g =
    record {
      plain = Both f.plain g.plain;
      to = λ h. f.to h.one & g.to h.two;
      from = λ h. f.from h.one & g.from h.two;
    }

-- no fact
pub data Nothing : Type 0 where
  nothing : Nothing

abbrev pub fact_nothing : Fact Nothing
fact_nothing = record { plain = Nothing; to = λ t. t; from = λ t. t }

-- what is known and what is to be shown
pub record Facts (H G : Type 0) : Type 1 where
  pub known : Fact H
  pub goal : Fact G

abbrev pub known_goal : {H G : Type 0} → Fact H → Fact G → Facts H G
known_goal f g = record { known = f; goal = g }

pub ruleset facts = (
  lin_pos,
  lin_negsuc,
  lin_subℕ,
  lin_neg_ℤ,
  lin_+ℤ,
  lin_*ℤ,
  lin_unknown,
  bottom,
  deeper,
  late,
  fact_≤ℤ,
  fact_<ℤ,
  fact_≡,
  fact_⊥,
  fact_¬,
  fact_&,
  fact_nothing,
  known_goal,
)

pub linear : {H G : Type 0} → H → (f : Facts H G) → (f.known.plain → f.goal.plain) → G
linear h f o = f.goal.from (o (f.known.to h))

-- example: order, with a natural number n
example_order : (a b c : ℤ) (n : ℕ) → (a +ℤ pos 2) ≤ℤ b → b <ℤ (c -ℤ pos 3 *ℤ pos n) → (a +ℤ pos 3) ≤ℤ c
example_order a b c n h k = linear (h & k) (search facts depth 40) (omega arith)

-- example: equations
example_equation : (a b c d : ℤ) → a ≡ b +ℤ pos 2 → b ≡ c -ℤ d → a +ℤ d ≡ c +ℤ pos 2
example_equation a b c d h k = linear (h & k) (search facts depth 40) (omega arith)

-- example: the negation of an inequality
example_contradiction : (a b : ℤ) → a <ℤ b → ¬ ((b -ℤ pos 1) ≤ℤ (a -ℤ pos 1))
example_contradiction a b h = linear h (search facts depth 40) (omega arith)

-- example: a fact on a product is handed over like any other
example_products : (a b c d : ℤ) → pos 0 ≤ℤ ((b -ℤ a) *ℤ (d -ℤ c)) → (a *ℤ d +ℤ b *ℤ c) ≤ℤ (d *ℤ b +ℤ a *ℤ c)
example_products a b c d h = linear h (search facts depth 40) (omega arith)
