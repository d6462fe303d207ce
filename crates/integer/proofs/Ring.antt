-- A solver for identities of commutative rings, over ℤ and over ℕ.
-- At a goal `x ≡ y` over ℤ write
--     ring (a ∷ b ∷ []) (search terms depth 100) refl
-- where the list has the atoms: what the two sides are made of by sums, differences, products and signs.
-- Literals have no place in the list. Of an unknown number n of ℕ the atom is `pos n`; `pos (m + n)`, `pos (m * n)`,
-- `pos (suc n)`, `suc_ℤ x` and `pred_ℤ x` are taken apart, and so is an `abbrev`.
-- Over ℕ it is the same line with `ringℕ` and a list of natural numbers.
-- `ring_from k h (ring ..)` uses an equation h, k times, and `ring_from k h (ring_from l g (ring ..))` two of them.
-- `search` finds the expressions that stand for the two sides, one rule of `terms` an operator. `refl` has antt compute
-- the polynomial of their difference, which must be 0.
-- If `search` fails, an atom is missing from the list, or it stopped at its count and wants `fits 10000` after
-- `depth 100`.
-- If `refl` fails, write `?` for it: the goal shows the polynomial that is left, `node i p q` for xᵢ · p + q.
-- Example (`example_square_of_sum`, checked after `ring`): (a + b)² = a² + 2ab + b² is
--     ring (a ∷ b ∷ []) (search terms depth 100) refl
use mathlib.Core.Path.{◌≡◌, refl, sym, ◌∙◌, ap, ap₂}
use mathlib.Core.List.{List, [], ◌∷◌}
use Prim.Native.Nat.{ℕ, zero, suc, ◌+◌, ◌*◌, compare, Ordering}
use native.Mathlib.Numerals.{add-one}
use lib.Dec.{T, eqb, compare_is_eq, eqb→eq}
use lib.IntN.{ℤ, pos, negsuc, ◌+ℤ◌, ◌-ℤ◌, ◌*ℤ◌, neg_ℤ, suc_ℤ, pred_ℤ, sub_ℕ, +ℤ_one, -ℤ_one, +ℤ_assoc, +ℤ_idl, +ℤ_idr}
use lib.IntN.{+ℤ_invr, *ℤ_comm, *ℤ-zero}
use Rattle.integer.proofs.RingLaws.{subℕ_is, +ℤ-left_comm, +ℤ_swap, eq_of_diff, one_*ℤ, +ℤ-*ℤ, *ℤ-+ℤ, neg_ℤ_*ℤ}
use Rattle.integer.proofs.RingLaws.{*ℤ_assoc, *ℤ-left_comm, pos_injective}

-- ---- expressions over the atoms of a list

pub data Expr : Type 0 where
  var : ℕ → Expr
  lit : ℤ → Expr
  add : Expr → Expr → Expr
  mul : Expr → Expr → Expr
  neg : Expr → Expr

abbrev at : List ℤ → ℕ → ℤ
at [] i = pos 0
at (x ∷ ρ) zero = x
at (x ∷ ρ) (suc i) = at ρ i

abbrev value : List ℤ → Expr → ℤ
value ρ (var i) = at ρ i
value ρ (lit z) = z
value ρ (add e f) = value ρ e +ℤ value ρ f
value ρ (mul e f) = value ρ e *ℤ value ρ f
value ρ (neg e) = neg_ℤ (value ρ e)

-- ---- polynomials in Horner's form: `node i p q` is xᵢ · p + q, where p is not 0, has no variable before xᵢ, and q
-- none before xᵢ₊₁

pub data Poly : Type 0 where
  con : ℤ → Poly
  node : ℕ → Poly → Poly → Poly

abbrev eval : List ℤ → Poly → ℤ
eval ρ (con z) = z
eval ρ (node i p q) = at ρ i *ℤ eval ρ p +ℤ eval ρ q

-- a node, but for p = 0
abbrev join : ℕ → Poly → Poly → Poly
join i (con (pos zero)) q = q
join i (con (pos (suc n))) q = node i (con (pos (suc n))) q
join i (con (negsuc n)) q = node i (con (negsuc n)) q
join i (node j r s) q = node i (node j r s) q

abbrev choose : Ordering → Poly → Poly → Poly → Poly
choose Ordering.lt p q r = p
choose Ordering.eq p q r = q
choose Ordering.gt p q r = r

abbrev plus_con : ℤ → Poly → Poly
plus_con a (con b) = con (a +ℤ b)
plus_con a (node j r s) = node j r (plus_con a s)

-- the sum of xᵢ · p + q and a polynomial, by the sums P with p and Q with q
abbrev plus_node : ℕ → Poly → (Poly → Poly) → (Poly → Poly) → Poly → Poly
plus_node i p P Q (con b) = node i p (Q (con b))
plus_node i p P Q (node j r s) =
    let before : Poly = node i p (Q (node j r s)) in
    let same : Poly = join i (P r) (Q s) in
    let after : Poly = node j r (plus_node i p P Q s) in
    choose (compare i j) before same after

abbrev plus : Poly → Poly → Poly
plus (con a) = plus_con a
plus (node i p q) = plus_node i p (plus p) (plus q)

abbrev scale : ℤ → Poly → Poly
scale k (con z) = con (k *ℤ z)
scale k (node i p q) = join i (scale k p) (scale k q)

-- xᵢ times a polynomial
abbrev shift : ℕ → Poly → Poly
shift i (con z) = join i (con z) (con (pos 0))
shift i (node j p q) =
    let first : Poly = node i (node j p q) (con (pos 0)) in
    let within : Poly = node j (shift i p) (shift i q) in
    choose (compare i j) first first within

abbrev times : Poly → Poly → Poly
times (con a) r = scale a r
times (node i p q) r = plus (shift i (times p r)) (times q r)

abbrev pub norm : Expr → Poly
norm (var i) = node i (con (pos 1)) (con (pos 0))
norm (lit z) = con z
norm (add e f) = plus (norm e) (norm f)
norm (mul e f) = times (norm e) (norm f)
norm (neg e) = scale (negsuc 0) (norm e)

-- ---- an expression's polynomial has its value

module _ (ρ : List ℤ) where
  join_value : (i : ℕ) (p q : Poly) → eval ρ (join i p q) ≡ at ρ i *ℤ eval ρ p +ℤ eval ρ q
  join_value i (con (pos zero)) q = simp (*ℤ-zero, +ℤ_idl)
  join_value i (con (pos (suc n))) q = refl
  join_value i (con (negsuc n)) q = refl
  join_value i (node j r s) q = refl

  choose_value : (i j : ℕ) (p q r : Poly) (z : ℤ) → eval ρ p ≡ z → (i ≡ j → eval ρ q ≡ z) → eval ρ r ≡ z
      → eval ρ (choose (compare i j) p q r) ≡ z
  choose_value i j p q r z hp hq hr = go (compare i j) (λ t. hq (eqb→eq i j t))
    where
      go : (o : Ordering) → (T (compare_is_eq o) → eval ρ q ≡ z) → eval ρ (choose o p q r) ≡ z
      go Ordering.lt h = hp
      go Ordering.eq h = h tt
      go Ordering.gt h = hr

  plus_con_value : (a : ℤ) (p : Poly) → eval ρ (plus_con a p) ≡ a +ℤ eval ρ p
  plus_con_value a (con b) = refl
  plus_con_value a (node j r s) = rw (plus_con_value a s) (+ℤ-left_comm (at ρ j *ℤ eval ρ r) a (eval ρ s))

  plus_node_value : (i : ℕ) (p q : Poly) (P Q : Poly → Poly) → ((r : Poly) → eval ρ (P r) ≡ eval ρ p +ℤ eval ρ r)
      → ((r : Poly) → eval ρ (Q r) ≡ eval ρ q +ℤ eval ρ r)
      → (r : Poly) → eval ρ (plus_node i p P Q r) ≡ (at ρ i *ℤ eval ρ p +ℤ eval ρ q) +ℤ eval ρ r
  plus_node_value i p q P Q hp hq (con b) = rw (hq (con b)) (sym (+ℤ_assoc (at ρ i *ℤ eval ρ p) (eval ρ q) b))
  plus_node_value i p q P Q hp hq (node j r s) =
      choose_value i j _ _ _ _
      (rw (hq (node j r s)) (sym (+ℤ_assoc (at ρ i *ℤ eval ρ p) (eval ρ q) _)))
      (λ e. rw (join_value, hp r, hq s, *ℤ-+ℤ, e)
      (+ℤ_swap (at ρ j *ℤ eval ρ p) (at ρ j *ℤ eval ρ r) (eval ρ q) (eval ρ s)))
      (rw (plus_node_value i p q P Q hp hq s)
      (+ℤ-left_comm (at ρ j *ℤ eval ρ r) (at ρ i *ℤ eval ρ p +ℤ eval ρ q) (eval ρ s)))

  plus_value : (p q : Poly) → eval ρ (plus p q) ≡ eval ρ p +ℤ eval ρ q
  plus_value (con a) = plus_con_value a
  plus_value (node i p q) = plus_node_value i p q (plus p) (plus q) (plus_value p) (plus_value q)

  scale_value : (k : ℤ) (p : Poly) → eval ρ (scale k p) ≡ k *ℤ eval ρ p
  scale_value k (con z) = refl
  scale_value k (node i p q) =
      rw (join_value, scale_value k p, scale_value k q, *ℤ-+ℤ, *ℤ-left_comm k)

  shift_value : (i : ℕ) (p : Poly) → eval ρ (shift i p) ≡ at ρ i *ℤ eval ρ p
  shift_value i (con z) = join_value i (con z) (con (pos 0)) ∙ +ℤ_idr (at ρ i *ℤ z)
  shift_value i (node j p q) =
      choose_value i j _ _ _ _ first (λ e. first) (rw (shift_value i p, shift_value i q, *ℤ-+ℤ, *ℤ-left_comm (at ρ i)))
    where
      first : at ρ i *ℤ eval ρ (node j p q) +ℤ pos 0 ≡ at ρ i *ℤ eval ρ (node j p q)
      first = +ℤ_idr _

  times_value : (p q : Poly) → eval ρ (times p q) ≡ eval ρ p *ℤ eval ρ q
  times_value (con a) r = scale_value a r
  times_value (node i p q) r =
      rw (plus_value, shift_value, times_value p r, times_value q r, +ℤ-*ℤ, *ℤ_assoc)

  norm_value : (e : Expr) → value ρ e ≡ eval ρ (norm e)
  norm_value (var i) = rw (+ℤ_idr, *ℤ_comm, one_*ℤ)
  norm_value (lit z) = refl
  norm_value (add e f) = rw (plus_value, ← norm_value e, ← norm_value f)
  norm_value (mul e f) = rw (times_value, ← norm_value e, ← norm_value f)
  norm_value (neg e) = rw (scale_value, ← norm_value e, neg_ℤ_*ℤ (pos 1), one_*ℤ)

-- ---- the expression that stands for a number, which `search` finds

-- the place of a number in a list
pub record At (ρ : List ℤ) (z : ℤ) : Type 0 where
  pub index : ℕ
  pub found : at ρ index ≡ z

-- a rule for each of the first places, so that a place counts once towards a search's bounds
abbrev pub first : {x : ℤ} {ρ : List ℤ} → At (x ∷ ρ) x
first = record { index = 0; found = refl }

abbrev pub second : {a x : ℤ} {ρ : List ℤ} → At (a ∷ x ∷ ρ) x
second = record { index = 1; found = refl }

abbrev pub third : {a b x : ℤ} {ρ : List ℤ} → At (a ∷ b ∷ x ∷ ρ) x
third = record { index = 2; found = refl }

abbrev pub fourth : {a b c x : ℤ} {ρ : List ℤ} → At (a ∷ b ∷ c ∷ x ∷ ρ) x
fourth = record { index = 3; found = refl }

abbrev pub fifth : {a b c d x : ℤ} {ρ : List ℤ} → At (a ∷ b ∷ c ∷ d ∷ x ∷ ρ) x
fifth = record { index = 4; found = refl }

abbrev pub sixth : {a b c d e x : ℤ} {ρ : List ℤ} → At (a ∷ b ∷ c ∷ d ∷ e ∷ x ∷ ρ) x
sixth = record { index = 5; found = refl }

abbrev pub seventh : {a b c d e f x : ℤ} {ρ : List ℤ} → At (a ∷ b ∷ c ∷ d ∷ e ∷ f ∷ x ∷ ρ) x
seventh = record { index = 6; found = refl }

abbrev pub eighth : {a b c d e f g x : ℤ} {ρ : List ℤ} → At (a ∷ b ∷ c ∷ d ∷ e ∷ f ∷ g ∷ x ∷ ρ) x
eighth = record { index = 7; found = refl }

abbrev pub later : {a b c d e f g h x : ℤ} {ρ : List ℤ} → At ρ x → At (a ∷ b ∷ c ∷ d ∷ e ∷ f ∷ g ∷ h ∷ ρ) x
later h = record { index = suc (suc (suc (suc (suc (suc (suc (suc h.index))))))); found = h.found }

pub record Term (ρ : List ℤ) (z : ℤ) : Type 0 where
  pub expr : Expr
  pub says : value ρ expr ≡ z

abbrev pub term_atom : {ρ : List ℤ} {x : ℤ} → At ρ x → Term ρ x
term_atom h = record { expr = var h.index; says = h.found }

abbrev pub term_+ℤ : {ρ : List ℤ} {x y : ℤ} → Term ρ x → Term ρ y → Term ρ (x +ℤ y)
term_+ℤ h k = record { expr = add h.expr k.expr; says = ap₂ ◌+ℤ◌ h.says k.says }

abbrev pub term_*ℤ : {ρ : List ℤ} {x y : ℤ} → Term ρ x → Term ρ y → Term ρ (x *ℤ y)
term_*ℤ h k = record { expr = mul h.expr k.expr; says = ap₂ ◌*ℤ◌ h.says k.says }

abbrev pub term_neg_ℤ : {ρ : List ℤ} {x : ℤ} → Term ρ x → Term ρ (neg_ℤ x)
term_neg_ℤ h = record { expr = neg h.expr; says = ap neg_ℤ h.says }

-- a test of a numeral against itself computes, and of an unknown it does not: so these two fit literals alone
abbrev pub term_pos : {ρ : List ℤ} (k : ℕ) → T (eqb k k) → Term ρ (pos k)
term_pos k t = record { expr = lit (pos k); says = refl }

abbrev pub term_negsuc : {ρ : List ℤ} (k : ℕ) → T (eqb k k) → Term ρ (negsuc k)
term_negsuc k t = record { expr = lit (negsuc k); says = refl }

-- sums and products of natural numbers, as whole numbers
abbrev pub term_pos_+ : {ρ : List ℤ} (m n : ℕ) → Term ρ (pos m) → Term ρ (pos n) → Term ρ (pos (m + n))
term_pos_+ m n h k = term_+ℤ h k

abbrev pub term_pos_* : {ρ : List ℤ} (m n : ℕ) → Term ρ (pos m) → Term ρ (pos n) → Term ρ (pos (m * n))
term_pos_* m n h k = term_*ℤ h k

abbrev pub term_pos_suc : {ρ : List ℤ} {n : ℕ} → Term ρ (pos n) → Term ρ (pos (suc n))
term_pos_suc {n = n} h =
    record { expr = add h.expr (lit (pos 1)); says = ap (λ x. x +ℤ pos 1) h.says ∙ ap pos (add-one n) }

-- what sums of literals with unknowns compute to
abbrev pub term_subℕ : {ρ : List ℤ} (m n : ℕ) → Term ρ (pos m) → Term ρ (pos n) → Term ρ (sub_ℕ m n)
term_subℕ m n h k =
    record { expr = add h.expr (neg k.expr); says = ap₂ ◌-ℤ◌ h.says k.says ∙ sym (subℕ_is m n) }

abbrev pub term_negsuc_open : {ρ : List ℤ} {n : ℕ} → Term ρ (pos (suc n)) → Term ρ (negsuc n)
term_negsuc_open h = term_neg_ℤ h

abbrev pub term_sucℤ : {ρ : List ℤ} {x : ℤ} → Term ρ x → Term ρ (suc_ℤ x)
term_sucℤ {x = x} h = record { expr = add h.expr (lit (pos 1)); says = ap (λ z. z +ℤ pos 1) h.says ∙ +ℤ_one x }

abbrev pub term_predℤ : {ρ : List ℤ} {x : ℤ} → Term ρ x → Term ρ (pred_ℤ x)
term_predℤ {x = x} h = record { expr = add h.expr (lit (negsuc 0)); says = ap (λ z. z +ℤ negsuc 0) h.says ∙ -ℤ_one x }

pub record Sides (ρ : List ℤ) (x y : ℤ) : Type 0 where
  pub left : Term ρ x
  pub right : Term ρ y

abbrev pub sides : {ρ : List ℤ} {x y : ℤ} → Term ρ x → Term ρ y → Sides ρ x y
sides h k = record { left = h; right = k }

pub ruleset terms = (
  sides,
  term_pos,
  term_negsuc,
  term_pos_+,
  term_pos_*,
  term_pos_suc,
  term_subℕ,
  term_negsuc_open,
  term_+ℤ,
  term_*ℤ,
  term_neg_ℤ,
  term_sucℤ,
  term_predℤ,
  term_atom,
  first,
  second,
  third,
  fourth,
  fifth,
  sixth,
  seventh,
  eighth,
  later,
)

-- ---- the solver

abbrev pub difference : {ρ : List ℤ} {x y : ℤ} → Sides ρ x y → Poly
difference s = norm (add s.left.expr (neg s.right.expr))

pub ring : (ρ : List ℤ) {x y : ℤ} (s : Sides ρ x y) → difference s ≡ con (pos 0) → x ≡ y
ring ρ {x} {y} s e =
    eq_of_diff x y
    (sym (ap₂ ◌-ℤ◌ s.left.says s.right.says) ∙ norm_value ρ (add s.left.expr (neg s.right.expr)) ∙ ap (eval ρ) e)

-- example: the square of a sum
example_square_of_sum : (a b : ℤ) → (a +ℤ b) *ℤ (a +ℤ b) ≡ a *ℤ a +ℤ pos 2 *ℤ a *ℤ b +ℤ b *ℤ b
example_square_of_sum a b = ring (a ∷ b ∷ []) (search terms depth 100) refl

-- example: literals and natural numbers among whole numbers
example_literals : (a : ℤ) (m n : ℕ) → (a -ℤ pos 3) *ℤ pos (suc m * n) +ℤ (negsuc m +ℤ pos 5)
    ≡ pos m *ℤ (pos n *ℤ (a -ℤ pos 3) -ℤ pos 1) +ℤ (a -ℤ pos 3) *ℤ pos n +ℤ pos 4
example_literals a m n = ring (a ∷ pos m ∷ pos n ∷ []) (search terms depth 100) refl

-- example: Brahmagupta's identity
example_brahmagupta : (a b c d n : ℤ)
    → (a *ℤ a +ℤ n *ℤ (b *ℤ b)) *ℤ (c *ℤ c +ℤ n *ℤ (d *ℤ d))
    ≡ (a *ℤ c -ℤ n *ℤ b *ℤ d) *ℤ (a *ℤ c -ℤ n *ℤ b *ℤ d) +ℤ n *ℤ ((a *ℤ d +ℤ b *ℤ c) *ℤ (a *ℤ d +ℤ b *ℤ c))
example_brahmagupta a b c d n = ring (a ∷ b ∷ c ∷ d ∷ n ∷ []) (search terms depth 100) refl

-- example: Euler's identity of four squares, with eight atoms
example_four_squares : (a b c d e f g h : ℤ)
    → (a *ℤ a +ℤ b *ℤ b +ℤ c *ℤ c +ℤ d *ℤ d) *ℤ (e *ℤ e +ℤ f *ℤ f +ℤ g *ℤ g +ℤ h *ℤ h)
    ≡ (a *ℤ e +ℤ b *ℤ f +ℤ c *ℤ g +ℤ d *ℤ h) *ℤ (a *ℤ e +ℤ b *ℤ f +ℤ c *ℤ g +ℤ d *ℤ h)
    +ℤ (a *ℤ f -ℤ b *ℤ e +ℤ c *ℤ h -ℤ d *ℤ g) *ℤ (a *ℤ f -ℤ b *ℤ e +ℤ c *ℤ h -ℤ d *ℤ g)
    +ℤ (a *ℤ g -ℤ b *ℤ h -ℤ c *ℤ e +ℤ d *ℤ f) *ℤ (a *ℤ g -ℤ b *ℤ h -ℤ c *ℤ e +ℤ d *ℤ f)
    +ℤ (a *ℤ h +ℤ b *ℤ g -ℤ c *ℤ f -ℤ d *ℤ e) *ℤ (a *ℤ h +ℤ b *ℤ g -ℤ c *ℤ f -ℤ d *ℤ e)
example_four_squares a b c d e f g h = ring (a ∷ b ∷ c ∷ d ∷ e ∷ f ∷ g ∷ h ∷ []) (search terms depth 100) refl

-- the same over ℕ, with a list of natural numbers
abbrev pub pos_all : List ℕ → List ℤ
pos_all [] = []
pos_all (n ∷ ns) = pos n ∷ pos_all ns

pub ringℕ : (ns : List ℕ) {m n : ℕ} (s : Sides (pos_all ns) (pos m) (pos n)) → difference s ≡ con (pos 0) → m ≡ n
ringℕ ns s e = pos_injective (ring (pos_all ns) s e)

-- example: the square of a sum of natural numbers
example_square_of_sumℕ : (a b : ℕ) → (a + b) * (a + b) ≡ a * a + 2 * a * b + b * b
example_square_of_sumℕ a b = ringℕ (a ∷ b ∷ []) (search terms depth 100) refl

-- x ≡ y, as a multiple of an equation
pub ring_from : {a b x y : ℤ} (k : ℤ) → a ≡ b → x -ℤ y ≡ k *ℤ (a -ℤ b) → x ≡ y
ring_from {a} {b} {x} {y} k h e = eq_of_diff x y (e ∙ rw (h, +ℤ_invr, *ℤ-zero))

-- example: Cramer's rule, from two equations
example_cramer : (a b c d e f x y : ℤ) → a *ℤ x +ℤ b *ℤ y ≡ e → c *ℤ x +ℤ d *ℤ y ≡ f
    → (a *ℤ d -ℤ b *ℤ c) *ℤ x ≡ e *ℤ d -ℤ b *ℤ f
example_cramer a b c d e f x y h k =
    ring_from d h (ring_from (neg_ℤ b) k (ring (a ∷ b ∷ c ∷ d ∷ e ∷ f ∷ x ∷ y ∷ []) (search terms depth 100) refl))
