-- Tables of rows: one entry is put. A place is given a byte only while it is free, so that it keeps the byte of the
-- lowest number that gives it one.
use mathlib.Core.Path.{◌≡◌, refl, sym, ◌∙◌, ap, ap₂, subst}
use mathlib.Core.Logic.{◌⊎◌, inl, inr}
use mathlib.Core.Bool.{Bool, true, false, cond, not, ◌&&◌, ◌||◌, or-false, or-true, or_assoc, not-not}
use mathlib.Core.List.{List, [], ◌∷◌}
use Prim.Native.Nat.{ℕ, zero, suc, ◌+◌, ◌≤◌, ◌<◌}
use native.Mathlib.Numerals.{add-one}
use native.Mathlib.Decide.{ℕ_discrete}
use native.Mathlib.Omega.{arith}
use lib.Dec.{eqb}
use lib.ListN.{length, get_or, set, replicate, length-set, length-replicate, get_or-replicate}
use lib.Seq.{get_or-set_same, get_or-set_other}
use Rattle.std.specs.List.{list_any}
use borrow.Author.Tests.{eqb-false, eq-eqb, ne_eqb}
use Rattle.scope.specs.Checks.{some_below}
use Rattle.scope.specs.Rows.{first_where}
use Rattle.shape.specs.ShapeContracts.{entry, with_entry, Holds, byte_at, no_byte, put, is_none, keep_first, byte_below}
use Rattle.scope.proofs.Checks.{below_suc}
use Rattle.scope.proofs.Decides.{first_where_lem}

-- ---- one entry is put

pub cond_same : (b : Bool) (x : ℕ) → cond b x x ≡ x
cond_same true x = refl
cond_same false x = refl

module _ {A : Type 0} {none : A} {n w : ℕ} where
  pub holds_as : {f g : ℕ → ℕ → A} {t : List (List A)} → Holds none n w f t → ((a b : ℕ) → f a b ≡ g a b)
      → Holds none n w g t
  holds_as h e = record { rows = h.rows; width = h.width; says = λ a b i j. h.says a b i j ∙ e a b }

  pub holds_each : (x : A) → Holds none n w (λ a b. x) (replicate n (replicate w x))
  holds_each x = record {
    rows = length-replicate n (replicate w x);
    width = λ a i. ap length (row a i) ∙ length-replicate w x;
    says = λ a b i j. ap (λ (r : List A). get_or r b none) (row a i) ∙ get_or-replicate w b x none j;
  }
    where
      row : (a : ℕ) → a < n → get_or (replicate n (replicate w x)) a [] ≡ replicate w x
      row a i = get_or-replicate n a (replicate w x) [] i

  pub put_one : {f : ℕ → ℕ → A} {t : List (List A)} → Holds none n w f t → {p q : ℕ} → p < n → q < w → (x : A)
      → Holds none n w (λ a b. cond (eqb p a && eqb q b) x (f a b)) (with_entry t p q x)
  put_one {f} {t} h {p} {q} k l x = record {
    rows = length-set t p row ∙ h.rows;
    width = λ a i. wide a i (ℕ_discrete p a);
    says = λ a b i j. by a b i j (ℕ_discrete p a) (ℕ_discrete q b);
  }
    where
      row : List A
      row = set (get_or t p []) q x

      here : {a : ℕ} → p ≡ a → get_or (set t p row) a [] ≡ row
      here d = ap (λ (j : ℕ). get_or (set t p row) j []) (sym d) ∙ get_or-set_same t p row [] (omega (arith, h.rows))

      there : {a : ℕ} → ¬ (p ≡ a) → get_or (set t p row) a [] ≡ get_or t a []
      there {a} d = get_or-set_other t p a row [] (λ e. d (sym e))

      wide : (a : ℕ) → a < n → Dec (p ≡ a) → length (get_or (set t p row) a []) ≡ w
      wide a i (yes d) = ap length (here d) ∙ length-set (get_or t p []) q x ∙ h.width p k
      wide a i (no d) = ap length (there d) ∙ h.width a i

      by : (a b : ℕ) → a < n → b < w → Dec (p ≡ a) → Dec (q ≡ b)
          → entry none (set t p row) a b ≡ cond (eqb p a && eqb q b) x (f a b)
      by a b i j (yes d) (yes e) =
          ap (λ (r : List A). get_or r b none) (here d)
          ∙ ap (λ (c : ℕ). get_or row c none) (sym e)
          ∙ get_or-set_same (get_or t p []) q x none (omega (arith, h.width p k))
          ∙ sym (ap₂ (λ (y z : Bool). cond (y && z) x (f a b)) (eq-eqb p a d) (eq-eqb q b e))
      by a b i j (yes d) (no e) =
          ap (λ (r : List A). get_or r b none) (here d)
          ∙ get_or-set_other (get_or t p []) q b x none (λ c. e (sym c))
          ∙ ap (λ (c : ℕ). entry none t c b) d
          ∙ h.says a b i j
          ∙ sym (ap₂ (λ (y z : Bool). cond (y && z) x (f a b)) (eq-eqb p a d) (ne_eqb q b e))
      by a b i j (no d) e =
          ap (λ (r : List A). get_or r b none) (there d) ∙ h.says a b i j
          ∙ sym (ap (λ (y : Bool). cond (y && eqb q b) x (f a b)) (ne_eqb p a d))

-- ---- .. where it is free

-- the byte of a place that is given one
abbrev pub kept : (ℕ → Bool) → ℕ → ℕ → ℕ
kept free old byte = cond (free old) byte old

pub put_free : (free : ℕ → Bool) {n w : ℕ} {f : ℕ → ℕ → ℕ} {t : List (List ℕ)} → Holds 0 n w f t → {p q : ℕ} → p < n
    → q < w → (byte : ℕ)
    → Holds 0 n w (λ a b. cond (eqb p a && eqb q b) (kept free (f a b) byte) (f a b)) (put free t p q byte)
unfolding put
put_free free {n} {w} {f} {t} h {p} {q} k l byte = by (free (byte_at t p q)) (ap free (h.says p q k l))
  where
    -- elsewhere nothing changes
    same : (b : Bool) → free (f p q) ≡ b → (i j : ℕ) → Dec (p ≡ i) → Dec (q ≡ j)
        → cond (eqb p i && eqb q j) (cond b byte (f i j)) (f i j)
        ≡ cond (eqb p i && eqb q j) (kept free (f i j) byte) (f i j)
    same b e i j (yes c) (yes d) =
        ap (λ (x : Bool). cond (eqb p i && eqb q j) (cond x byte (f i j)) (f i j))
        (sym e ∙ ap₂ (λ x y. free (f x y)) c d)
    same b e i j (no c) d =
        ap (λ (x : Bool). cond (x && eqb q j) (cond b byte (f i j)) (f i j)) (ne_eqb p i c)
        ∙ sym (ap (λ (x : Bool). cond (x && eqb q j) (kept free (f i j) byte) (f i j)) (ne_eqb p i c))
    same b e i j (yes c) (no d) =
        ap₂ (λ (x y : Bool). cond (x && y) (cond b byte (f i j)) (f i j)) (eq-eqb p i c) (ne_eqb q j d)
        ∙ sym (ap₂ (λ (x y : Bool). cond (x && y) (kept free (f i j) byte) (f i j)) (eq-eqb p i c) (ne_eqb q j d))

    by : (b : Bool) → b ≡ free (f p q)
        → Holds 0 n w (λ i j. cond (eqb p i && eqb q j) (kept free (f i j) byte) (f i j))
        (cond b (with_entry t p q byte) t)
    by true e =
        holds_as (put_one h k l byte) (λ i j. same true (sym e) i j (ℕ_discrete p i) (ℕ_discrete q j))
    by false e =
        holds_as h
        (λ i j. sym (cond_same (eqb p i && eqb q j) (f i j)) ∙ same false (sym e) i j (ℕ_discrete p i) (ℕ_discrete q j))

-- ---- the lowest number that passes a test

pub first_below : (f : ℕ → Bool) (n : ℕ) → first_where f n ≤ n
first_below f n = (first_where_lem f n).fits

pub some_first : (f : ℕ → Bool) (n : ℕ) → some_below f n ≡ not (eqb (first_where f n) n)
unfolding first_where some_below
some_first f zero = refl
some_first f (suc n) = go (eqb (first_where f n) n) (f n) (some_first f n)
  where
    late : (k : ℕ) → k ≤ n → not (eqb k (suc n)) ≡ true
    late k l = ap not (ne_eqb k (suc n) (λ e. omega arith))

    go : (b d : Bool) → some_below f n ≡ not b
        → (some_below f n || d) ≡ not (eqb (elim b [ true ↦ cond d n (suc n) | false ↦ first_where f n ]) (suc n))
    go true true e = or-true (some_below f n) ∙ sym (late n (omega arith))
    go true false e = or-false (some_below f n) ∙ e ∙ sym (ap not (eq-eqb (suc n) (suc n) refl))
    go false d e = ap (λ (b : Bool). b || d) e ∙ sym (late (first_where f n) (first_below f n))

-- a number that passes the test is the lowest exactly where none below it passes
pub first_found : (f : ℕ → Bool) (n : ℕ) {e : ℕ} → e < n → f e ≡ true
    → (first_where f n ≤ e) × (eqb (first_where f n) e ≡ not (some_below f e))
unfolding first_where
first_found f zero l h = absurd (omega arith)
first_found f (suc n) {e} l h = by (λ i. first_found f n i h) (below_suc l)
  where
    first : ℕ
    first = first_where f n

    next : Bool → ℕ
    next b = elim b [ true ↦ cond (f n) n (suc n) | false ↦ first ]

    last : f n ≡ true → (b : Bool) → eqb first n ≡ b → (next b ≤ n) × (eqb (next b) n ≡ b)
    last k true d =
        let e : next true ≡ n = ap (λ (b : Bool). cond b n (suc n)) k in (omega arith, eq-eqb (next true) n e)
    last k false d = (first_below f n, d)

    by : (e < n → (first ≤ e) × (eqb first e ≡ not (some_below f e))) → (e < n) ⊎ (e ≡ n)
        → (first_where f (suc n) ≤ e) × (eqb (first_where f (suc n)) e ≡ not (some_below f e))
    by lower (inl i) =
        let r = lower i in
        let same : next (eqb first n) ≡ first = ap next (ne_eqb first n (λ d. omega (arith, r.0))) in
        (omega (arith, r.0), ap (λ (k : ℕ). eqb k e) same ∙ r.1)
    by lower (inr d) =
        let r = last (subst (λ (k : ℕ). f k ≡ true) d h) (eqb first n) refl in (
          omega (arith, r.0),
          ap (eqb (next (eqb first n))) d ∙ r.1
              ∙ sym (ap not (ap (some_below f) d ∙ some_first f n) ∙ not-not (eqb first n)),
        )

first_there : (f : ℕ → Bool) (n : ℕ) {e : ℕ} → e < n → f e ≡ true → eqb (first_where f n) n ≡ false
first_there f n l h = ne_eqb (first_where f n) n (λ d. omega (arith, (first_found f n l h).0))

pub some_there : (f : ℕ → Bool) (n : ℕ) {e : ℕ} → e < n → f e ≡ true → some_below f n ≡ true
some_there f n l h = some_first f n ∙ ap not (first_there f n l h)

pub some_cong : (f g : ℕ → Bool) (n : ℕ) → ((k : ℕ) → k < n → f k ≡ g k) → some_below f n ≡ some_below g n
unfolding some_below
some_cong f g zero h = refl
some_cong f g (suc n) h = ap₂ ◌||◌ (some_cong f g n (λ k l. h k (omega arith))) (h n (omega arith))

pub none_there : (f : ℕ → Bool) (n : ℕ) → ((k : ℕ) → k < n → f k ≡ false) → some_below f n ≡ false
unfolding some_below
none_there f zero h = refl
none_there f (suc n) h = ap₂ ◌||◌ (none_there f n (λ k l. h k (omega arith))) (h n (omega arith))

-- of the elements of a list, some passes a test
some_front : (f : ℕ → Bool) (n : ℕ) → some_below f (suc n) ≡ f 0 || some_below (λ k. f (suc k)) n
unfolding some_below
some_front f zero = sym (or-false (f 0))
some_front f (suc n) =
    ap (λ (b : Bool). b || f (suc n)) (some_front f n)
    ∙ or_assoc (f 0) (some_below (λ k. f (suc k)) n) (f (suc n))

pub some_elements : {A : Type 0} (test : A → Bool) (s : List A) (d : A)
    → list_any test s ≡ some_below (λ k. test (get_or s k d)) (length s)
unfolding some_below
some_elements test [] d = refl
some_elements test (x ∷ s) d =
    ap (λ (b : Bool). test x || b) (some_elements test s d)
    ∙ sym (some_front (λ k. test (get_or (x ∷ s) k d)) (length s))

-- ---- its byte

-- a place is free exactly where no number below n gives it a byte
module _ (free : ℕ → Bool) {none : ℕ} (start : free none ≡ true) (has : ℕ → Bool) (value : ℕ → ℕ) where
  pub free_below : (n : ℕ) → ((k : ℕ) → k < n → free (value k) ≡ false)
      → free (byte_below none has value n) ≡ not (some_below has n)
  unfolding byte_below
  free_below n taken = go (eqb first n) refl ∙ sym (ap not (some_first has n) ∙ not-not (eqb first n))
    where
      first : ℕ
      first = first_where has n

      go : (b : Bool) → eqb first n ≡ b → free (cond b none (value first)) ≡ b
      go true h = start
      go false h =
          let below : first ≤ n = first_below has n in
          let other : first ≡ n → ⊥ = eqb-false first n h in
          taken first (omega arith)

  -- the number e gives its byte where it passes the test
  pub byte_more : (e : ℕ) → ((k : ℕ) → k < e → free (value k) ≡ false)
      → cond (has e) (kept free (byte_below none has value e) (value e)) (byte_below none has value e)
      ≡ byte_below none has value (suc e)
  unfolding byte_below first_where
  byte_more e taken = go (eqb first e) (has e) refl
    where
      first : ℕ
      first = first_where has e

      go : (b d : Bool) → eqb first e ≡ b
          → cond d (kept free (cond b none (value first)) (value e)) (cond b none (value first))
          ≡ cond (eqb (elim b [ true ↦ cond d e (suc e) | false ↦ first ]) (suc e)) none
          (value (elim b [ true ↦ cond d e (suc e) | false ↦ first ]))
      go true true h =
          ap (λ (b : Bool). cond b (value e) none) start
          ∙ sym (ap (λ (b : Bool). cond b none (value e)) (ne_eqb e (suc e) (λ d. omega arith)))
      go true false h = sym (ap (λ (b : Bool). cond b none (value (suc e))) (eq-eqb (suc e) (suc e) refl))
      go false d h =
          let below : first ≤ e = first_below has e in
          let other : first ≡ e → ⊥ = eqb-false first e h in
          ap (λ (b : Bool). cond d (cond b (value e) (value first)) (value first)) (taken first (omega arith))
          ∙ cond_same d (value first)
          ∙ sym (ap (λ (b : Bool). cond b none (value first)) (ne_eqb first (suc e) (λ d. omega arith)))

pub byte_found : (none : ℕ) (has : ℕ → Bool) (value : ℕ → ℕ) (n : ℕ) {e : ℕ} → e < n → has e ≡ true
    → byte_below none has value n ≡ value (first_where has n)
unfolding byte_below
byte_found none has value n l h = ap (λ (b : Bool). cond b none (value (first_where has n))) (first_there has n l h)

-- ---- a number gives its byte to several places in turn

-- the byte of a place, where the first i turns that reach it have given it one
abbrev pub given : (ℕ → Bool) → ℕ → ℕ → ℕ → ℕ
given reach old byte i = cond (some_below reach i) (kept is_none old byte) old

module _ (reach : ℕ → ℕ → ℕ → Bool) (old : ℕ → ℕ → ℕ) (byte : ℕ) where
  abbrev so_far : ℕ → ℕ → ℕ → ℕ
  so_far i a b = given (reach a b) (old a b) byte i

  pub none_given : {n w : ℕ} {t : List (List ℕ)} → Holds 0 n w old t → Holds 0 n w (so_far 0) t
  unfolding some_below
  none_given h = holds_as h (λ a b. refl)

  pub one_given : (i : ℕ) {n w p q : ℕ} {t u : List (List ℕ)} → Holds 0 n w (so_far i) t → p < n → q < w
      → ((a b : ℕ) → eqb p a && eqb q b ≡ reach a b i) → u ≡ keep_first t p q byte → Holds 0 n w (so_far (i + 1)) u
  unfolding some_below
  one_given i {n} {w} {p} {q} {t} {u} h k l d g =
      subst (λ (j : ℕ). Holds 0 n w (so_far j) u) (sym (add-one i))
      (subst (Holds 0 n w (so_far (suc i))) (sym g) (holds_as (put_free is_none h k l byte) more))
    where
      twice : (x : ℕ) (b : Bool) → eqb x no_byte ≡ b → kept is_none (kept is_none x byte) byte ≡ kept is_none x byte
      twice x true e =
          let k : kept is_none x byte ≡ byte = ap (λ (b : Bool). cond b byte x) e in
          ap (λ (y : ℕ). kept is_none y byte) k ∙ cond_same (eqb byte no_byte) byte ∙ sym k
      twice x false e =
          let k : kept is_none x byte ≡ x = ap (λ (b : Bool). cond b byte x) e in ap (λ (y : ℕ). kept is_none y byte) k

      regroup : (b d : Bool) (x : ℕ)
          → cond d (kept is_none (cond b (kept is_none x byte) x) byte) (cond b (kept is_none x byte) x)
          ≡ cond (b || d) (kept is_none x byte) x
      regroup true true x = twice x (eqb x no_byte) refl
      regroup true false x = refl
      regroup false d x = refl

      more : (a b : ℕ) → cond (eqb p a && eqb q b) (kept is_none (so_far i a b) byte) (so_far i a b)
          ≡ so_far (suc i) a b
      more a b =
          ap (λ (c : Bool). cond c (kept is_none (so_far i a b) byte) (so_far i a b)) (d a b)
          ∙ regroup (some_below (reach a b) i) (reach a b i) (old a b)

pub all_given : (reach has : ℕ → ℕ → ℕ → Bool) (value : ℕ → ℕ) {e n w i k : ℕ} {t : List (List ℕ)}
    → Holds 0 n w (λ a b. given (reach a b) (byte_below no_byte (has a b) value e) (value e) i) t → i ≡ k
    → ((a b : ℕ) → some_below (reach a b) k ≡ has a b e) → ((k : ℕ) → k < e → is_none (value k) ≡ false)
    → Holds 0 n w (λ a b. byte_below no_byte (has a b) value (e + 1)) t
all_given reach has value {e} {n} {w} {i} {k} {t} h all d taken =
    subst (λ (k : ℕ). Holds 0 n w (λ a b. byte_below no_byte (has a b) value k) t) (sym (add-one e))
    (holds_as
    (subst (λ (j : ℕ). Holds 0 n w (λ a b. given (reach a b) (byte_below no_byte (has a b) value e) (value e) j) t)
    all h)
    more)
  where
    more : (a b : ℕ) → given (reach a b) (byte_below no_byte (has a b) value e) (value e) k
        ≡ byte_below no_byte (has a b) value (suc e)
    more a b =
        ap (λ (c : Bool). cond c (kept is_none (byte_below no_byte (has a b) value e) (value e))
        (byte_below no_byte (has a b) value e)) (d a b)
        ∙ byte_more is_none refl (has a b) value e taken
