-- The Boolean tests `eq_z`, `le_z` and `lt_z` of whole numbers: what each says when it passes (`_yes`) and when it
-- fails (`_no`), and which way it goes (`yes_`, `no_`). `lib.Signed` has `le_z_yes`, `lt_z_yes` and `lt_z_no`.
use mathlib.Core.Path.{◌≡◌, refl, ap, subst}
use mathlib.Core.Bool.{Bool, true, false, not}
use lib.Dec.{T, eqb→eq, eqb_refl, lt→ltb, nleb→lt, T_not, not_T}
use lib.IntN.{ℤ, pos, negsuc}
use lib.Signed.{le_z, lt_z, ◌≤ℤ◌, ◌<ℤ◌, <ℤ_irrefl, <ℤ-≤ℤ_trans}
use Rattle.integer.specs.Tests.{eq_z}

-- two tests that pass in the same cases are the same
pub same_test : {x y : Bool} → (T x → T y) → (T y → T x) → x ≡ y
same_test {x = true} {y = true} f g = refl
same_test {x = true} {y = false} f g = absurd (f tt)
same_test {x = false} {y = true} f g = absurd (g tt)
same_test {x = false} {y = false} f g = refl

-- ---- equality

pub eq_z_yes : {a b : ℤ} → T (eq_z a b) → a ≡ b
eq_z_yes {a = pos m} {b = pos n} t = ap pos (eqb→eq m n t)
eq_z_yes {a = pos m} {b = negsuc n} t = absurd t
eq_z_yes {a = negsuc m} {b = pos n} t = absurd t
eq_z_yes {a = negsuc m} {b = negsuc n} t = ap negsuc (eqb→eq m n t)

eq_z_refl : (a : ℤ) → T (eq_z a a)
eq_z_refl (pos n) = eqb_refl n
eq_z_refl (negsuc n) = eqb_refl n

pub yes_eq_z : {a b : ℤ} → a ≡ b → T (eq_z a b)
yes_eq_z {a} {b} e = subst (λ x. T (eq_z a x)) e (eq_z_refl a)

pub eq_z_no : {a b : ℤ} → T (not (eq_z a b)) → ¬ (a ≡ b)
eq_z_no {a} {b} t e = T_not (eq_z a b) t (yes_eq_z e)

pub no_eq_z : {a b : ℤ} → ¬ (a ≡ b) → T (not (eq_z a b))
no_eq_z {a} {b} f = not_T (eq_z a b) (λ t. f (eq_z_yes t))

-- ---- order

pub yes_le_z : {a b : ℤ} → a ≤ℤ b → T (le_z a b)
yes_le_z h = h.le

pub yes_lt_z : {a b : ℤ} → a <ℤ b → T (lt_z a b)
yes_lt_z h = h.lt

le_z_no' : (a b : ℤ) → T (not (le_z a b)) → T (lt_z b a)
le_z_no' (pos a) (pos b) t = lt→ltb b a (nleb→lt a b t)
le_z_no' (pos a) (negsuc b) t = tt
le_z_no' (negsuc a) (pos b) t = absurd t
le_z_no' (negsuc a) (negsuc b) t = lt→ltb a b (nleb→lt b a t)

pub le_z_no : {a b : ℤ} → T (not (le_z a b)) → b <ℤ a
le_z_no {a} {b} t = record { lt = le_z_no' a b t }

pub no_le_z : {a b : ℤ} → b <ℤ a → T (not (le_z a b))
no_le_z {a} {b} h = not_T (le_z a b) (λ t. <ℤ_irrefl (<ℤ-≤ℤ_trans h (record { le = t })))
