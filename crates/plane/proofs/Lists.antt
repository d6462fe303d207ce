-- Members of lists, by the two cases of a membership: what holds of the first and of the others holds of each; a
-- search; members of two lists, sorted.
use mathlib.Core.Path.{◌≡◌, refl, sym, subst}
use mathlib.Core.List.Memᴰ
use mathlib.Core.List.{List, [], ◌∷◌, ◌++◌}
use mathlib.Core.Logic.{◌⊎◌, inl, inr, ⊎_elim}
use Prim.Native.Nat.{◌+◌}
use native.Mathlib.Omega.{arith}
use lib.ListN.{length}
use Rattle.integer.specs.Members.{◌∈◌}

module _ {A : Type 0} where
  pub empty : {B : Type 0} {v : A} → v ∈ [] → B
  empty k = absurd (Memᴰ.not-nil k)

  pub each : {P : A → Type 0} {a : A} {L : List A} → P a → ((v : A) → v ∈ L → P v) → (v : A) → v ∈ a ∷ L → P v
  each {P} h hs v k = ⊎_elim (λ e. subst P (sym e) h) (λ j. hs v j) (Memᴰ.cases_cons k)

  pub first : {a : A} {L : List A} → a ∈ a ∷ L
  first = Memᴰ.head refl

  pub later : {v a : A} {L : List A} → v ∈ L → v ∈ a ∷ L
  later k = Memᴰ.tail k

  -- the first member moved to the end
  pub rotated : {v a : A} (L : List A) → v ∈ a ∷ L → v ∈ L ++ (a ∷ [])
  rotated {a = a} L k =
      ⊎_elim (λ e. Memᴰ.append_right L (Memᴰ.head e)) (λ j. Memᴰ.append_left (a ∷ []) j) (Memᴰ.cases_cons k)

  -- of two cases for each member: some member has the first, or each has the second
  pub some_or_all : {P Q : A → Type 0} → ((v : A) → P v ⊎ Q v) → (L : List A)
      → ((v : A) × (v ∈ L) × P v) ⊎ ((v : A) → v ∈ L → Q v)
  some_or_all cases [] = inr (λ v k. empty k)
  some_or_all cases (a ∷ L) =
      ⊎_elim
      (λ p. inl (a, first, p))
      (λ q. ⊎_elim (λ s. inl (s.0, later s.1, s.2)) (λ all. inr (each q all)) (some_or_all cases L))
      (cases a)

-- members of two lists, sorted
pub record Sorted {A : Type 0} (K L F : List A) : Type 0 where
  pub of_first : List A
  pub of_second : List A
  pub in_first : (v : A) → v ∈ of_first → v ∈ K
  pub in_second : (v : A) → v ∈ of_second → v ∈ L
  pub all : (v : A) → v ∈ F → (v ∈ of_first) ⊎ (v ∈ of_second)
  pub count : length of_first + length of_second ≡ length F

pub sorted : {A : Type 0} (K L F : List A) → ((v : A) → v ∈ F → v ∈ K ++ L) → Sorted K L F
sorted K L [] i = record {
  of_first = [];
  of_second = [];
  in_first = λ v k. empty k;
  in_second = λ v k. empty k;
  all = λ v k. empty k;
  count = refl;
}
sorted K L (a ∷ F) i =
    let r : Sorted K L F = sorted K L F (λ v k. i v (later k)) in
    ⊎_elim
    (λ h. record {
      of_first = a ∷ r.of_first;
      of_second = r.of_second;
      in_first = each h r.in_first;
      in_second = r.in_second;
      all = each (inl first) (λ v k. ⊎_elim (λ j. inl (later j)) (λ j. inr j) (r.all v k));
      count = omega (arith, r.count);
    })
    (λ h. record {
      of_first = r.of_first;
      of_second = a ∷ r.of_second;
      in_first = r.in_first;
      in_second = each h r.in_second;
      all = each (inr first) (λ v k. ⊎_elim (λ j. inl j) (λ j. inr (later j)) (r.all v k));
      count = omega (arith, r.count);
    })
    (Memᴰ.append_cases K (i a first))
