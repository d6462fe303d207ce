-- Rows that are judged alike: a row's left side is the sum over columns of stress times coefficient, so rows with equal
-- coefficients have equal left sides in every field; and an unfixed row asks nothing.
use mathlib.Core.Path.{◌≡◌, refl, sym, ◌∙◌, ap, ap₂, subst}
use mathlib.Core.Logic.{inl, inr}
use mathlib.Core.List.Memᴰ
use mathlib.Core.List.{List, [], ◌∷◌, map}
use Prim.Native.Nat.{ℕ, zero, suc, ◌+◌, ◌<◌}
use native.Mathlib.Omega.{arith}
use lib.IntN.{ℤ, pos, ◌+ℤ◌, ◌*ℤ◌}
use lib.ListN.{length, length-map}
use Rattle.integer.specs.Members.{◌∈◌}
use Rattle.integer.proofs.SumLaws.{sum_of_same}
use Rattle.scope.specs.Rows.{Kind, asked, unfixed, strength, Row, rows_of, count_from}
use Rattle.scope.specs.Sums.{weighted_sum, left_side, right_side, unit, coefficient}
use Rattle.scope.specs.Meets.{Asks, RowMet, FieldMeets}
use Rattle.scope.specs.Parts.{SameRows, SameRow, SameNumbers}
use Rattle.scope.proofs.Lists.{row_in, by_place}
use Rattle.scope.proofs.Bracket.{stresses}
use Rattle.scope.specs.Tests.{row_at}

-- ---- one row

-- a number above every column of a list
record Above (es : List (ℤ × ℕ)) : Type 0 where
  number : ℕ
  above : (e : ℤ × ℕ) → e ∈ es → e.1 < number

above_one_more : (c : ℤ × ℕ) (es : List (ℤ × ℕ)) → Above es → Above (c ∷ es)
above_one_more c es rest = record { number = suc c.1 + rest.number; above = by }
  where
    by : (e : ℤ × ℕ) → e ∈ (c ∷ es) → e.1 < suc c.1 + rest.number
    by e (Memᴰ.head h) = omega (arith, ap (λ (e : ℤ × ℕ). e.1) h)
    by e (Memᴰ.tail m) = omega (arith, rest.above e m)

above_all : (es : List (ℤ × ℕ)) → Above es
above_all [] = record { number = 0; above = λ e m. elim m [ ] }
above_all (c ∷ es) = above_one_more c es (above_all es)

-- lists with the same coefficient in every column have the same sum in every field
same_sum : (es fs : List (ℤ × ℕ)) → ((j : ℕ) → weighted_sum (unit j) es ≡ weighted_sum (unit j) fs) → (s : ℕ → ℤ)
    → weighted_sum s es ≡ weighted_sum s fs
same_sum es fs same s =
    stresses N s es (λ e m. omega (arith, (above_all es).above e m))
    ∙ sum_of_same (λ j. s j *ℤ weighted_sum (unit j) es) (λ j. s j *ℤ weighted_sum (unit j) fs) (count_from 0 N)
    (λ j m. ap (λ z. s j *ℤ z) (same j))
    ∙ sym (stresses N s fs (λ e m. omega (arith, (above_all fs).above e m)))
  where
    N : ℕ
    N = (above_all es).number + (above_all fs).number

same_row_met : (s : ℕ → ℤ) (l n : ℤ) (r t : Row) → SameRow r t → RowMet s l n r → RowMet s l n t
unfolding left_side right_side coefficient
same_row_met s l n r t (inl h) met =
    subst (λ (k : Kind). Asks k (left_side s l t) (right_side n t)) h.kind
    (subst (λ (z : ℤ). Asks r.kind z (right_side n t)) left
    (subst (λ (z : ℤ). Asks r.kind (left_side s l r) z) (ap (λ z. z *ℤ n) h.right) met))
  where
    left : left_side s l r ≡ left_side s l t
    left = ap₂ (λ x y. x +ℤ y *ℤ l) (same_sum r.entries t.entries h.coefficients s) h.live
same_row_met s l n r t (inr h) met = subst (λ (k : Kind). Asks k (left_side s l t) (right_side n t)) (sym (h.1)) tt

-- ---- the rows of two meshes

-- what meets the rows of one mesh meets the same rows of another
pub same_met : (m d : List ℤ) → SameRows m d → (s : ℕ → ℤ) (l n : ℤ) → FieldMeets s l n (rows_of m)
    → FieldMeets s l n (rows_of d)
same_met m d same s l n met =
    by_place (RowMet s l n) (rows_of d)
    (λ k h. let b : k < length (rows_of m) = omega (arith, same.as_many) in
    same_row_met s l n (row_at (rows_of m) k) (row_at (rows_of d) k) (same.each k b)
    (met (row_at (rows_of m) k) (row_in (rows_of m) k b)))

same_row_turned : (r t : Row) → SameRow r t → SameRow t r
same_row_turned r t (inl h) = inl (record {
  kind = sym h.kind;
  coefficients = λ j. sym (h.coefficients j);
  live = sym h.live;
  right = sym h.right;
})
same_row_turned r t (inr h) = inr (h.1, h.0)

pub same_rows_turned : (m d : List ℤ) → SameRows m d → SameRows d m
same_rows_turned m d same = record {
  as_many = sym same.as_many;
  each = λ k h. same_row_turned (row_at (rows_of m) k) (row_at (rows_of d) k)
      (same.each k (omega (arith, same.as_many)));
}

same_row_joined : (r t u : Row) → SameRow r t → SameRow t u → SameRow r u
same_row_joined r t u (inl h) (inl g) = inl (record {
  kind = h.kind ∙ g.kind;
  coefficients = λ j. h.coefficients j ∙ g.coefficients j;
  live = h.live ∙ g.live;
  right = h.right ∙ g.right;
})
same_row_joined r t u (inl h) (inr g) = inr (h.kind ∙ g.0, g.1)
same_row_joined r t u (inr h) (inl g) = inr (h.0, sym g.kind ∙ h.1)
same_row_joined r t u (inr h) (inr g) = inr (h.0, g.1)

pub same_rows_joined : (m d e : List ℤ) → SameRows m d → SameRows d e → SameRows m e
same_rows_joined m d e p q = record {
  as_many = p.as_many ∙ q.as_many;
  each = λ k h. same_row_joined (row_at (rows_of m) k) (row_at (rows_of d) k) (row_at (rows_of e) k) (p.each k h)
      (q.each k (omega (arith, p.as_many)));
}

-- ---- where the numbers are the same but for those of unfixed rows

-- a row whose numbers count for nothing where it is unfixed
unfoldable pub judged_as : Kind → Row → Row
judged_as asked r = r
judged_as unfixed r = record { kind = unfixed; entries = []; live = pos 0; right = pos 0 }
judged_as strength r = r

unfoldable pub judged : Row → Row
judged r = judged_as r.kind r

pub equal_numbers : {r t : Row} → r ≡ t → SameNumbers r t
equal_numbers {r} {t} e = subst (SameNumbers r) e (record {
  kind = refl;
  coefficients = λ j. refl;
  live = refl;
  right = refl;
})

judged_alike : (r t : Row) → judged r ≡ judged t → SameRow r t
unfolding judged judged_as
judged_alike r t = to r.kind t.kind refl refl
  where
    to : (j k : Kind) → r.kind ≡ j → t.kind ≡ k → judged_as j r ≡ judged_as k t → SameRow r t
    to asked asked a b e = inl (equal_numbers e)
    to asked strength a b e = inl (equal_numbers e)
    to strength asked a b e = inl (equal_numbers e)
    to strength strength a b e = inl (equal_numbers e)
    to unfixed unfixed a b e = inr (a, b)
    to asked unfixed a b e = inr (ap (λ (r : Row). r.kind) e, b)
    to strength unfixed a b e = inr (ap (λ (r : Row). r.kind) e, b)
    to unfixed asked a b e = inr (a, sym (ap (λ (r : Row). r.kind) e))
    to unfixed strength a b e = inr (a, sym (ap (λ (r : Row). r.kind) e))

judged_at : (rs : List Row) (k : ℕ) → k < length rs → row_at (map judged rs) k ≡ judged (row_at rs k)
unfolding row_at
judged_at [] k h = absurd (omega arith)
judged_at (r ∷ rs) zero h = refl
judged_at (r ∷ rs) (suc k) h = judged_at rs k (omega arith)

pub same_judged : (m d : List ℤ) → map judged (rows_of m) ≡ map judged (rows_of d) → SameRows m d
same_judged m d e = record {
  as_many = many;
  each = λ k h. judged_alike (row_at (rows_of m) k) (row_at (rows_of d) k)
      (sym (judged_at (rows_of m) k h) ∙ ap (λ (l : List Row). row_at l k) e
      ∙ judged_at (rows_of d) k (omega (arith, many)));
}
  where
    many : length (rows_of m) ≡ length (rows_of d)
    many = sym (length-map (rows_of m) judged) ∙ ap length e ∙ length-map (rows_of d) judged

pub same_mesh : {m d : List ℤ} → m ≡ d → SameRows m d
same_mesh {m} {d} e = same_judged m d (ap (λ (m : List ℤ). map judged (rows_of m)) e)
