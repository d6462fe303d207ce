-- On the same mesh the bounds of a book are a bracket: each is that of an accepted part of a claim that was committed,
-- and the bracket of two such parts is known.
use mathlib.Core.Path.{◌≡◌, refl, sym, ◌∙◌, subst, subst₂}
use mathlib.Core.Logic.{◌⊎◌, inl, inr}
use mathlib.Core.Bool.{Bool, true, false, not, ◌&&◌, cond}
use mathlib.Core.List.Memᴰ
use mathlib.Core.List.{List, [], ◌∷◌, map}
use Prim.Native.Nat.{ℕ, suc}
use native.Mathlib.Omega.{arith}
use lib.Dec.{T, ltb, eqb}
use lib.IntN.{ℤ}
use Rattle.integer.specs.Fraction.{Frac, ◌over◌, ◌≤ᶠ◌}
use Rattle.integer.proofs.TestLaws.{eq_z_yes}
use Rattle.scope.specs.declared.Place.{Place}
use Rattle.scope.specs.Cases.Load.{Load, Absent, Exact}
use Rattle.scope.specs.Cases.OpenRows.{OpenRows}
use Rattle.scope.specs.Cases.Verdict.{Verdict, Accepted, Refused}
use Rattle.integer.specs.Members.{◌∈◌}
use Rattle.scope.specs.Columns.{n, l, has_field, has_multipliers}
use Rattle.scope.specs.Mesh.{some_by_direction}
use Rattle.scope.specs.Rows.{rows_of}
use Rattle.scope.specs.Sums.{live_sum, limit_sum}
use Rattle.scope.specs.Claim.{multiplier}
use Rattle.scope.specs.Accepted.{FieldAccepted, MultipliersAccepted, ClaimAccepted}
use Rattle.scope.specs.Parts.{carried, allowed, SameRows}
use Rattle.scope.specs.Verdict.{open_count, lower_load, upper_load, verdict}
use Rattle.scope.proofs.Exactly.{accepted_exactly, claim_by_parts, verdict_cases}
use Rattle.scope.proofs.Lists.{each_cons, each_map}
use Rattle.scope.proofs.Parts.{parts_bracket}
use Rattle.scope.proofs.SameRows.{same_rows_joined, same_rows_turned}
use Rattle.judge.specs.Handed.{Handed, mesh_of, claim_of, handed_verdict}
use Rattle.book.specs.Book.{most_commits}
use Rattle.book.specs.History.{AskOrCommit, asks, commits, Loads, committed_after, FirstOf, Best, judged_call, book_after}
use Rattle.book.specs.History.{EachOnMesh, InOrder, TheBookIsABracket}
use Rattle.book.proofs.VerdictLaws.{accepted_read}
use Rattle.book.proofs.HistoryLaws.{the_book_is_the_best}

module _ (d : List ℤ) where
  -- a bound that is there is an accepted part's, on the rows of d
  FromField : Load → Type 0
  FromField Absent = Unit {0}
  FromField (Exact x y) = (m : List ℤ) × (c : List ℤ) × SameRows m d × FieldAccepted m c × (x over y ≡ carried c)

  FromMultipliers : Load → Type 0
  FromMultipliers Absent = Unit {0}
  FromMultipliers (Exact x y) = (m : List ℤ) × (k : List ℤ) × SameRows m d × MultipliersAccepted m k
      × (x over y ≡ allowed m k)

  in_order : (x y : Load) → FromField x → FromMultipliers y → InOrder x y
  unfolding FromField FromMultipliers
  in_order Absent y f g = tt
  in_order (Exact a b) Absent f g = tt
  in_order (Exact a b) (Exact v w) (m, c, s, f, p) (e, k, t, g, q) =
      subst₂ ◌≤ᶠ◌ (sym p) (sym q) (parts_bracket m c e k (same_rows_joined m d e s (same_rows_turned e d t)) f g).at_most

  FromClaim : Loads → Type 0
  FromClaim p = FromField p.carried × FromMultipliers p.allowed

  -- ---- of an accepted claim

  module _ (m c : List ℤ) (same : SameRows m d) (a : ClaimAccepted m c) where
    lower_from : FromField (lower_load m c)
    unfolding lower_load has_field carried FromField
    lower_from = by (has_field c) (some_by_direction m) (λ t. ((claim_by_parts m c).0 a).2 (eq_z_yes t))
      where
        by : (t d : Bool) → (T t → FieldAccepted m c) → FromField (cond (t && not d) (Exact (l c) (n c)) Absent)
        by true true h = tt
        by true false h = (m, c, same, h tt, refl)
        by false d h = tt

    upper_from : FromMultipliers (upper_load m c)
    unfolding upper_load has_multipliers allowed FromMultipliers
    upper_from = by (has_multipliers c) (λ t. ((claim_by_parts m c).0 a).3 (eq_z_yes t))
      where
        by : (t : Bool) → (T t → MultipliersAccepted m c) → FromMultipliers
            (cond t (Exact (limit_sum (multiplier m c) (rows_of m)) (live_sum (multiplier m c) (rows_of m))) Absent)
        by true h = (m, c, same, h tt, refl)
        by false h = tt

  from_verdict : (m c : List ℤ) → SameRows m d → (o : OpenRows) (x y : Load) → verdict m c ≡ Accepted o x y
      → FromClaim (record { carried = x; allowed = y })
  unfolding FromClaim
  from_verdict m c same o x y e = by (verdict_cases m c)
    where
      by : ((k : ℕ) × (p : Place) × (verdict m c ≡ Refused k p))
          ⊎ (verdict m c ≡ Accepted (open_count m c) (lower_load m c) (upper_load m c))
          → FromField x × FromMultipliers y
      by (inl (k, p, r)) = let z : ◌≡◌ {A = ℕ} 0 1 = cc in absurd (omega arith)
      by (inr r) =
          let a = (accepted_exactly m c).0 r in
          let lower : lower_load m c ≡ x = cc in
          let upper : upper_load m c ≡ y = cc in
          (subst FromField lower (lower_from m c same a), subst FromMultipliers upper (upper_from m c same a))

  -- ---- of each claim committed

  each_committed : (k : ℕ) (ks : List (AskOrCommit Handed)) → EachOnMesh d ks → (p : Loads)
      → p ∈ committed_after k (map judged_call ks) → FromClaim p
  unfolding committed_after judged_call
  each_committed k [] on p i = absurd (Memᴰ.not-nil i)
  each_committed k (asks a ∷ ks) on p i = each_committed k ks (λ q h. on q (Memᴰ.tail h)) p i
  each_committed k (commits count a ∷ ks) on p i =
      by (handed_verdict a) refl (each_committed k ks (λ q h. on q (Memᴰ.tail h)))
      (each_committed (suc k) ks (λ q h. on q (Memᴰ.tail h))) p i
    where
      rest : ℕ → List Loads
      rest j = committed_after j (map judged_call ks)

      go : (t : Bool) (x y : Load) → FromClaim (record { carried = x; allowed = y })
          → ((p : Loads) → p ∈ rest k → FromClaim p) → ((p : Loads) → p ∈ rest (suc k) → FromClaim p)
          → (p : Loads) → p ∈ cond t (record { carried = x; allowed = y } ∷ rest (suc k)) (rest k) → FromClaim p
      go true x y f g h = each_cons FromClaim f h
      go false x y f g h = g

      by : (v : Verdict) → handed_verdict a ≡ v → ((p : Loads) → p ∈ rest k → FromClaim p)
          → ((p : Loads) → p ∈ rest (suc k) → FromClaim p)
          → (p : Loads) → p ∈ committed_after k (commits count v ∷ map judged_call ks) → FromClaim p
      by (Refused number place) e g h = g
      by (Accepted o x y) e g h = go (eqb count k && ltb k most_commits) x y
          (from_verdict (mesh_of a) (claim_of a) (on (commits count a) (Memᴰ.head refl)) o x y
          (accepted_read a o x y e)) g h

  -- what is best of a list is none or stands in it
  of_best : (P : Load → Type 0) (R : Frac → Frac → Type 0) (xs : List Load) (b : Load) → Best R xs b → P Absent
      → ((x : Load) → x ∈ xs → P x) → P b
  of_best P R xs b best none each = by best.first
    where
      by : (b ≡ Absent) ⊎ FirstOf R xs b → P b
      by (inl e) = subst P (sym e) none
      by (inr f) = each b (subst (λ ys. b ∈ ys) (sym f.listed) (Memᴰ.append_right f.earlier (Memᴰ.head refl)))

pub the_book_is_a_bracket : TheBookIsABracket
unfolding FromField FromMultipliers FromClaim
the_book_is_a_bracket d ks on =
    let claims : List Loads = committed_after 0 (map judged_call ks) in
    let best = the_book_is_the_best ks in
    let each = each_committed d 0 ks on in
    in_order d (book_after ks).lower (book_after ks).upper
    (of_best d (FromField d) _ (map (λ c. c.carried) claims) (book_after ks).lower best.highest tt
    (each_map (FromField d) (λ c. c.carried) claims (λ p i. (each p i).0)))
    (of_best d (FromMultipliers d) _ (map (λ c. c.allowed) claims) (book_after ks).upper best.lowest tt
    (each_map (FromMultipliers d) (λ c. c.allowed) claims (λ p i. (each p i).1)))
