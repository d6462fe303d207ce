-- A list copied over the front of another, number after number.
use mathlib.Core.Path.{◌≡◌, refl, sym, ap, ap₂, ◌∙◌}
use mathlib.Core.List.{List, [], ◌∷◌, ◌++◌, append-nil}
use Prim.Native.Nat.{ℕ, suc, ◌+◌, ◌<◌}
use native.Mathlib.Numerals.{add-one}
use native.Mathlib.Omega.{arith}
use lib.ListN.{length, take, drop, set, get_or, length-set, take-append-drop}
use lib.Seq.{drop-drop, take-suc, take-suc-set, take_all, drop-length, drop-set-lt}
use lib.IntN.{ℤ, pos}

-- the first i numbers of m are at the front, and behind them is what was there
pub record Copied (m before : List ℤ) (i : ℕ) (after : List ℤ) : Type 0 where
  pub long : length after ≡ length before
  pub front : take i after ≡ take i m
  pub rest : drop i after ≡ drop i before

module _ (m before : List ℤ) where
  pub copied_none : Copied m before 0 before
  copied_none = record { long = refl; front = refl; rest = refl }

  pub copied_next : {i : ℕ} {after : List ℤ} {z : ℤ} → Copied m before i after → i < length m → i < length before
      → z ≡ get_or m i (pos 0) → Copied m before (i + 1) (set after i z)
  copied_next {i} {after} {z} c l k e =
      let s : i < length after = omega (arith, c.long) in
      let t : take (suc i) (set after i z) ≡ take (suc i) m =
      take-suc-set after i z s ∙ ap₂ (λ x y. x ++ (y ∷ [])) c.front e ∙ sym (take-suc m i (pos 0) l) in
      record {
        long = length-set after i z ∙ c.long;
        front = rw (add-one i) t;
        rest =
            drop-set-lt (i + 1) after i z (omega arith) ∙ sym (drop-drop 1 i after) ∙ ap (drop 1) c.rest
            ∙ drop-drop 1 i before;
      }

  pub copied_all : {i : ℕ} {after : List ℤ} → Copied m before i after → i ≡ length m
      → after ≡ m ++ drop (length m) before
  copied_all {i} {after} c e =
      sym (take-append-drop i after)
      ∙ ap₂ ◌++◌ (c.front ∙ take_all i m (omega (arith, e))) (c.rest ∙ ap (λ n. drop n before) e)

-- over a list as long as itself nothing of that is left
pub copied_whole : (m before : List ℤ) {after : List ℤ} → after ≡ m ++ drop (length m) before
    → length before ≡ length m → after ≡ m
copied_whole m before e h =
    e ∙ ap (λ rest. m ++ rest) (ap (λ n. drop n before) (sym h) ∙ drop-length before) ∙ append-nil m
