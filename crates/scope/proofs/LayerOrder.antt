-- "in any order": where the lines of a table stand in another order, each height has the same soil, and the table
-- passes as before; line by line, by the order's own maps.
use mathlib.Core.Path.{◌≡◌, sym, ◌∙◌, ap, subst}
use mathlib.Core.List.{List}
use Prim.Native.Nat.{ℕ, ◌<◌}
use lib.IntN.{ℤ, pos, ◌*ℤ◌}
use lib.Signed.{◌≤ℤ◌, ◌<ℤ◌}
use Rattle.scope.specs.Layers.{layers, bottom, top, soil, Has, soil_at, InLayer, TopAbove}
use Rattle.scope.specs.LayerRefusals.{OneLayer, TableSound, LowestGap, SameLine, Reordered}
use Rattle.scope.proofs.Layers.{soil-at}

same_has : {t u : List ℤ} {i j : ℕ} → SameLine t u i j → (q : ℕ) → Has t q i → Has u q j
same_has s q h = (
  subst (λ (z : ℤ). (pos 4 *ℤ z) ≤ℤ pos q) s.bottoms h.0,
  subst (λ (z : ℤ). pos q <ℤ (pos 4 *ℤ z)) s.tops h.1,
)

-- the order the other way round
pub reordered_back : {t u : List ℤ} → Reordered t u → Reordered u t
reordered_back {t} {u} r = record {
  to = r.from;
  from = r.to;
  to_there = r.from_there;
  from_there = r.to_there;
  from_to = r.to_from;
  to_from = r.from_to;
  same = λ j l. back j l (r.same (r.from j) (r.from_there j l));
}
  where
    back : (j : ℕ) → j < layers u → SameLine t u (r.from j) (r.to (r.from j)) → SameLine u t j (r.from j)
    back j l s =
        let e = sym (r.to_from j l) in
        record {
          bottoms = ap (bottom u) e ∙ sym s.bottoms;
          tops = ap (top u) e ∙ sym s.tops;
          soils = ap (soil u) e
              ∙ sym s.soils;
        }

module _ {t u : List ℤ} (r : Reordered t u) where
  to_has : (q i : ℕ) → i < layers t → Has t q i → Has u q (r.to i)
  to_has q i l h = same_has (r.same i l) q h

  from_has : (q j : ℕ) → j < layers u → Has u q j → Has t q (r.from j)
  unfolding reordered_back
  from_has q j l h = same_has ((reordered_back r).same j l) q h

  pub reordered_in : (q : ℕ) → InLayer t q → InLayer u q
  reordered_in q (i, l, h) = (r.to i, r.to_there i l, to_has q i l h)

  pub reordered_one : (q : ℕ) → OneLayer t q → OneLayer u q
  reordered_one q o = record {
    layer = r.to o.layer;
    there = r.to_there o.layer o.there;
    has = to_has q o.layer o.there o.has;
    only = λ j l h. sym (r.to_from j l) ∙ ap r.to (o.only (r.from j) (r.from_there j l) (from_has q j l h));
  }

  -- each height has the same soil
  pub reordered_soil : (q : ℕ) → OneLayer t q → soil_at t q ≡ soil_at u q
  unfolding reordered_one
  reordered_soil q o = soil-at t q o ∙ (r.same o.layer o.there).soils ∙ sym (soil-at u q (reordered_one q o))

  reordered_tops : ((i : ℕ) → i < layers t → TopAbove t i) → (j : ℕ) → j < layers u → TopAbove u j
  unfolding reordered_back
  reordered_tops h j l =
      let s = (reordered_back r).same j l in
      subst (λ (z : ℤ). z <ℤ top u j) (sym s.bottoms)
      (subst (λ (z : ℤ). bottom t (r.from j) <ℤ z) (sym s.tops) (h (r.from j) (r.from_there j l)))

  -- the table passes as before
  pub reordered_sound : (lo hi : ℕ) → TableSound t lo hi → TableSound u lo hi
  reordered_sound lo hi s = record { tops = reordered_tops s.tops; once = λ q l h. reordered_one q (s.once q l h) }

-- and where it has a gap, the lowest is the same
pub reordered_gap : {t u : List ℤ} → Reordered t u → (lo hi q : ℕ) → LowestGap t lo hi q → LowestGap u lo hi q
reordered_gap r lo hi q g = record {
  from_lowest = g.from_lowest;
  to_highest = g.to_highest;
  in_none = λ h. g.in_none (reordered_in (reordered_back r) q h);
  below = λ p l h. reordered_in r p (g.below p l h);
}
