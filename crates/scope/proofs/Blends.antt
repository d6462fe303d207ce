-- Blends: over the product of the two denominators each side of a row is a·e times the first field's and b·d times the
-- second's, so what both meet the blend meets.
use mathlib.Core.Path.{◌≡◌, refl, sym, ◌∙◌, ap, ap₂, subst₂}
use mathlib.Core.List.{List, [], ◌∷◌}
use Prim.Native.Nat.{ℕ, ◌+◌, ◌*◌, ◌<◌}
use native.Mathlib.Omega.{arith}
use lib.Dec.{lt→ltb}
use lib.IntN.{ℤ, pos, ◌+ℤ◌, ◌*ℤ◌}
use lib.Signed.{◌<ℤ◌}
use Rattle.integer.specs.Fraction.{Frac, ◌over◌, ◌≈ᶠ◌, ◌≤ᶠ◌, Positive}
use Rattle.integer.proofs.FractionLaws.{≤ᶠ_trans, ≈ᶠ→≤ᶠ, ≈ᶠ_sym, ≈ᶠ_trans}
use Rattle.integer.proofs.Order.{nonneg, by_nn, nn_diff, <ℤ→≤ℤ, +ℤ_mono, *ℤ_nonneg, *ℤ_pos}
use Rattle.integer.proofs.Ring.{ring, ring_from, terms}
use Rattle.scope.specs.Columns.{n, l}
use Rattle.scope.specs.Mesh.{nodes}
use Rattle.scope.specs.Rows.{Kind, asked, unfixed, strength, Row, rows_of}
use Rattle.scope.specs.Sums.{weighted_sum, left_side, right_side}
use Rattle.scope.specs.Claim.{stress}
use Rattle.scope.specs.Statements.{MeshSound}
use Rattle.scope.specs.Accepted.{FieldAccepted}
use Rattle.scope.specs.Meets.{Asks}
use Rattle.scope.specs.Bracket.{Columns}
use Rattle.scope.specs.Fractions.{Fraction, FractionField, WrittenOver, FractionsMeet, FractionLaws, field_over}
use Rattle.scope.specs.Parts.{carried, SameRows}
use Rattle.scope.specs.AcceptedFractions.{MeetsMesh}
use Rattle.scope.specs.Blends.{mean, Blend, BlendLaws, MeshBlends, BlendedClaims}
use Rattle.scope.proofs.Printed.{field-printed}
use Rattle.scope.proofs.Criterion.{field_criterion}
use Rattle.scope.proofs.Columns.{mesh_columns}
use Rattle.scope.proofs.Fractions.{fraction_laws}
use Rattle.scope.proofs.SameRows.{same_met, same_rows_turned}
use Rattle.scope.proofs.Parts.{nodes-named, field-n}
use Rattle.scope.proofs.AcceptedFractions.{mesh_fractions, fraction_at_most}

-- ---- the mean of two fractions

above_0 : (a b : ℕ) → 0 < a + b → pos 0 <ℤ pos (a + b)
above_0 a b h = record { lt = lt→ltb 0 (a + b) h }

module _ (a b : ℕ) (h : 0 < a + b) where
  mean_proper : {f g : Frac} → Positive f → Positive g → Positive (mean a b f g)
  mean_proper p q = record { positive = *ℤ_pos (above_0 a b h) (*ℤ_pos p.positive q.positive) }

  -- equal fractions have equal means
  mean_same : {f f′ g g′ : Frac} → f ≈ᶠ f′ → g ≈ᶠ g′ → mean a b f g ≈ᶠ mean a b f′ g′
  mean_same {f} {f′} {g} {g′} p q =
      let s = pos (a + b) in
      record {
        cross-≡ = ring_from (pos a *ℤ s *ℤ g.den *ℤ g′.den) p.cross-≡
            (ring_from (pos b *ℤ s *ℤ f.den *ℤ f′.den) q.cross-≡
            (ring (pos a ∷ pos b ∷ f.num ∷ f.den ∷ f′.num ∷ f′.den ∷ g.num ∷ g.den ∷ g′.num ∷ g′.den ∷ [])
            (search terms depth 100) refl));
      }

  mean_above : {f g : Frac} → Positive f → Positive g → f ≤ᶠ g → f ≤ᶠ mean a b f g
  mean_above {f} {g} p q l =
      record {
        cross-≤ = by_nn (*ℤ_nonneg (*ℤ_nonneg (nonneg b) (<ℤ→≤ℤ p.positive)) (nn_diff l.cross-≤))
            (ring (pos a ∷ pos b ∷ f.num ∷ f.den ∷ g.num ∷ g.den ∷ []) (search terms depth 100) refl);
      }

  mean_below : {f g : Frac} → Positive f → Positive g → f ≤ᶠ g → mean a b f g ≤ᶠ g
  mean_below {f} {g} p q l =
      record {
        cross-≤ = by_nn (*ℤ_nonneg (*ℤ_nonneg (nonneg a) (<ℤ→≤ℤ q.positive)) (nn_diff l.cross-≤))
            (ring (pos a ∷ pos b ∷ f.num ∷ f.den ∷ g.num ∷ g.den ∷ []) (search terms depth 100) refl);
      }

  between : {f g k : Frac} → Positive f → Positive g → Positive k → k ≈ᶠ mean a b f g → f ≤ᶠ g → (f ≤ᶠ k) × (k ≤ᶠ g)
  between {f} {g} {k} p q r e l = (
    ≤ᶠ_trans p (mean_proper p q) r (mean_above p q l) (≈ᶠ→≤ᶠ (≈ᶠ_sym e)),
    ≤ᶠ_trans r (mean_proper p q) q (≈ᶠ→≤ᶠ e) (mean_below p q l),
  )

-- weights a and 0
mean_first : (a : ℕ) (f g : Frac) → mean a 0 f g ≈ᶠ f
mean_first a f g = record { cross-≡ = ring (pos a ∷ f.num ∷ f.den ∷ g.num ∷ g.den ∷ []) (search terms depth 100) refl }

first_back : (a : ℕ) → 0 < a → (f g k : Fraction) → k.value ≈ᶠ mean a 0 f.value g.value → k.value ≈ᶠ f.value
first_back a h f g k e = ≈ᶠ_trans k.proper (mean_proper a 0 (omega arith) f.proper g.proper) f.proper e
    (mean_first a f.value g.value)

-- ---- a row's two sides

-- the mean's numerator, over d and e
abbrev blended : (a b : ℕ) (d e : ℤ) → ℤ → ℤ → ℤ
blended a b d e x y = pos a *ℤ x *ℤ e +ℤ pos b *ℤ y *ℤ d

module _ (a b : ℕ) (d e : ℤ) (s t : ℕ → ℤ) (l j : ℤ) where
  weighted_blend : (ws : List (ℤ × ℕ)) → weighted_sum (λ k. blended a b d e (s k) (t k)) ws
      ≡ blended a b d e (weighted_sum s ws) (weighted_sum t ws)
  unfolding weighted_sum
  weighted_blend [] = ring (pos a ∷ pos b ∷ d ∷ e ∷ []) (search terms depth 100) refl
  weighted_blend (w ∷ ws) =
      ap (λ z. w.0 *ℤ blended a b d e (s w.1) (t w.1) +ℤ z) (weighted_blend ws)
      ∙ ring (pos a ∷ pos b ∷ d ∷ e ∷ w.0 ∷ s w.1 ∷ t w.1 ∷ weighted_sum s ws ∷ weighted_sum t ws ∷ [])
      (search terms depth 100) refl

  left_blend : (r : Row) → left_side (λ k. blended a b d e (s k) (t k)) (blended a b d e l j) r
      ≡ blended a b d e (left_side s l r) (left_side t j r)
  unfolding left_side
  left_blend r =
      ap (λ z. z +ℤ r.live *ℤ blended a b d e l j) (weighted_blend r.entries)
      ∙ ring (pos a ∷ pos b ∷ d ∷ e ∷ l ∷ j ∷ r.live ∷ weighted_sum s r.entries ∷ weighted_sum t r.entries ∷ [])
      (search terms depth 100) refl

  right_blend : (r : Row) → right_side (pos (a + b) *ℤ (d *ℤ e)) r ≡ blended a b d e (right_side d r) (right_side e r)
  unfolding right_side
  right_blend r = ring (pos a ∷ pos b ∷ d ∷ e ∷ r.right ∷ []) (search terms depth 100) refl

-- what two fields meet their blend meets
asks_blend : (k : Kind) (a b : ℕ) {d e : ℤ} (x y x′ y′ : ℤ) → pos 0 <ℤ d → pos 0 <ℤ e → Asks k x x′ → Asks k y y′
    → Asks k (blended a b d e x y) (blended a b d e x′ y′)
asks_blend asked a b {d} {e} x y x′ y′ D E p q = ap₂ (blended a b d e) p q
asks_blend unfixed a b x y x′ y′ D E p q = tt
asks_blend strength a b {d} {e} x y x′ y′ D E p q =
    by_nn (+ℤ_mono (*ℤ_nonneg (*ℤ_nonneg (nonneg a) (<ℤ→≤ℤ E)) (nn_diff p))
    (*ℤ_nonneg (*ℤ_nonneg (nonneg b) (<ℤ→≤ℤ D)) (nn_diff q)))
    (ring (pos a ∷ pos b ∷ d ∷ e ∷ x ∷ y ∷ x′ ∷ y′ ∷ []) (search terms depth 100) refl)

-- ---- any rows

module _ (N a b : ℕ) (h : 0 < a + b) where
  module _ (f g k : FractionField) (blend : Blend N a b f g k) where
    -- the mean of two writings is a writing of the blend
    written : {d e : ℤ} {s t : ℕ → ℤ} {l j : ℤ} → WrittenOver N f d s l → WrittenOver N g e t j
        → WrittenOver N k (pos (a + b) *ℤ (d *ℤ e)) (λ i. blended a b d e (s i) (t i)) (blended a b d e l j)
    written {d} {e} {s} {t} {l} {j} v w = record {
      above_0 = *ℤ_pos (above_0 a b h) (*ℤ_pos v.above_0 w.above_0);
      stresses = λ i r. same (f.stress i) (g.stress i) (k.stress i) (v.stresses i r) (w.stresses i r)
          (blend.stresses i r);
      load = same f.load g.load k.load v.load w.load blend.load;
    }
      where
        same : {x y : ℤ} (p q r : Fraction) → x over d ≈ᶠ p.value → y over e ≈ᶠ q.value
            → r.value ≈ᶠ mean a b p.value q.value
            → blended a b d e x y over (pos (a + b) *ℤ (d *ℤ e)) ≈ᶠ r.value
        same {x} {y} p q r m o e′ =
            ≈ᶠ_trans (mean_proper a b h {f = x over d} {g = y over e} (record { positive = v.above_0 })
            (record { positive = w.above_0 })) (mean_proper a b h p.proper q.proper) r.proper
            (mean_same a b h m o) (≈ᶠ_sym e′)

    meets : (rs : List Row) → FractionsMeet N f rs → FractionsMeet N g rs → FractionsMeet N k rs
    meets rs v w = record {
      denominator = pos (a + b) *ℤ (d *ℤ e);
      numerators = λ i. blended a b d e (s i) (t i);
      numerator = blended a b d e l j;
      written = written v.written w.written;
      meets = λ r m. subst₂ (Asks r.kind) (sym (left_blend a b d e s t l j r)) (sym (right_blend a b d e s t l j r))
          (asks_blend r.kind a b (left_side s l r) (left_side t j r) (right_side d r)
          (right_side e r) v.written.above_0 w.written.above_0 (v.meets r m) (w.meets r m));
    }
      where
        d : ℤ
        d = v.denominator

        e : ℤ
        e = w.denominator

        s : ℕ → ℤ
        s = v.numerators

        t : ℕ → ℤ
        t = w.numerators

        l : ℤ
        l = v.numerator

        j : ℤ
        j = w.numerator

-- the field of the means is a blend
blend_of : (N a b : ℕ) → 0 < a + b → (f g : FractionField) → (k : FractionField) × Blend N a b f g k
blend_of N a b h f g = (
  record { stress = λ j. mean_of (f.stress j) (g.stress j); load = mean_of f.load g.load },
  record { stresses = λ j l. record { cross-≡ = refl }; load = record { cross-≡ = refl } },
)
  where
    mean_of : Fraction → Fraction → Fraction
    mean_of x y = record { value = mean a b x.value y.value; proper = mean_proper a b h x.proper y.proper }

pub blend_laws : (N : ℕ) (rs : List Row) → Columns N rs → BlendLaws N rs
blend_laws N rs within = record {
  can_be_blended = λ a b h f g. blend_of N a b h f g;
  meets = λ a b h f g k blend v w. meets N a b h f g k blend rs v w;
  at_most = λ a b h f g k blend v w y mults live. (fraction_laws N rs within).at_most k y
      (meets N a b h f g k blend rs v w) mults live;
  between = λ a b h f g k blend l. between a b h f.load.proper g.load.proper k.load.proper blend.load l;
  first_alone = λ a h f g k blend. record {
    stresses = λ j l. first_back a h (f.stress j) (g.stress j) (k.stress j) (blend.stresses j l);
    load = first_back a h f.load g.load k.load blend.load;
  };
}

-- ---- on a mesh

pub mesh_blends : (m : List ℤ) → MeshSound m → MeshBlends m
mesh_blends m sound = record {
  laws = blend_laws (3 * nodes m) (rows_of m) (mesh_columns m (nodes-named m sound));
  carries = λ f met. record {
    meets = met;
    at_most = λ d k same w. fraction_at_most m d k same w f met;
    criterion = λ a i d e s j v. field_criterion m s j e
        ((field-printed m s j e).0 (((mesh_fractions m sound).laws.same_for_each f).0 met e s j v)) a i d;
  };
}

pub blended_claims : (a b : ℕ) (m c d k : List ℤ) → 0 < a + b → SameRows m d → FieldAccepted m c → FieldAccepted d k
    → BlendedClaims a b m c d k
unfolding carried
blended_claims a b m c d k h same v w =
    let N = field-n m c v in
    let K = field-n d k w in
    let f : FractionField = field_over (n c) N (stress m c) (l c) in
    let g : FractionField = field_over (n k) K (stress d k) (l k) in
    let in_fractions : FractionLaws (3 * nodes m) (rows_of m) = (mesh_fractions m v.mesh).laws in
    let first : MeetsMesh m f = in_fractions.whole_numbers (n c) N (stress m c) (l c) v.meets in
    let second : MeetsMesh m g = in_fractions.whole_numbers (n k) K (stress d k) (l k)
    (same_met d m (same_rows_turned m d same) (stress d k) (l k) (n k) w.meets) in
    let blends : MeshBlends m = mesh_blends m v.mesh in
    record {
      n_above_0 = N;
      other_above_0 = K;
      can_be_blended = blends.laws.can_be_blended a b h f g;
      each = λ q blend. (blends.carries q (blends.laws.meets a b h f g q blend first second), blend.load);
      again = blends;
    }
