-- Blended sheets (document 02, N11): "two accepted fields, weighted with whole numbers not below zero and not both
-- zero, give a field in exact fractions that meets every row and carries the weighted load"; "no such blend passes any
-- accepted limit".
use Rattle.std.specs.Prelude.{List, ℕ, ◌+◌, ◌*◌, ◌<◌, ℤ, pos, ◌+ℤ◌, ◌*ℤ◌, ◌<ℤ◌}
use Rattle.integer.specs.Fraction.{Frac, ◌over◌, ◌≈ᶠ◌, ◌≤ᶠ◌}
use Rattle.integer.specs.Members.{◌∈◌}
use Rattle.scope.specs.Columns.{n, l}
use Rattle.scope.specs.Mesh.{nodes, ByDirection}
use Rattle.scope.specs.Rows.{Row, Pair, strength_pairs, rows_of}
use Rattle.scope.specs.Sums.{live_sum, limit_sum}
use Rattle.scope.specs.Claim.{stress}
use Rattle.scope.specs.Accepted.{MultipliersAccepted}
use Rattle.scope.specs.Bracket.{MultipliersMeet}
use Rattle.scope.specs.Criterion.{CriterionAt}
use Rattle.scope.specs.Fractions.{FractionField, WrittenOver, FractionsMeet, field_over}
use Rattle.scope.specs.Parts.{carried, allowed, SameRows}
use Rattle.scope.specs.AcceptedFractions.{MeetsMesh}

-- (a·f + b·g)/(a + b)
abbrev pub mean : ℕ → ℕ → Frac → Frac → Frac
mean a b f g =
    (pos a *ℤ f.num *ℤ g.den +ℤ pos b *ℤ g.num *ℤ f.den) over (pos (a + b) *ℤ (f.den *ℤ g.den))

-- k is the blend of f and g with the weights a and b: each stress and the load is the weighted mean of theirs
pub record Blend (columns a b : ℕ) (f g k : FractionField) : Type 0 where
  pub stresses : (j : ℕ) → j < columns → (k.stress j).value ≈ᶠ mean a b (f.stress j).value (g.stress j).value
  pub load : k.load.value ≈ᶠ mean a b f.load.value g.load.value

-- two fields in fractions are the same
pub record SameField (columns : ℕ) (f g : FractionField) : Type 0 where
  pub stresses : (j : ℕ) → j < columns → (f.stress j).value ≈ᶠ (g.stress j).value
  pub load : f.load.value ≈ᶠ g.load.value

-- ---- for any list of rows, and any two fields in fractions; so a blend may be blended again

pub record BlendLaws (columns : ℕ) (rs : List Row) : Type 0 where
  -- there is one
  pub can_be_blended : (a b : ℕ) → 0 < a + b → (f g : FractionField) → (k : FractionField) × Blend columns a b f g k
  -- of fields that meet the rows it meets them
  pub meets : (a b : ℕ) → 0 < a + b → (f g k : FractionField) → Blend columns a b f g k → FractionsMeet columns f rs
      → FractionsMeet columns g rs → FractionsMeet columns k rs
  -- then its load is at most W/m, where m is above 0
  pub at_most : (a b : ℕ) → 0 < a + b → (f g k : FractionField) → Blend columns a b f g k → FractionsMeet columns f rs
      → FractionsMeet columns g rs → (w : ℕ → ℤ) → MultipliersMeet w rs columns → pos 0 <ℤ live_sum w rs
      → k.load.value ≤ᶠ limit_sum w rs over live_sum w rs
  -- its load lies between theirs
  pub between : (a b : ℕ) → 0 < a + b → (f g k : FractionField) → Blend columns a b f g k
      → f.load.value ≤ᶠ g.load.value
      → (f.load.value ≤ᶠ k.load.value) × (k.load.value ≤ᶠ g.load.value)
  -- weights 1 and 0 give the first field back, and so does any a above 0 with 0
  pub first_alone : (a : ℕ) → 0 < a → (f g k : FractionField) → Blend columns a 0 f g k → SameField columns k f

-- ---- on a mesh

-- what a field in fractions that meets the rows of m may be relied on for
pub record Carries (m : List ℤ) (f : FractionField) : Type 0 where
  pub meets : MeetsMesh m f
  -- its load passes no accepted limit, of multipliers on any mesh with the same rows
  pub at_most : (d k : List ℤ) → SameRows m d → MultipliersAccepted d k → f.load.value ≤ᶠ allowed d k
  -- the criterion for each pair whose soil is not by direction, over every denominator that it is written over; "A
  -- field that meets these rows may lie outside the criterion" (document 02, N14), so that of the others only the rows
  -- are said
  pub criterion : (a : Pair) → a ∈ strength_pairs m → ¬ ByDirection m a.soil → (e : ℤ) (s : ℕ → ℤ) (j : ℤ)
      → WrittenOver (3 * nodes m) f e s j → CriterionAt m s e a

-- of any two fields in fractions that meet the rows of m, so of blends too
pub record MeshBlends (m : List ℤ) : Type 0 where
  pub laws : BlendLaws (3 * nodes m) (rows_of m)
  pub carries : (f : FractionField) → MeetsMesh m f → Carries m f

-- two accepted fields on the same mesh, of one claim or of two: that of c on the mesh m and that of k on the mesh d
pub record BlendedClaims (a b : ℕ) (m c d k : List ℤ) : Type 0 where
  pub n_above_0 : pos 0 <ℤ n c
  pub other_above_0 : pos 0 <ℤ n k
  -- there is a blend of them
  pub can_be_blended : (f : FractionField)
      × Blend (3 * nodes m) a b (field_over (n c) n_above_0 (stress m c) (l c))
      (field_over (n k) other_above_0 (stress d k) (l k)) f
  -- each meets every row, passes no accepted limit and meets the criterion but for soils by direction; it carries the
  -- weighted load
  pub each : (f : FractionField)
      → Blend (3 * nodes m) a b (field_over (n c) n_above_0 (stress m c) (l c))
      (field_over (n k) other_above_0 (stress d k) (l k)) f
      → Carries m f × (f.load.value ≈ᶠ mean a b (carried c) (carried k))
  -- and may be blended again
  pub again : MeshBlends m
