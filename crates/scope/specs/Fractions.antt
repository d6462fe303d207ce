-- Fields in fractions (document 01, "Loads compared"), for any list of rows: "A field in fractions has any fractions
-- as each node's sx, sy and t and as its load, free of the claim's limits".
use Rattle.std.specs.Prelude.{◌↔◌, List, ℕ, ◌<◌, ℤ, pos, ◌<ℤ◌}
use Rattle.integer.specs.Fraction.{Frac, ◌over◌, ◌≈ᶠ◌, ◌≤ᶠ◌, Positive}
use Rattle.scope.specs.Rows.{Row}
use Rattle.scope.specs.Sums.{live_sum, limit_sum}
use Rattle.scope.specs.Meets.{FieldMeets}
use Rattle.scope.specs.Bracket.{MultipliersMeet}

-- a fraction has a denominator above 0
pub record Fraction : Type 0 where
  pub value : Frac
  pub proper : Positive value

-- the stresses go by column
pub record FractionField : Type 0 where
  pub stress : ℕ → Fraction
  pub load : Fraction

-- "Written over one denominator above 0": each stress is s/d and the load is l/d
pub record WrittenOver (columns : ℕ) (f : FractionField) (d : ℤ) (s : ℕ → ℤ) (l : ℤ) : Type 0 where
  pub above_0 : pos 0 <ℤ d
  pub stresses : (j : ℕ) → j < columns → s j over d ≈ᶠ (f.stress j).value
  pub load : l over d ≈ᶠ f.load.value

-- "it meets the rows when, with that denominator as n, the stresses' numerators as stresses and the load's numerator
-- as l, every strength row holds and every equality row but the unfixed ones"
pub record FractionsMeet (columns : ℕ) (f : FractionField) (rs : List Row) : Type 0 where
  pub denominator : ℤ
  pub numerators : ℕ → ℤ
  pub numerator : ℤ
  pub written : WrittenOver columns f denominator numerators numerator
  pub meets : FieldMeets numerators numerator denominator rs

-- the field of whole numbers s and l over n
abbrev pub field_over : (n : ℤ) → pos 0 <ℤ n → (ℕ → ℤ) → ℤ → FractionField
field_over n h s l = record {
  stress = λ j. record { value = s j over n; proper = record { positive = h } };
  load = record { value = l over n; proper = record { positive = h } };
}

-- for rows whose entries stand in these columns
pub record FractionLaws (columns : ℕ) (rs : List Row) : Type 0 where
  -- every field can be written over one denominator
  pub can_be_written : (f : FractionField) → (d : ℤ) × (s : ℕ → ℤ) × (l : ℤ) × WrittenOver columns f d s l
  -- whether it meets the rows is the same for every such denominator
  pub same_for_each : (f : FractionField)
      → FractionsMeet columns f rs ↔ ((d : ℤ) (s : ℕ → ℤ) (l : ℤ) → WrittenOver columns f d s l → FieldMeets s l d rs)
  -- a field of whole numbers over n is one
  pub whole_numbers : (n : ℤ) (h : pos 0 <ℤ n) (s : ℕ → ℤ) (l : ℤ) → FieldMeets s l n rs
      → FractionsMeet columns (field_over n h s l) rs
  -- its load is at most W/m, where m is above 0
  pub at_most : (f : FractionField) (w : ℕ → ℤ) → FractionsMeet columns f rs → MultipliersMeet w rs columns
      → pos 0 <ℤ live_sum w rs → f.load.value ≤ᶠ limit_sum w rs over live_sum w rs
