-- A field meets rows (document 01, 'Rows' and "Loads compared"), as a statement and for any list of rows.
-- A field is its stresses s by column, with l and n.
use Rattle.std.specs.Prelude.{◌≡◌, List, ℕ, ℤ, ◌≤ℤ◌}
use Rattle.integer.specs.Members.{◌∈◌}
use Rattle.scope.specs.Rows.{Kind, asked, unfixed, strength, Row}
use Rattle.scope.specs.Sums.{left_side, right_side}

-- what a kind of row asks of its left and right side: "An unfixed one keeps its number and asks nothing"
abbrev pub Asks : Kind → ℤ → ℤ → Type 0
Asks asked left right = left ≡ right
Asks unfixed left right = Unit {0}
Asks strength left right = left ≤ℤ right

abbrev pub RowMet : (ℕ → ℤ) → ℤ → ℤ → Row → Type 0
RowMet s l n r = Asks r.kind (left_side s l r) (right_side n r)

-- "every strength row holds and every equality row but the unfixed ones"
abbrev pub FieldMeets : (ℕ → ℤ) → ℤ → ℤ → List Row → Type 0
FieldMeets s l n rs = (r : Row) → r ∈ rs → RowMet s l n r
