-- What the equality rows hand around: a row as numbers, and the records that their functions require and ensure.
use Rattle.std.specs.Prelude.{
  ◌≡◌,
  Bool,
  true,
  false,
  cond,
  ◌||◌,
  List,
  [],
  ◌∷◌,
  map,
  ℕ,
  ◌+◌,
  ◌*◌,
  ◌%◌,
  ◌<◌,
  ◌≤◌,
  ℤ,
  pos,
  ◌*ℤ◌,
  neg_ℤ,
  eqb,
  ltb,
  length,
  get_or,
}
use Rattle.integer.specs.Bounds.{Is}
use Rattle.integer.specs.Tests.{eq_z}
use Rattle.equality.specs.declared.row.Term.{Term}
use Rattle.equality.specs.declared.row.Terms.{Terms}
use Rattle.equality.specs.declared.row.Terms.TheVariants as kinds
use Rattle.equality.specs.declared.row.EqualityRow.{EqualityRow}
use Rattle.equality.specs.declared.axes.Axis.{Axis}
use Rattle.equality.specs.declared.axes.Axis.TheVariants.{X, Y}
use Rattle.equality.specs.declared.geometry.Corners.{Corners}
use Rattle.equality.specs.declared.geometry.Span.{Span}
use Rattle.equality.specs.declared.geometry.Step.{Step}
use Rattle.equality.specs.declared.parts.Part.{Part}
use Rattle.equality.specs.declared.parts.Part.TheVariants.{Normal, Shear}
use Rattle.equality.specs.declared.tractions.Traction.{Traction}
use Rattle.equality.specs.declared.expressions.Expression.{Expression}
use Rattle.scope.specs.Bounds.{most_entries}
use Rattle.scope.specs.Columns.{at}
use Rattle.scope.specs.Mesh.{corner}
use Rattle.scope.specs.Rows.{asked, unfixed, strength, Row, rise_across, run_across, normal_entries, shear_entries}
use Rattle.mesh.specs.declared.entries.Edge.{Edge}
use Rattle.mesh.specs.MeshContracts.{NodeAt}

-- ---- rows as numbers

-- a term, as the definitions speak of it
abbrev pub entry_of : Term → ℤ × ℕ
entry_of t = (t.coefficient, t.column)

-- the terms of a row, whatever its kind, and as the definitions speak of them
abbrev pub terms_of : Terms → List Term
terms_of (kinds.Balance ts) = ts
terms_of (kinds.Traction ts) = ts
terms_of (kinds.Agreement ts) = ts

abbrev pub entries_of : EqualityRow → List (ℤ × ℕ)
entries_of r = map entry_of (terms_of r.terms)

-- the row that the numbers say
unfoldable pub row_of : EqualityRow → Row
row_of r = record { kind = cond r.asked asked unfixed; entries = entries_of r; live = r.live; right = r.right }

-- a row asks something
unfoldable pub is_asked : Row → Bool
is_asked r = elim r.kind [ asked ↦ true | unfixed ↦ false | strength ↦ true ]

-- each column is below n
pub record ColumnsBelow (n : ℕ) (es : List (ℤ × ℕ)) : Type 0 where
  pub each : (i : ℕ) → i < length es → (get_or es i (pos 0, 0)).1 < n

-- the numbers are those of a row, of a mesh with so many columns
pub record Filled (r : EqualityRow) (row : Row) (columns : ℕ) : Type 0 where
  pub is : row_of r ≡ row
  pub few : length (entries_of r) ≤ most_entries
  pub there : ColumnsBelow columns (entries_of r)

-- ---- sums of columns

-- a list of numbers is a function, within a bound
pub record SumsAre (B : ℕ) (s : List ℤ) (f : ℕ → ℤ) : Type 0 where
  pub each : (j : ℕ) → Is (at s j) (f j) B

-- ---- the numbers of an element's, an edge's and a jump's rows

-- the nodes of element e, in order
pub record CornersAre (r : Corners) (m : List ℤ) (e : ℕ) : Type 0 where
  pub a : NodeAt r.a m (corner m e 0)
  pub b : NodeAt r.b m (corner m e 1)
  pub c : NodeAt r.c m (corner m e 2)
  pub d : NodeAt r.d m (corner m e 3)

pub record SpanIs (r : Span) (m : List ℤ) (e : ℕ) : Type 0 where
  pub rise : r.rise ≡ rise_across m e 0
  pub rise_next : r.rise_next ≡ rise_across m e 1
  pub run : r.run ≡ run_across m e 0
  pub run_next : r.run_next ≡ run_across m e 1

-- x and y in turn
abbrev pub axis_of : ℕ → Axis
axis_of i = cond (eqb (i % 2) 0) X Y

-- the number of an axis: of its balance among an element's two, and of its stress among a node's three
abbrev pub number : Axis → ℕ
number X = 0
number Y = 1

-- of two numbers, one along x and one along y, that along the axis
abbrev pub along : Axis → ℤ → ℤ → ℤ
along X x y = x
along Y x y = y

-- at each corner of element e the stress along the axis and its t: at corners 0 and 1 what the span says, and at
-- corners 2 and 3 the opposite
unfoldable pub balance_entries : List ℤ → ℕ → Span → Axis → List (ℤ × ℕ)
balance_entries m e g axis =
    (g.rise, 3 * corner m e 0 + number axis)
    ∷ (g.run, 3 * corner m e 0 + 2)
    ∷ (g.rise_next, 3 * corner m e 1 + number axis)
    ∷ (g.run_next, 3 * corner m e 1 + 2)
    ∷ (neg_ℤ g.rise, 3 * corner m e 2 + number axis)
    ∷ (neg_ℤ g.run, 3 * corner m e 2 + 2)
    ∷ (neg_ℤ g.rise_next, 3 * corner m e 3 + number axis)
    ∷ (neg_ℤ g.run_next, 3 * corner m e 3 + 2)
    ∷ []

-- a step is (u, w)
pub record StepIs (r : Step) (run rise : ℤ) : Type 0 where
  pub u : r.u ≡ run
  pub w : r.w ≡ rise

-- normal and shear in turn
abbrev pub part_of : ℕ → Part
part_of i = cond (eqb (i % 2) 0) Normal Shear

-- the first two rows of four are at the one end, and the others at the other
abbrev pub end_of : ℕ → ℕ → ℕ → ℕ
end_of i from to = cond (ltb i 2) from to

-- the code of a part in an edge's line, and its dead and its live load there
abbrev pub code : Part → ℕ
code Normal = 1
code Shear = 2

abbrev pub dead_of : Part → Edge → ℤ
dead_of Normal edge = edge.dead_normal
dead_of Shear edge = edge.dead_shear

abbrev pub live_of : Part → Edge → ℤ
live_of Normal edge = edge.live_normal
live_of Shear edge = edge.live_shear

-- the normal or the shear expression at node v of a side with the step (u, w)
abbrev pub part_entries : Part → ℤ → ℤ → ℕ → List (ℤ × ℕ)
part_entries Normal = normal_entries
part_entries Shear = shear_entries

-- the three terms of an expression
abbrev pub entries_at : Expression → List (ℤ × ℕ)
entries_at e = entry_of e.a ∷ entry_of e.b ∷ entry_of e.c ∷ []

-- what an edge says of a part of its traction
pub record TractionIs (r : Traction) (part : Part) (edge : Edge) : Type 0 where
  pub fixed : r.fixed ≡ (eq_z edge.fixed (pos (code part)) || eq_z edge.fixed (pos 3))
  pub dead : r.dead ≡ dead_of part edge
  pub live : r.live ≡ live_of part edge

-- the row of an expression with these entries, on a side with this square of its step
unfoldable pub traction_row : List (ℤ × ℕ) → ℤ → Traction → Row
traction_row es square t = record {
  kind = cond t.fixed asked unfixed;
  entries = es;
  live = neg_ℤ (square *ℤ t.live);
  right = square *ℤ t.dead;
}
