-- What contracts say of the tables that the checks of a shape fill and read: of marks, of sides, of edges, of jumps.
use Rattle.std.specs.Prelude.{◌≡◌, Bool, false, cond, ◌&&◌, List, [], ◌∷◌, ℕ, ◌+◌, ◌≤◌, ◌<◌, ℤ, ltb, eqb, length}
use Rattle.std.specs.Prelude.{get_or, set}
use Rattle.scope.specs.Checks.{some_below}
use Rattle.scope.specs.Mesh.{most_nodes, most_elements, most_soils, nodes, elements, edges, element_soil}
use Rattle.scope.specs.Phases.{Phase}
use Rattle.scope.specs.Refusals.{own_sides_phase, nodes_phase, apart_phase, edges_phase, joints_phase}
use Rattle.scope.specs.Rows.{first_where, has_corner}
use Rattle.scope.specs.Tests.{has_side, has_ends, used_by_jump}

-- ---- tables of rows

-- entry b of row a, or another where there is none
abbrev pub entry : {A : Type 0} → A → List (List A) → ℕ → ℕ → A
entry none t a b = get_or (get_or t a []) b none

-- a table whose entry b of row a becomes x
abbrev pub with_entry : {A : Type 0} → List (List A) → ℕ → ℕ → A → List (List A)
with_entry t a b x = set t a (set (get_or t a []) b x)

-- a table of n rows of w entries holds f
pub record Holds {A : Type 0} (none : A) (n w : ℕ) (f : ℕ → ℕ → A) (t : List (List A)) : Type 0 where
  pub rows : length t ≡ n
  pub width : (a : ℕ) → a < n → length (get_or t a []) ≡ w
  pub says : (a b : ℕ) → a < n → b < w → entry none t a b ≡ f a b

-- ---- marks: a row for each node, an entry for each soil

-- an element below e has node v as a corner, and the soil s: `has_soil` once all are passed
abbrev pub soil_below : List ℤ → ℕ → ℕ → ℕ → Bool
soil_below m e v s = some_below (λ k. has_corner m v k && eqb (element_soil m k) s) e

abbrev pub MarkTable : List ℤ → ℕ → List (List Bool) → Type 0
MarkTable m e t = Holds false most_nodes most_soils (soil_below m e) t

-- ---- tables of sides: a row for each node that a side leaves, a byte for each node that it may go to

abbrev pub byte_at : List (List ℕ) → ℕ → ℕ → ℕ
byte_at t a b = entry 0 t a b

-- a table with room for the sides of all nodes holds f
pub record SideBytes (m : List ℤ) (f : ℕ → ℕ → ℕ) (t : List (List ℕ)) : Type 0 where
  pub room : nodes m ≤ length t
  pub bytes : Holds 0 (length t) most_nodes f t

-- the byte of a side that has none yet
abbrev pub no_byte : ℕ
no_byte = 255

-- a byte goes to the side a to b where the byte there is free
unfoldable pub put : (ℕ → Bool) → List (List ℕ) → ℕ → ℕ → ℕ → List (List ℕ)
put free t a b byte = cond (free (byte_at t a b)) (with_entry t a b byte) t

-- a side with no byte yet is free: each keeps the first that it is given
abbrev pub is_none : ℕ → Bool
is_none byte = eqb byte no_byte

abbrev pub keep_first : List (List ℕ) → ℕ → ℕ → ℕ → List (List ℕ)
keep_first t a b byte = put is_none t a b byte

-- the byte of the lowest k below n that passes a test, or another where none does
unfoldable pub byte_below : ℕ → (ℕ → Bool) → (ℕ → ℕ) → ℕ → ℕ
byte_below none has value n =
    let k : ℕ = first_where has n in
    cond (eqb k n) none (value k)

-- the lowest element below e that has the side a to b
abbrev pub side_byte : List ℤ → ℕ → ℕ → ℕ → ℕ
side_byte m e a b = byte_below no_byte (has_side m a b) (λ k. k) e

abbrev pub SideTable : List ℤ → ℕ → List (List ℕ) → Type 0
SideTable m e t = SideBytes m (side_byte m e) t

-- no byte where a to b is no element's side, `most_elements` + k where k is the lowest edge below g that has it,
-- and else the lowest element that has it
unfoldable pub edge_byte : List ℤ → ℕ → ℕ → ℕ → ℕ
edge_byte m g a b =
    let side : ℕ = side_byte m (elements m) a b in
    cond (is_none side) no_byte (byte_below side (has_ends m a b) (λ k. most_elements + k) g)

abbrev pub EdgeTable : List ℤ → ℕ → List (List ℕ) → Type 0
EdgeTable m g t = SideBytes m (edge_byte m g) t

-- the byte of a side that no edge and no jump has taken is an element's number
abbrev pub is_untaken : ℕ → Bool
is_untaken byte = ltb byte most_elements

-- the byte of a side that a jump uses
abbrev pub used_byte : ℕ
used_byte = 254

-- the byte of the side a to b once the first j jumps have used theirs: `used_byte` where an edge has not taken it
unfoldable pub jump_byte : List ℤ → ℕ → ℕ → ℕ → ℕ
jump_byte m j a b =
    let byte : ℕ = edge_byte m (edges m) a b in
    cond (some_below (used_by_jump m a b) j) (cond (is_untaken byte) used_byte byte) byte

abbrev pub JumpTable : List ℤ → ℕ → List (List ℕ) → Type 0
JumpTable m j t = SideBytes m (jump_byte m j) t

-- ---- phases

-- 6, 7, 47, 8 and 44: what a table of sides decides, and marks, and lines along sides
abbrev pub side_phases : List ℤ → List Phase
side_phases m = own_sides_phase m ∷ nodes_phase m ∷ apart_phase m ∷ edges_phase m ∷ joints_phase m ∷ []
