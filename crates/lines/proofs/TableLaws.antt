-- Laws of the table of groups: a group of it by its place, and what is known of each.
use mathlib.Core.Path.{◌≡◌, refl, sym, ◌∙◌, ap}
use mathlib.Core.List.{List, [], ◌∷◌}
use Prim.Native.Nat.{ℕ, zero, suc, ◌+◌, ◌*◌, ◌≤◌, ◌<◌}
use native.Mathlib.Nat.{mul-le-mul}
use native.Mathlib.Numerals.{add-one}
use native.Mathlib.Omega.{arith}
use lib.ListN.{length, get_or, drop}
use lib.Seq.{drop-cons}
use Rattle.std.proofs.lemmas.List.Elements.{All-cons, All-nil}
use Rattle.mesh.specs.declared.sizes.Sizes.{Sizes}
use Rattle.scope.specs.Table.{layer_lines}
use Rattle.lines.specs.declared.layout.Rule.TheVariants.{Soil, Element, Tabled, Edge, Jump, Layer}
use Rattle.lines.specs.declared.layout.Kind.{Kind}
use Rattle.lines.specs.declared.layout.Kind.TheVariants.{Ruled, Even}
use Rattle.lines.specs.declared.layout.Group as Code
use Rattle.scope.specs.Mesh.{soil_lines, element_lines, edge_lines, jump_lines}
use Rattle.lines.specs.Table.{most_lines, most_columns, kind_lines, ruled_lines, even_lines, meant, Good, AllGood}
use Rattle.lines.specs.Table.{Few, Known}

-- the group at place i
pub good-at : {s : Sizes} (gs : List Code.Group) (d : Code.Group) (i : ℕ) → AllGood s gs → i < length gs
    → Good s (get_or gs i d)
good-at [] d i h l = absurd (omega arith)
good-at (g ∷ gs) d zero h l = h.0
good-at (g ∷ gs) d (suc i) h l = good-at gs d i h.1 (omega arith)

-- a group's lines and columns are few, and so are those of five groups
pub few_of : {g : Code.Group} {kind : Kind} {lines columns : ℕ}
    → g ≡ record { kind = kind; lines = lines; columns = columns } → lines ≤ most_lines → 0 < columns
    → columns ≤ most_columns → Few g
few_of e l some w = rw e (record { few_lines = l; some_column = some; few_columns = w })

pub known_of : {a b c d e : Code.Group} → Few a → Few b → Few c → Few d → Few e → Known (a ∷ b ∷ c ∷ d ∷ e ∷ [])
known_of {a} {b} {c} {d} {e} fa fb fc fd fe =
    let last = All-cons Few d (e ∷ []) fd (All-cons Few e [] fe (All-nil Few)) in
    let later = All-cons Few b (c ∷ d ∷ e ∷ []) fb (All-cons Few c (d ∷ e ∷ []) fc last) in
    record { size = refl; few = All-cons Few a (b ∷ c ∷ d ∷ e ∷ []) fa later }

-- the groups from place i on, and what they stand for: the one at place i, and those after it
pub from_place : (gs : List Code.Group) (d : Code.Group) (i : ℕ) → i < length gs
    → drop i gs ≡ get_or gs i d ∷ drop (i + 1) gs
from_place gs d i l = drop-cons gs i d l ∙ ap (λ (j : ℕ). get_or gs i d ∷ drop j gs) (sym (add-one i))

-- the numbers of a group that is good are few
pub few_in : {s : Sizes} {g : Code.Group} → Good s g → g.lines * g.columns ≤ most_lines * most_columns
few_in h = mul-le-mul {n₂ = most_lines} {m₂ = most_columns} h.few.few_lines h.few.few_columns

-- its lines as the definitions have them
pub lines_meant : (s : Sizes) (g : Code.Group) → (meant s g).lines ≡ g.lines
unfolding kind_lines ruled_lines even_lines soil_lines element_lines edge_lines jump_lines layer_lines
lines_meant s g = of g.kind
  where
    of : (k : Kind) → (kind_lines k s g.lines g.columns).lines ≡ g.lines
    of (Ruled Soil) = refl
    of (Ruled Element) = refl
    of (Ruled Tabled) = refl
    of (Ruled Edge) = refl
    of (Ruled Jump) = refl
    of (Ruled Layer) = refl
    of (Even lo hi) = refl
