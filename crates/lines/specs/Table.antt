-- The table of a file's groups as the code keeps it, and the groups of the definitions that it stands for.
use Rattle.std.specs.Prelude.{◌≡◌, Bool, cond, List, [], ◌∷◌, ◌++◌, map, ℕ, ◌≤◌, ◌<◌, length, replicate, All, ℤ, pos}
use Rattle.mesh.specs.declared.sizes.Sizes.{Sizes}
use Rattle.lines.specs.declared.layout.Rule.{Rule}
use Rattle.lines.specs.declared.layout.Rule.TheVariants.{Soil, Element, Tabled as TabledElement, Edge, Jump, Layer}
use Rattle.lines.specs.declared.layout.Kind.{Kind}
use Rattle.lines.specs.declared.layout.Kind.TheVariants.{Ruled, Even}
use Rattle.lines.specs.declared.layout.Group as Code
use Rattle.scope.specs.Columns.{Limit, between}
use Rattle.scope.specs.Layout.{Group, width}
use Rattle.scope.specs.Mesh.{most_nodes, most_sides, soil_columns, element_columns, edge_columns, jump_columns}
use Rattle.scope.specs.Mesh.{kind_with, soil_lines, element_lines, edge_lines, jump_lines, mesh_lines}
use Rattle.scope.specs.Layers.{layer_columns}
use Rattle.scope.specs.Table.{layer_lines}
use Rattle.scope.specs.Claim.{claim_lines}

-- how many groups a file has after its header; the most lines of a group, which are a node's, an element's or a
-- pair's, and the most columns of a line, which are a polygon's sides
abbrev pub group_count : ℕ
group_count = 5

abbrev pub most_lines : ℕ
most_lines = most_nodes

abbrev pub most_columns : ℕ
most_columns = most_sides

-- lines whose columns all have one limit
unfoldable pub even_lines : ℕ → ℕ → Limit → Group
even_lines count columns a = record { lines = count; limits = replicate columns a; rules = [] }

-- lines that have rules of their own: an element names nodes and soils, an edge and a jump nodes, a layer soils
unfoldable pub ruled_lines : Rule → Sizes → ℕ → Group
ruled_lines Soil s count = soil_lines count s.sides
ruled_lines Element s count = element_lines count s.nodes 1 s.soils
ruled_lines TabledElement s count = element_lines count s.nodes 0 s.soils
ruled_lines Edge s count = edge_lines count s.nodes
ruled_lines Jump s count = jump_lines count s.nodes
ruled_lines Layer s count = layer_lines count s.soils

-- the most of a soil's columns, of a mesh with so many sides
abbrev pub soil_most : ℕ → List ℤ
soil_most side_count =
    pos 1000
    ∷ pos 1000
    ∷ pos 1000
    ∷ pos 10000
    ∷ pos 1000
    ∷ pos 1000
    ∷ pos 1000
    ∷ pos 1000
    ∷ pos (kind_with side_count)
    ∷ pos 10000
    ∷ []

-- how many columns they have
abbrev pub rule_width : Rule → ℕ
rule_width Soil = soil_columns
rule_width Element = element_columns
rule_width TabledElement = element_columns
rule_width Edge = edge_columns
rule_width Jump = jump_columns
rule_width Layer = layer_columns

unfoldable pub kind_lines : Kind → Sizes → ℕ → ℕ → Group
kind_lines (Ruled r) s count columns = ruled_lines r s count
kind_lines (Even lo hi) s count columns = even_lines count columns (between lo hi)

-- the group of the definitions that a group of the code stands for
abbrev pub meant : Sizes → Code.Group → Group
meant s g = kind_lines g.kind s g.lines g.columns

-- so few lines and columns that no sum of a group's counts overflows
pub record Few (g : Code.Group) : Type 0 where
  pub few_lines : g.lines ≤ most_lines
  pub some_column : 0 < g.columns
  pub few_columns : g.columns ≤ most_columns

-- its columns are those of the definitions, and they and its lines are few
pub record Good (s : Sizes) (g : Code.Group) : Type 0 where
  pub wide : g.columns ≡ width (meant s g)
  pub few : Few g

abbrev pub AllGood : Sizes → List Code.Group → Type 0
AllGood s [] = Unit {0}
AllGood s (g ∷ gs) = Good s g × AllGood s gs

-- the groups of a file, each of them good
pub record Table (s : Sizes) (gs : List Code.Group) : Type 0 where
  pub size : length gs ≡ group_count
  pub good : AllGood s gs

-- as many groups as a file has, whatever the mesh, each of few lines and few columns
pub record Known (gs : List Code.Group) : Type 0 where
  pub size : length gs ≡ group_count
  pub few : All Few gs

-- the groups gs of the code stand for the groups `body` of the definitions
pub record Tabled (s : Sizes) (gs : List Code.Group) (body : List Group) : Type 0 where
  pub table : Table s gs
  pub same : map (meant s) gs ≡ body

-- ---- the groups after the header, on a mesh with these sizes and so many pairs

unfoldable pub mesh_body : Sizes → Bool → List Group
mesh_body s tabled = mesh_lines (cond tabled 0 1) s.nodes s.elements s.soils s.edges s.sides s.jumps

unfoldable pub claim_body : Sizes → ℕ → Bool → Bool → List Group
claim_body s pairs = claim_lines s.nodes s.elements s.edges s.jumps pairs s.sides

-- ---- what is counted over some groups of the code

-- the columns of each line
unfoldable pub line_widths : List Code.Group → List ℕ
line_widths [] = []
line_widths (g ∷ gs) = replicate g.lines g.columns ++ line_widths gs
