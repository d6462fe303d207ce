-- `mesh_groups` meets its contract: the table is the definitions' groups, by unfolding both, with the rule of
-- elements as it is told.
use mathlib.Core.Bool.{Bool, true, false, cond}
use mathlib.Core.List.{List, [], ◌∷◌}
use lib.IntN.{pos}
use Rattle.scope.specs.Mesh.{soil_lines, node_lines, element_lines, edge_lines, jump_lines}
use Rattle.mesh.specs.declared.sizes.Sizes.{Sizes}
use Rattle.lines.specs.declared.layout.Rule.{Rule}
use Rattle.lines.specs.declared.layout.Rule.TheVariants.{Soil, Element, Tabled as TabledElement, Edge, Jump}
use Rattle.lines.specs.declared.layout.Kind.TheVariants.{Ruled, Even}
use Rattle.lines.specs.declared.layout.Group as Code
use Rattle.lines.specs.Table.{kind_lines, mesh_body, ruled_lines, even_lines, Tabled}
use Rattle.lines.proofs.TableLaws.{few_of, known_of}
use native.Mathlib.Omega.{arith}
use borrow.Author.Rules.{rules}
use Rattle.lines.proofs.layout.mesh_groups.Goals as goal

-- the groups with this rule of elements
abbrev listed : Sizes → Rule → List Code.Group
listed s element =
    record { kind = Ruled Soil; lines = s.soils; columns = 10 }
    ∷ record { kind = Even (pos 0) (pos 1000); lines = s.nodes; columns = 2 }
    ∷ record { kind = Ruled element; lines = s.elements; columns = 5 }
    ∷ record { kind = Ruled Edge; lines = s.edges; columns = 7 }
    ∷ record { kind = Ruled Jump; lines = s.jumps; columns = 4 }
    ∷ []

by_rule : (s : Sizes) (tabled : Bool) → Tabled s (listed s (cond tabled TabledElement Element)) (mesh_body s tabled)
unfolding kind_lines mesh_body ruled_lines even_lines soil_lines node_lines element_lines edge_lines jump_lines
by_rule s true = search rules
by_rule s false = search rules

pub invariant_of-result : goal.invariant_of-result
invariant_of-result c =
    record {
      known =
          known_of (few_of c.ruled.ensures (omega arith) (omega arith) (omega arith))
          (few_of c.even.ensures (omega arith) (omega arith) (omega arith))
          (few_of c.ruled-2.ensures (omega arith) (omega arith) (omega arith))
          (few_of c.ruled-3.ensures (omega arith) (omega arith) (omega arith))
          (few_of c.ruled-4.ensures (omega arith) (omega arith) (omega arith));
    }

pub returns : goal.returns
returns c =
    let a = c.args in
    rw (c.ruled.ensures, c.even.ensures, c.ruled-2.ensures, c.ruled-3.ensures, c.ruled-4.ensures)
    (rw c.element_rule.ensures (by_rule a.s a.tabled))
