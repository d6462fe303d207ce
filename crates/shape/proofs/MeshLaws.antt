-- The lines of edges and jumps as the machine counts them, and what the checks say in their order.
use mathlib.Core.Path.{◌≡◌, sym, ap}
use mathlib.Core.List.{List, [], ◌∷◌}
use Prim.Native.Nat.{ℕ, suc, ◌+◌}
use native.Mathlib.Omega.{arith}
use lib.IntN.{ℤ}
use Rattle.mesh.specs.declared.sizes.Sizes.{Sizes}
use Rattle.scope.specs.Layout.{groups, lines_before}
use Rattle.scope.specs.Mesh.{mesh_header, soil_lines}
use Rattle.scope.specs.Mesh.{node_lines, element_lines, edge_lines, jump_lines, layout_with, mesh_groups}
use Rattle.scope.specs.Mesh.{edge_line, jump_line}
use Rattle.mesh.specs.MeshContracts.{Sized}
use Rattle.scope.specs.Cases.Outcome.{Outcome}
use Rattle.scope.specs.Checks.{◌then◌}
use Rattle.scope.specs.Phases.{check_phase, check_phases}
use Rattle.scope.specs.Refusals.{turns_phase, pairs_phase, shape_phases}
use Rattle.shape.specs.ShapeContracts.{side_phases}
use Rattle.scope.proofs.Phases.{check_join}

-- ---- edges

module _ (m : List ℤ) where
  pub edge_line_lem : {s : Sizes} → Sized m s → (g : ℕ) {r : ℕ} → r ≡ s.soils + s.nodes + s.elements + g + 2
      → r ≡ suc (edge_line m g)
  unfolding edge_line lines_before mesh_groups groups layout_with mesh_header soil_lines node_lines element_lines
      edge_lines
  edge_line_lem k g e = omega (arith, k.soils_are, k.nodes_are, k.elements_are)

-- ---- jumps

module _ (m : List ℤ) where
  pub jump_line_lem : {s : Sizes} → Sized m s → (j : ℕ) {r : ℕ} → r ≡ s.soils + s.nodes + s.elements + (s.edges + j) + 2
      → r ≡ suc (jump_line m j)
  unfolding jump_line lines_before mesh_groups groups layout_with mesh_header soil_lines node_lines element_lines
      edge_lines jump_lines
  jump_line_lem k j e = omega (arith, k.soils_are, k.nodes_are, k.elements_are, k.edges_are)

-- ---- the phases in their order

pub shape_checked : (m : List ℤ) → check_phase (turns_phase m)
    then (check_phases (side_phases m) then check_phase (pairs_phase m)) ≡ check_phases (shape_phases m)
unfolding check_phases
shape_checked m =
    ap (λ (o : Outcome). check_phase (turns_phase m) then o) (sym (check_join (side_phases m) (pairs_phase m ∷ [])))
