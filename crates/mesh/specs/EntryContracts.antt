-- What contracts say of a soil, an edge and a jump as they are read of a mesh: each of their numbers is the one that
-- the definitions read in its column.
use Rattle.std.specs.Prelude.{◌≡◌, Bool, true, false, List, ℕ, ◌<◌, ℤ}
use Rattle.mesh.specs.declared.entries.SoilKind.{SoilKind}
use Rattle.mesh.specs.declared.entries.SoilKind.TheVariants.{AsBefore, ByDirection}
use Rattle.mesh.specs.declared.entries.Soil.{Soil}
use Rattle.mesh.specs.declared.entries.Edge.{Edge}
use Rattle.mesh.specs.declared.entries.Jump.{Jump}
use Rattle.scope.specs.Mesh.{nodes, soil_entry, edge_entry, from_node, to_node}
use Rattle.mesh.specs.MeshContracts.{NodeAt, jump_node}

-- the kind is 1
abbrev pub is_by_direction : SoilKind → Bool
is_by_direction AsBefore = false
is_by_direction ByDirection = true

-- r is the soil k of the mesh m
pub record SoilOf (r : Soil) (m : List ℤ) (k : ℕ) : Type 0 where
  pub p : r.p ≡ soil_entry m k 0
  pub q : r.q ≡ soil_entry m k 1
  pub h : r.h ≡ soil_entry m k 2
  pub cohesion : r.cohesion ≡ soil_entry m k 3
  pub dead_x : r.dead.x ≡ soil_entry m k 4
  pub dead_y : r.dead.y ≡ soil_entry m k 5
  pub live_x : r.live.x ≡ soil_entry m k 6
  pub live_y : r.live.y ≡ soil_entry m k 7
  pub across : r.across ≡ soil_entry m k 9

-- r is the edge g of the mesh m, whose nodes are there
pub record EdgeOf (r : Edge) (m : List ℤ) (g : ℕ) : Type 0 where
  pub from : r.from ≡ from_node m g
  pub from_there : r.from < nodes m
  pub to : r.to ≡ to_node m g
  pub to_there : r.to < nodes m
  pub fixed : r.fixed ≡ edge_entry m g 2
  pub dead_normal : r.dead_normal ≡ edge_entry m g 3
  pub dead_shear : r.dead_shear ≡ edge_entry m g 4
  pub live_normal : r.live_normal ≡ edge_entry m g 5
  pub live_shear : r.live_shear ≡ edge_entry m g 6

-- r is the jump j of the mesh m, whose nodes are there
pub record JumpOf (r : Jump) (m : List ℤ) (j : ℕ) : Type 0 where
  pub from : NodeAt r.from m (jump_node m j 0)
  pub to : NodeAt r.to m (jump_node m j 1)
  pub facing_from : NodeAt r.facing_from m (jump_node m j 2)
  pub facing_to : NodeAt r.facing_to m (jump_node m j 3)
