-- Stress jumps across a joint (document 02, N6; 001, 2.3), said without the test of 44 or the list of rows: what jump
-- rows ask of the traction on a joint and leave free, which sides a joint has, and that a mesh without jumps has
-- document 01's rows.
use Rattle.std.specs.Prelude.{◌≡◌, ◌↔◌, List, [], ◌∷◌, ◌++◌, ℕ, ◌<◌, ℤ, pos, ◌+ℤ◌, ◌-ℤ◌, ◌*ℤ◌, neg_ℤ, ◌<ℤ◌}
use Rattle.integer.specs.Members.{◌∈◌}
use Rattle.scope.specs.Mesh.{edges, jumps, x, y, from_node, to_node, jump_from, jump_to, facing_from, facing_to}
use Rattle.scope.specs.Rows.{sx, sy, t, balance_rows, side_rows, jump_step_x, jump_step_y, jump_normal, jump_shear}
use Rattle.scope.specs.Rows.{equality_rows}
use Rattle.scope.specs.Sums.{left_side}
use Rattle.scope.specs.Statements.{OuterSide}
use Rattle.scope.specs.Printed.{NormalAgrees, ShearAgrees}
use Rattle.scope.specs.Meaning.{traction_x, traction_y}

-- ---- what agrees on a side of step (u, w)

pub record JumpMeaning (u w : ℤ) : Type 0 where
  -- "normal and shear agree": the force on the side is the same by the stresses of both
  pub same_traction : (sx sy t facing_sx facing_sy facing_t : ℤ)
      → (NormalAgrees u w sx sy t facing_sx facing_sy facing_t × ShearAgrees u w sx sy t facing_sx facing_sy facing_t)
      ↔ ((traction_x u w sx t ≡ traction_x u w facing_sx facing_t)
      × (traction_y u w sy t ≡ traction_y u w facing_sy facing_t))
  -- "lets stress jump": a stress k along the side, k·(u², w², uw), is asked nothing
  pub along_is_free : (sx sy t k : ℤ)
      → NormalAgrees u w sx sy t (sx +ℤ k *ℤ (u *ℤ u)) (sy +ℤ k *ℤ (w *ℤ w)) (t +ℤ k *ℤ (u *ℤ w))
      × ShearAgrees u w sx sy t (sx +ℤ k *ℤ (u *ℤ u)) (sy +ℤ k *ℤ (w *ℤ w)) (t +ℤ k *ℤ (u *ℤ w))

-- ---- a joint of a mesh

-- the force on jump j's side by the stresses of node v
abbrev pub jump_force_x : List ℤ → (ℕ → ℤ) → ℕ → ℕ → ℤ
jump_force_x m s j v = traction_x (jump_step_x m j) (jump_step_y m j) (s (sx v)) (s (t v))

abbrev pub jump_force_y : List ℤ → (ℕ → ℤ) → ℕ → ℕ → ℤ
jump_force_y m s j v = traction_y (jump_step_x m j) (jump_step_y m j) (s (sy v)) (s (t v))

-- at each end of jump j the two sides press on each other alike
pub record SameTraction (m : List ℤ) (s : ℕ → ℤ) (j : ℕ) : Type 0 where
  pub at_from : (jump_force_x m s j (jump_from m j) ≡ jump_force_x m s j (facing_from m j))
      × (jump_force_y m s j (jump_from m j) ≡ jump_force_y m s j (facing_from m j))
  pub at_to : (jump_force_x m s j (jump_to m j) ≡ jump_force_x m s j (facing_to m j))
      × (jump_force_y m s j (jump_to m j) ≡ jump_force_y m s j (facing_to m j))

-- the two sides of jump j, each as its element has it
abbrev pub jump_sides : List ℤ → ℕ → List (ℕ × ℕ)
jump_sides m j = (jump_from m j, jump_to m j) ∷ (facing_to m j, facing_from m j) ∷ []

-- a mesh that passes
pub record SoundJumps (m : List ℤ) : Type 0 where
  -- both sides of a joint are outer sides
  pub outer : (j : ℕ) → j < jumps m → (a : ℕ × ℕ) → a ∈ jump_sides m j → OuterSide m a.0 a.1
  -- each outer side is used once: by one jump, or by an edge
  pub one_jump : (j k : ℕ) → j < jumps m → k < jumps m → (a : ℕ × ℕ) → a ∈ jump_sides m j → a ∈ jump_sides m k → j ≡ k
  pub no_edge : (j g : ℕ) → j < jumps m → g < edges m → ¬ ((from_node m g, to_node m g) ∈ jump_sides m j)
  -- the joint has a length, and the facing side goes the other way, so that its outward normal is the opposite one
  pub has_length : (j : ℕ) → j < jumps m
      → pos 0 <ℤ (jump_step_x m j *ℤ jump_step_x m j +ℤ jump_step_y m j *ℤ jump_step_y m j)
  pub facing_step : (j : ℕ) → j < jumps m
      → (x m (facing_from m j) -ℤ x m (facing_to m j) ≡ neg_ℤ (jump_step_x m j))
      × (y m (facing_from m j) -ℤ y m (facing_to m j) ≡ neg_ℤ (jump_step_y m j))

-- ---- the rows

-- where an end isn't doubled (the tip of a cut), the rows there have coefficients that cancel
abbrev pub TipAsksNothing : List ℤ → Type 0
TipAsksNothing m = (s : ℕ → ℤ) (l : ℤ) (j v : ℕ)
    → (left_side s l (jump_normal m j v v) ≡ pos 0) × (left_side s l (jump_shear m j v v) ≡ pos 0)

-- a mesh without jumps has document 01's equality rows
abbrev pub NoJumps : List ℤ → Type 0
NoJumps m = jumps m ≡ 0 → equality_rows m ≡ balance_rows m ++ side_rows m
