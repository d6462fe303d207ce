-- What is handed on of elements as polygons: that all turn left, once 5 has passed, and boxes around them, which 47
-- asks first (document 02, N10).
use Rattle.std.specs.Prelude.{◌≡◌, Bool, ◌||◌, List, ℕ, ◌≤◌, ◌<◌, ℤ, pos, ◌≤ℤ◌, length, get_or}
use Rattle.std.specs.Int.Signed.{le_z}
use Rattle.plane.specs.Boxes.{Box, Around}
use Rattle.scope.specs.Mesh.{elements}
use Rattle.scope.specs.Outline.{outline}
use Rattle.scope.specs.Statements.{LeftTurns}
use Rattle.outlines.specs.declared.boxes.ElementBox.{ElementBox}
use Rattle.outlines.specs.declared.boxes.Boxed.{Boxed}

-- all elements turn left at all their corners
pub record Turned (m : List ℤ) : Type 0 where
  pub left : (e : ℕ) → e < elements m → LeftTurns m e

abbrev pub box_of : ElementBox → Box
box_of b = record { left = b.left; right = b.right; bottom = b.bottom; top = b.top }

-- what reaches so far right and so far up ends below a box or left of it, or where it begins
unfoldable pub ends_before : ℤ → ℤ → ElementBox → Bool
ends_before right top q = le_z top q.bottom || le_z right q.left

-- one of two boxes does, before the other
unfoldable pub boxes_apart : ElementBox → ElementBox → Bool
boxes_apart p q = ends_before p.right p.top q || ends_before q.right q.top p

-- box d of a list, which past its end is read as the box of the origin
abbrev pub no_box : Boxed
no_box = record {
  own = record { left = pos 0; right = pos 0; bottom = pos 0; top = pos 0 };
  right = pos 0;
  top = pos 0;
}

abbrev pub boxed_at : List Boxed → ℕ → Boxed
boxed_at t d = get_or t d no_box

-- what is told of an element reaches as far as a box
pub record Reaches (b : Boxed) (own : ElementBox) : Type 0 where
  pub right : own.right ≤ℤ b.right
  pub top : own.top ≤ℤ b.top

-- the elements below e have boxes around them, and each tells how far it and those before it reach
pub record BoxedTo (m : List ℤ) (e : ℕ) (t : List Boxed) : Type 0 where
  pub size : length t ≡ e
  pub around : (d : ℕ) → d < e → Around (box_of (boxed_at t d).own) (outline m d)
  pub reach : (k d : ℕ) → k ≤ d → d < e → Reaches (boxed_at t d) (boxed_at t k).own
