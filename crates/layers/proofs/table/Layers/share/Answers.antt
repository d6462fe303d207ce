-- `share` meets its contract: the height from which both are there, and then the tests as they go.
use mathlib.Core.Path.{◌≡◌, refl, ◌∙◌}
use mathlib.Core.Bool.{Bool, ◌&&◌}
use mathlib.Core.List.{List}
use Prim.Native.Nat.{ℕ, ◌≤◌}
use native.Mathlib.Omega.{arith}
use lib.IntN.{ℤ, pos}
use lib.Signed.{le_z, lt_z}
use mir.Syntax.{w64}
use mir.Val.{to_z, of_z}
use Rattle.std.specs.Int.{int_max}
use Rattle.integer.specs.Bounds.{Is}
use Rattle.integer.proofs.Machine.{Is-read, machine, casts, is, decides}
use Rattle.scope.specs.Mesh.{most_coordinate}
use Rattle.scope.specs.Layers.{most_level, bottom, top}
use Rattle.layers.specs.LayerContracts.{meeting, meet}
use Rattle.layers.proofs.LayerLaws.{higher_is, and_second, and_not_first}
use Rattle.layers.proofs.table.Layers.share.Goals as goal
use Rattle.layers.proofs.table.Layers.share.Goals.{then-from-heights, else-from-heights}

-- the height from which both are there
from_is :
    (t : List ℤ) (i j : ℕ) {lo : ℕ} {a b h f : ℤ} →
    lo ≤ most_coordinate →
    Is a (bottom t i) most_level →
    Is b (bottom t j) most_level →
    h ≡ int_max (to_z w64 (of_z w64 a)) (to_z w64 (of_z w64 b)) →
    f ≡ int_max (to_z w64 (of_z w64 h)) (to_z w64 lo) →
    Is f (meeting t lo i j) most_level
unfolding meeting
from_is t i j {lo} few a b eh ef =
    let first = higher_is (Is-read a (omega arith)) (Is-read b (omega arith)) eh in
    let least : Is (to_z w64 lo) (pos lo) most_level = is (search (machine, casts) depth 30) (omega arith) refl in
    higher_is (Is-read first (omega arith)) least ef

-- the first two tests: hi is not passed, and layer i has not ended
abbrev first_two : List ℤ → ℕ → ℕ → ℕ → ℕ → Bool
first_two t lo hi i j = le_z (meeting t lo i j) (pos hi) && lt_z (meeting t lo i j) (top t i)

pub returns-then-from-a : goal.returns-then-from-a
unfolding meet
returns-then-from-a c =
    let a = c.layer-a.ensures in
    let b = c.layer-b.ensures in
    let from =
    from_is _ c.args.i c.args.j c.args.heights.low a.bottom b.bottom c.max.ensures.value c.max-from.ensures.value in
    let most = c.args.heights.high in
    let end = a.top in
    let other = b.top in
    let two : c.if-from-heights.value ≡ first_two c.args.self.now.numbers.now c.args.heights.lo c.args.heights.hi
    c.args.i c.args.j =
    elim c.if-from-heights.branch [
      | then-from-heights w ↦
          w.value-is
          ∙ and_second w.if-from-heights.true
          (decides (search (machine, casts) depth 30) (omega arith))
          (decides (search (machine, casts) depth 30) (omega arith))
      | else-from-heights w ↦
          w.value-is ∙ and_not_first _ w.if-from-heights.false
          (decides (search (machine, casts) depth 30) (omega arith))
    ] in
    and_second c.if-from-a.true two (decides (search (machine, casts) depth 30) (omega arith))

pub returns-else-from-a : goal.returns-else-from-a
unfolding meet
returns-else-from-a c =
    let a = c.layer-a.ensures in
    let b = c.layer-b.ensures in
    let from =
    from_is _ c.args.i c.args.j c.args.heights.low a.bottom b.bottom c.max.ensures.value c.max-from.ensures.value in
    let most = c.args.heights.high in
    let end = a.top in
    let two : c.if-from-heights.value ≡ first_two c.args.self.now.numbers.now c.args.heights.lo c.args.heights.hi
    c.args.i c.args.j =
    elim c.if-from-heights.branch [
      | then-from-heights w ↦
          w.value-is
          ∙ and_second w.if-from-heights.true
          (decides (search (machine, casts) depth 30) (omega arith))
          (decides (search (machine, casts) depth 30) (omega arith))
      | else-from-heights w ↦
          w.value-is ∙ and_not_first _ w.if-from-heights.false
          (decides (search (machine, casts) depth 30) (omega arith))
    ] in
    and_not_first _ c.if-from-a.false two
