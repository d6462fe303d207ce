-- `Entries::column` meets its contract: each block after spaces is stepped from the first state.
use mathlib.Core.Path.{◌≡◌}
use mathlib.Core.List.{List, [], ◌∷◌}
use Prim.Native.Nat.{ℕ}
use native.Mathlib.Omega.{arith}
use lib.ListN.{length}
use Rattle.reader.specs.File.{file_width}
use Rattle.reader.specs.ColumnState.{OnlySpaces, StandAt}
use Rattle.reader.proofs.OnePass.{part_first, part_value, part_last, spaces_block, zero_block}
use Rattle.reader.proofs.column.Entries.column.Goals as goal

-- a block of spaces at the place i
abbrev SpacesAt : List ℕ → ℕ → Type 0
SpacesAt bs i = StandAt bs i (32 ∷ 32 ∷ 32 ∷ 32 ∷ [])

first_block : {bs : List ℕ} → length bs ≡ file_width → SpacesAt bs 0 → OnlySpaces bs 4
first_block l e = spaces_block (part_first _) l (omega arith) e

two_blocks : {bs : List ℕ} → length bs ≡ file_width → SpacesAt bs 0 → SpacesAt bs 4 → OnlySpaces bs 8
two_blocks l e f = spaces_block (first_block l e) l (omega arith) f

pub block-requires-clause-spaces : goal.block-requires-clause-spaces
block-requires-clause-spaces c = part_first _

pub block-requires-2-clause-spaces : goal.block-requires-2-clause-spaces
block-requires-2-clause-spaces c = first_block c.told-text c.in_default.ensures

pub block-requires-3-clause-spaces : goal.block-requires-3-clause-spaces
block-requires-3-clause-spaces c = two_blocks c.told-text c.in_default.ensures c.in_default-block.ensures

pub said-requires : goal.said-requires
said-requires c = part_value c.in-Some-block-2.ensures

pub returns-in-Some-block-2 : goal.returns-in-Some-block-2
returns-in-Some-block-2 c = part_last c.in-Some-block-2.ensures (omega arith) c.said.ensures

pub returns-in-None : goal.returns-in-None
returns-in-None c =
    let h = two_blocks c.told-text c.in_default.ensures c.in_default-block.ensures in
    zero_block h c.told-text (omega arith) c.in-None.ensures
