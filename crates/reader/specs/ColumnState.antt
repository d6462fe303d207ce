-- How the program keeps the phase and the value of a column that it reads (N4): contracts, over what `OnePass` keeps.
use Rattle.std.specs.Prelude.{◌≡◌, List, ℕ, ◌+◌, ◌*◌, ◌/◌, ◌%◌, ◌^◌, ◌≤◌, ◌<◌, ℤ, get_or, take, EachIndex, Some, None}
use Rattle.std.specs.Prelude.{Option as Answer}
use Rattle.std.proofs.Math.Option.{Option, none, some}
use Rattle.reader.specs.File.{file_width}
use Rattle.reader.specs.OnePass.{Phase, bad, blank, sign, nought, up, down, turn, digit_of, meant, state_after}
use Rattle.reader.specs.declared.column.Kept.{Kept}

-- a phase is kept as the place of six bits in a byte's entry
unfoldable pub shift : Phase → ℕ
shift bad = 0
shift blank = 6
shift sign = 12
shift nought = 18
shift up = 24
shift down = 30

-- the entry of the byte b: at the place of each phase stands the next one, and in the upper four bits the digit
pub record Entry (b e : ℕ) : Type 0 where
  pub turns : (p : Phase) → e / 2 ^ shift p % 64 ≡ shift (turn p b)
  pub digit : e / 2 ^ 60 ≡ digit_of b

pub record Table (t : List ℕ) : Type 0 where
  pub entry : (b : ℕ) → b < 256 → Entry b (get_or t b 0)

-- the program's state c becomes r by the byte b
pub record Stepped (c : Kept) (b : ℕ) (r : Kept) : Type 0 where
  pub phase : (p : Phase) → c.phase ≡ shift p → r.phase ≡ shift (turn p b)
  pub below : r.phase < 64
  pub value : r.value ≡ c.value * 10 + digit_of b

-- what a column says, as the program answers it
unfoldable pub reading_of : Option ℤ → Answer ℤ
reading_of none = None
reading_of (some z) = Some z

-- the program's state c says r
pub record Said (c : Kept) (r : Answer ℤ) : Type 0 where
  pub says : (p : Phase) → c.phase ≡ shift p → r ≡ reading_of (meant p c.value)

-- the program's state c is the one after the bytes bs, and after the first i bytes of the column bs
pub record After (bs : List ℕ) (c : Kept) : Type 0 where
  pub phase : c.phase ≡ shift (state_after bs).0
  pub value : c.value ≡ (state_after bs).1

pub record Partway (bs : List ℕ) (i : ℕ) (c : Kept) : Type 0 where
  pub most : i ≤ file_width
  pub state : After (take i bs) c

-- the first i bytes of the column bs are spaces, so that nothing is kept of them
abbrev pub OnlySpaces : List ℕ → ℕ → Type 0
OnlySpaces bs i = Partway bs i (record { phase = 6; value = 0 })

-- the bytes us stand in the column bs from its byte i on
abbrev pub StandAt : List ℕ → ℕ → List ℕ → Type 0
StandAt bs i us = EachIndex us (λ k. get_or bs (i + k) 0 ≡ get_or us k 0)
