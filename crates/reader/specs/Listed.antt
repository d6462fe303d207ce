-- What reading a file leaves in the list that is lent.
use Rattle.std.specs.Prelude.{◌≡◌, List, ◌++◌, ℕ, ◌≤◌, ℤ, length, drop}
use Rattle.mesh.specs.declared.pairs.ClaimSizes.{ClaimSizes}
use Rattle.mesh.specs.ClaimContracts.{Counted}
use Rattle.scope.specs.Claim.{claim_layout}
use Rattle.reader.specs.File.{file_width, numbers_of}

-- the numbers zs, r of them, stand at the front of the list `before`, which makes it `after`: nothing else is touched
pub record Listed (zs before : List ℤ) (r : ℕ) (after : List ℤ) : Type 0 where
  pub count : r ≡ length zs
  pub list : after ≡ zs ++ drop r before

-- the numbers of the claim file bs, read against a mesh with these sizes and so many pairs, have room in the list
-- `out`
pub record ClaimRoom (bs : List ℕ) (s : ClaimSizes) (out : List ℤ) : Type 0 where
  pub mesh : List ℤ
  pub counted : Counted mesh s
  pub fits : length (numbers_of file_width (claim_layout mesh) bs) ≤ length out

-- so stand the numbers of the claim file bs, whichever mesh with these sizes and so many pairs it is read against
pub record ClaimListed (bs : List ℕ) (s : ClaimSizes) (before : List ℤ) (r : ℕ) (after : List ℤ) : Type 0 where
  pub against : (m : List ℤ) → Counted m s → Listed (numbers_of file_width (claim_layout m) bs) before r after
