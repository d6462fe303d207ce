-- The test of two whole numbers for equality, beside `le_z` and `lt_z` of `lib.Signed`.
-- All three compute at literals, so that a definition that is made of them is run by `refl`.
use Rattle.std.specs.Prelude.{◌≡◌, refl, Bool, true, false, ◌&&◌, eqb, ℤ, pos, negsuc}
use Rattle.std.specs.Int.Signed.{le_z}

abbrev pub eq_z : ℤ → ℤ → Bool
eq_z (pos a) (pos b) = eqb a b
eq_z (pos a) (negsuc b) = false
eq_z (negsuc a) (pos b) = false
eq_z (negsuc a) (negsuc b) = eqb a b

-- example: -5 ≤ 3 and 3 = 3
example_computed : (le_z (negsuc 4) (pos 3) && eq_z (pos 3) (pos 3)) ≡ true
example_computed = refl
