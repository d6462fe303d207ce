-- What the numbers of a line must be (document 01, 'The two files'): a limit for each column, and the rules that a
-- line has besides.
use Rattle.std.specs.Prelude.{Bool, true, false, cond, not, ◌&&◌, ◌||◌, List, [], ◌∷◌, ℕ, ℤ, pos, ◌+ℤ◌, ◌*ℤ◌, neg_ℤ}
use Rattle.std.specs.Prelude.{get_or}
use Rattle.std.specs.Int.Signed.{le_z}
use Rattle.integer.specs.Tests.{eq_z}

-- number k of a list
unfoldable pub at : List ℤ → ℕ → ℤ
at ns k = get_or ns k (pos 0)

-- ---- limits

-- what a column's number may be: from lo to hi, one of a few, or any (the number of a node or of a soil has no limits
-- of its own)
pub data Limit : Type 0 where
  between : ℤ → ℤ → Limit
  one_of : List ℤ → Limit
  free : Limit

unfoldable pub is_one_of : List ℤ → ℤ → Bool
is_one_of [] z = false
is_one_of (a ∷ rest) z = eq_z z a || is_one_of rest z

unfoldable pub within : Limit → ℤ → Bool
within (between lo hi) z = le_z lo z && le_z z hi
within (one_of zs) z = is_one_of zs z
within free z = true

-- each number of a line is within its column's limit
unfoldable pub all_within : List Limit → List ℤ → Bool
all_within [] zs = true
all_within (l ∷ ls) [] = true
all_within (l ∷ ls) (z ∷ zs) = within l z && all_within ls zs

-- from -k to k
unfoldable pub up_to : ℕ → Limit
up_to k = between (neg_ℤ (pos k)) (pos k)

-- ---- rules

-- p² + q² = h² in the first three columns (3); each listed column c names one of k things, numbered from 1, or, where
-- it may name none, from 0 (4): c, the least number and k; a claim's parts are there and fit n and l (13); where column
-- d is z, column c is at most k (2, a limit that looks at another column)
pub data Rule : Type 0 where
  right_angle : Rule
  naming : List (ℕ × ℕ × ℕ) → Rule
  parts : Rule
  at_most_where : (c k d z : ℕ) → Rule

-- "Things are numbered from 1": z names one of k things, from the least number on
unfoldable pub names : ℕ → ℕ → ℤ → Bool
names least k z = le_z (pos least) z && le_z z (pos k)

unfoldable pub all_named : List (ℕ × ℕ × ℕ) → List ℤ → Bool
all_named [] line = true
all_named (c ∷ cs) line = names c.1 c.2 (at line c.0) && all_named cs line

-- a claim's header: "field there (0 or 1), multipliers there (0 or 1), n .., l .."
unfoldable pub has_field : List ℤ → Bool
has_field c = eq_z (at c 0) (pos 1)

unfoldable pub has_multipliers : List ℤ → Bool
has_multipliers c = eq_z (at c 1) (pos 1)

-- "the load factor is l/n"
unfoldable pub n : List ℤ → ℤ
n c = at c 2

unfoldable pub l : List ℤ → ℤ
l c = at c 3

unfoldable pub rule_test : Rule → List ℤ → Bool
rule_test right_angle line = eq_z (at line 0 *ℤ at line 0 +ℤ at line 1 *ℤ at line 1) (at line 2 *ℤ at line 2)
rule_test (naming cs) line = all_named cs line
rule_test parts line =
    (has_field line || has_multipliers line)
    && cond (has_field line) (not (eq_z (n line) (pos 0))) (eq_z (n line) (pos 0) && eq_z (l line) (pos 0))
rule_test (at_most_where c k d z) line = cond (eq_z (at line d) (pos z)) (le_z (at line c) (pos k)) true
