-- A book of the best bracket (document 02, N12): "A book begins empty and keeps the highest carried load, the lowest
-- limit and a count of commits." What an ask and a commit answer, on the verdict of the claim.
use Rattle.std.specs.Prelude.{Bool, true, ◌&&◌, cond, ℕ, ◌+◌, ltb, eqb, pos, ◌*ℤ◌}
use Rattle.std.specs.Int.Signed.{lt_z}
use Rattle.integer.specs.Fraction.{Frac, ◌over◌}
use Rattle.scope.specs.Cases.Load.{Load, Absent, Exact}
use Rattle.scope.specs.Cases.Verdict.{Verdict, Accepted, Refused}
use Rattle.book.specs.declared.bounds.Bound.{Bound}
use Rattle.book.specs.declared.bounds.Bound.TheVariants.{Lower, Upper}

-- what a book keeps; a bound that it does not have yet is absent
pub record Kept : Type 0 where
  pub lower : Load
  pub upper : Load
  pub count : ℕ

-- what is said of the claim of a call: nothing, or its verdict
pub data Said : Type 0 where
  Unjudged : Said
  Judged : Verdict → Said

-- what a call tells: beside that, the book that would follow an ask, or that follows a commit
pub record Told : Type 0 where
  pub said : Said
  pub kept : Kept

-- ---- which calls a book takes

-- "the count is already 1,000,000 or more"
abbrev pub most_commits : ℕ
most_commits = 1000000

-- "a bound in the book has a denominator not above 0": not a proper one
unfoldable pub proper : Load → Bool
proper Absent = true
proper (Exact num den) = lt_z (pos 0) den

unfoldable pub takes_ask : Kept → Bool
takes_ask b = ltb b.count most_commits && (proper b.lower && proper b.upper)

-- "A commit names the count that the ask saw"
unfoldable pub takes_commit : Kept → ℕ → Bool
takes_commit b count = eqb count b.count && takes_ask b

-- ---- the book that follows

-- whether f is strictly better than g, both with denominators above 0: a higher carried load, a lower limit; compared
-- "as exact fractions", by cross products
unfoldable pub better : Bound → Frac → Frac → Bool
better Lower f g = lt_z (g.num *ℤ f.den) (f.num *ℤ g.den)
better Upper f g = lt_z (f.num *ℤ g.den) (g.num *ℤ f.den)

-- "it moves each bound only if the claim's is strictly better"; "Any bound is better than one the book doesn't have
-- yet; a part that the claim lacks moves nothing"
unfoldable pub moved : Bound → Load → Load → Load
moved w old Absent = old
moved w Absent (Exact n d) = Exact n d
moved w (Exact m e) (Exact n d) = cond (better w (n over d) (m over e)) (Exact n d) (Exact m e)

-- "A book begins empty"
abbrev pub empty_book : Kept
empty_book = record { lower = Absent; upper = Absent; count = 0 }

-- "Accepted, it moves each bound .. and adds one to the count; a refused claim leaves the book"
unfoldable pub followed : Kept → Verdict → Kept
followed b (Accepted o carried allowed) = record {
  lower = moved Lower b.lower carried;
  upper = moved Upper b.upper allowed;
  count = b.count + 1;
}
followed b (Refused number place) = b

-- ---- what is answered

-- "book unchanged and claim unjudged"
unfoldable pub unjudged : Kept → Told
unjudged b = record { said = Unjudged; kept = b }

unfoldable pub judged : Kept → Verdict → Told
judged b v = record { said = Judged v; kept = followed b v }

-- "An ask judges a claim and tells the book that would follow, changing nothing"
unfoldable pub asked : Kept → Verdict → Told
asked b v = cond (takes_ask b) (judged b v) (unjudged b)

-- a commit leaves the book that it tells
unfoldable pub committed : Kept → ℕ → Verdict → Told
committed b count v = cond (takes_commit b count) (judged b v) (unjudged b)
