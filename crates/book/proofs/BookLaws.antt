-- What the tests of a book say: which books take a call, and which do not.
use mathlib.Core.Path.{◌≡◌, refl, sym}
use mathlib.Core.Bool.{Bool, true, false, ◌&&◌, true≢false}
use Prim.Native.Nat.{◌<◌}
use lib.Dec.{T, ltb}
use borrow.Author.Tests.{ltb-true}
use Rattle.book.specs.Book.{Kept, most_commits, proper, takes_ask}

pub holds : (b : Bool) → b ≡ true → T b
holds true h = tt
holds false h = absurd (true≢false (sym h))

pub both : (a b : Bool) → (a && b) ≡ true → (a ≡ true) × (b ≡ true)
both true b h = (refl, h)
both false b h = absurd (true≢false (sym h))

module _ (b : Kept) (h : takes_ask b ≡ true) where
  parts : (ltb b.count most_commits ≡ true) × ((proper b.lower && proper b.upper) ≡ true)
  unfolding takes_ask
  parts = both (ltb b.count most_commits) (proper b.lower && proper b.upper) h

  pub takes_room : b.count < most_commits
  takes_room = ltb-true b.count most_commits parts.0

  pub takes_lower : proper b.lower ≡ true
  takes_lower = (both (proper b.lower) (proper b.upper) parts.1).0

  pub takes_upper : proper b.upper ≡ true
  takes_upper = (both (proper b.lower) (proper b.upper) parts.1).1
