-- `has_part` meets its contract: a header that is too short to say that a part is there says that it is not.
use Rattle.std.proofs.Common.{◌≡◌, refl, sym, ap, ◌∙◌, ℕ, ◌<◌, ◌≤◌, List, length, ℤ, pos, Option, Some, None}
use Rattle.std.specs.Option.{option_eq, MatchOption}
use Rattle.std.specs.Ordering.{int_eq}
use Rattle.std.specs.List.{HoldsAt}
use Rattle.std.proofs.lemmas.Bool.Decides.{same_from_decides, Decides-int_eq}
use denote.Bor.{Bor}
use lib.ListN.{get_or-eq_default}
use Rattle.integer.specs.Tests.{eq_z}
use Rattle.scope.specs.Columns.{at}
use Rattle.lines.proofs.LineLaws.{Decides-eq_z}
use Rattle.lines.proofs.layout.has_part.Goals as goal

found : (s : List ℤ) (k : ℕ) (one : Bor ℤ) → one.now ≡ pos 1 → (o : Option (Bor ℤ))
    → MatchOption o (length s ≤ k) (λ x. (k < length s) × HoldsAt (λ y. x.now ≡ y) s k) →
    option_eq (λ x y. int_eq x.now y.now) o (Some one) ≡ eq_z (at s k) (pos 1)
unfolding at
found s k one e None h = sym (ap (λ (z : ℤ). eq_z z (pos 1)) (get_or-eq_default s (pos 0) h))
found s k one e (Some x) h = same_from_decides _ _ (Decides-int_eq x.now one.now) (Decides-eq_z x.now one.now)
    ∙ rw (e, h.1 (pos 0))

pub returns : goal.returns
returns c = c.eq.ensures ∙ found c.args.c.now c.args.k _ refl c.get.result c.get.ensures.lookup.3
