-- `first_outside` meets its contract: the first place at which the test of a number fails.
use Rattle.std.proofs.Common.{◌≡◌, ◌∙◌, sym, ap, ℕ, ◌<◌, ◌≤◌, true, false, List, Option, Some, None, ℤ, pos, length}
use Rattle.std.proofs.Common.{take, rules, tests, arith}
use Rattle.std.specs.Prelude.{IfSome, IfNone}
use Rattle.std.specs.List.{HoldsAt, AllWithin}
use Rattle.std.specs.Option.{MatchOption}
use Rattle.std.proofs.lemmas.Iterator.{YieldsList-from_slice, IsFirst-from_position}
use mir.Facts.{to_z-of_z}
use lib.Seq.{get_or-take, length-take-le}
use Rattle.scope.specs.Checks.{all_below}
use Rattle.scope.specs.Columns.{Limit, between, within, at}
use Rattle.lines.specs.SearchContracts.{first_failing}
use Rattle.lines.proofs.Loops.{each_below, first_is}
use Rattle.lines.proofs.line_checks.first_outside.Goals as goal

module _ (l : Limit) (s : List ℤ) (n : ℕ) (h : n ≤ length s) where
  long : length (take n s) ≡ n
  long = length-take-le n s h

  there : (k : ℕ) → k < n → within l (at (take n s) k) ≡ within l (at s k)
  unfolding at
  there k b = ap (within l) (get_or-take n s k (pos 0) b)

  none_outside : true ≡ all_below (λ k. within l (at (take n s) k)) (length (take n s))
      → first_failing (λ k. within l (at s k)) n ≡ n
  none_outside e =
      sym
      (first_is (λ k. within l (at s k)) n (omega arith)
      (λ k b. sym (there k b) ∙ each_below (λ k. within l (at (take n s) k)) (length (take n s)) (sym e) k
      (omega (arith, long)))
      (λ b. absurd (omega arith)))

  -- what the search answers
  abbrev Searched : Option ℕ → Type 0
  Searched o =
      let Inside : ℕ → Type 0 = AllWithin (λ z. within l z ≡ true) (take n s) 0 in
      MatchOption o (Inside (length (take n s)))
      (λ i. (i < length (take n s)) × HoldsAt (λ z. within l z ≡ false) (take n s) i × Inside i)

  found : (o : Option ℕ) → Searched o → IfSome o (λ k. k ≡ first_failing (λ k. within l (at s k)) n)
  unfolding at
  found None r = tt
  found (Some i) r =
      first_is (λ k. within l (at s k)) n (omega (arith, r.0, long))
      (λ k b. sym (there k (omega (arith, r.0, long))) ∙ r.2 k (pos 0) (omega arith) b)
      (λ b. sym (there i b) ∙ r.1 (pos 0))

  not_found : (o : Option ℕ) → Searched o → IfNone o (first_failing (λ k. within l (at s k)) n ≡ n)
  unfolding at
  not_found None r =
      sym (first_is (λ k. within l (at s k)) n (omega arith)
      (λ k b. sym (there k b) ∙ r k (pos 0) (omega arith) (omega (arith, long))) (λ b. absurd (omega arith)))
  not_found (Some i) r = tt

pub returns-then-all_within-clause-none : goal.returns-then-all_within-clause-none
returns-then-all_within-clause-none c =
    let a = c.args in
    none_outside (between a.lo a.hi) a.s.now a.count c.requires
    (sym c.if-all_within.true ∙ (rw (to_z-of_z c.ranges.lo, to_z-of_z c.ranges.hi) at c.all_within.ensures))

searched : (c : goal.After-position)
    → Searched (between c.args.lo c.args.hi) c.args.s.now c.args.count c.requires c.position.result
searched c =
    let a = c.args in
    let l = between a.lo a.hi in
    IsFirst-from_position _ _ _ (λ z. within l z ≡ false) (λ z. within l z ≡ true) c.position.ensures.ran
    (YieldsList-from_slice (take a.count a.s.now) cc) (λ x q k. search (rules, tests)) (λ x q k. search (rules, tests))

pub returns-clause-found : goal.returns-clause-found
returns-clause-found c = found (between c.args.lo c.args.hi) c.args.s.now c.args.count c.requires c.position.result
    (searched c)

pub returns-clause-none : goal.returns-clause-none
returns-clause-none c = not_found (between c.args.lo c.args.hi) c.args.s.now c.args.count c.requires c.position.result
    (searched c)
