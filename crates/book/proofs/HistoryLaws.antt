-- After any calls the book is the best of the accepted claims committed: one claim more moves a bound to the first best
-- of the longer list, by one law over a way to be no better.
use mathlib.Core.Path.{◌≡◌, refl, sym, ap, ◌∙◌, subst}
use mathlib.Core.Logic.{◌↔◌, ◌⊎◌, inl, inr, ◌≢◌}
use mathlib.Core.Bool.{Bool, true, false, not, ◌&&◌, cond, true≢false}
use mathlib.Core.List.Memᴰ
use mathlib.Core.List.{List, [], ◌∷◌, ◌++◌, map, append_assoc, append-nil}
use Prim.Native.Nat.{ℕ, suc, ◌+◌, ◌≤◌}
use native.Mathlib.Numerals.{add-one}
use native.Mathlib.Omega.{arith}
use borrow.Author.Tests.{eq-eqb, ne_eqb, ltb-false}
use lib.Dec.{T, ltb, eqb, eqb_refl}
use lib.Ieee.Bits.{is_true}
use lib.IntN.{ℤ, pos, ◌*ℤ◌}
use lib.ListN.{length, length-append}
use lib.Signed.{lt_z, lt_z_yes, lt_z_no, clash_ℤ}
use Rattle.integer.specs.Fraction.{Frac, ◌over◌, Positive, ◌≤ᶠ◌, ◌<ᶠ◌}
use Rattle.integer.proofs.FractionLaws.{≤ᶠ_refl, ≤ᶠ_trans, <ᶠ_not_≤ᶠ}
use Rattle.integer.proofs.Order.{<ℤ→≤ℤ}
use Rattle.scope.specs.declared.Place.{Place}
use Rattle.scope.specs.Cases.Load.{Load, Absent, Exact}
use Rattle.scope.specs.Cases.OpenRows.{OpenRows}
use Rattle.scope.specs.Cases.Verdict.{Verdict, Accepted, Refused}
use Rattle.integer.specs.Members.{◌∈◌}
use Rattle.judge.specs.Handed.{Handed}
use Rattle.book.specs.declared.bounds.Bound.{Bound}
use Rattle.book.specs.declared.bounds.Bound.TheVariants.{Lower, Upper}
use Rattle.book.specs.Book.{Kept, Told, Unjudged, Judged, most_commits, proper, takes_ask, takes_commit, better}
use Rattle.book.specs.Book.{moved, followed, unjudged, judged, asked, committed, empty_book}
use Rattle.book.specs.History.{AskOrCommit, asks, commits, left, left_by_all, OnlyAsks, AskAndCommitAgree, RefusedLeaves}
use Rattle.book.specs.History.{NotAbove0, Shut, UnjudgedExactly, Loads, committed_after, NoBetter, FirstOf, Best}
use Rattle.book.specs.History.{judged_call, TheBookIsTheBest}
use Rattle.book.proofs.BookLaws.{holds, both, takes_room, takes_lower, takes_upper}
use Rattle.book.proofs.VerdictLaws.{verdict_proper, handed_proper}

-- ---- one bound more

Proper : Load → Type 0
Proper b = proper b ≡ true

positive : (n d : ℤ) → Proper (Exact n d) → Positive (n over d)
unfolding Proper proper
positive n d h = record { positive = lt_z_yes (holds (lt_z (pos 0) d) h) }

-- a way to be no better, and which test of the definition decides it
record Way : Type 1 where
  pub R : Frac → Frac → Type 0
  pub which_bound : Bound
  pub same : (f : Frac) → R f f
  pub chain : (f g h : Frac) → Positive f → Positive g → Positive h → R f g → R g h → R f h
  -- f is strictly better than g, or no better
  pub strictly : (f g : Frac) → T (better which_bound f g) → R g f × (¬ R f g)
  pub no_more : (f g : Frac) → T (not (better which_bound f g)) → R f g

above : {f g : Frac} → T (lt_z (g.num *ℤ f.den) (f.num *ℤ g.den)) → g <ᶠ f
above t = record { cross-< = lt_z_yes t }

below_or_same : {f g : Frac} → T (lt_z (g.num *ℤ f.den) (f.num *ℤ g.den)) → g ≤ᶠ f
below_or_same t = record { cross-≤ = <ℤ→≤ℤ (lt_z_yes t) }

upward : Way
unfolding better
upward = record {
  R = λ f g. f ≤ᶠ g;
  which_bound = Lower;
  same = ≤ᶠ_refl;
  chain = λ f g h pf pg ph. ≤ᶠ_trans pf pg ph;
  strictly = λ f g t. (below_or_same t, <ᶠ_not_≤ᶠ (above t));
  no_more = λ f g t. record { cross-≤ = lt_z_no t };
}

downward : Way
unfolding better
downward = record {
  R = λ f g. g ≤ᶠ f;
  which_bound = Upper;
  same = ≤ᶠ_refl;
  chain = λ f g h pf pg ph a b. ≤ᶠ_trans ph pg pf b a;
  strictly = λ f g t. (below_or_same t, <ᶠ_not_≤ᶠ (above t));
  no_more = λ f g t. record { cross-≤ = lt_z_no t };
}

module _ (W : Way) where
  abbrev No : Load → Load → Type 0
  No = NoBetter (W.R)

  no_better_trans : (x b c : Load) → Proper x → Proper b → Proper c → No x b → No b c → No x c
  no_better_trans Absent b c X B C h k = tt
  no_better_trans (Exact n d) Absent c X B C h k = absurd h
  no_better_trans (Exact n d) (Exact m e) Absent X B C h k = absurd k
  no_better_trans (Exact n d) (Exact m e) (Exact p q) X B C h k =
      W.chain (n over d) (m over e) (p over q) (positive n d X) (positive m e B) (positive p q C) h k

  -- what is kept is no worse than either, and the new one only where it is strictly better
  record Moved (old new kept : Load) : Type 0 where
    pub from_old : No old kept
    pub from_new : No new kept
    pub which : (kept ≡ old) ⊎ ((kept ≡ new) × (¬ No new old))

  moves : (old new : Load) → Moved old new (moved W.which_bound old new)
  unfolding moved
  moves Absent Absent = record { from_old = tt; from_new = tt; which = inl refl }
  moves (Exact m e) Absent = record { from_old = W.same (m over e); from_new = tt; which = inl refl }
  moves Absent (Exact n d) = record { from_old = tt; from_new = W.same (n over d); which = inr (refl, λ h. h) }
  moves (Exact m e) (Exact n d) = go (better W.which_bound (n over d) (m over e)) (W.strictly (n over d) (m over e))
      (W.no_more (n over d) (m over e))
    where
      go : (t : Bool) → (T t → W.R (m over e) (n over d) × (¬ W.R (n over d) (m over e)))
          → (T (not t) → W.R (n over d) (m over e)) → Moved (Exact m e) (Exact n d) (cond t (Exact n d) (Exact m e))
      go true h k = record { from_old = (h tt).0; from_new = W.same (n over d); which = inr (refl, (h tt).1) }
      go false h k = record { from_old = W.same (m over e); from_new = k tt; which = inl refl }

  -- the best of a list whose denominators are above 0
  record BestOf (l : List Load) (b : Load) : Type 0 where
    pub best : Best (W.R) l b
    pub each_proper : (x : Load) → x ∈ l → Proper x
    pub kept_proper : Proper b

  which_proper : (old new kept : Load) → (kept ≡ old) ⊎ ((kept ≡ new) × (¬ No new old)) → Proper old → Proper new
      → Proper kept
  which_proper old new kept (inl e) O N = subst Proper (sym e) O
  which_proper old new kept (inr e) O N = subst Proper (sym e.0) N

  first_kept : (l : List Load) (old new : Load) → BestOf l old → (old ≡ Absent) ⊎ FirstOf (W.R) l old
      → (old ≡ Absent) ⊎ FirstOf (W.R) (l ++ (new ∷ [])) old
  first_kept l old new k (inl e) = inl e
  first_kept l old new k (inr f) =
      inr (record {
        earlier = f.earlier;
        later = f.later ++ (new ∷ []);
        listed = ap (λ z. z ++ (new ∷ [])) f.listed
            ∙ append_assoc f.earlier (old ∷ f.later) (new ∷ []);
        worse = f.worse;
      })

  first_new : (l : List Load) (old new : Load) → BestOf l old → Proper new → ¬ No new old
      → FirstOf (W.R) (l ++ (new ∷ [])) new
  first_new l old new k N strict = record {
    earlier = l;
    later = [];
    listed = refl;
    worse = λ x m h. strict (no_better_trans new x old N (k.each_proper x m) k.kept_proper h (k.best.no_better x m));
  }

  first_of : (l : List Load) (old new kept : Load) → BestOf l old → Proper new
      → (kept ≡ old) ⊎ ((kept ≡ new) × (¬ No new old)) → (kept ≡ Absent) ⊎ FirstOf (W.R) (l ++ (new ∷ [])) kept
  first_of l old new kept k N (inl e) = subst (λ b. (b ≡ Absent) ⊎ FirstOf (W.R) (l ++ (new ∷ [])) b) (sym e)
      (first_kept l old new k k.best.first)
  first_of l old new kept k N (inr e) =
      inr (subst (FirstOf (W.R) (l ++ (new ∷ []))) (sym e.0) (first_new l old new k N e.1))

  one_more : (l : List Load) (old new : Load) → BestOf l old → Proper new
      → BestOf (l ++ (new ∷ [])) (moved W.which_bound old new)
  one_more l old new k N =
      let kept : Load = moved W.which_bound old new in
      let m = moves old new in
      let K = which_proper old new kept m.which k.kept_proper N in
      record {
        best = record {
          no_better = λ x h. elim (Memᴰ.append_cases l h) [
            | inl a ↦ no_better_trans x old kept (k.each_proper x a) k.kept_proper K (k.best.no_better x a) m.from_old
            | inr a ↦ subst (λ z. No z kept) (sym (Memᴰ.eq_of_singleton a)) m.from_new
          ];
          first = first_of l old new kept k N m.which;
        };
        each_proper = λ x h. elim
            (Memᴰ.append_cases l h)
            [ inl a ↦ k.each_proper x a | inr a ↦ subst Proper (sym (Memᴰ.eq_of_singleton a)) N ];
        kept_proper = K;
      }

  none_kept : BestOf [] Absent
  unfolding Proper proper
  none_kept = record {
    best = record { no_better = λ x h. absurd (Memᴰ.not-nil h); first = inl refl };
    each_proper =
        λ x h. absurd (Memᴰ.not-nil h);
    kept_proper = refl;
  }

-- ---- a book and the accepted claims committed so far

abbrev carrieds : List Loads → List Load
carrieds h = map (λ x. x.carried) h

abbrev alloweds : List Loads → List Load
alloweds h = map (λ x. x.allowed) h

record Holds (b : Kept) (h : List Loads) : Type 0 where
  pub count : b.count ≡ length h
  pub low : BestOf upward (carrieds h) b.lower
  pub high : BestOf downward (alloweds h) b.upper

map_more : (f : Loads → Load) (h : List Loads) (p : Loads) → map f h ++ (f p ∷ []) ≡ map f (h ++ (p ∷ []))
map_more f [] p = refl
map_more f (x ∷ h) p = ap (λ l. f x ∷ l) (map_more f h p)

followed_holds : (b : Kept) (h : List Loads) (o : OpenRows) (x y : Load) → Holds b h → Proper x → Proper y
    → Holds (followed b (Accepted o x y)) (h ++ (record { carried = x; allowed = y } ∷ []))
unfolding followed upward downward
followed_holds b h o x y H X Y =
    let p : Loads = record { carried = x; allowed = y } in
    record {
      count = ap (λ z. z + 1) H.count ∙ sym (length-append h (p ∷ []));
      low = subst (λ z. BestOf upward z (moved Lower b.lower x)) (map_more (λ x. x.carried) h p)
          (one_more upward (carrieds h) b.lower x H.low X);
      high = subst (λ z. BestOf downward z (moved Upper b.upper y)) (map_more (λ x. x.allowed) h p)
          (one_more downward (alloweds h) b.upper y H.high Y);
    }

-- with proper bounds a book is shut only by its count
left_by_count : (b : Kept) (count : ℕ) (v : Verdict) → Proper b.lower → Proper b.upper
    → left b (commits count v) ≡ cond (eqb count b.count && ltb b.count most_commits) (followed b v) b
unfolding left committed takes_commit takes_ask unjudged judged Proper
left_by_count b count v L U = go (eqb count b.count) (ltb b.count most_commits) (proper b.lower) (proper b.upper) L U
  where
    go : (x y z w : Bool) → z ≡ true → w ≡ true
        → (cond {A = Told} (x && (y && (z && w))) (record { said = Judged v; kept = followed b v })
        (record { said = Unjudged; kept = b })).kept ≡ cond (x && y) (followed b v) b
    go true true true true p q = refl
    go true true true false p q = absurd (true≢false (sym q))
    go true true false w p q = absurd (true≢false (sym p))
    go true false z w p q = refl
    go false y z w p q = refl

loads_proper : (o : OpenRows) (x y : Load) → verdict_proper (Accepted o x y) ≡ true → Proper x × Proper y
unfolding verdict_proper Proper
loads_proper o x y h = both (proper x) (proper y) h

refused_left : (b : Kept) (count k : ℕ) (p : Place) → left b (commits count (Refused k p)) ≡ b
unfolding left committed followed unjudged judged
refused_left b count k p = go (takes_commit b count)
  where
    go : (x : Bool) → (cond {A = Told} x (record { said = Judged (Refused k p); kept = b })
        (record { said = Unjudged; kept = b })).kept ≡ b
    go true = refl
    go false = refl

ask_left : (b : Kept) (v : Verdict) → left b (asks v) ≡ b
unfolding left
ask_left b v = refl

followed_count : (b : Kept) (o : OpenRows) (x y : Load) → (followed b (Accepted o x y)).count ≡ suc b.count
unfolding followed
followed_count b o x y = add-one b.count

verdict_of : AskOrCommit Verdict → Verdict
verdict_of (asks v) = v
verdict_of (commits count v) = v

AllProper : List (AskOrCommit Verdict) → Type 0
AllProper [] = Unit {0}
AllProper (k ∷ ks) = (verdict_proper (verdict_of k) ≡ true) × AllProper ks

-- the calls that are left, from a book that is the best of h
whole : (ks : List (AskOrCommit Verdict)) (b : Kept) (h : List Loads) → Holds b h → AllProper ks
    → Holds (left_by_all b ks) (h ++ committed_after b.count ks)
unfolding left_by_all committed_after AllProper verdict_of
whole [] b h H S = subst (Holds b) (sym (append-nil h)) H
whole (asks v ∷ ks) b h H S = subst (λ z. Holds (left_by_all z ks) (h ++ committed_after b.count ks))
    (sym (ask_left b v)) (whole ks b h H S.1)
whole (commits count (Refused k p) ∷ ks) b h H S =
    subst (λ z. Holds (left_by_all z ks) (h ++ committed_after b.count ks)) (sym (refused_left b count k p))
    (whole ks b h H S.1)
whole (commits count (Accepted o x y) ∷ ks) b h H S =
    subst (λ z. Holds (left_by_all z ks)
    (h ++ cond (eqb count b.count && ltb b.count most_commits) (p ∷ committed_after (suc b.count) ks)
    (committed_after b.count ks)))
    (sym (left_by_count b count (Accepted o x y) H.low.kept_proper H.high.kept_proper))
    (go (eqb count b.count && ltb b.count most_commits)
    (whole ks next (h ++ (p ∷ []))
    (followed_holds b h o x y H (loads_proper o x y S.0).0 (loads_proper o x y S.0).1) S.1) (whole ks b h H S.1))
  where
    p : Loads
    p = record { carried = x; allowed = y }

    next : Kept
    next = followed b (Accepted o x y)

    go : (t : Bool) → Holds (left_by_all next ks) ((h ++ (p ∷ [])) ++ committed_after next.count ks)
        → Holds (left_by_all b ks) (h ++ committed_after b.count ks)
        → Holds (left_by_all (cond t next b) ks)
        (h ++ cond t (p ∷ committed_after (suc b.count) ks) (committed_after b.count ks))
    go true moved stays = subst (Holds (left_by_all next ks))
        (append_assoc h (p ∷ []) (committed_after next.count ks)
        ∙ ap (λ z. h ++ (p ∷ committed_after z ks)) (followed_count b o x y)) moved
    go false moved stays = stays

empty_holds : Holds empty_book []
empty_holds = record { count = refl; low = none_kept upward; high = none_kept downward }

all_proper : (ks : List (AskOrCommit Handed)) → AllProper (map judged_call ks)
unfolding AllProper verdict_of judged_call
all_proper [] = tt
all_proper (asks a ∷ ks) = (handed_proper a, all_proper ks)
all_proper (commits count a ∷ ks) = (handed_proper a, all_proper ks)

-- one call more is given the book that those before it left
pub one_call_more : (b : Kept) (ks : List (AskOrCommit Handed)) (k : AskOrCommit Handed)
    → left_by_all b (map judged_call (ks ++ (k ∷ []))) ≡ left (left_by_all b (map judged_call ks)) (judged_call k)
unfolding left_by_all
one_call_more b [] k = refl
one_call_more b (j ∷ ks) k = one_call_more (left b (judged_call j)) ks k

pub the_book_is_the_best : TheBookIsTheBest
unfolding upward downward
the_book_is_the_best ks =
    let H = whole (map judged_call ks) empty_book [] empty_holds (all_proper ks) in
    record { count = H.count; highest = H.low.best; lowest = H.high.best }

-- ---- one call

only_asks : (b : Kept) (ks : List (AskOrCommit Verdict)) → OnlyAsks ks → left_by_all b ks ≡ b
unfolding left_by_all left
only_asks b [] h = refl
only_asks b (asks v ∷ ks) h = only_asks b ks h
only_asks b (commits count v ∷ ks) h = absurd h

pub ask_and_commit_agree : AskAndCommitAgree
unfolding committed asked takes_commit
ask_and_commit_agree b v ks h =
    ap (λ z. committed z b.count v) (only_asks b ks h)
    ∙ ap (λ t. cond (t && takes_ask b) (judged b v) (unjudged b)) (is_true (eqb b.count b.count) (eqb_refl b.count))

pub refused_leaves : (b : Kept) (number : ℕ) (place : Place) → RefusedLeaves b number place
unfolding left asked followed unjudged judged
refused_leaves b number place = record { ask = go (takes_ask b); commit = λ count. refused_left b count number place }
  where
    go : (t : Bool) → (cond {A = Told} t (record { said = Judged (Refused number place); kept = b })
        (record { said = Unjudged; kept = b })).kept ≡ b
    go true = refl
    go false = refl

-- ---- 48

failed : (t : Bool) → t ≡ false → T (not t)
failed true e = absurd (true≢false e)
failed false e = tt

never : (t : Bool) → (t ≡ true → ⊥) → t ≡ false
never true f = absurd (f refl)
never false f = refl

not_proper : (b : Load) → (proper b ≡ false) ↔ NotAbove0 b
unfolding proper
not_proper Absent = (λ e. absurd (true≢false e), λ h. absurd h)
not_proper (Exact n d) = (
  λ e. lt_z_no (failed (lt_z (pos 0) d) e),
  λ h. never (lt_z (pos 0) d)
      (λ e. clash_ℤ (lt_z_yes (holds (lt_z (pos 0) d) e)) h),
)

module _ (b : Kept) where
  pub not_taken : takes_ask b ≡ false → Shut b
  unfolding takes_ask
  not_taken e = by (ltb b.count most_commits) (proper b.lower) (proper b.upper) (ltb-false b.count most_commits)
      (not_proper b.lower).0 (not_proper b.upper).0 e
    where
      by : (c l u : Bool) → (c ≡ false → most_commits ≤ b.count) → (l ≡ false → NotAbove0 b.lower)
          → (u ≡ false → NotAbove0 b.upper) → (c && (l && u)) ≡ false → Shut b
      by true true true f g h e = absurd (true≢false e)
      by true true false f g h e = inr (inr (h refl))
      by true false u f g h e = inr (inl (g refl))
      by false l u f g h e = inl (f refl)

  pub shut_not_taken : Shut b → takes_ask b ≡ false
  shut_not_taken (inl h) = never (takes_ask b) (λ t. let l = takes_room b t in omega arith)
  shut_not_taken (inr (inl h)) =
      never (takes_ask b) (λ t. true≢false (sym (takes_lower b t) ∙ (not_proper b.lower).1 h))
  shut_not_taken (inr (inr h)) =
      never (takes_ask b) (λ t. true≢false (sym (takes_upper b t) ∙ (not_proper b.upper).1 h))

  pub not_committed : (count : ℕ) → takes_commit b count ≡ false → (count ≢ b.count) ⊎ Shut b
  unfolding takes_commit
  not_committed count e = by (eqb count b.count) (takes_ask b)
      (λ f q. true≢false (sym (eq-eqb count b.count q) ∙ f)) not_taken e
    where
      by : (t a : Bool) → (t ≡ false → count ≢ b.count) → (a ≡ false → Shut b) → (t && a) ≡ false
          → (count ≢ b.count) ⊎ Shut b
      by true a f g e = inr (g e)
      by false a f g e = inl (f refl)

  pub shut_not_committed : (count : ℕ) → (count ≢ b.count) ⊎ Shut b → takes_commit b count ≡ false
  unfolding takes_commit
  shut_not_committed count (inl f) = ap (λ t. t && takes_ask b) (ne_eqb count b.count f)
  shut_not_committed count (inr h) = ap (λ t. eqb count b.count && t) (shut_not_taken h) ∙ neither (eqb count b.count)
    where
      neither : (t : Bool) → (t && false) ≡ false
      neither true = refl
      neither false = refl

  module _ (v : Verdict) where
    -- an answer of the test t
    says_unjudged : (t : Bool) → ((cond {A = Told} t (judged b v) (unjudged b)).said ≡ Unjudged) ↔ (t ≡ false)
    unfolding judged unjudged
    says_unjudged true = (λ e. let z : ◌≡◌ {A = ℕ} 0 1 = cc in absurd (omega arith), λ e. absurd (true≢false e))
    says_unjudged false = (λ e. refl, λ e. refl)

    unchanged : (t : Bool) → t ≡ false → (cond {A = Told} t (judged b v) (unjudged b)).kept ≡ b
    unfolding judged unjudged
    unchanged true e = absurd (true≢false e)
    unchanged false e = refl

    pub unjudged_exactly : UnjudgedExactly b v
    unfolding asked committed
    unjudged_exactly = record {
      ask = (
        λ e. not_taken ((says_unjudged (takes_ask b)).0 e),
        λ h. (says_unjudged (takes_ask b)).1 (shut_not_taken h),
      );
      commit = λ count. (
        λ e. not_committed count ((says_unjudged (takes_commit b count)).0 e),
        λ h. (says_unjudged (takes_commit b count)).1 (shut_not_committed count h),
      );
      ask_unchanged = λ h. unchanged (takes_ask b) (shut_not_taken h);
      commit_unchanged = λ count h. unchanged (takes_commit b count) (shut_not_committed count h);
    }
