-- The numbers of document 01's table: a number of a line tells its step, since no two steps of a file have one number;
-- and phase by phase each number is in the table.
use mathlib.Core.Path.{◌≡◌, refl, sym, ◌∙◌, ap, subst}
use mathlib.Core.Logic.{◌↔◌, ◌⊎◌, inl, inr, ⊎_elim}
use mathlib.Core.Bool.{Bool, false, ◌||◌}
use mathlib.Core.List.Memᴰ
use mathlib.Core.List.{List, [], ◌∷◌, ◌++◌}
use Prim.Native.Nat.{ℕ, zero, suc, ◌*◌, ◌≤◌, ◌<◌}
use native.Mathlib.Omega.{arith}
use lib.IntN.{ℤ}
use lib.Dec.{T, eqb, ltb}
use lib.ListN.{length, length-append}
use borrow.Table.Steps.{cases}
use Rattle.scope.specs.declared.Place.{Place}
use Rattle.scope.specs.declared.Place.TheVariants.{Line}
use Rattle.scope.specs.Answer.{place_number}
use Rattle.integer.specs.Members.{◌∈◌}
use Rattle.scope.specs.Phases.{Below, FirstFails, HoldsAt, Everywhere, RefusedBy}
use Rattle.scope.specs.Columns.{Rule, right_angle, naming, parts, at_most_where, has_field, has_multipliers, n, l}
use Rattle.scope.specs.Layout.{Group, Layout, Placed, groups, line_count, number_count, line_of, group_at, numbers_at}
use Rattle.scope.specs.Mesh.{mesh_layout, layout_with, nodes}
use Rattle.scope.specs.Claim.{claim_header, stress_lines, element_multipliers, edge_multipliers, jump_multipliers}
use Rattle.scope.specs.Claim.{strength_multipliers, claim_layout, stress, multiplier}
use Rattle.scope.specs.Rows.{equality_rows, strength_rows, rows_of}
use Rattle.scope.specs.Statements.{Says, AllSay, Complete}
use Rattle.scope.specs.Refusals.{rule_number, rule_steps, line_steps, lines_phase, leftover_phase, line_phases}
use Rattle.scope.specs.Refusals.{shape_phases, mesh_phases, field_phases, multiplier_phases, field_part}
use Rattle.scope.specs.Refusals.{multiplier_part, part_phases, claim_phases, LineRefusal, SoundTo, CountFails}
use Rattle.scope.specs.Refusals.{LimitFails, RuleFails, MeshLineNumbers, ClaimLineNumbers, refusal_numbers, RefusalListed}
use Rattle.scope.specs.Refusals.{Refusal}
use Rattle.scope.proofs.Decides.{either, equal}
use Rattle.scope.proofs.Lines.{line_after}
use Rattle.scope.proofs.Phases.{EachIn, each_refusal, each_join, each_part, own_number}
use Rattle.scope.proofs.Refusals.{line_sound, sound_line, rule_number_lem}

-- ---- the rule that fails

-- which rule of a line fails first
record Failing (rs : List Rule) (line : List ℤ) (c : ℕ) : Type 0 where
  rule : Rule
  earlier : List Rule
  later : List Rule
  listed : rs ≡ earlier ++ rule ∷ later
  hold : AllSay earlier line
  fails : ¬ Says rule line
  number : rule_number rule ≡ c

failing : (rs : List Rule) (line : List ℤ) (c : ℕ) → FirstFails (rule_steps rs line) c → Failing rs line c
failing [] line c h = absurd h
failing (r ∷ rs) line c (inl h) =
    record { rule = r; earlier = []; later = rs; listed = refl; hold = tt; fails = h.0; number = h.1 }
failing (r ∷ rs) line c (inr h) =
    let f = failing rs line c h.1 in
    record {
      rule = f.rule;
      earlier = r ∷ f.earlier;
      later = f.later;
      listed = ap (λ (rest : List Rule). r ∷ rest) f.listed;
      hold = (h.0, f.hold);
      fails = f.fails;
      number = f.number;
    }

first_failing_lem : (earlier : List Rule) (r : Rule) (later : List Rule) (line : List ℤ) → AllSay earlier line
    → ¬ Says r line → FirstFails (rule_steps (earlier ++ r ∷ later) line) (rule_number r)
first_failing_lem [] r later line h f = inl (f, refl)
first_failing_lem (e ∷ earlier) r later line h f = inr (h.0, first_failing_lem earlier r later line h.1 f)

-- ---- the step of a line, by its number

-- what a refusal of line k comes from
abbrev pub Cause : Layout → List ℤ → ℕ → ℕ → Type 0
Cause f ns k c = (CountFails f ns k × (f.form_number ≡ c))
    ⊎ ((LimitFails f ns k × (f.limit_number ≡ c)) ⊎ ((r : Rule) × (RuleFails f ns r k × (rule_number r ≡ c))))

module _ (f : Layout) (ns : List ℤ) where
  line_cause : (k c : ℕ) → k < line_count (groups f ns) → SoundTo f ns k
      → FirstFails (line_steps f (group_at f ns k) (numbers_at f ns k)) c → Cause f ns k c
  line_cause k c l b (inl h) = inl (record { before = b; fails = inl (l, h.0) }, h.1)
  line_cause k c l b (inr (x, inl h)) = inr (inl (record { there = l; before = b; complete = x; fails = h.0 }, h.1))
  line_cause k c l b (inr (x, inr (y, h))) =
      let g = failing (group_at f ns k).rules (numbers_at f ns k) c h in
      inr (inr (
        g.rule,
        (
          record {
            there = l;
            before = b;
            complete = x;
            in_limits = y;
            earlier = g.earlier;
            later = g.later;
            listed =
                g.listed;
            hold = g.hold;
            fails = g.fails;
          },
          g.number,
        ),
      ))

  left : {k c : ℕ} → Everywhere (lines_phase f ns) → k ≡ line_count (groups f ns)
      → FirstFails ((leftover_phase f ns).steps 0) c → Cause f ns k c
  left e s (inl h) = inl (record { before = λ j i. line_sound f ns j (e j (omega arith)); fails = inr (s, h.0) }, h.1)
  left e s (inr h) = absurd h.1

  cause : (k c : ℕ) → LineRefusal f ns c (Line (suc k)) → Cause f ns k c
  cause k c r = of r.by
    where
      of : RefusedBy (line_phases f ns) c (Line (suc k)) → Cause f ns k c
      of (inl x) =
          let same : x.here ≡ k = omega (arith, ap place_number x.called) in
          subst (λ i. Cause f ns i c) same
          (line_cause x.here c x.there (λ j h. line_sound f ns j (x.lower j h)) x.fails)
      of (inr (e, inl x)) = left e (omega (arith, ap place_number x.called)) x.fails
      of (inr (e, inr x)) = absurd x.1

  -- what holds of every refusal of a file's lines, by what it comes from
  pub each_cause : (Q : ℕ → Place → Type 0) → ((k c : ℕ) → Cause f ns k c → Q c (Line (suc k)))
      → EachIn Q (line_phases f ns)
  each_cause Q of = (
    λ k c h l r. of k c (line_cause k c h (λ j i. line_sound f ns j (l j i)) r),
    λ e. (λ k c h l r. of (line_count (groups f ns)) c (left e refl r), λ i. tt),
  )

  before_holds : {k : ℕ} → SoundTo f ns k → Below k (HoldsAt (lines_phase f ns))
  before_holds b j h = sound_line f ns j (b j h)

  pub count_refused : (k : ℕ) → CountFails f ns k → LineRefusal f ns f.form_number (Line (suc k))
  count_refused k h = record { by = of h.fails }
    where
      of : ((k < line_count (groups f ns)) × (¬ Complete f ns k))
          ⊎ ((k ≡ line_count (groups f ns)) × (¬ (length ns ≤ number_count (groups f ns))))
          → RefusedBy (line_phases f ns) f.form_number (Line (suc k))
      of (inl (l, x)) = inl
          (record { here = k; there = l; lower = before_holds h.before; fails = inl (x, refl); called = refl })
      of (inr (e, x)) =
          inr (
            λ j i. before_holds h.before j (omega arith),
            inl
                (record {
                  here = 0;
                  there = omega arith;
                  lower = λ j i. absurd (omega arith);
                  fails = inl (x, refl);
                  called = ap (λ i. Line (suc i)) (sym e);
                }),
          )

  pub limit_refused : (k : ℕ) → LimitFails f ns k → LineRefusal f ns f.limit_number (Line (suc k))
  limit_refused k h = record {
    by = inl (record {
      here = k;
      there = h.there;
      lower = before_holds h.before;
      fails =
          inr (h.complete, inl (h.fails, refl));
      called = refl;
    });
  }

  pub rule_refused : (r : Rule) (k : ℕ) → RuleFails f ns r k → LineRefusal f ns (rule_number r) (Line (suc k))
  rule_refused r k h = record {
    by = inl (record {
      here = k;
      there = h.there;
      lower = before_holds h.before;
      fails = inr (
        h.complete,
        inr (
          h.in_limits,
          subst (λ (rs : List Rule). FirstFails (rule_steps rs (numbers_at f ns k)) (rule_number r))
              (sym h.listed) (first_failing_lem h.earlier r h.later (numbers_at f ns k) h.hold h.fails),
        ),
      );
      called = refl;
    });
  }

  -- no other step has the number of form, nor that of limits
  form_is_lem : {a : ℕ} → f.form_number ≡ a → ¬ (f.limit_number ≡ a) → ((r : Rule) → ¬ (rule_number r ≡ a)) → (k : ℕ)
      → LineRefusal f ns a (Line (suc k)) ↔ CountFails f ns k
  form_is_lem {a} e other none k =
      (λ r. of (cause k a r), λ h. subst (λ c. LineRefusal f ns c (Line (suc k))) e (count_refused k h))
    where
      of : Cause f ns k a → CountFails f ns k
      of (inl h) = h.0
      of (inr (inl h)) = absurd (other h.1)
      of (inr (inr (r, h))) = absurd (none r h.1)

  limit_is : {b : ℕ} → f.limit_number ≡ b → ¬ (f.form_number ≡ b) → ((r : Rule) → ¬ (rule_number r ≡ b)) → (k : ℕ)
      → LineRefusal f ns b (Line (suc k)) ↔ LimitFails f ns k
  limit_is {b} e other none k =
      (λ r. of (cause k b r), λ h. subst (λ c. LineRefusal f ns c (Line (suc k))) e (limit_refused k h))
    where
      of : Cause f ns k b → LimitFails f ns k
      of (inl h) = absurd (other h.1)
      of (inr (inl h)) = h.0
      of (inr (inr (r, h))) = absurd (none r h.1)

  -- another number is that of a rule
  rule_is : {c : ℕ} → ¬ (f.form_number ≡ c) → ¬ (f.limit_number ≡ c) → (k : ℕ) → LineRefusal f ns c (Line (suc k))
      → (r : Rule) × (RuleFails f ns r k × (rule_number r ≡ c))
  rule_is {c} form limit k r = of (cause k c r)
    where
      of : Cause f ns k c → (r : Rule) × (RuleFails f ns r k × (rule_number r ≡ c))
      of (inl h) = absurd (form h.1)
      of (inr (inl h)) = absurd (limit h.1)
      of (inr (inr h)) = h

no_rule : (a : ℕ) → ¬ (2 ≡ a) → ¬ (3 ≡ a) → ¬ (4 ≡ a) → ¬ (13 ≡ a) → (r : Rule) → ¬ (rule_number r ≡ a)
unfolding rule_number
no_rule a w x y z right_angle = x
no_rule a w x y z (naming cs) = y
no_rule a w x y z parts = z
no_rule a w x y z (at_most_where c k d e) = w

-- ---- the two files

pub mesh_line_numbers : (m : List ℤ) → MeshLineNumbers m
unfolding layout_with rule_number
mesh_line_numbers m = record {
  one = form_is_lem mesh_layout m refl (λ e. omega arith)
      (no_rule 1 (λ e. omega arith) (λ e. omega arith) (λ e. omega arith) (λ e. omega arith));
  two = λ k. (
    λ r. limits k (cause mesh_layout m k 2 r),
    ⊎_elim (limit_refused mesh_layout m k)
        (λ h. rule_refused mesh_layout m (at_most_where h.0 h.1 h.2 h.3) k h.4),
  );
  three = λ k. (
    λ r. angle k (rule_is mesh_layout m (λ e. omega arith) (λ e. omega arith) k r),
    λ h. rule_refused mesh_layout m right_angle k h,
  );
  four = λ k. (
    λ r. names k (rule_is mesh_layout m (λ e. omega arith) (λ e. omega arith) k r),
    λ h. rule_refused mesh_layout m (naming h.0) k h.1,
  );
}
  where
    limits : (k : ℕ) → Cause mesh_layout m k 2 → LimitFails mesh_layout m k
        ⊎ ((c n d z : ℕ) × RuleFails mesh_layout m (at_most_where c n d z) k)
    limits k (inl h) = absurd (omega (arith, h.1))
    limits k (inr (inl h)) = inl h.0
    limits k (inr (inr (right_angle, h))) = absurd (omega (arith, h.1))
    limits k (inr (inr (naming cs, h))) = absurd (omega (arith, h.1))
    limits k (inr (inr (parts, h))) = absurd (omega (arith, h.1))
    limits k (inr (inr (at_most_where c n d z, h))) = inr (c, n, d, z, h.0)

    angle : (k : ℕ) → ((r : Rule) × (RuleFails mesh_layout m r k × (rule_number r ≡ 3)))
        → RuleFails mesh_layout m right_angle k
    angle k (right_angle, h) = h.0
    angle k (naming cs, h) = absurd (omega (arith, h.1))
    angle k (parts, h) = absurd (omega (arith, h.1))
    angle k (at_most_where c n d z, h) = absurd (omega (arith, h.1))

    names : (k : ℕ) → ((r : Rule) × (RuleFails mesh_layout m r k × (rule_number r ≡ 4)))
        → (cs : List (ℕ × ℕ × ℕ)) × RuleFails mesh_layout m (naming cs) k
    names k (right_angle, h) = absurd (omega (arith, h.1))
    names k (naming cs, h) = (cs, h.0)
    names k (parts, h) = absurd (omega (arith, h.1))
    names k (at_most_where c n d z, h) = absurd (omega (arith, h.1))

-- only the header of a claim has a rule
abbrev NoRules : List Group → Type 0
NoRules [] = Unit {0}
NoRules (g ∷ gs) = (g.rules ≡ []) × NoRules gs

no_rules : (gs : List Group) → NoRules gs → (from k : ℕ) → (line_of from gs k).group.rules ≡ []
unfolding line_of
no_rules [] h from k = refl
no_rules (g ∷ gs) h from k =
    cases (ltb k g.lines) (λ t. rw (t, line_of) h.0) (λ t. rw (t, line_of) (no_rules gs h.1 _ _))

after_header : (m c : List ℤ) (k : ℕ) → (group_at (claim_layout m) c (suc k)).rules ≡ []
unfolding claim_layout groups claim_header stress_lines element_multipliers edge_multipliers jump_multipliers
    strength_multipliers
after_header m c k =
    ap (λ (l : Placed). l.group.rules) (line_after claim_header ((claim_layout m).body c) 0 (suc k) (omega arith))
    ∙ no_rules ((claim_layout m).body c) (refl, (refl, (refl, (refl, (refl, tt))))) _ _

parts_first : (m c : List ℤ) (k : ℕ) → RuleFails (claim_layout m) c parts k → k ≡ 0
parts_first m c zero h = refl
parts_first m c (suc k) h =
    let none : [] ≡ h.earlier ++ parts ∷ h.later = sym (after_header m c k) ∙ h.listed in
    absurd (omega (arith, ap length none, length-append h.earlier (parts ∷ h.later)))

pub claim_line_numbers : (m c : List ℤ) → ClaimLineNumbers m c
unfolding claim_layout rule_number
claim_line_numbers m c = record {
  eleven = form_is_lem (claim_layout m) c refl (λ e. omega arith)
      (no_rule 11 (λ e. omega arith) (λ e. omega arith) (λ e. omega arith) (λ e. omega arith));
  twelve = limit_is (claim_layout m) c refl (λ e. omega arith)
      (no_rule 12 (λ e. omega arith) (λ e. omega arith) (λ e. omega arith) (λ e. omega arith));
  thirteen = λ k. (
    λ r. fit k (rule_is (claim_layout m) c (λ e. omega arith) (λ e. omega arith) k r),
    λ h. rule_refused (claim_layout m) c parts k h,
  );
  line_1_only = λ k r. parts_first m c k (fit k (rule_is (claim_layout m) c (λ e. omega arith) (λ e. omega arith) k r));
}
  where
    fit : (k : ℕ) → ((r : Rule) × (RuleFails (claim_layout m) c r k × (rule_number r ≡ 13)))
        → RuleFails (claim_layout m) c parts k
    fit k (right_angle, h) = absurd (omega (arith, h.1))
    fit k (naming cs, h) = absurd (omega (arith, h.1))
    fit k (parts, h) = h.0
    fit k (at_most_where a n d z, h) = absurd (omega (arith, h.1))

-- ---- all numbers

is_in : ℕ → List ℕ → Bool
is_in k [] = false
is_in k (a ∷ rest) = eqb k a || is_in k rest

is_in_lem : (k : ℕ) (ks : List ℕ) → T (is_in k ks) → k ∈ ks
unfolding is_in
is_in_lem k [] h = absurd h
is_in_lem k (a ∷ rest) h =
    of (is_in_lem k rest) ((either (equal k a) (record { holds = λ t. t; passes = λ t. t })).holds h)
  where
    of : (T (is_in k rest) → k ∈ rest) → (k ≡ a) ⊎ T (is_in k rest) → k ∈ (a ∷ rest)
    of later (inl e) = Memᴰ.head e
    of later (inr t) = Memᴰ.tail (later t)

abbrev IsRefusalNumber : ℕ → Place → Type 0
IsRefusalNumber k p = k ∈ refusal_numbers

listed : (k : ℕ) → T (is_in k refusal_numbers) → k ∈ refusal_numbers
listed k h = is_in_lem k refusal_numbers h

rule_listed : (r : Rule) → rule_number r ∈ refusal_numbers
unfolding rule_number is_in
rule_listed right_angle = listed 3 tt
rule_listed (naming cs) = listed 4 tt
rule_listed parts = listed 13 tt
rule_listed (at_most_where c k d z) = listed 2 tt

step_listed : (f : Layout) (ns : List ℤ) (k c : ℕ) → f.form_number ∈ refusal_numbers → f.limit_number ∈ refusal_numbers
    → FirstFails (line_steps f (group_at f ns k) (numbers_at f ns k)) c → c ∈ refusal_numbers
step_listed f ns k c a b (inl h) = subst (λ i. i ∈ refusal_numbers) h.1 a
step_listed f ns k c a b (inr (x, inl h)) = subst (λ i. i ∈ refusal_numbers) h.1 b
step_listed f ns k c a b (inr (x, inr (y, h))) = let (r, e) =
    rule_number_lem (group_at f ns k).rules (numbers_at f ns k) c h in subst (λ i. i ∈ refusal_numbers) (sym e)
    (rule_listed r)

own_listed : {number c : ℕ} {H : Type 0} → number ∈ refusal_numbers → ((¬ H) × (number ≡ c)) ⊎ (H × ⊥) → c ∈ refusal_numbers
own_listed a r = subst (λ i. i ∈ refusal_numbers) (own_number refl r) a

lines_listed : (f : Layout) (ns : List ℤ) → f.form_number ∈ refusal_numbers → f.limit_number ∈ refusal_numbers
    → EachIn IsRefusalNumber (line_phases f ns)
lines_listed f ns a b = (λ k c h l r. step_listed f ns k c a b r, λ e. (λ k c h l r. own_listed a r, λ i. tt))

pub number_listed : (m c : List ℤ) → RefusalListed m c
unfolding layout_with claim_layout is_in
number_listed m c k p r = each_refusal IsRefusalNumber (mesh_phases m ++ claim_phases m c) all r.by
  where
    all : EachIn IsRefusalNumber (mesh_phases m ++ claim_phases m c)
    all =
        each_join IsRefusalNumber (mesh_phases m) (claim_phases m c)
        (each_join IsRefusalNumber (line_phases mesh_layout m) (shape_phases m)
        (lines_listed mesh_layout m (listed 1 tt) (listed 2 tt)) (λ a. (
          λ k c h l r. own_listed (listed 5 tt) r,
          λ e. (
            λ k c h l r. own_listed (listed 6 tt) r,
            λ e. (
              λ k c h l r. own_listed (listed 7 tt) r,
              λ e. (
                λ k c h l r. own_listed (listed 47 tt) r,
                λ e. (
                  λ k c h l r. own_listed (listed 8 tt) r,
                  λ e.
                      (λ k c h l r. own_listed (listed 44 tt) r, λ e. (λ k c h l r. own_listed (listed 42 tt) r, λ i. tt)),
                ),
              ),
            ),
          ),
        )))
        (λ mesh.
        each_join IsRefusalNumber (line_phases (claim_layout m) c) (part_phases m c)
        (lines_listed (claim_layout m) c (listed 11 tt) (listed 12 tt)) (λ lines.
        each_join IsRefusalNumber (field_part m c) (multiplier_part m c)
        (each_part IsRefusalNumber (has_field c)
        (field_phases (equality_rows m) (strength_rows m) (stress m c) (l c) (n c)) (
          λ k c h l r. own_listed (listed 21 tt) r,
          λ e. (λ k c h l r. own_listed (listed 22 tt) r, λ i. tt),
        ))
        (λ field. each_part IsRefusalNumber (has_multipliers c)
        (multiplier_phases (equality_rows m) (rows_of m) (3 * nodes m) (multiplier m c)) (
          λ k c h l r. own_listed (listed 31 tt) r,
          λ e. (λ k c h l r. own_listed (listed 32 tt) r, λ e. (λ k c h l r. own_listed (listed 33 tt) r, λ i. tt)),
        ))))

-- ---- a number that is not in the list

in_is : (k : ℕ) (ks : List ℕ) → k ∈ ks → T (is_in k ks)
unfolding is_in
in_is k (a ∷ rest) (Memᴰ.head e) = (either (equal k a) (record { holds = λ t. t; passes = λ t. t })).passes (inl e)
in_is k (a ∷ rest) (Memᴰ.tail h) =
    (either (equal k a) (record { holds = λ t. t; passes = λ t. t })).passes (inr (in_is k rest h))
in_is k [] h = elim h [ ]

-- neither 45 nor 46, which are a table's
pub no_layers : {m c : List ℤ} {k : ℕ} {p : Place} → Refusal m c k p → ¬ ((k ≡ 45) ⊎ (k ≡ 46))
unfolding is_in
no_layers {m} {c} {k} {p} r (inl e) = in_is 45 refusal_numbers (subst (λ i. i ∈ refusal_numbers) e (number_listed m c k p r))
no_layers {m} {c} {k} {p} r (inr e) = in_is 46 refusal_numbers (subst (λ i. i ∈ refusal_numbers) e (number_listed m c k p r))
