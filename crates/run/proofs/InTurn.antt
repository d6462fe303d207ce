-- A run on an accepted mesh, claim by claim: each law goes by the way the list of claims is made.
use mathlib.Core.Path.{◌≡◌, refl, sym, ap, ap₂, ◌∙◌, subst}
use mathlib.Core.Logic.{◌⊎◌, inl, inr}
use mathlib.Core.Bool.{Bool, true, false, cond, ◌||◌}
use mathlib.Core.List.{List, [], ◌∷◌, ◌++◌, append-nil, flat_map, flatten}
use Prim.Native.Nat.{ℕ, zero, suc, ◌+◌, ◌≤◌, ◌<◌}
use native.Mathlib.Decide.{dec_le}
use native.Mathlib.Omega.{arith}
use lib.Dec.{eqb}
use lib.IntN.{ℤ}
use lib.ListN.{length, take, drop, length-append, length-drop}
use lib.Seq.{take-add}
use borrow.Author.Tests.{eqb-true}
use borrow.Table.Steps.{cases}
use Rattle.scope.specs.Cases.Outcome.{Outcome}
use Rattle.scope.specs.Cases.Outcome.{Passed, Refused as Fails}
use Rattle.scope.specs.Cases.Verdict.{Verdict}
use Rattle.scope.specs.Cases.Verdict.{Accepted, Refused}
use Rattle.scope.specs.Mesh.{mesh_layout, sides}
use Rattle.scope.specs.Claim.{claim_header, claim_layout}
use Rattle.scope.specs.Verdict.{answer, claim_verdict, mesh_check}
use Rattle.scope.proofs.Refusals.{lines_passed, mesh_passed}
use Rattle.reader.specs.File.{file_width, line_bytes}
use Rattle.reader.proofs.Cut.{header_alone}
use Rattle.judge.specs.Judge.{claim_numbers}
use Rattle.judge.specs.ClaimBytes.{claim_bytes}
use Rattle.judge.proofs.Numbers.{some_side_lem}
use Rattle.judge.proofs.ClaimBytes.{claim_bytes_lem, by_header_bytes}
use Rattle.run.specs.Run.{own_bytes, verdict_on, ends_run, taken_of, claims_judged}
use Rattle.run.specs.InTurn.{RefusedByLines, claim_at, start_of, InTurn, HeaderAlone, RefusedOnce}
use Rattle.run.proofs.NextLaws.{header_bytes, own_length, own_front}
use Rattle.run.proofs.RunLaws.{judged_none, judged-next, judged_refused}

-- ---- the claims that end a run

-- one of three numbers
one_of_lem : (k : ℕ) → (eqb k 11 || eqb k 12 || eqb k 13) ≡ true → (k ≡ 11) ⊎ ((k ≡ 12) ⊎ (k ≡ 13))
one_of_lem k e =
    cases (eqb k 11)
    (λ a. inl (eqb-true k 11 a))
    (λ a. cases (eqb k 12) (λ b. inr (inl (eqb-true k 12 b))) (λ b. inr (inr (eqb-true k 13 (rw (a, b) at e)))))

is_one : (k : ℕ) → (k ≡ 11) ⊎ ((k ≡ 12) ⊎ (k ≡ 13)) → (eqb k 11 || eqb k 12 || eqb k 13) ≡ true
is_one k (inl e) = rw e
is_one k (inr (inl e)) = rw e
is_one k (inr (inr e)) = rw e

pub ends_refused : (v : Verdict) → ends_run v ≡ true → RefusedByLines v
unfolding ends_run
ends_refused (Accepted o lower upper) e = let z : ◌≡◌ {A = ℕ} 0 1 = cc in absurd (omega arith)
ends_refused (Refused k place) e = one_of_lem k e

pub refused_ends : (v : Verdict) → RefusedByLines v → ends_run v ≡ true
unfolding ends_run
refused_ends (Accepted o lower upper) (inl e) = absurd (omega arith)
refused_ends (Accepted o lower upper) (inr (inl e)) = absurd (omega arith)
refused_ends (Accepted o lower upper) (inr (inr e)) = absurd (omega arith)
refused_ends (Refused k place) r = is_one k r

pub goes_unrefused : (v : Verdict) → ends_run v ≡ false → ¬ RefusedByLines v
goes_unrefused v e r = let f = refused_ends v r in let z : ◌≡◌ {A = Bool} true false = sym f
    ∙ e in let y : ◌≡◌ {A = ℕ} 0 1 = cc in omega arith

-- ---- one claim

sides-there : (m : List ℤ) → mesh_check m ≡ Passed → 0 < sides m
sides-there m p = some_side_lem m ((lines_passed mesh_layout m).passed ((mesh_passed m).says p).lines)

-- a claim has a header at least
header_there : (m c : List ℤ) → header_bytes ≤ claim_bytes m c
header_there m c = omega (arith, claim_bytes_lem m c)

own_bytes_lem : (m : List ℤ) (left : List ℕ) → 0 < sides m → claim_bytes m
    (claim_numbers file_width m (own_bytes m left)) ≡ claim_bytes m (claim_numbers file_width m left)
unfolding own_bytes
own_bytes_lem m left s = by_header_bytes m (claim_bytes m (claim_numbers file_width m left)) left s
    (header_there m (claim_numbers file_width m left))

-- the claim's own bytes are as many as its own header and the mesh say, or all that is left
own_whole : (m : List ℤ) (left : List ℕ) → 0 < sides m
    → (length (own_bytes m left) ≡ claim_bytes m (claim_numbers file_width m (own_bytes m left)))
    ⊎ ((length (own_bytes m left) < claim_bytes m (claim_numbers file_width m (own_bytes m left)))
    × (length (own_bytes m left) ≡ length left))
own_whole m left s = by (dec_le (claim_bytes m (claim_numbers file_width m left)) (length left))
  where
    same : claim_bytes m (claim_numbers file_width m (own_bytes m left))
        ≡ claim_bytes m (claim_numbers file_width m left)
    same = own_bytes_lem m left s

    by : Dec (claim_bytes m (claim_numbers file_width m left) ≤ length left)
        → (length (own_bytes m left) ≡ claim_bytes m (claim_numbers file_width m (own_bytes m left)))
        ⊎ ((length (own_bytes m left) < claim_bytes m (claim_numbers file_width m (own_bytes m left)))
        × (length (own_bytes m left) ≡ length left))
    by (yes l) = inl (omega (arith, own_length m left, same))
    by (no l) = inr (omega (arith, own_length m left, same), omega (arith, own_length m left))

own_some : (m : List ℤ) (left : List ℕ) → length (own_bytes m left) ≤ length left
own_some m left = omega (arith, own_length m left)

-- ---- the claims, one after another

-- how the list of claims is made
data Steps (m : List ℤ) : ℕ → List ℕ → List (List ℕ) → Type 0 where
  no_room : {left : List ℕ} → Steps m 0 left []
  no_byte : {room : ℕ} → Steps m (suc room) [] []
  last : {room : ℕ} {left : List ℕ} → 0 < length left → RefusedByLines (verdict_on Passed m (own_bytes m left))
      → Steps m (suc room) left (own_bytes m left ∷ [])
  more : {room : ℕ} {left : List ℕ} {cs : List (List ℕ)} → 0 < length left
      → (¬ RefusedByLines (verdict_on Passed m (own_bytes m left)))
      → Steps m room (drop (length (own_bytes m left)) left) cs → Steps m (suc room) left (own_bytes m left ∷ cs)

steps : (m : List ℤ) (room : ℕ) (left : List ℕ) → Steps m room left (claims_judged room Passed m left)
unfolding claims_judged
steps m zero left = no_room
steps m (suc room) [] = subst (Steps m (suc room) []) (sym (judged_none m (suc room))) no_byte
steps m (suc room) (b ∷ bs) =
    let left = b ∷ bs in
    let v = verdict_on Passed m (own_bytes m left) in
    let rest = claims_judged room Passed m (drop (length (own_bytes m left)) left) in
    let next = judged-next m room left (omega arith) in
    cases (ends_run v)
    (λ t. subst (Steps m (suc room) left) (sym (next ∙ ap (λ (b : Bool). own_bytes m left ∷ cond b [] rest) t))
    (last (omega arith) (ends_refused v t)))
    (λ t. subst (Steps m (suc room) left) (sym (next ∙ ap (λ (b : Bool). own_bytes m left ∷ cond b [] rest) t))
    (more (omega arith) (goes_unrefused v t) (steps m room (drop (length (own_bytes m left)) left))))

module _ (m : List ℤ) where
  pieces : {room : ℕ} {left : List ℕ} {cs : List (List ℕ)} → Steps m room left cs
      → flatten cs ≡ take (length (flatten cs)) left
  unfolding flatten
  pieces no_room = refl
  pieces no_byte = refl
  pieces (last {left = left} l r) = rw (append-nil (own_bytes m left)) (sym (own_front m left))
  pieces (more {left = left} {cs = cs} l r s) =
      let own = own_bytes m left in
      ap₂ (λ (x y : List ℕ). x ++ y) (sym (own_front m left)) (pieces s)
      ∙ sym (ap (λ (n : ℕ). take n left) (length-append own (flatten cs))
      ∙ take-add (length own) (length (flatten cs)) left)

  within_room : {room : ℕ} {left : List ℕ} {cs : List (List ℕ)} → Steps m room left cs → length cs ≤ room
  within_room no_room = omega arith
  within_room no_byte = omega arith
  within_room (last l r) = omega arith
  within_room (more l r s) = omega (arith, within_room s)

  -- where the claims after the first begin
  start_after : (own : List ℕ) (cs : List (List ℕ)) (i : ℕ) → start_of (own ∷ cs) (suc i) ≡ length own + start_of cs i
  unfolding flatten
  start_after own cs i = length-append own (flatten (take i cs))

  byte_left : {room : ℕ} {left : List ℕ} {cs : List (List ℕ)} → Steps m room left cs → (i : ℕ) → i < length cs
      → start_of cs i < length left
  unfolding flatten
  byte_left no_room i h = absurd (omega arith)
  byte_left no_byte i h = absurd (omega arith)
  byte_left (last l r) zero h = l
  byte_left (last l r) (suc i) h = absurd (omega arith)
  byte_left (more l r s) zero h = l
  byte_left (more {left = left} {cs = cs} l r s) (suc i) h =
      omega (
        arith,
        start_after (own_bytes m left) cs i,
        byte_left s i (omega arith),
        length-drop (length (own_bytes m left)) left,
        own_some m left,
      )

  unrefused : {room : ℕ} {left : List ℕ} {cs : List (List ℕ)} → Steps m room left cs → (i : ℕ) → suc i < length cs
      → ¬ RefusedByLines (verdict_on Passed m (claim_at cs i))
  unrefused no_room i h = absurd (omega arith)
  unrefused no_byte i h = absurd (omega arith)
  unrefused (last l r) i h = absurd (omega arith)
  unrefused (more l r s) zero h = r
  unrefused (more l r s) (suc i) h = unrefused s i (omega arith)

  abbrev Length : List ℕ → List (List ℕ) → ℕ → Type 0
  Length left cs i = (length (claim_at cs i) ≡ claim_bytes m (claim_numbers file_width m (claim_at cs i)))
      ⊎ ((length (claim_at cs i) < claim_bytes m (claim_numbers file_width m (claim_at cs i)))
      × (start_of cs i + length (claim_at cs i) ≡ length left))

  first_length : 0 < sides m → (left : List ℕ) (cs : List (List ℕ)) → Length left (own_bytes m left ∷ cs) 0
  unfolding flatten
  first_length s left cs = by (own_whole m left s)
    where
      by : (length (own_bytes m left) ≡ claim_bytes m (claim_numbers file_width m (own_bytes m left)))
          ⊎ ((length (own_bytes m left) < claim_bytes m (claim_numbers file_width m (own_bytes m left)))
          × (length (own_bytes m left) ≡ length left)) → Length left (own_bytes m left ∷ cs) 0
      by (inl e) = inl e
      by (inr e) = inr (e.0, omega (arith, e.1))

  next-length : (left : List ℕ) (cs : List (List ℕ)) (i : ℕ) → Length (drop (length (own_bytes m left)) left) cs i
      → Length left (own_bytes m left ∷ cs) (suc i)
  next-length left cs i (inl e) = inl e
  next-length left cs i (inr e) =
      inr (
        e.0,
        omega (
          arith,
          e.1,
          start_after (own_bytes m left) cs i,
          length-drop (length (own_bytes m left)) left,
          own_some m left,
        ),
      )

  lengths_told : {room : ℕ} {left : List ℕ} {cs : List (List ℕ)} → 0 < sides m → Steps m room left cs → (i : ℕ)
      → i < length cs → Length left cs i
  lengths_told z no_room i h = absurd (omega arith)
  lengths_told z no_byte i h = absurd (omega arith)
  lengths_told z (last {left = left} l r) zero h = first_length z left []
  lengths_told z (last l r) (suc i) h = absurd (omega arith)
  lengths_told z (more {left = left} {cs = cs} l r s) zero h = first_length z left cs
  lengths_told z (more {left = left} {cs = cs} l r s) (suc i) h =
      next-length left cs i (lengths_told z s i (omega arith))

  abbrev Ended : ℕ → List ℕ → List (List ℕ) → Type 0
  Ended room left cs = (length cs ≡ room)
      ⊎ ((length (flatten cs) ≡ length left)
      ⊎ ((j : ℕ) × (length cs ≡ suc j) × RefusedByLines (verdict_on Passed m (claim_at cs j))))

  ended_next : (room : ℕ) (left : List ℕ) (cs : List (List ℕ)) → Ended room (drop (length (own_bytes m left)) left) cs
      → Ended (suc room) left (own_bytes m left ∷ cs)
  unfolding flatten
  ended_next room left cs (inl e) = inl (ap suc e)
  ended_next room left cs (inr (inl e)) =
      inr (inl (omega (
        arith,
        e,
        length-append (own_bytes m left) (flatten cs),
        length-drop (length (own_bytes m left)) left,
        own_some m left,
      )))
  ended_next room left cs (inr (inr (j, e, r))) = inr (inr (suc j, ap suc e, r))

  why_ended : {room : ℕ} {left : List ℕ} {cs : List (List ℕ)} → Steps m room left cs → Ended room left cs
  unfolding flatten
  why_ended no_room = inl refl
  why_ended no_byte = inr (inl refl)
  why_ended (last l r) = inr (inr (0, refl, r))
  why_ended (more {room} {left} {cs} l r s) = ended_next room left cs (why_ended s)

  -- what is taken of one claim
  taken_own : (claim : List ℕ) → (¬ RefusedByLines (verdict_on Passed m claim)) → taken_of Passed m claim ≡ claim
  unfolding taken_of
  taken_own claim r = cases (ends_run (verdict_on Passed m claim))
      (λ t. absurd (r (ends_refused (verdict_on Passed m claim) t))) (λ t. rw t)

  taken_none : (claim : List ℕ) → RefusedByLines (verdict_on Passed m claim) → taken_of Passed m claim ≡ []
  unfolding taken_of
  taken_none claim r = rw (refused_ends (verdict_on Passed m claim) r)

  all_taken_lem : {room : ℕ} {left : List ℕ} {cs : List (List ℕ)} → Steps m room left cs
      → ((i : ℕ) → i < length cs → ¬ RefusedByLines (verdict_on Passed m (claim_at cs i)))
      → flat_map (taken_of Passed m) cs ≡ flatten cs
  unfolding flat_map flatten
  all_taken_lem no_room h = refl
  all_taken_lem no_byte h = refl
  all_taken_lem (last l r) h = absurd (h 0 (omega arith) r)
  all_taken_lem (more {left = left} l r s) h = ap₂ (λ (x y : List ℕ). x ++ y) (taken_own (own_bytes m left) r)
      (all_taken_lem s (λ i b. h (suc i) (omega arith)))

  last_not_taken : {room : ℕ} {left : List ℕ} {cs : List (List ℕ)} → Steps m room left cs → (j : ℕ) → length cs ≡ suc j
      → RefusedByLines (verdict_on Passed m (claim_at cs j)) → flat_map (taken_of Passed m) cs ≡ flatten (take j cs)
  unfolding flat_map flatten
  last_not_taken no_room j e w = absurd (omega arith)
  last_not_taken no_byte j e w = absurd (omega arith)
  last_not_taken (last {left = left} l r) zero e w = rw (taken_none (own_bytes m left) r)
  last_not_taken (last l r) (suc j) e w = absurd (omega arith)
  last_not_taken (more l r s) zero e w = absurd (r w)
  last_not_taken (more {left = left} l r s) (suc j) e w = ap₂ (λ (x y : List ℕ). x ++ y)
      (taken_own (own_bytes m left) r) (last_not_taken s j (omega arith) w)

-- ---- the statements

-- a mesh that passes, by an outcome that says so
pub in_turn : (o : Outcome) (m : List ℤ) → o ≡ Passed → mesh_check m ≡ Passed → (room : ℕ) (claims : List ℕ)
    → InTurn m room claims (claims_judged room o m claims)
    (length (flat_map (taken_of o m) (claims_judged room o m claims)))
in_turn o m e p room claims =
    let s = steps m room claims in
    subst (λ (o : Outcome). InTurn m room claims (claims_judged room o m claims)
    (length (flat_map (taken_of o m) (claims_judged room o m claims)))) (sym e) (record {
      adjoining = pieces m s;
      lengths = lengths_told m (sides-there m p) s;
      room_there = within_room m s;
      byte_there = byte_left m s;
      goes_on = unrefused m s;
      ended = why_ended m s;
      taken = λ h. ap length (all_taken_lem m s h);
      not_taken = λ j e r. ap length (last_not_taken m s j e r);
    })

-- no more claims get a report than there is room for, whatever the mesh
pub few_judged : (o : Outcome) (m : List ℤ) (room : ℕ) (claims : List ℕ) → length (claims_judged room o m claims) ≤ room
unfolding claims_judged
few_judged Passed m room claims = within_room m (steps m room claims)
few_judged (Fails k p) m zero claims = omega arith
few_judged (Fails k p) m (suc room) claims = omega arith

pub header_told : HeaderAlone
unfolding verdict_on own_bytes claim_numbers claim_layout claim_header line_bytes
header_told o m left h =
    ap (λ (c : List ℤ). answer o (claim_verdict m c))
    (header_alone file_width (claim_layout m) (claim_bytes m (claim_numbers file_width m left)) left
    (header_there m (claim_numbers file_width m left)) h)

pub refused_once : RefusedOnce
refused_once = judged_refused
