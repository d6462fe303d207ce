-- Refusals in an order (document 01, 'Verdict and report', "Order"): phases one after the other, in each phase "lowest
-- place first", at a place one step after the other.
-- A step has a plain statement, and a test that decides it once all before it holds.
use Rattle.std.specs.Prelude.{◌≡◌, ◌⊎◌, Bool, true, false, cond, List, [], ◌∷◌, ℕ, ◌<◌}
use Rattle.scope.specs.declared.Place.{Place}
use Rattle.scope.specs.Cases.Outcome.{Outcome}
use Rattle.scope.specs.Cases.Outcome.{Passed, Refused}
use Rattle.scope.specs.Checks.{◌then◌, lowest}

-- what is asked, and the number of the refusal where it fails
pub record Step : Type 1 where
  pub number : ℕ
  pub Holds : Type 0
  pub test : Bool

abbrev pub step : ℕ → Type 0 → Bool → Step
step number Holds test = record { number = number; Holds = Holds; test = test }

-- at each of `count` places some steps, and what the place is called
pub record Phase : Type 1 where
  pub count : ℕ
  pub steps : ℕ → List Step
  pub place : ℕ → Place

-- one step at each place
abbrev pub phase : ℕ → ℕ → (ℕ → Type 0) → (ℕ → Bool) → (ℕ → Place) → Phase
phase number count Holds test place =
    record { count = count; steps = λ k. step number (Holds k) (test k) ∷ []; place = place }

-- the phases of a part that may be absent
abbrev pub if_part : Bool → List Phase → List Phase
if_part true fs = fs
if_part false fs = []

-- ---- what is said

-- P holds at all places below k
abbrev pub Below : ℕ → (ℕ → Type 0) → Type 0
Below k P = (j : ℕ) → j < k → P j

abbrev pub AllHold : List Step → Type 0
AllHold [] = Unit {0}
AllHold (s ∷ ss) = s.Holds × AllHold ss

-- the first step that fails has the number c
abbrev pub FirstFails : List Step → ℕ → Type 0
FirstFails [] c = ⊥
FirstFails (s ∷ ss) c = ((¬ s.Holds) × (s.number ≡ c)) ⊎ (s.Holds × FirstFails ss c)

abbrev pub HoldsAt : Phase → ℕ → Type 0
HoldsAt f k = AllHold (f.steps k)

abbrev pub Everywhere : Phase → Type 0
Everywhere f = Below f.count (HoldsAt f)

-- all hold at all lower places, and here one fails
pub record FailsIn (f : Phase) (c : ℕ) (p : Place) : Type 0 where
  pub here : ℕ
  pub there : here < f.count
  pub lower : Below here (HoldsAt f)
  pub fails : FirstFails (f.steps here) c
  pub called : f.place here ≡ p

-- all phases hold everywhere
abbrev pub AllPass : List Phase → Type 0
AllPass [] = Unit {0}
AllPass (f ∷ fs) = Everywhere f × AllPass fs

-- refused with the number c and the place p: all phases before one hold everywhere, and it fails there
abbrev pub RefusedBy : List Phase → ℕ → Place → Type 0
RefusedBy [] c p = ⊥
RefusedBy (f ∷ fs) c p = FailsIn f c p ⊎ (Everywhere f × RefusedBy fs c p)

-- ---- what is tested

-- the first step whose test fails
abbrev pub check_steps : List Step → Place → Outcome
check_steps [] p = Passed
check_steps (s ∷ ss) p = cond s.test (check_steps ss p) (Refused s.number p)

-- "lowest place first"
unfoldable pub check_phase : Phase → Outcome
check_phase f = lowest (λ k. check_steps (f.steps k) (f.place k)) f.count

-- phase after phase
unfoldable pub check_phases : List Phase → Outcome
check_phases [] = Passed
check_phases (f ∷ []) = check_phase f
check_phases (f ∷ g ∷ fs) = check_phase f then check_phases (g ∷ fs)
