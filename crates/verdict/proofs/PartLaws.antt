-- The parts of a claim: what is there of its field, and what is not.
use mathlib.Core.Path.{◌≡◌, refl, sym, ◌∙◌, ap, ap₂, subst}
use mathlib.Core.Bool.{Bool, true, false, cond, not, ◌&&◌, ◌||◌}
use mathlib.Core.List.{List}
use Prim.Native.Nat.{ℕ, ◌+◌}
use native.Mathlib.Numerals.{add-one}
use lib.IntN.{ℤ}
use Rattle.scope.specs.Checks.{some_below}
use Rattle.scope.specs.Cases.Outcome.{Passed}
use Rattle.scope.specs.Cases.Load.{Load}
use Rattle.scope.specs.Cases.Load.{Absent, Exact}
use Rattle.scope.specs.Claim.{stress}
use Rattle.scope.specs.Columns.{at, has_field, n, l}
use Rattle.scope.specs.Mesh.{some_by_direction}
use Rattle.scope.specs.Phases.{if_part, Phase, check_phases}
use Rattle.scope.specs.Refusals.{field_phases}
use Rattle.scope.specs.Rows.{equality_rows, strength_rows}
use Rattle.scope.specs.Verdict.{lower_load}
use Rattle.criterion.specs.declared.fields.Field.{Field}
use Rattle.criterion.specs.FieldContracts.{FieldOf}

-- one soil more that is not by direction
pub none_more : (f : ℕ → Bool) {k : ℕ} → some_below f k ≡ false → f k ≡ false → some_below f (k + 1) ≡ false
unfolding some_below
none_more f {k} e h = subst (λ (n : ℕ). some_below f n ≡ false) (sym (add-one k)) (ap₂ ◌||◌ e h)

untold : (b : Bool) (x : Load) → cond (b && false) x Absent ≡ Absent
untold true x = refl
untold false x = refl

module _ (m c : List ℤ) where
  -- the load, where there is a field (b) and whether a soil is by direction (d)
  abbrev load_where : Bool → Bool → Load
  load_where b d = cond (b && not d) (Exact (l c) (n c)) Absent

  pub load_there : {a b : ℤ} → has_field c ≡ true → some_by_direction m ≡ false → a ≡ l c → b ≡ n c
      → Exact a b ≡ lower_load m c
  unfolding lower_load
  load_there e h f g = ap₂ Exact f g ∙ sym (ap₂ load_where e h)

  pub no_load : has_field c ≡ false → Absent ≡ lower_load m c
  unfolding lower_load
  no_load e = sym (ap (λ (b : Bool). load_where b (some_by_direction m)) e)

  -- no load is told on a mesh that lists a soil by direction
  pub load_untold : some_by_direction m ≡ true → Absent ≡ lower_load m c
  unfolding lower_load
  load_untold h = sym (ap (load_where (has_field c)) h ∙ untold (has_field c) (Exact (l c) (n c)))

module _ (c : List ℤ) where
  pub part_there : (fs : List Phase) → has_field c ≡ true → check_phases fs ≡ check_phases (if_part (has_field c) fs)
  part_there fs e = sym (ap (λ (b : Bool). check_phases (if_part b fs)) e)

  pub no_part : (fs : List Phase) → has_field c ≡ false → Passed ≡ check_phases (if_part (has_field c) fs)
  unfolding check_phases
  no_part fs e = sym (ap (λ (b : Bool). check_phases (if_part b fs)) e)

-- the checks of a claim's field are those of the definition
pub field_as :
    {f : Field} {m c : List ℤ} →
    FieldOf f m c →
    check_phases
    (field_phases (equality_rows f.mesh.mesh.numbers.now) (strength_rows f.mesh.mesh.numbers.now)
    (at f.stresses.now) f.l f.n)
    ≡ check_phases (field_phases (equality_rows m) (strength_rows m) (stress m c) (l c) (n c))
field_as h = rw (h.its_mesh, h.its_stresses, h.its_load, h.its_scale)
