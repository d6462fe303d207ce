-- Going through the groups of a table, one after another: what is still to be said is what the check of the groups
-- from group i on says.
use mathlib.Core.Path.{◌≡◌, refl, sym, ◌∙◌, ap, ap₂, subst}
use mathlib.Core.List.{List, ◌∷◌, map}
use mathlib.Core.Bool.{Bool}
use Prim.Native.Nat.{ℕ, zero, suc, ◌+◌, ◌*◌, ◌<◌, ◌≤◌}
use native.Mathlib.Omega.{arith}
use lib.IntN.{ℤ}
use lib.ListN.{length, get_or, drop, drop_of_length-le}
use lib.Dec.{eqb, leb}
use borrow.Author.Tests.{ne_eqb, lt-leb}
use Rattle.scope.specs.declared.Place.{Place}
use Rattle.scope.specs.declared.Place.TheVariants.{Line}
use Rattle.scope.specs.Cases.Outcome.{Outcome}
use Rattle.scope.specs.Cases.Outcome.{Passed, Refused}
use Rattle.scope.specs.Checks.{demand}
use Rattle.scope.specs.Layout.{Layout, width}
use Rattle.mesh.specs.declared.sizes.Sizes.{Sizes}
use Rattle.lines.specs.declared.layout.Rule.TheVariants.{Soil}
use Rattle.lines.specs.declared.layout.Kind.TheVariants.{Ruled}
use Rattle.lines.specs.declared.layout.Group as Code
use Rattle.lines.specs.Table.{group_count, most_lines, meant, Good, Table}
use Rattle.lines.specs.LineContracts.{group_check, groups_check}
use Rattle.lines.proofs.TableLaws.{good-at, from_place, lines_meant}
use Rattle.lines.proofs.GroupLaws.{Reached, reached, stop_here, pass_on, passed_there}

-- what stands in the place of a group that is not there
abbrev pub no_group : Code.Group
no_group = record { kind = Ruled Soil; lines = 0; columns = 0 }

-- the groups before group i have passed: `rest` are the numbers from the next one on, which begins in line `line` of
-- the file
pub record Through (all : Outcome) (f : Layout) (z : Sizes) (gs : List Code.Group) (rest : List ℤ)
    (line i : ℕ) : Type 0 where
  pub few_lines : line ≤ 2 + i * most_lines
  pub still : Reached all f (map (meant z) (drop i gs)) rest line

pub through_start : (f : Layout) (z : Sizes) (gs : List Code.Group) (s : List ℤ)
    → Through (groups_check f (map (meant z) gs) s 2) f z gs s 2 0
through_start f z gs s = record { few_lines = omega arith; still = reached f (map (meant z) gs) s 2 }

module _ {all : Outcome} {f : Layout} {z : Sizes} {gs : List Code.Group} {rest : List ℤ} {line i : ℕ} (t : Table z gs)
    (h : Through all f z gs rest line i) where
  module _ (l : i < group_count) where
    abbrev g : Code.Group
    g = get_or gs i no_group

    pub this_good : Good z g
    this_good = good-at gs no_group i t.good (omega (arith, t.size))

    this : Reached all f (meant z g ∷ map (meant z) (drop (i + 1) gs)) rest line
    this = subst (λ (ks : List Code.Group). Reached all f (map (meant z) ks) rest line)
        (from_place gs no_group i (omega (arith, t.size))) h.still

    module _ {o : Outcome} (e : o ≡ group_check f (meant z g) rest line) where
      pub through_stop : {c : ℕ} {p : Place} → o ≡ Refused c p → o ≡ all
      through_stop = stop_here this e

      numbers : (meant z g).lines * width (meant z g) ≡ g.lines * g.columns
      numbers = ap₂ ◌*◌ (lines_meant z g) (sym this_good.wide)

      pub through_there : o ≡ Passed → g.lines * g.columns ≤ length rest
      through_there r =
          let more = passed_there this e (omega (arith, this_good.wide, this_good.few.some_column)) r in
          omega (arith, more, numbers)

      pub through_next : o ≡ Passed → {next : List ℤ} → next ≡ drop (g.lines * g.columns) rest
          → Through all f z gs next (line + g.lines) (i + 1)
      through_next r {next} q = record {
        few_lines = omega (arith, this_good.few.few_lines, h.few_lines);
        still =
            subst (λ (n : ℕ). Reached all f (map (meant z) (drop (i + 1) gs)) next (line + n)) (lines_meant z g)
            (pass_on this e r (q ∙ ap (λ (n : ℕ). drop n rest) (sym numbers)));
      }

  -- after the last group numbers are left over, or none
  pub through_end : group_count ≤ i → {b : Bool} → b ≡ eqb (length rest) 0 → demand b f.form_number (Line line) ≡ all
  unfolding groups_check
  through_end l e =
      let last = subst (λ (ks : List Code.Group). Reached all f (map (meant z) ks) rest line)
      (drop_of_length-le gs {i = i} (omega (arith, t.size))) h.still in
      ap (λ (b : Bool). demand b f.form_number (Line line)) (e ∙ none (length rest)) ∙ sym last.same
    where
      none : (n : ℕ) → eqb n 0 ≡ leb n 0
      none zero = refl
      none (suc n) = ne_eqb (suc n) 0 (omega arith) ∙ sym (lt-leb (suc n) 0 (omega arith))
