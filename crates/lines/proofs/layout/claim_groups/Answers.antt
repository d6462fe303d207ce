-- `claim_groups` meets its contract: the table is the definitions' groups, by unfolding both.
use mathlib.Core.Path.{◌≡◌, refl, sym}
use mathlib.Core.Bool.{Bool}
use mathlib.Core.List.{List, [], ◌∷◌}
use Prim.Native.Nat.{ℕ, ◌<◌, ◌≤◌}
use native.Mathlib.Omega.{arith}
use lib.IntN.{ℤ, pos, negsuc}
use lib.ListN.{length-replicate}
use mir.Syntax.{w64}
use mir.Val.{to_z, of_z}
use mir.Facts.{to_z-of_z}
use Rattle.integer.proofs.Machine.{Within-SFits}
use Rattle.scope.specs.Mesh.{most_strength, strength_multiplier}
use Rattle.scope.specs.Columns.{up_to}
use Rattle.scope.specs.Claim.{if_there, stress_lines, element_multipliers, edge_multipliers, jump_multipliers}
use Rattle.scope.specs.Claim.{strength_multipliers}
use Rattle.scope.proofs.SideLimits.{strength_most}
use Rattle.mesh.specs.declared.sizes.Sizes.{Sizes}
use Rattle.lines.specs.declared.layout.Kind.TheVariants.{Even}
use Rattle.lines.specs.declared.layout.Group as Code
use Rattle.lines.specs.Table.{most_lines, most_columns, kind_lines, claim_body, even_lines, Few, Good, Tabled}
use Rattle.lines.proofs.GroupLaws.{few_there}
use Rattle.lines.proofs.TableLaws.{few_of, known_of}
use Rattle.lines.proofs.layout.claim_groups.Goals as goal

abbrev even : ℤ → ℤ → ℕ → ℕ → Code.Group
even lo hi lines columns = record { kind = Even lo hi; lines = lines; columns = columns }

part : (s : Sizes) (lo hi : ℤ) {n : ℕ} (w : ℕ) (there : Bool) → n ≤ most_lines → 0 < w → w ≤ most_columns
    → Good s (even lo hi (if_there there n) w)
unfolding kind_lines even_lines
part s lo hi w there n some few =
    record {
      wide = sym (length-replicate _ _);
      few = record { few_lines = few_there there refl n; some_column = some; few_columns = few };
    }

-- the largest multiplier, as the machine hands it on
strength_read : (k : ℕ) → to_z w64 (of_z w64 (pos (strength_multiplier k))) ≡ pos (strength_multiplier k)
strength_read k = to_z-of_z (Within-SFits {B = most_strength} (record { within = strength_most k }) (omega arith))

abbrev listed : Sizes → ℕ → Bool → Bool → List Code.Group
listed s pairs field multipliers =
    even (negsuc 999999999) (pos 1000000000) (if_there field s.nodes) 3
    ∷ even (negsuc 99999) (pos 100000) (if_there multipliers s.elements) 2
    ∷ even (negsuc 99999) (pos 100000) (if_there multipliers s.edges) 4
    ∷ even (negsuc 99999) (pos 100000) (if_there multipliers s.jumps) 4
    ∷ even (pos 0) (pos (strength_multiplier s.sides)) (if_there multipliers pairs) s.sides
    ∷ []

all_good : (s : Sizes) (pairs : ℕ) → pairs ≤ most_lines → (f m : Bool)
    → Tabled s (listed s pairs f m) (claim_body s pairs f m)
unfolding kind_lines claim_body even_lines stress_lines element_multipliers edge_multipliers jump_multipliers
    strength_multipliers up_to
all_good s pairs few f m = record {
  same = refl;
  table = record {
    size = refl;
    good = (
      part s _ _ _ f s.few_nodes (omega arith) (omega arith),
      (
        part s _ _ _ m s.few_elements (omega arith) (omega arith),
        (
          part s _ _ _ m (omega (arith, s.few_edges)) (omega arith) (omega arith),
          (
            part s _ _ _ m (omega (arith, s.few_jumps)) (omega arith) (omega arith),
            (part s _ _ _ m few s.some_side s.few_sides, tt),
          ),
        ),
      ),
    );
  };
}

-- a part that is there or not
few_part : {g : Code.Group} {lo hi : ℤ} {r k w : ℕ} (there : Bool) → g ≡ even lo hi r w → r ≡ if_there there k
    → k ≤ most_lines
    → 0 < w → w ≤ most_columns → Few g
few_part there e f n some few = few_of e (few_there there f n) some few

pub invariant_of-result : goal.invariant_of-result
invariant_of-result c =
    let a = c.args in
    record {
      known =
          known_of
          (few_part a.field c.even.ensures c.if_there.ensures (omega arith) (omega arith) (omega arith))
          (few_part a.multipliers c.even-2.ensures c.if_there-2.ensures (omega arith) (omega arith) (omega arith))
          (few_part a.multipliers c.even-3.ensures c.if_there-3.ensures (omega arith) (omega arith) (omega arith))
          (few_part a.multipliers c.even-4.ensures c.if_there-4.ensures (omega arith) (omega arith) (omega arith))
          (few_part a.multipliers c.even-5.ensures c.if_there-5.ensures (omega arith) (omega arith) (omega arith));
    }

pub returns : goal.returns
returns c =
    let a = c.args in
    rw (
      c.even.ensures,
      c.even-2.ensures,
      c.even-3.ensures,
      c.even-4.ensures,
      c.even-5.ensures,
      c.strength_most.ensures,
      strength_read a.s.sizes.sides,
    )
    (rw (c.if_there.ensures, c.if_there-2.ensures, c.if_there-3.ensures, c.if_there-4.ensures, c.if_there-5.ensures)
    (all_good a.s.sizes a.s.pairs (omega (arith, a.s.few_pairs)) a.field a.multipliers))
