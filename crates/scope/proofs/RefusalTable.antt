-- Each refusal is a row of document 01's table, and each row a refusal: phase by phase, each with what the phases
-- before it say.
use mathlib.Core.Path.{◌≡◌, refl, subst}
use mathlib.Core.Logic.{◌↔◌, ◌⊎◌, inl, inr}
use mathlib.Core.List.{List, ◌++◌}
use Prim.Native.Nat.{ℕ, ◌*◌, ◌<◌}
use native.Mathlib.Omega.{arith}
use lib.IntN.{ℤ}
use Rattle.scope.specs.declared.Place.{Place}
use Rattle.scope.specs.Phases.{AllPass, RefusedBy}
use Rattle.scope.specs.Columns.{n, l}
use Rattle.scope.specs.Layout.{Layout}
use Rattle.scope.specs.Mesh.{mesh_layout, nodes}
use Rattle.scope.specs.Claim.{claim_layout, stress, multiplier}
use Rattle.scope.specs.Rows.{equality_rows, strength_rows, rows_of}
use Rattle.scope.specs.Statements.{LinesSound, MeshSound, HasField, HasMultipliers}
use Rattle.scope.specs.Refusals.{line_phases, shape_phases, mesh_phases, field_phases, multiplier_phases, field_part}
use Rattle.scope.specs.Refusals.{multiplier_part, part_phases, claim_phases, LineRefusal, MeshRefusal, Refusal}
use Rattle.scope.specs.RefusalTable.{LowestFails, MeshRefusalRow, of_lines, five, six, seven, forty_seven, eight, forty_four}
use Rattle.scope.specs.RefusalTable.{forty_two, Before21, Before31, RefusalRow, of_mesh, of_claim_lines, twenty_one}
use Rattle.scope.specs.RefusalTable.{twenty_two, thirty_one, thirty_two, thirty_three}
use Rattle.scope.proofs.Phases.{EachIn, each_refusal, each_join, each_as, each_there, join_refused, refused_there}
use Rattle.scope.proofs.Refusals.{lines_sound, sound_lines, mesh_sound, sound_mesh, field-there, multipliers_there}
use Rattle.scope.proofs.Refusals.{field_part_sound, sound_field_part}

-- a phase of one step, with its number and its place
pub row : {number c : ℕ} {p : Place} {H : Type 0} (Q : ℕ → Place → Type 0) → ((¬ H) × (number ≡ c)) ⊎ (H × ⊥)
    → ((¬ H) → Q number p) → Q c p
row {p = p} Q (inl h) f = subst (λ i. Q i p) h.1 (f h.0)
row Q (inr h) f = absurd h.1

-- one step at each place
pub alone : {P : ℕ → Type 0} {k : ℕ} → ((j : ℕ) → j < k → P j × Unit {0}) → (j : ℕ) → j < k → P j
alone h j i = (h j i).0

pub lowest_fails : {count k : ℕ} {P : ℕ → Type 0} → k < count → ((j : ℕ) → j < k → P j × Unit {0}) → ¬ P k
    → LowestFails count P k
lowest_fails h l x = record { there = h; lower = alone l; fails = x }

-- the lines of a file
line_rows : (f : Layout) (ns : List ℤ) (Q : ℕ → Place → Type 0) → ((k : ℕ) (p : Place) → LineRefusal f ns k p → Q k p)
    → EachIn Q (line_phases f ns)
line_rows f ns Q of = (
  λ k c h l r. of c _ (record { by = inl (record { here = k; there = h; lower = l; fails = r; called = refl }) }),
  λ e. (
    λ k c h l r. of c _
        (record { by = inr (e, inl (record { here = k; there = h; lower = l; fails = r; called = refl })) }),
    λ i. tt,
  ),
)

mesh_rows : (m : List ℤ) → EachIn (MeshRefusalRow m) (mesh_phases m)
mesh_rows m =
    each_join (MeshRefusalRow m) (line_phases mesh_layout m) (shape_phases m)
    (line_rows mesh_layout m (MeshRefusalRow m) (λ k p r. of_lines r)) (λ a.
    let lines = lines_sound mesh_layout m a in (
      λ e c h l r. row (MeshRefusalRow m) r (λ x. five e lines (lowest_fails h l x)),
      λ turns. (
        λ e c h l r. row (MeshRefusalRow m) r (λ x. six e lines (alone turns) (lowest_fails h l x)),
        λ sides. (
          λ v c h l r. row (MeshRefusalRow m) r (λ x. seven v lines (alone turns) (alone sides) (lowest_fails h l x)),
          λ nodes. (
            λ e c h l r. row (MeshRefusalRow m) r
                (λ x. forty_seven e lines (alone turns) (alone sides) (alone nodes) (lowest_fails h l x)),
            λ apart. (
              λ g c h l r. row (MeshRefusalRow m) r
                  (λ x. eight g lines (alone turns) (alone sides) (alone nodes) (alone apart) (lowest_fails h l x)),
              λ edges. (
                λ j c h l r. row (MeshRefusalRow m) r
                    (λ x. forty_four j lines (alone turns) (alone sides) (alone nodes) (alone apart) (alone edges)
                    (lowest_fails h l x)),
                λ joints. (
                  λ v c h l r. row (MeshRefusalRow m) r
                      (λ x. forty_two v lines (alone turns) (alone sides) (alone nodes) (alone apart) (alone edges)
                      (alone joints) (lowest_fails h l x)),
                  λ pairs. tt,
                ),
              ),
            ),
          ),
        ),
      ),
    ))

pub mesh_row : (m : List ℤ) (k : ℕ) (p : Place) → MeshRefusal m k p → MeshRefusalRow m k p
mesh_row m k p r = each_refusal (MeshRefusalRow m) (mesh_phases m) (mesh_rows m) r.by

module _ (m c : List ℤ) where
  before_21 : AllPass (mesh_phases m) → AllPass (line_phases (claim_layout m) c) → Before21 m c
  before_21 a b = record { mesh = mesh_sound m a; lines = lines_sound (claim_layout m) c b }

  field_rows : Before21 m c → HasField c → EachIn (RefusalRow m c)
      (field_phases (equality_rows m) (strength_rows m) (stress m c) (l c) (n c))
  field_rows before there = (
    λ k i h l r. row (RefusalRow m c) r (λ x. twenty_one k before there (lowest_fails h l x)),
    λ equalities. (
      λ k i h l r. row (RefusalRow m c) r (λ x. twenty_two k before there (alone equalities) (lowest_fails h l x)),
      λ strengths. tt,
    ),
  )

  multiplier_rows : Before31 m c → HasMultipliers c → EachIn (RefusalRow m c)
      (multiplier_phases (equality_rows m) (rows_of m) (3 * nodes m) (multiplier m c))
  multiplier_rows before there = (
    λ k i h l r. row (RefusalRow m c) r (λ x. thirty_one k before there (lowest_fails h l x)),
    λ unfixed. (
      λ j i h l r. row (RefusalRow m c) r (λ x. thirty_two j before there (alone unfixed) (lowest_fails h l x)),
      λ zero. (
        λ j i h l r. row (RefusalRow m c) r (λ x. thirty_three before there (alone unfixed) (alone zero) x),
        λ live. tt,
      ),
    ),
  )

  all_rows_lem : EachIn (RefusalRow m c) (mesh_phases m ++ claim_phases m c)
  all_rows_lem =
      each_join (RefusalRow m c) (mesh_phases m) (claim_phases m c)
      (each_as (MeshRefusalRow m) (RefusalRow m c) (mesh_phases m) (λ k p x. of_mesh x) (mesh_rows m)) (λ a.
      each_join (RefusalRow m c) (line_phases (claim_layout m) c) (part_phases m c)
      (line_rows (claim_layout m) c (RefusalRow m c) (λ k p r. of_claim_lines (mesh_sound m a) r)) (λ b.
      each_join (RefusalRow m c) (field_part m c) (multiplier_part m c)
      (each_there (RefusalRow m c) (field_phases (equality_rows m) (strength_rows m) (stress m c) (l c) (n c))
      (field-there m c) (field_rows (before_21 a b)))
      (λ d.
      each_there (RefusalRow m c) (multiplier_phases (equality_rows m) (rows_of m) (3 * nodes m) (multiplier m c))
      (multipliers_there m c)
      (multiplier_rows (record { before = before_21 a b; field = field_part_sound m c d })))))

  pub refusal_row : (k : ℕ) (p : Place) → Refusal m c k p → RefusalRow m c k p
  refusal_row k p r = each_refusal (RefusalRow m c) (mesh_phases m ++ claim_phases m c) all_rows_lem r.by

-- ---- and back

pub held : {P : ℕ → Type 0} {k : ℕ} → ((j : ℕ) → j < k → P j) → (j : ℕ) → j < k → P j × Unit {0}
held h j i = (h j i, tt)

shape_refusal : (m : List ℤ) {k : ℕ} {p : Place} → LinesSound mesh_layout m → RefusedBy (shape_phases m) k p
    → RefusedBy (mesh_phases m) k p
shape_refusal m {k} {p} lines r = join_refused (line_phases mesh_layout m) (shape_phases m) k p
    (inr (sound_lines mesh_layout m lines, r))

pub row_mesh : (m : List ℤ) {k : ℕ} {p : Place} → MeshRefusalRow m k p → RefusedBy (mesh_phases m) k p
row_mesh m {k} {p} (of_lines r) = join_refused (line_phases mesh_layout m) (shape_phases m) k p (inl r.by)
row_mesh m (five e lines h) =
    shape_refusal m lines
    (inl (record { here = e; there = h.there; lower = held h.lower; fails = inl (h.fails, refl); called = refl }))
row_mesh m (six e lines turns h) =
    shape_refusal m lines
    (inr (
      held turns,
      inl
          (record { here = e; there = h.there; lower = held h.lower; fails = inl (h.fails, refl); called = refl }),
    ))
row_mesh m (seven v lines turns sides h) = shape_refusal m lines
    (inr (
      held turns,
      inr (
        held sides,
        inl (record
            { here = v; there = h.there; lower = held h.lower; fails = inl (h.fails, refl); called = refl }),
      ),
    ))
row_mesh m (forty_seven e lines turns sides nodes h) = shape_refusal m lines
    (inr (
      held turns,
      inr (
        held sides,
        inr (
          held nodes,
          inl (record { here = e; there = h.there; lower = held h.lower; fails = inl (h.fails, refl); called = refl }),
        ),
      ),
    ))
row_mesh m (eight g lines turns sides nodes apart h) = shape_refusal m lines
    (inr (
      held turns,
      inr (
        held sides,
        inr (
          held nodes,
          inr (
            held apart,
            inl (record
                { here = g; there = h.there; lower = held h.lower; fails = inl (h.fails, refl); called = refl }),
          ),
        ),
      ),
    ))
row_mesh m (forty_four j lines turns sides nodes apart edges h) =
    shape_refusal m lines
    (inr (
      held turns,
      inr (
        held sides,
        inr (
          held nodes,
          inr (
            held apart,
            inr (
              held edges,
              inl (record { here = j; there = h.there; lower = held h.lower; fails = inl (h.fails, refl); called = refl }),
            ),
          ),
        ),
      ),
    ))
row_mesh m (forty_two v lines turns sides nodes apart edges joints h) =
    shape_refusal m lines
    (inr (
      held turns,
      inr (
        held sides,
        inr (
          held nodes,
          inr (
            held apart,
            inr (
              held edges,
              inr (
                held joints,
                inl
                    (record { here = v; there = h.there; lower = held h.lower; fails = inl (h.fails, refl); called = refl }),
              ),
            ),
          ),
        ),
      ),
    ))

module _ (m c : List ℤ) where
  claim_refusal : {k : ℕ} {p : Place} → MeshSound m → RefusedBy (claim_phases m c) k p
      → RefusedBy (mesh_phases m ++ claim_phases m c) k p
  claim_refusal {k} {p} s r = join_refused (mesh_phases m) (claim_phases m c) k p (inr (sound_mesh m s, r))

  part_refusal : {k : ℕ} {p : Place} → Before21 m c → RefusedBy (part_phases m c) k p
      → RefusedBy (mesh_phases m ++ claim_phases m c) k p
  part_refusal {k} {p} b r =
      claim_refusal b.mesh (join_refused (line_phases (claim_layout m) c) (part_phases m c) k p
      (inr (sound_lines (claim_layout m) c b.lines, r)))

  field_refusal : {k : ℕ} {p : Place} → Before21 m c → HasField c
      → RefusedBy (field_phases (equality_rows m) (strength_rows m) (stress m c) (l c) (n c)) k p
      → RefusedBy (mesh_phases m ++ claim_phases m c) k p
  field_refusal {k} {p} b there r =
      part_refusal b (join_refused (field_part m c) (multiplier_part m c) k p
      (inl (refused_there (field_phases (equality_rows m) (strength_rows m) (stress m c) (l c) (n c))
      (field-there m c) there k p r)))

  multiplier_refusal : {k : ℕ} {p : Place} → Before31 m c → HasMultipliers c
      → RefusedBy (multiplier_phases (equality_rows m) (rows_of m) (3 * nodes m) (multiplier m c)) k p
      → RefusedBy (mesh_phases m ++ claim_phases m c) k p
  multiplier_refusal {k} {p} b there r =
      part_refusal b.before
      (join_refused (field_part m c) (multiplier_part m c) k p
      (inr (
        sound_field_part m c b.field,
        refused_there (multiplier_phases (equality_rows m) (rows_of m) (3 * nodes m) (multiplier m c))
            (multipliers_there m c) there k p r,
      )))

  row_refusal : {k : ℕ} {p : Place} → RefusalRow m c k p → RefusedBy (mesh_phases m ++ claim_phases m c) k p
  row_refusal {k} {p} (of_mesh r) = join_refused (mesh_phases m) (claim_phases m c) k p (inl (row_mesh m r))
  row_refusal {k} {p} (of_claim_lines s r) =
      claim_refusal s (join_refused (line_phases (claim_layout m) c) (part_phases m c) k p (inl r.by))
  row_refusal (twenty_one k b there h) = field_refusal b there
      (inl (record { here = k; there = h.there; lower = held h.lower; fails = inl (h.fails, refl); called = refl }))
  row_refusal (twenty_two k b there equalities h) = field_refusal b there
      (inr (
        held equalities,
        inl (record { here = k; there = h.there; lower = held h.lower; fails = inl (h.fails, refl); called = refl }),
      ))
  row_refusal (thirty_one k b there h) = multiplier_refusal b there
      (inl (record { here = k; there = h.there; lower = held h.lower; fails = inl (h.fails, refl); called = refl }))
  row_refusal (thirty_two j b there unfixed h) = multiplier_refusal b there
      (inr (
        held unfixed,
        inl
            (record { here = j; there = h.there; lower = held h.lower; fails = inl (h.fails, refl); called = refl }),
      ))
  row_refusal (thirty_three b there unfixed zero x) =
      multiplier_refusal b there
      (inr (
        held unfixed,
        inr (
          held zero,
          inl (record {
            here = 0;
            there = omega arith;
            lower = λ j i. absurd (omega arith);
            fails = inl (x, refl);
            called =
                refl;
          }),
        ),
      ))

  -- refused with a number and a place exactly when the table has a row with them
  pub refusal_rows_exact : (k : ℕ) (p : Place) → Refusal m c k p ↔ RefusalRow m c k p
  refusal_rows_exact k p = (refusal_row m c k p, λ r. record { by = row_refusal r })
