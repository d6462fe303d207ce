-- The lines of a table by hand: a line of its layout passes, or fails at one of its three steps, exactly where its
-- numbers say so; so all lines pass, and each refusal of them comes, exactly as `TabledRefusals` says.
use mathlib.Core.Path.{◌≡◌, refl, sym, ◌∙◌, ap, subst, subst₂}
use mathlib.Core.Logic.{◌⊎◌, inl, inr}
use mathlib.Core.List.{List, [], ◌∷◌}
use Prim.Native.Nat.{ℕ, ◌+◌, ◌*◌, ◌-◌, ◌≤◌, ◌<◌}
use native.Mathlib.Decide.{dec_lt}
use native.Mathlib.Omega.{arith}
use lib.IntN.{ℤ, pos, neg_ℤ}
use lib.ListN.{length, take, drop, length-take, length-drop}
use lib.Seq.{get_or-take, get_or-drop}
use Rattle.scope.specs.declared.Place.TheVariants.{Line}
use Rattle.scope.specs.Columns.{Limit, between, free, at}
use Rattle.scope.specs.Layout.{Placed, groups, line_count, number_count, line_of, line_numbers, group_at, numbers_at}
use Rattle.scope.specs.Mesh.{soils}
use Rattle.scope.specs.Phases.{Step, FirstFails, AllHold, AllPass, RefusedBy}
use Rattle.scope.specs.Statements.{AllWithin}
use Rattle.scope.specs.Refusals.{rule_number, line_steps}
use Rattle.scope.specs.Table.{layer_lines, table_lines, table_layout, table_line_phases}
use Rattle.scope.specs.LayerRefusals.{Named}
use Rattle.scope.specs.TabledRefusals.{Begun, OwnForm, Level, OwnLimits, OwnSoil, OwnLine, OwnTo, OwnLines}
use Rattle.scope.proofs.Lines.{line_here, line_after}

-- ---- a line of the table

-- its numbers
abbrev own : List ℤ → ℕ → List ℤ
own t i = take 3 (drop (3 * i) t)

at_own : (t : List ℤ) (i c : ℕ) → c < 3 → at (own t i) c ≡ at t (3 * i + c)
unfolding at
at_own t i c h = rw (get_or-take, get_or-drop)

whole_own : (t : List ℤ) (i : ℕ) → 3 * i + 3 ≤ length t → length (own t i) ≡ 3
whole_own t i h = simp (length-take, length-drop) (omega arith)

own_whole : (t : List ℤ) (i : ℕ) → length (own t i) ≡ 3 → 3 * i + 3 ≤ length t
own_whole t i h = omega (arith, simp (length-take, length-drop) at h)

-- how many there are
pub own_count : (t m : List ℤ) → line_count (groups (table_layout m) t) ≡ table_lines t
unfolding table_layout groups layer_lines line_count
own_count t m = omega arith

-- the limits of its columns
abbrev level : Limit
level = between (neg_ℤ (pos 1000)) (pos 2000)

abbrev limits : List Limit
limits = level ∷ level ∷ free ∷ []

within_levels : (line : List ℤ) → length line ≡ 3 → AllWithin limits line → Level (at line 0) × Level (at line 1)
unfolding at
within_levels [] e w = absurd (omega arith)
within_levels (a ∷ []) e w = absurd (omega arith)
within_levels (a ∷ b ∷ line) e w =
    (record { least = w.0.0; most = w.0.1 }, record { least = w.1.0.0; most = w.1.0.1 })

levels_within : (line : List ℤ) → length line ≡ 3 → Level (at line 0) × Level (at line 1) → AllWithin limits line
unfolding at
levels_within [] e h = tt
levels_within (a ∷ []) e h = absurd (omega arith)
levels_within (a ∷ b ∷ []) e h = absurd (omega arith)
levels_within (a ∷ b ∷ c ∷ []) e h = ((h.0.least, h.0.most), ((h.1.least, h.1.most), (tt, tt)))
levels_within (a ∷ b ∷ c ∷ d ∷ line) e h = absurd (omega arith)

module _ (t m : List ℤ) (i : ℕ) where
  first : at (own t i) 0 ≡ at t (3 * i)
  first = at_own t i 0 (omega arith) ∙ ap (at t) (omega arith)

  limits_say : length (own t i) ≡ 3 → AllWithin limits (own t i) → OwnLimits t i
  limits_say e w = subst₂ (λ (a b : ℤ). Level a × Level b) first (at_own t i 1 (omega arith))
      (within_levels (own t i) e w)

  say_limits : length (own t i) ≡ 3 → OwnLimits t i → AllWithin limits (own t i)
  say_limits e h = levels_within (own t i) e
      (subst₂ (λ (a b : ℤ). Level a × Level b) (sym first) (sym (at_own t i 1 (omega arith))) h)

  soil_says : Named (soils m) (at (own t i) 2) → OwnSoil t m i
  soil_says = subst (Named (soils m)) (at_own t i 2 (omega arith))

  say_soil : OwnSoil t m i → Named (soils m) (at (own t i) 2)
  say_soil = subst (Named (soils m)) (sym (at_own t i 2 (omega arith)))

  -- ---- the line in its layout

  placed : i < table_lines t → line_of 0 (groups (table_layout m) t) i
      ≡ record { group = layer_lines (table_lines t) (soils m); first = 3 * i }
  unfolding table_layout groups layer_lines
  placed l =
      line_after (layer_lines 0 (soils m)) (layer_lines (table_lines t) (soils m) ∷ []) 0 i (omega arith)
      ∙ line_here (layer_lines (table_lines t) (soils m)) [] (0 + 0 * 3) (i - 0) (omega arith)
      ∙ ap (λ (a : ℕ). record { group = layer_lines (table_lines t) (soils m); first = a }) (omega arith)

  abbrev steps : List Step
  steps = line_steps (table_layout m) (group_at (table_layout m) t i) (numbers_at (table_layout m) t i)

  own_steps : i < table_lines t → steps ≡ line_steps (table_layout m) (layer_lines (table_lines t) (soils m)) (own t i)
  unfolding line_numbers layer_lines
  own_steps l = ap (λ (p : Placed). line_steps (table_layout m) p.group (line_numbers t p)) (placed l)

  -- the first of its three steps that fails
  abbrev pub OwnFails : ℕ → Type 0
  OwnFails c = ((¬ OwnForm t i) × (1 ≡ c))
      ⊎ (OwnForm t i × (((¬ OwnLimits t i) × (2 ≡ c)) ⊎ (OwnLimits t i × ((¬ OwnSoil t m i) × (4 ≡ c)))))

  module _ (l : i < table_lines t) where
    form_says : length (own t i) ≡ 3 → OwnForm t i
    unfolding table_lines
    form_says e = (omega arith, own_whole t i e)

    pub own_fails : {c : ℕ} → FirstFails steps c → OwnFails c
    unfolding table_layout layer_lines rule_number
    own_fails {c} r = of (subst (λ (ss : List Step). FirstFails ss c) (own_steps l) r)
      where
        of : FirstFails (line_steps (table_layout m) (layer_lines (table_lines t) (soils m)) (own t i)) c → OwnFails c
        of (inl h) = inl (λ w. h.0 (whole_own t i w.1), h.1)
        of (inr (e, inl h)) = inr (form_says e, inl (λ w. h.0 (say_limits e w), h.1))
        of (inr (e, inr (w, inl h))) =
            inr (form_says e, inr (limits_say e w, (λ s. h.0 (say_soil s, tt), h.1)))
        of (inr (e, inr (w, inr h))) = absurd h.1

    fails_own : {c : ℕ} → OwnFails c → FirstFails steps c
    unfolding table_layout layer_lines rule_number
    fails_own {c} r = subst (λ (ss : List Step). FirstFails ss c) (sym (own_steps l)) (of r)
      where
        of : OwnFails c → FirstFails (line_steps (table_layout m) (layer_lines (table_lines t) (soils m)) (own t i)) c
        of (inl h) = inl (λ e. h.0 (form_says e), h.1)
        of (inr (f, inl h)) = let e = whole_own t i f.1 in inr (e, inl (λ w. h.0 (limits_say e w), h.1))
        of (inr (f, inr (w, h))) =
            let e = whole_own t i f.1 in
            inr (e, inr (say_limits e w, inl (λ s. h.0 (soil_says s.0), h.1)))

    pub own_line : AllHold steps → OwnLine t m i
    unfolding table_layout layer_lines
    own_line a =
        let h = subst AllHold (own_steps l) a in
        record { form = form_says h.0; limits = limits_say h.0 h.1.0; soil = soil_says h.1.1.0.0 }

    line_own : OwnLine t m i → AllHold steps
    unfolding table_layout layer_lines
    line_own o =
        let e = whole_own t i o.form.1 in
        subst AllHold (sym (own_steps l)) (e, (say_limits e o.limits, ((say_soil o.soil, tt), tt)))

-- ---- the lines of the table

module _ (t m : List ℤ) where
  pub there : {i : ℕ} → i < table_lines t → i < line_count (groups (table_layout m) t)
  there l = omega (arith, l, own_count t m)

  pub counted : {i : ℕ} → i < line_count (groups (table_layout m) t) → i < table_lines t
  counted l = omega (arith, l, own_count t m)

  pub has_begun : (i : ℕ) → i < table_lines t → Begun t i
  unfolding table_lines
  has_begun i l = omega arith

  pub own_number_count : number_count (groups (table_layout m) t) ≡ 3 * table_lines t
  unfolding table_layout groups layer_lines number_count
  own_number_count = omega arith

  -- a line that has begun is one of the layout, or the 33rd
  pub of_layout : (i : ℕ) → i < 32 → Begun t i → i < table_lines t
  unfolding table_lines
  of_layout i l b = omega arith

  pub own_lines : AllPass (table_line_phases t m) → OwnLines t m
  unfolding table_lines
  own_lines a i b = let l : i < table_lines t = omega (arith, (a.1.0 0 (omega arith)).0, own_number_count) in
      own_line t m i l (a.0 i (there l))

  pub lines_own : OwnLines t m → AllPass (table_line_phases t m)
  unfolding table_lines
  lines_own o = (
    λ i l. line_own t m i (counted l) (o i (has_begun i (counted l))),
    (λ i l. (few (dec_lt (3 * table_lines t) (length t)), tt), tt),
  )
    where
      few : Dec (3 * table_lines t < length t) → length t ≤ number_count (groups (table_layout m) t)
      few (yes b) = let f = (o (table_lines t) b).form in absurd (omega (arith, f.0, f.1))
      few (no b) = omega (arith, own_number_count)

  pub line_refused : (i k : ℕ) → i < table_lines t → OwnTo t m i → OwnFails t m i k
      → RefusedBy (table_line_phases t m) k (Line (1001 + i))
  line_refused i k l before r = inl (record {
    here = i;
    there = there l;
    lower = λ j h. line_own t m j (omega arith) (before j h);
    fails = fails_own t m i l r;
    called = ap Line (omega arith);
  })

  -- the 33rd
  pub left_refused : (i : ℕ) → OwnTo t m i → Begun t i → ¬ (i < table_lines t)
      → RefusedBy (table_line_phases t m) 1 (Line (1001 + i))
  unfolding table_lines table_layout
  left_refused i before b beyond = of (dec_lt 32 i)
    where
      of : Dec (32 < i) → RefusedBy (table_line_phases t m) 1 (Line (1001 + i))
      of (yes h) = absurd (omega (arith, (before 32 h).form.0))
      of (no h) =
          let e : i ≡ table_lines t = omega arith in
          inr (
            λ j l. line_own t m j (counted l) (before j (omega (arith, counted l))),
            inl (record {
              here = 0;
              there = omega arith;
              lower = λ j l. absurd (omega arith);
              fails = inl (λ f. absurd (omega (arith, f, own_number_count)), refl);
              called = ap Line (omega (arith, own_count t m));
            }),
          )
