-- What the functions that read lines say holds again after each turn of their loops, and at their ends.
use mathlib.Core.Path.{◌≡◌, refl, sym, ◌∙◌, ap, ap₂, subst}
use mathlib.Core.List.{List, [], ◌∷◌, ◌++◌, append-nil, append_assoc}
use mathlib.Core.Option.{Option, none, some}
use Prim.Native.Nat.{ℕ, suc, ◌+◌, ◌*◌, ◌-◌, ◌≤◌, ◌<◌}
use native.Mathlib.Numerals.{add-one}
use native.Mathlib.Omega.{arith}
use lib.IntN.{ℤ}
use lib.ListN.{length, take, drop, get_or, replicate, length-drop, length-append, replicate-append-replicate}
use lib.ListN.{take-append-drop}
use borrow.Rule.Slice.PartMut.{put_mid}
use lib.Seq.{drop-drop, take_at, drop_at, take-suc, length-take-le}
use Rattle.std.specs.Prelude.{Some, None}
use Rattle.std.proofs.lemmas.Option.{same_Some}
use Rattle.reader.specs.declared.file_lines.Progress.{Progress}
use Rattle.lines.specs.declared.layout.Group.{Group}
use Rattle.lines.specs.Table.{line_widths}
use Rattle.lines.proofs.TableLaws.{from_place}
use Rattle.lines.proofs.ThroughLaws.{no_group}
use Rattle.reader.specs.File.{file_width, line_bytes, read_line, read_lines}
use Rattle.reader.specs.Listed.{Listed}
use Rattle.reader.specs.ReadSoFar.{past, written, LineTaken, LineRoom, lines_of, all_numbers, LinesTaken, LinesStopped}
use Rattle.reader.specs.ReadSoFar.{start, Room, RoomBefore}
use Rattle.reader.proofs.Line.{line_means}
use Rattle.reader.proofs.Cut.{line_there}

-- ---- where nothing is read

pub is_start : {p : Progress} → (p.at ≡ 0) × (p.numbers ≡ 0) → p ≡ start
unfolding start
is_start h = ap₂ (λ (a n : ℕ). record { at = a; numbers = n }) h.0 h.1

-- ---- one line

module _ {bs : List ℕ} {k : ℕ} (p : Progress) where
  pub line_malformed : {out : List ℤ} → read_line file_width k (drop p.at bs) ≡ none → LineTaken bs k p out None out
  unfolding past written
  line_malformed e = record { progress = rw e; numbers = rw e }

  -- its numbers are written from place p.numbers on
  pub line_formed : {n : ℕ} {line out after : List ℤ} → read_line file_width k (drop p.at bs) ≡ some line → n ≡ k
      → after ≡ put_mid p.numbers (p.numbers + n - p.numbers) out line
      → LineTaken bs k p out (Some (record { at = p.at + n * file_width + 1; numbers = p.numbers + n })) after
  unfolding past written line_bytes
  line_formed {n} {line} {out} e same c =
      let a : p.at + k * file_width + 1 ≡ p.at + (k * file_width + 1) = omega arith in
      let j : p.numbers + n - p.numbers ≡ k = omega arith in
      record {
        progress = rw (same, e, a);
        numbers = rw e (c ∙ rw (j, drop-drop k p.numbers out) (sym (append_assoc (take p.numbers out) line _)));
      }

-- ---- lines

-- what begins with the first n numbers of a list has n or more
pub listed_at_least : (n : ℕ) (xs ys : List ℤ) {before after : List ℤ} {r : ℕ} → Listed (take n xs ++ ys) before r after
    → n ≤ length xs → n ≤ r
listed_at_least n xs ys h l = omega (arith, h.count, length-append (take n xs) ys, length-take-le n xs l)

pub no_lines : {bs ks : List ℕ} {p : Progress} {out : List ℤ} → Room bs ks p out → LinesTaken bs [] p out p out
no_lines r = record { same = λ rest. refl; more = omega arith; there = r.front; within = r.within; others = refl }

pub drop_further : (m n : ℕ) (xs ys : List ℤ) → m ≤ n → drop m xs ≡ drop m ys → drop n xs ≡ drop n ys
drop_further m n xs ys l e =
    let s : n ≡ m + (n - m) = omega arith in
    rw (s, ← drop-drop (n - m) m xs, ← drop-drop (n - m) m ys, e)

module _ {bs ks : List ℕ} {p q : Progress} {out mid : List ℤ} (t : LinesTaken bs ks p out q mid) where
  pub lines_then : {ls : List ℕ} {r : Progress} {after : List ℤ} → LinesTaken bs ls q mid r after
      → LinesTaken bs (ks ++ ls) p out r after
  lines_then {ls} {r} {after} u = record {
    same = λ rest. rw (append_assoc ks ls rest) (t.same (ls ++ rest) ∙ u.same rest);
    more = omega (arith, t.more, u.more);
    there = u.there;
    within = u.within;
    others = u.others ∙ drop_further q.numbers r.numbers mid out u.more t.others;
  }

  -- what is listed after these lines is listed of the whole
  pub listed_after : (rest : List ℕ) {n : ℕ} {after : List ℤ} → Listed (all_numbers bs rest q mid) mid n after
      → Listed (all_numbers bs (ks ++ rest) p out) out n after
  unfolding all_numbers
  listed_after rest {n} {after} h =
      let m = listed_at_least q.numbers mid (read_lines file_width rest (drop q.at bs)) h t.there in
      record {
        count = h.count ∙ ap length (sym (t.same rest));
        list = h.list ∙ rw (t.same rest, drop_further q.numbers n mid out m t.others);
      }

  -- and so it is where one of the lines after them is not well formed
  pub stopped_after : {n : ℕ} {after : List ℤ} (ls more : List ℕ) → LinesStopped bs ls q mid n after
      → LinesStopped bs (ks ++ (ls ++ more)) p out n after
  stopped_after ls more s rest =
      rw (append_assoc ks (ls ++ more) rest, append_assoc ls more rest)
      (listed_after (ls ++ (more ++ rest)) (s (more ++ rest)))

  pub listed_whole : {n : ℕ} {after : List ℤ} → Listed (all_numbers bs [] q mid) mid n after
      → Listed (all_numbers bs ks p out) out n after
  listed_whole h = rw append-nil at (listed_after [] h)

  -- the room is the same after lines that are read
  pub room_after : (rest : List ℕ) → length mid ≡ length out → Room bs (ks ++ rest) p out → Room bs rest q mid
  room_after rest s r = record {
    within = t.within;
    front = t.there;
    fits = omega (arith, ap length (t.same rest), r.fits);
  }

-- the first n numbers of a list, with nothing after them
pub listed_front : (n : ℕ) (xs : List ℤ) → n ≤ length xs → Listed (take n xs ++ []) xs n xs
listed_front n xs l =
    rw (append-nil (take n xs)) (record { count = sym (length-take-le n xs l); list = sym (take-append-drop n xs) })

-- one line is lines
module _ {bs : List ℕ} {k : ℕ} {p : Progress} {out : List ℤ} (room : LineRoom bs k p out) where
  rest : List ℕ
  rest = drop p.at bs

  one_line : {q : Progress} {after : List ℤ} (o : Option (List ℤ)) → read_line file_width k rest ≡ o
      → Some q ≡ past k p o → after ≡ written k p.numbers o out → LinesTaken bs (k ∷ []) p out q after
  unfolding past written all_numbers read_lines rest line_bytes
  one_line none e s w = cc
  one_line (some zs) e s w =
      let m = ((line_means file_width k rest zs).0 e).count in
      let front : length (take p.numbers out ++ zs) ≡ p.numbers + k =
      length-append (take p.numbers out) zs ∙ omega (arith, length-take-le p.numbers out room.front) in
      let t = take_at (take p.numbers out ++ zs) (drop (p.numbers + k) out) (p.numbers + k) front in
      rw (same_Some _ _ s, w)
      (record {
        same = λ ks.
            rw (e, read_lines, t, drop-drop (k * file_width + 1) p.at bs)
            (sym (append_assoc (take p.numbers out) zs _));
        more = omega arith;
        there = omega (arith, front, length-append (take p.numbers out ++ zs) (drop (p.numbers + k) out));
        within = omega (arith, line_there file_width k rest zs e, length-drop p.at bs);
        others = drop_at (take p.numbers out ++ zs) (drop (p.numbers + k) out) (p.numbers + k) front;
      })

  pub line_as_lines : {q : Progress} {after : List ℤ} → LineTaken bs k p out (Some q) after
      → LinesTaken bs (k ∷ []) p out q after
  unfolding rest
  line_as_lines h = one_line (read_line file_width k rest) refl h.progress h.numbers

  none_line : {after : List ℤ} (o : Option (List ℤ)) → read_line file_width k rest ≡ o → None ≡ past k p o
      → after ≡ written k p.numbers o out → LinesStopped bs (k ∷ []) p out p.numbers after
  unfolding past written all_numbers read_lines rest
  none_line none e s w ks = rw (w, e, read_lines) (listed_front p.numbers out room.front)
  none_line (some zs) e s w ks = cc

  pub line_stops : {after : List ℤ} → LineTaken bs k p out None after → LinesStopped bs (k ∷ []) p out p.numbers after
  unfolding rest
  line_stops h = none_line (read_line file_width k rest) refl h.progress h.numbers

-- the numbers of a line that is well formed have room where those of all lines have
line_fits : (bs ks : List ℕ) (k : ℕ) (q : Progress) (out : List ℤ) → Room bs (k ∷ ks) q out → LineRoom bs k q out
unfolding all_numbers read_lines
line_fits bs ks k q out r = record { within = r.within; front = r.front; fits = fits }
  where
    fits : (zs : List ℤ) → read_line file_width k (drop q.at bs) ≡ some zs → q.numbers + k ≤ length out
    fits zs e =
        let count = ((line_means file_width k (drop q.at bs) zs).0 e).count in
        let others = read_lines file_width ks (drop (line_bytes file_width k) (drop q.at bs)) in
        let all : length (all_numbers bs (k ∷ ks) q out) ≡ q.numbers + (k + length others) =
        rw (e, read_lines) (simp length-append (omega (arith, count, length-take-le q.numbers out r.front))) in
        omega (arith, all, r.fits)

-- ---- i lines of a group are read

abbrev pub InGroup : List ℕ → Group → Progress → List ℤ → Progress → List ℤ → ℕ → Type 0
InGroup bs g p before q out i = LinesTaken bs (replicate i g.columns) p before q out

-- the lines after line i
abbrev lines_after : Group → ℕ → List ℕ
lines_after g i = replicate (g.lines - (i + 1)) g.columns

group_split : (g : Group) (i : ℕ) → i < g.lines → lines_of g ≡ replicate i g.columns ++ (g.columns ∷ lines_after g i)
unfolding lines_of
group_split g i l =
    let e : g.lines ≡ i + suc (g.lines - (i + 1)) = omega arith in
    ap (λ (n : ℕ). replicate n g.columns) e ∙ sym (replicate-append-replicate i (suc (g.lines - (i + 1))) g.columns)

module _ {bs : List ℕ} (g : Group) {p : Progress} {before : List ℤ} (r : RoomBefore bs (lines_of g) p before) where
  pub group_first : InGroup bs g p before p before 0
  group_first = no_lines r.room

  module _ {out : List ℤ} {q : Progress} (i : ℕ) (h : InGroup bs g p before q out i)
      (l : i < g.lines) (s : length out ≡ length before) where
    pub group_room : LineRoom bs g.columns q out
    group_room =
        let ls = lines_after g i ++ r.after in
        let split : lines_of g ++ r.after ≡ replicate i g.columns ++ (g.columns ∷ ls) =
        rw (group_split g i l) (append_assoc (replicate i g.columns) (g.columns ∷ lines_after g i) r.after) in
        line_fits bs ls g.columns q out
        (room_after h (g.columns ∷ ls) s (subst (λ (ks : List ℕ). Room bs ks p before) split r.room))

    pub group_next : {u : Progress} {after : List ℤ} → LineTaken bs g.columns q out (Some u) after
        → InGroup bs g p before u after (i + 1)
    group_next t = rw (← replicate-append-replicate i 1 g.columns) (lines_then h (line_as_lines group_room t))

    pub group_stops : {after : List ℤ} → LineTaken bs g.columns q out None after
        → LinesStopped bs (lines_of g) p before q.numbers after
    group_stops t =
        rw (group_split g i l) (stopped_after h (g.columns ∷ []) (lines_after g i) (line_stops group_room t))

  pub group_ends : {out : List ℤ} {q : Progress} (i : ℕ) → InGroup bs g p before q out i → i ≡ g.lines
      → LinesTaken bs (lines_of g) p before q out
  unfolding lines_of
  group_ends i h e = rw e at h

-- ---- the groups before group i are read

abbrev pub InGroups : List ℕ → List Group → Progress → List ℤ → Progress → List ℤ → ℕ → Type 0
InGroups bs gs p before q out i = LinesTaken bs (line_widths (take i gs)) p before q out

widths_append : (gs hs : List Group) → line_widths (gs ++ hs) ≡ line_widths gs ++ line_widths hs
unfolding line_widths
widths_append [] hs = refl
widths_append (g ∷ gs) hs =
    ap (λ ks. replicate g.lines g.columns ++ ks) (widths_append gs hs)
    ∙ sym (append_assoc (replicate g.lines g.columns) (line_widths gs) (line_widths hs))

abbrev pub here : List Group → ℕ → Group
here gs i = get_or gs i no_group

module _ (gs : List Group) (i : ℕ) (l : i < length gs) where
  groups_split : line_widths gs ≡ line_widths (take i gs) ++ (lines_of (here gs i) ++ line_widths (drop (i + 1) gs))
  unfolding line_widths lines_of
  groups_split =
      ap line_widths (sym (take-append-drop i gs)) ∙ widths_append (take i gs) (drop i gs)
      ∙ ap (λ hs. line_widths (take i gs) ++ line_widths hs) (from_place gs no_group i l)

  widths_next : line_widths (take (i + 1) gs) ≡ line_widths (take i gs) ++ lines_of (here gs i)
  unfolding line_widths lines_of
  widths_next =
      let e : take (i + 1) gs ≡ take i gs ++ (here gs i ∷ []) = rw (add-one i) (take-suc gs i no_group l) in
      ap line_widths e ∙ widths_append (take i gs) (here gs i ∷ [])
      ∙ ap (λ ks. line_widths (take i gs) ++ ks) (append-nil (lines_of (here gs i)))

module _ {bs : List ℕ} (gs : List Group) {p : Progress} {before : List ℤ} (r : Room bs (line_widths gs) p before) where
  pub groups_first : InGroups bs gs p before p before 0
  unfolding line_widths
  groups_first = no_lines r

  module _ {out : List ℤ} {q : Progress} (i : ℕ) (h : InGroups bs gs p before q out i) (l : i < length gs) where
    pub groups_room : length out ≡ length before → RoomBefore bs (lines_of (here gs i)) q out
    groups_room s =
        let ls = line_widths (drop (i + 1) gs) in
        record {
          after = ls;
          room =
              room_after h (lines_of (here gs i) ++ ls) s
              (subst (λ (ks : List ℕ). Room bs ks p before) (groups_split gs i l) r);
        }

    pub groups_next : {u : Progress} {after : List ℤ} → LinesTaken bs (lines_of (here gs i)) q out u after
        → InGroups bs gs p before u after (i + 1)
    groups_next t = rw (widths_next gs i l) (lines_then h t)

    pub groups_stop : {n : ℕ} {after : List ℤ} → LinesStopped bs (lines_of (here gs i)) q out n after
        → LinesStopped bs (line_widths gs) p before n after
    groups_stop t =
        rw (groups_split gs i l) (stopped_after h (lines_of (here gs i)) (line_widths (drop (i + 1) gs)) t)
