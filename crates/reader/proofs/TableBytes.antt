-- The bytes of the lines of a table: few where the groups are, and equal to those of the layout, by induction on the
-- groups.
use mathlib.Core.Path.{◌≡◌, sym, ◌∙◌, ap, ap₂}
use mathlib.Core.List.{List, [], ◌∷◌, map}
use Prim.Native.Nat.{ℕ, ◌+◌, ◌*◌, ◌≤◌}
use native.Mathlib.Nat.{mul-le-mul}
use native.Mathlib.Omega.{arith}
use Rattle.std.specs.Prelude.{All}
use Rattle.std.proofs.lemmas.List.Sums.{sum_by-cons, sum_by-le}
use Rattle.mesh.specs.declared.sizes.Sizes.{Sizes}
use Rattle.lines.specs.declared.layout.Group as Code
use Rattle.lines.specs.Table.{most_lines, most_columns, meant, Few, AllGood, Known, Tabled}
use Rattle.lines.proofs.TableLaws.{lines_meant}
use Rattle.scope.specs.Layout.{Group}
use Rattle.reader.specs.File.{file_width, line_bytes, widths}
use Rattle.reader.specs.WellFormed.{bytes_of}
use Rattle.reader.specs.TableBytes.{most_line_bytes, most_bytes, group_bytes, bytes_in}
use Rattle.reader.proofs.Cut.{group_bytes_lem, no_bytes}

-- ---- few bytes

few_bytes : (g : Code.Group) → Few g → group_bytes g ≤ most_lines * most_line_bytes
few_bytes g h =
    let line : g.columns * file_width ≤ most_columns * file_width = omega (arith, h.few_columns) in
    mul-le-mul {n₂ = most_lines} {m₂ = most_line_bytes} h.few_lines (omega arith)

pub bytes_few : {gs : List Code.Group} → Known gs → bytes_in gs ≤ most_bytes
bytes_few {gs} k =
    let each : All (λ g. group_bytes g ≤ most_lines * most_line_bytes) gs = λ i d l. few_bytes _ (k.few i d l) in
    omega (arith, sum_by-le group_bytes (most_lines * most_line_bytes) gs each, k.size)

-- ---- as the layout has them

bytes_good : (s : Sizes) (gs : List Code.Group) → AllGood s gs
    → bytes_in gs ≡ bytes_of file_width (widths (map (meant s) gs))
unfolding line_bytes
bytes_good s [] h = sym (no_bytes file_width)
bytes_good s (g ∷ gs) h =
    sum_by-cons group_bytes g gs
    ∙ ap₂ ◌+◌ (ap₂ (λ (n k : ℕ). n * (k * file_width + 1)) (sym (lines_meant s g)) h.0.wide) (bytes_good s gs h.1)
    ∙ sym (group_bytes_lem file_width (meant s g) (map (meant s) gs))

pub bytes-meant : {s : Sizes} {gs : List Code.Group} {body : List Group} → Tabled s gs body
    → bytes_in gs ≡ bytes_of file_width (widths body)
bytes-meant {s} {gs} t = bytes_good s gs t.table.good ∙ ap (λ (ks : List Group). bytes_of file_width (widths ks)) t.same
