-- A claim file that passes 11 to 13 is as long as its header and its mesh say.
use mathlib.Core.Path.{◌≡◌, ap, ◌∙◌}
use mathlib.Core.List.{List}
use Prim.Native.Nat.{ℕ, ◌+◌, ◌*◌, ◌≤◌, ◌<◌}
use native.Mathlib.Omega.{arith}
use lib.IntN.{ℤ, pos}
use lib.ListN.{length, take, length-replicate}
use lib.Seq.{get_or-take}
use Rattle.scope.specs.Cases.Outcome.{Passed}
use Rattle.scope.specs.Columns.{at, has_field, has_multipliers}
use Rattle.scope.specs.Mesh.{mesh_layout, nodes, elements, edges, sides, jumps, element_rows, edge_rows, rows_per_jump}
use Rattle.scope.specs.Rows.{pair_count}
use Rattle.scope.specs.Claim.{claim_header_columns, stress_columns, claim_layout, claim_header, if_there, stress_lines}
use Rattle.scope.specs.Claim.{element_multipliers, edge_multipliers, jump_multipliers, strength_multipliers}
use Rattle.scope.specs.Verdict.{mesh_check, lines_check}
use Rattle.scope.proofs.Refusals.{lines_passed, mesh_passed}
use Rattle.mesh.specs.declared.pairs.ClaimSizes.{ClaimSizes}
use Rattle.lines.specs.declared.layout.Group as Code
use Rattle.mesh.specs.ClaimContracts.{Counted}
use Rattle.lines.specs.Table.{Tabled, claim_body}
use Rattle.lines.proofs.GroupLaws.{claim_body_lem}
use Rattle.scope.specs.Layout.{Group}
use Rattle.reader.specs.File.{file_width, line_bytes, widths}
use Rattle.reader.specs.WellFormed.{bytes_of}
use Rattle.reader.specs.TableBytes.{bytes_in}
use Rattle.reader.proofs.TableBytes.{bytes-meant}
use Rattle.reader.proofs.Regular.{claim_regular}
use Rattle.reader.proofs.Cut.{told_alike, passed_length, group_bytes_lem, no_bytes}
use Rattle.judge.specs.Judge.{claim_numbers}
use Rattle.judge.specs.ClaimBytes.{claim_bytes}
use Rattle.judge.proofs.Numbers.{some_side_lem}

-- the bytes, counted
pub claim_bytes_lem : (m c : List ℤ)
    → claim_bytes m c
    ≡ (claim_header_columns * file_width + 1)
    + if_there (has_field c) (nodes m) * (stress_columns * file_width + 1)
    + if_there (has_multipliers c) (elements m) * (element_rows * file_width + 1)
    + if_there (has_multipliers c) (edges m) * (edge_rows * file_width + 1)
    + if_there (has_multipliers c) (jumps m) * (rows_per_jump * file_width + 1)
    + if_there (has_multipliers c) (pair_count m) * (sides m * file_width + 1)
unfolding claim_bytes claim_layout claim_header stress_lines element_multipliers edge_multipliers jump_multipliers
    strength_multipliers line_bytes
claim_bytes_lem m c = simp (group_bytes_lem, no_bytes, length-replicate) (omega arith)

-- they follow from the header's four numbers
pub by_header_lem : (m c : List ℤ) → claim_bytes m (take claim_header_columns c) ≡ claim_bytes m c
unfolding claim_bytes claim_layout has_field has_multipliers at
by_header_lem m c =
    rw (
      get_or-take claim_header_columns c 0 (pos 0) (omega arith),
      get_or-take claim_header_columns c 1 (pos 0) (omega arith),
    )

-- and so from its first n bytes, where the header is among them
pub by_header_bytes : (m : List ℤ) (n : ℕ) (claim : List ℕ) → 0 < sides m → claim_header_columns * file_width + 1 ≤ n
    → claim_bytes m (claim_numbers file_width m (take n claim)) ≡ claim_bytes m (claim_numbers file_width m claim)
unfolding claim_bytes claim_numbers line_bytes claim_layout claim_header
by_header_bytes m n claim s l =
    ap (λ (gs : List Group). (claim_header_columns * file_width + 1) + bytes_of file_width (widths gs))
    (told_alike file_width (claim_layout m) (claim_regular m s) n claim l)

-- every claim that passes 11 to 13 on a mesh that passes has exactly that length
pub claim_length : (m : List ℤ) (claim : List ℕ) → mesh_check m ≡ Passed
    → lines_check (claim_layout m) (claim_numbers file_width m claim) ≡ Passed
    → length claim ≡ claim_bytes m (claim_numbers file_width m claim)
unfolding claim_bytes claim_numbers
claim_length m claim s e =
    let p = (lines_passed mesh_layout m).passed ((mesh_passed m).says s).lines in
    passed_length file_width (claim_layout m) (claim_regular m (some_side_lem m p)) claim e

-- the bytes of the header's line, and those of the table
pub table_bytes : {m : List ℤ} (h : List ℤ) {s : ClaimSizes} {gs : List Code.Group} → Counted m s
    → Tabled s.sizes gs (claim_body s.sizes s.pairs (has_field h) (has_multipliers h))
    → (claim_header_columns * file_width + 1) + bytes_in gs ≡ claim_bytes m h
unfolding claim_bytes line_bytes claim_layout claim_header
table_bytes h k t =
    ap (λ (n : ℕ). (claim_header_columns * file_width + 1) + n)
    (bytes-meant t ∙ ap (λ (ks : List Group). bytes_of file_width (widths ks)) (claim_body_lem k h))
