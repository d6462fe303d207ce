-- `claim_bytes` meets its contract: the header's line and the lines of the table.
use mathlib.Core.Path.{◌∙◌, ap, ap₂, subst}
use mathlib.Core.Bool.{Bool}
use Prim.Native.Nat.{ℕ, ◌+◌, ◌*◌}
use Rattle.scope.specs.Columns.{has_field, has_multipliers}
use Rattle.scope.specs.Claim.{claim_header_columns}
use Rattle.reader.specs.File.{file_width}
use Rattle.lines.specs.Table.{Tabled, claim_body}
use Rattle.judge.proofs.ClaimBytes.{table_bytes}
use Rattle.judge.proofs.claim_bytes.Goals as goal

pub returns : goal.returns
unfolding has_field has_multipliers
returns c =
    let h = c.args.header.now in
    let s = c.args.s in
    let flags = ap₂ (λ (a b : Bool). claim_body s.sizes s.pairs a b) c.has_part.ensures c.has_part-2.ensures in
    λ m k.
    ap (λ (n : ℕ). (claim_header_columns * file_width + 1) + n) c.body_bytes.ensures.sum
    ∙ table_bytes h k
    (subst (λ body. Tabled s.sizes c.claim_groups-groups.result.of body) flags c.claim_groups-groups.ensures)
