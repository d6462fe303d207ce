-- What a header tells of the lines after it: their columns are those of the layout, and they are read where its check
-- passes.
use mathlib.Core.Path.{◌≡◌, refl, sym, ap, ap₂, ◌∙◌}
use mathlib.Core.Bool.{Bool, true, false, not}
use mathlib.Core.List.{List, [], ◌∷◌, ◌++◌, map}
use Prim.Native.Nat.{ℕ}
use lib.IntN.{ℤ}
use lib.ListN.{take, replicate}
use Rattle.std.specs.Prelude.{Result, Ok, Err, is_err}
use Rattle.scope.specs.declared.Place.TheVariants.{Line}
use Rattle.scope.specs.declared.Refusal.{Refusal}
use Rattle.scope.specs.Answer.{outcome_of}
use Rattle.scope.specs.Cases.Outcome.{Outcome, has_passed}
use Rattle.scope.specs.Columns.{has_field, has_multipliers}
use Rattle.scope.specs.Layout.{Group}
use Rattle.scope.specs.Verdict.{line_check, line_at}
use Rattle.scope.specs.Mesh.{mesh_layout, layout_with, mesh_header}
use Rattle.scope.specs.Claim.{claim_header_columns, claim_layout, claim_header}
use Rattle.mesh.specs.declared.sizes.Sizes.{Sizes}
use Rattle.mesh.specs.declared.pairs.ClaimSizes.{ClaimSizes}
use Rattle.mesh.specs.MeshContracts.{SizesAre, HeaderThere}
use Rattle.mesh.specs.ClaimContracts.{Counted}
use Rattle.mesh.proofs.PairLaws.{outcome_passed}
use Rattle.lines.specs.declared.layout.Group as Code
use Rattle.lines.specs.Table.{meant, AllGood, Tabled, mesh_body, claim_body, line_widths}
use Rattle.lines.proofs.TableLaws.{lines_meant}
use Rattle.lines.proofs.LineLaws.{mesh_header_line}
use Rattle.lines.proofs.GroupLaws.{mesh_body_lem, claim_body_lem, header_counts}
use Rattle.reader.specs.File.{widths}
use Rattle.reader.proofs.Whole.{header_says}

-- ---- the lines of a table

widths-good : (s : Sizes) (gs : List Code.Group) → AllGood s gs → line_widths gs ≡ widths (map (meant s) gs)
unfolding line_widths widths
widths-good s [] h = refl
widths-good s (g ∷ gs) h =
    ap₂ ◌++◌ (ap₂ (λ (n k : ℕ). replicate n k) (sym (lines_meant s g)) h.0.wide) (widths-good s gs h.1)

-- they have the columns that the definitions give them
pub widths-meant : {s : Sizes} {gs : List Code.Group} {body : List Group} → Tabled s gs body
    → line_widths gs ≡ widths body
widths-meant {s} {gs} t = widths-good s gs t.table.good ∙ ap widths t.same

pub mesh_lines_lem : {m : List ℤ} {s : Sizes} {gs : List Code.Group} → Tabled s gs (mesh_body s false) → SizesAre m s
    → line_widths gs ≡ widths (mesh_layout.body m)
unfolding layout_with
mesh_lines_lem t k = widths-meant t ∙ ap widths (mesh_body_lem false k)

-- and so have those of a claim, by its flags
pub claim_lines_lem : (s : ClaimSizes) {gs : List Code.Group} {field multipliers : Bool} (c : List ℤ)
    → Tabled s.sizes gs (claim_body s.sizes s.pairs field multipliers)
    → field ≡ has_field c → multipliers ≡ has_multipliers c
    → line_widths gs ≡ widths (claim_body s.sizes s.pairs (has_field c) (has_multipliers c))
claim_lines_lem s c t f g = widths-meant t ∙ ap₂ (λ (a b : Bool). widths (claim_body s.sizes s.pairs a b)) f g

-- which are the same for every mesh with these sizes and so many pairs
pub claim_widths : {m : List ℤ} {s : ClaimSizes} → Counted m s → (c : List ℤ)
    → widths (claim_body s.sizes s.pairs (has_field c) (has_multipliers c)) ≡ widths ((claim_layout m).body c)
claim_widths k c = ap widths (claim_body_lem k c)

-- ---- the header, by the test of what its check answers

tested : (r : Result (Unit {0}) Refusal) {o : Outcome} {b : Bool} → outcome_of r ≡ o → b ≡ is_err r
    → has_passed o ≡ not b
unfolding has_passed
tested (Ok x) e t = rw (← e, t) refl
tested (Err x) e t = rw (← e, t) refl

pub mesh_tested : (m : List ℤ) (r : Result (Unit {0}) Refusal) {b : Bool} → outcome_of r ≡ line_at mesh_layout m 0
    → b ≡ is_err r → has_passed (header_says mesh_layout m) ≡ not b
unfolding layout_with mesh_header
mesh_tested m r e t = tested r (e ∙ sym (mesh_header_line m)) t

pub mesh_header_there : (m : List ℤ) → has_passed (header_says mesh_layout m) ≡ true → HeaderThere m
unfolding layout_with mesh_header
mesh_header_there m e = header_counts m (sym (mesh_header_line m) ∙ outcome_passed _ e)

pub claim_tested : (m c : List ℤ) (r : Result (Unit {0}) Refusal) {b : Bool}
    → outcome_of r ≡ line_check (claim_layout []) claim_header (take claim_header_columns c) (Line 1)
    → b ≡ is_err r → has_passed (header_says (claim_layout m) c) ≡ not b
unfolding line_check claim_layout claim_header
claim_tested m c r e t = tested r e t
