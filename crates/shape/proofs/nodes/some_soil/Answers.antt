-- `some_soil` meets its contract: a mark that is `true` is set.
use mathlib.Core.Path.{◌≡◌, refl, ◌∙◌}
use mathlib.Core.Bool.{Bool, true, false, beq}
use mathlib.Core.List.{List, [], ◌∷◌}
use lib.ListN.{get_or}
use Rattle.std.specs.List.{list_any}
use Rattle.shape.proofs.MarkTables.{some_mark}
use Rattle.shape.proofs.nodes.some_soil.Goals as goal

any_true : (marks : List Bool) → list_any (λ b. beq b true) marks ≡ list_any (λ b. b) marks
any_true [] = refl
any_true (true ∷ marks) = refl
any_true (false ∷ marks) = any_true marks

pub returns : goal.returns
returns c =
    let m = c.args.marked.now in
    c.contains.ensures.value ∙ any_true (get_or m.marks.now c.args.v []) ∙ some_mark _ m.mesh.sized m.marked c.requires
