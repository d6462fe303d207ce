-- `push` meets its contract: what lies behind the pairs loses its first.
use mathlib.Core.Path.{◌≡◌, sym, ◌∙◌, ap}
use Prim.Native.Nat.{◌+◌, ◌-◌}
use native.Mathlib.Omega.{arith}
use lib.ListN.{drop, replicate, length-set}
use Rattle.std.proofs.Common.{length-take-le}
use Rattle.std.proofs.lemmas.List.{drop-set-lt, drop-drop, drop-replicate}
use Rattle.scope.specs.Mesh.{most_pairs}
use Rattle.mesh.specs.PairContracts.{no_pair}
use Rattle.mesh.proofs.pairs.Pairs.push.Goals as goal

pub invariant_of-self : goal.invariant_of-self
invariant_of-self c =
    let p = c.self.inside in
    let h = c.self.invariant in
    let count = length-take-le p.len p.cells (omega (arith, h.0, h.1)) in
    let room = rw (sym c.self.view_is) at c.requires in
    let fewer : most_pairs - p.len - 1 ≡ most_pairs - (p.len + 1) = omega arith in (
      omega (arith, count, room),
      length-set p.cells p.len _ ∙ h.1,
      drop-set-lt (p.len + 1) p.cells p.len _ (omega arith) ∙ sym (drop-drop 1 p.len p.cells)
          ∙ ap (drop 1) h.2 ∙ drop-replicate 1 (most_pairs - p.len) no_pair
          ∙ ap (λ n. replicate n no_pair) fewer,
    )
