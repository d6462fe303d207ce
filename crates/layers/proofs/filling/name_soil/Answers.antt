-- `name_soil` meets its contract: a number that is not there or not 0 stays.
use mathlib.Core.Path.{refl}
use native.Mathlib.Omega.{arith}
use Rattle.integer.proofs.Machine.{machine, unbounded, told, apart}
use Rattle.scope.specs.Columns.{at}
use Rattle.scope.proofs.Decides.{equalℤ, is_yes, is_no}
use Rattle.layers.proofs.NamingLaws.{named-beyond, named_kept, named_set}
use Rattle.layers.proofs.filling.name_soil.Goals as goal
use Rattle.layers.proofs.filling.name_soil.Goals.{else-k-ns-via-then-k-ns+else-ns-k-eq0, else-k-ns-via-else-k-ns}

pub returns-then-ns-k-eq0 : goal.returns-then-ns-k-eq0
unfolding at
returns-then-ns-k-eq0 c =
    let zero = told c.if-ns-k-eq0.true (search (machine, unbounded) depth 30) (omega arith) in
    named_set _ _ c.if-k-ns.true (is_yes (equalℤ _ _) zero) refl

pub returns-else-k-ns : goal.returns-else-k-ns
unfolding at
returns-else-k-ns c = elim c.else-k-ns.branch [
  | else-k-ns-via-then-k-ns+else-ns-k-eq0 w ↦
      let other = apart w.if-ns-k-eq0.false (search (machine, unbounded) depth 30) (omega arith) in
      named_kept _ _ w.if-k-ns.true (is_no (equalℤ _ _) other)
  | else-k-ns-via-else-k-ns w ↦ named-beyond _ _ w.if-k-ns.false
]
