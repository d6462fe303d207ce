-- `slack` meets its contract: the row is the even or the odd one of its corner.
use mathlib.Core.Path.{◌≡◌, ap}
use Prim.Native.Nat.{ℕ, ◌+◌, ◌*◌, ◌/◌}
use native.Mathlib.Nat.{le_refl, div-add-mod', mod-lt}
use native.Mathlib.Omega.{arith}
use Rattle.integer.proofs.Machine.{Is-as, Is-read}
use Rattle.bedded.specs.PlaneContracts.{slack_at}
use Rattle.bedded.proofs.plane_rows.StressedPlanes.slack.Goals as goal

pub returns-then-k-eq0 : goal.returns-then-k-eq0
returns-then-k-eq0 c =
    let k : ℕ = c.args.k in
    let same : 2 * (k / 2) ≡ k = omega (arith, div-add-mod' k 2, c.if-k-eq0.true) in
    let planes = c.args.self.now in
    Is-read
    (Is-as c.corner_slacks-slacks.ensures.plus (le_refl _) (ap (slack_at planes.numbers planes.corners.now) same))
    (omega arith)

pub returns-else-k-eq0 : goal.returns-else-k-eq0
returns-else-k-eq0 c =
    let k : ℕ = c.args.k in
    let same : 2 * (k / 2) + 1 ≡ k =
    omega (arith, div-add-mod' k 2, mod-lt k {m = 2} (omega arith), c.if-k-eq0.false) in
    let planes = c.args.self.now in
    Is-read
    (Is-as c.corner_slacks-slacks.ensures.minus (le_refl _) (ap (slack_at planes.numbers planes.corners.now) same))
    (omega arith)
