-- `reader::body_bytes` meets its contract: the groups are few, so that the sum fits.
use native.Mathlib.Omega.{arith}
use borrow.Author.Rules.{rules}
use Rattle.std.proofs.Common.{◌≡◌, ◌<◌, ◌^◌}
use Rattle.reader.specs.TableBytes.{bytes_in}
use Rattle.reader.proofs.TableBytes.{bytes_few}
use Rattle.reader.proofs.body_bytes.Goals as goal

pub sum-requires-clause-fits : goal.sum-requires-clause-fits
sum-requires-clause-fits c =
    let few : bytes_in c.args.groups.of < 2 ^ 64 = omega (arith, bytes_few c.args.groups.known) in
    search rules

pub returns-clause-few : goal.returns-clause-few
returns-clause-few c =
    let is : c.sum.result ≡ bytes_in c.args.groups.of = search rules in
    omega (arith, is, bytes_few c.args.groups.known)
