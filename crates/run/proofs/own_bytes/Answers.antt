-- `own_bytes` meets its contract: the header's numbers, read alone, count the claim's bytes, and no more are there than
-- are left.
use native.Mathlib.Omega.{arith}
use lib.ListN.{length-take}
use Rattle.scope.proofs.NumberRanges.{some_sides_lem}
use Rattle.run.proofs.NextLaws.{header_room, own_counted}
use Rattle.run.proofs.own_bytes.Goals as goal

pub read_claim-count-requires : goal.read_claim-count-requires
read_claim-count-requires c = record {
  mesh = c.requires.mesh;
  counted = c.requires.counted;
  fits = header_room _ _ (omega (arith, length-take c.min-end.result c.args.left.now, c.min-end.ensures));
}

pub returns : goal.returns
returns c =
    λ m k.
    rw c.min.ensures
    (own_counted m c.args.left.now (some_sides_lem k.sizes.counts) c.min-end.ensures
    (c.read_claim-count.ensures.against m k) (c.claim_bytes-bytes.ensures m k))
