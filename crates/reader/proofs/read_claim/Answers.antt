-- `reader::read_claim` meets its contract: by what the header is, and what its checks say.
use native.Mathlib.Omega.{arith}
use Rattle.scope.specs.Claim.{claim_layout, claim_header}
use Rattle.scope.proofs.NumberRanges.{some_sides_lem}
use Rattle.reader.proofs.Regular.{claim_regular}
use Rattle.reader.proofs.Whole.{first_room, no_header, header_read, header_refused, header_room, header_passed}
use Rattle.reader.proofs.LinesAfterHeader.{claim_tested, claim_widths}
use Rattle.reader.proofs.read_claim.Goals as goal

pub read_header-requires-clause-room : goal.read_header-requires-clause-room
unfolding claim_layout claim_header
read_header-requires-clause-room c =
    rw c.new-source.ensures (first_room (claim_layout c.requires.mesh) _ _ c.requires.fits)

pub returns-in_default : goal.returns-in_default
unfolding claim_layout claim_header
returns-in_default c =
    rw (← c.new-source.ensures)
    (record { against = λ m k. no_header (claim_layout m) _ _ c.in_default.ensures })

-- past the first test a header stands at the front
pub returns-then-is_err : goal.returns-then-is_err
unfolding claim_layout claim_header
returns-then-is_err c =
    rw (← c.new-source.ensures)
    (record {
      against = λ m k.
          header_refused (claim_layout m) _ _ (header_read (claim_layout m) _ _ c.in-Some.ensures)
          (claim_tested m _ _ c.claim_header.ensures c.if-is_err.ensures.value);
    })

pub claim_body-requires : goal.claim_body-requires
unfolding claim_layout claim_header
claim_body-requires c =
    let room = rw (← c.new-source.ensures) at c.requires in
    let f = claim_layout room.mesh in
    let e = claim_tested room.mesh _ _ c.claim_header.ensures c.if-is_err.ensures.value in
    let regular = claim_regular room.mesh (some_sides_lem room.counted.sizes.counts) in
    rw (claim_widths room.counted _)
    (header_room f _ _ regular (header_read f _ _ c.in-Some.ensures) e (omega (arith, room.fits)))

pub returns : goal.returns
unfolding claim_layout claim_header
returns c =
    rw (← c.new-source.ensures)
    (record {
      against = λ m k.
          let f = claim_layout m in
          let e = claim_tested m _ _ c.claim_header.ensures c.if-is_err.ensures.value in
          let regular = claim_regular m (some_sides_lem k.sizes.counts) in
          header_passed f _ _ regular (header_read f _ _ c.in-Some.ensures) e
          (rw (claim_widths k _) at c.claim_body.ensures);
    })
