-- Each product of two 64-bit numbers fits 128 bits.
use Rattle.integer.proofs.Wide.{wide_below}
use Rattle.book.proofs.bounds.is_below.Goals as goal

pub returns : goal.returns
returns c = let h = c.well_formed in search wide_below
