-- The promise of N10 applied to bars that cross, and to two blocks that touch along a side: antt computes the answer,
-- and the promise says the rest.
use mathlib.Core.Path.{refl}
use mathlib.Core.List.{[]}
use lib.IntN.{pos}
use Rattle.scope.specs.Worked.{zeros, two_blocks, crossing_bars}
use Rattle.scope.specs.Overlaps.{NoneOnEachOther, OnEachOther}
use Rattle.scope.proofs.Computed.{computed}
use Rattle.numbers.specs.declared.numbers_answer.NumbersAnswer.{NumbersAnswer}
use Rattle.numbers.specs.Promises.{Answers}
use Rattle.numbers.proofs.Promises.{returned, returns_zero_exactly, overlaps_asked}
use Rattle.numbers.proofs.ShapesApplied.{joint_claim, joint_answer, joint-answered}

pub crossing_answer : NumbersAnswer
crossing_answer = record {
  number = 47;
  place = 3;
  field = 0;
  multipliers = 0;
  l = pos 0;
  n = pos 0;
  w = pos 0;
  m = pos 0;
  open_rows = 0;
}

pub crossing_answered : Answers crossing_bars [] crossing_answer
unfolding computed zeros crossing_bars crossing_answer
crossing_answered = refl

pub crossing_named : OnEachOther crossing_bars 3
unfolding crossing_answer
crossing_named = (overlaps_asked crossing_bars [] 47 3 (returned crossing_answered)).refused refl

pub blocks_touch : NoneOnEachOther two_blocks
unfolding joint_answer
blocks_touch =
    (overlaps_asked two_blocks joint_claim 0 0 (returned joint-answered)).sound
    ((returns_zero_exactly two_blocks joint_claim 0 0 (returned joint-answered)).exactly.0 refl).mesh
