-- `pechuvo_check` meets its contract: the verdict on the three files is what is reported and answered.
use Rattle.pechuvo.proofs.Answers.{answers}
use Rattle.pechuvo.proofs.pechuvo_check.Goals as goal

pub returns : goal.returns
returns c =
    answers c.ranges.decimals c.judge_files-v.ensures c.write_report-reported.ensures c.answer_of.ensures.number
    c.answer_of.ensures.place
