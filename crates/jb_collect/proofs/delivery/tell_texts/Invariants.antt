use Rattle.std.proofs.Common.{take, None}
use Rattle.jb_collect.specs.Heard.{collected_calls}
use Rattle.jb_collect.specs.AnsweredCalls.{HasTaken}
use Rattle.jb_collect.proofs.delivery.tell_texts.Given as goal

abbrev pub invariant-loop-text : goal.invariant-loop-text
invariant-loop-text g l =
    HasTaken ((goal.Analyzer-dyn g l.fn.analyzer.now).analyzed l.fn.analyzer.now.1)
    (collected_calls l.partition (take l.text-index l.texts))
    None
    ((goal.Analyzer-dyn g l.analyzer.now).analyzed l.analyzer.now.1)
