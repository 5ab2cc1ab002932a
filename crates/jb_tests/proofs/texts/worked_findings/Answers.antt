use Rattle.std.proofs.Common.{refl}
use Rattle.jb_texts.specs.CheckText.{check_text}
use Rattle.jb_tests.proofs.texts.worked_findings.Goals as goal

pub returns : goal.returns
unfolding check_text
returns c = record { lawful = refl; faulty = refl }
