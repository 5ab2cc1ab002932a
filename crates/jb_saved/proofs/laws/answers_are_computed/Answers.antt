use Rattle.jb_saved.proofs.Inverse.{only-saved}
use Rattle.jb_saved.proofs.RoundTrip.{one-answer}
use Rattle.jb_saved.proofs.TextRead.{text-read}
use Rattle.jb_saved.proofs.Unfit.{answer-computed, tree-read, trees-read}
use Rattle.jb_saved.proofs.laws.answers_are_computed.Goals as goal

pub returns-clause-answer : goal.returns-clause-answer
returns-clause-answer c = answer-computed c.rows_are_tested.ensures

pub returns-clause-one : goal.returns-clause-one
returns-clause-one c = one-answer

pub returns-clause-trees : goal.returns-clause-trees
returns-clause-trees c = trees-read c.rows_are_tested.ensures

pub returns-clause-tree : goal.returns-clause-tree
returns-clause-tree c = tree-read c.rows_are_tested.ensures

pub returns-clause-text : goal.returns-clause-text
returns-clause-text c = text-read

pub returns-clause-only : goal.returns-clause-only
returns-clause-only c = only-saved c.rows_are_tested.ensures c.numbers_make_rows.ensures
