use Rattle.std.proofs.Common.{◌≡◌, ◌++◌, flat_map, take}
use Rattle.jb_saved.specs.SavedTree.{tokens_of}
use Rattle.jb_texts.specs.Report.{note_tree}
use Rattle.jb_texts.proofs.report.plans.write_members.Given as goal

-- the plans so far are written
abbrev pub invariant-loop-note : goal.invariant-loop-note
invariant-loop-note l = record {
  plans : l.out.tokens ≡ l.initial.out.tokens ++ flat_map (λ note. tokens_of (note_tree note)) (take l.note-index l.notes);
  before : l.out.before ≡ l.initial.out.before;
}
