use Rattle.std.proofs.Common.{◌≡◌, ◌++◌, flat_map, map, take}
use Rattle.jb_saved.specs.SavedTree.{tokens_of}
use Rattle.jb_texts.specs.Report.{heard_text, results_tree}
use Rattle.jb_texts.proofs.report.heard.write_lists.Given as goal

-- the lists so far are written
abbrev pub invariant-loop-list : goal.invariant-loop-list
invariant-loop-list l = record {
  lists : l.out.tokens ≡ l.initial.out.tokens ++ flat_map (λ list. tokens_of (results_tree (map heard_text (map (λ c. c.now) list.items)))) (take l.list-index l.lists);
  before : l.out.before ≡ l.initial.out.before;
}
