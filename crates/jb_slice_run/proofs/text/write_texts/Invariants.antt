use Rattle.std.proofs.Common.{◌≡◌, ◌++◌, map, take}
use Rattle.json.specs.Token.{string}
use Rattle.jb_slice_run.proofs.text.write_texts.Given as goal

-- the texts so far are written
abbrev pub invariant-loop-text : goal.invariant-loop-text
invariant-loop-text l = record {
  texts : l.out.tokens ≡ l.initial.out.tokens ++ map (λ text. string text.now) (take l.text-index l.texts);
  before : l.out.before ≡ l.initial.out.before;
}
