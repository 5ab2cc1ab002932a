use Rattle.std.proofs.Common.{◌≡◌, ◌++◌, map, take}
use Rattle.json.specs.Token.{string}
use Rattle.jb_texts.specs.Report.{heard_text}
use Rattle.jb_texts.proofs.report.heard.write_calls.Given as goal

-- the texts of the calls so far are written
abbrev pub invariant-loop-call : goal.invariant-loop-call
invariant-loop-call l = record {
  texts : l.out.tokens ≡ l.initial.out.tokens ++ map (λ c. string (heard_text c.now)) (take l.call-index l.calls);
  before : l.out.before ≡ l.initial.out.before;
}
