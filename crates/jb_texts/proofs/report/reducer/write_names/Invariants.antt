use Rattle.std.proofs.Common.{◌≡◌, ◌++◌, map, take}
use Rattle.json.specs.Token.{string}
use Rattle.jb_texts.specs.Report.{call_name}
use Rattle.jb_texts.proofs.report.reducer.write_names.Given as goal

-- the calls so far are written
abbrev pub invariant-loop-call : goal.invariant-loop-call
invariant-loop-call l = record {
  names : l.out.tokens ≡ l.initial.out.tokens ++ map (λ call. string (call_name call)) (take l.call-index l.calls);
  before : l.out.before ≡ l.initial.out.before;
}
