use Rattle.std.proofs.Common.{◌≡◌, ◌++◌, map, decimal}
use Rattle.json.specs.Token.{number}
use Rattle.jb_slice_run.specs.Members.{classes_below}
use Rattle.jb_slice_run.proofs.members.write_members.Given as goal

-- the classes so far are written
abbrev pub invariant-loop-class : goal.invariant-loop-class
invariant-loop-class l = record {
  classes : l.out.tokens ≡ l.initial.out.tokens ++ map (λ class. number (decimal class)) (classes_below l.set l.class);
  before : l.out.before ≡ l.initial.out.before;
}
