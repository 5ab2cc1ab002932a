use Rattle.std.proofs.Common.{◌≡◌, ◌++◌, map, take, decimal}
use Rattle.json.specs.Token.{number}
use Rattle.jb_saved.proofs.text.write_numbers.Given as goal

-- the numbers so far are written
abbrev pub invariant-loop-n : goal.invariant-loop-n
invariant-loop-n l = record {
  numbers : l.out.tokens ≡ l.initial.out.tokens ++ map (λ n. number (decimal n)) (take l.n-index l.numbers);
  before : l.out.before ≡ l.initial.out.before;
}
