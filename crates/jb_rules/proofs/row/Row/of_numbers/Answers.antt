use Rattle.std.proofs.Common.{rules, ◌≡◌, length}
use Rattle.jb_rules.proofs.Places.{fifteen-places}
use Rattle.jb_rules.proofs.row.Row.of_numbers.Goals as goal

pub returns-clause-numbers : goal.returns-clause-numbers
returns-clause-numbers c =
    let len : length c.args.numbers.now ≡ 15 = search rules in
    fifteen-places c.args.numbers.now len
