use Rattle.std.proofs.Common.{◌≡◌, ◌+◌, ◌++◌, drop, length, map}
use Rattle.std.specs.List.{zip}
use Rattle.std.specs.Vec.Iter.{into_iter_items}
use Rattle.jb_step.specs.Answers.{given_back}
use Rattle.jb_records.proofs.interval_end.numbered.Given as goal

-- those so far have their numbers, and there is a number for each of the others
abbrev pub invariant-loop-one : goal.invariant-loop-one
invariant-loop-one g l =
    (given_back g.A.Meaning.meaning l.all.items ++ zip (drop l.place l.partitions) (map g.A.Meaning.meaning (into_iter_items l.one-iterator)) ≡ zip l.partitions (map g.A.Meaning.meaning l.fn.artifacts.items))
    × (l.place + length (into_iter_items l.one-iterator) ≡ length l.partitions)
