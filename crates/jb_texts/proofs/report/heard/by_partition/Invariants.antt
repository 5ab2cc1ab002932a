use Rattle.std.proofs.Common.{◌≡◌, take, map}
use Rattle.std.specs.List.{range_with_len}
use Rattle.jb_collect.specs.Heard.{calls_about}
use Rattle.jb_texts.proofs.report.heard.by_partition.Given as goal

-- the calls so far are in their lists
abbrev pub invariant-loop-call : goal.invariant-loop-call
invariant-loop-call l = map (λ list. map (λ c. c.now) list.items) l.lists.items ≡ map (λ p. calls_about p (take l.call-index l.calls)) (range_with_len 0 l.fn.partitions)
