use Rattle.std.proofs.Common.{◌≡◌, [], map}
use Rattle.std.specs.List.{range_with_len}
use Rattle.jb_collect.specs.Heard.{calls_about}
use Rattle.jb_texts.proofs.report.heard.empty_lists.Given as goal

-- the lists so far have no call
abbrev pub invariant-loop : goal.invariant-loop
invariant-loop l = map (λ list. map (λ c. c.now) list.items) l.lists.items ≡ map (λ p. calls_about p []) (range_with_len 0 l.counter)
