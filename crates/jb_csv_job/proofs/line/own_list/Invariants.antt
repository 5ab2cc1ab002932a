use Rattle.std.proofs.Common.{◌≡◌, map, take, string_bytes}
use Rattle.jb_csv_job.proofs.line.own_list.Given as goal

-- the texts so far are those that have been passed
abbrev pub invariant-loop-text : goal.invariant-loop-text
invariant-loop-text l = map string_bytes l.own.items ≡ map (λ t. t.now) (take l.text-index l.texts)
