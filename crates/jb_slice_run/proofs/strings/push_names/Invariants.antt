use Rattle.std.proofs.Common.{◌≡◌, ◌++◌, map, take}
use Rattle.jb_slice_run.proofs.strings.push_names.Given as goal

-- the names so far are put
abbrev pub invariant-loop-name : goal.invariant-loop-name
invariant-loop-name l = l.list ≡ l.initial.list ++ map (λ name. name.now) (take l.name-index l.names)
