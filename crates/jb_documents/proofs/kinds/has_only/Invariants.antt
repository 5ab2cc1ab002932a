use Rattle.std.proofs.Common.{◌≡◌, drop}
use Rattle.std.specs.List.{list_all}
use Rattle.json.specs.Value.{members_view}
use Rattle.jb_job.specs.Reading.{is_named}
use Rattle.jb_documents.specs.inside.Borrowed.{keys}
use Rattle.jb_documents.proofs.kinds.has_only.Given as goal

-- the members so far have keys of the table
abbrev pub invariant-loop-member : goal.invariant-loop-member
invariant-loop-member l = list_all (is_named l.table) (keys (members_view (drop l.member-index l.members))) ≡ list_all (is_named l.table) (keys (members_view l.members))
