use Rattle.std.proofs.Common.{◌≡◌, ◌≤◌, drop, length, None}
use Rattle.json.specs.Find.{get_member}
use Rattle.json.specs.Value.{members_view}
use Rattle.jb_documents.proofs.fields.take_last.Given as goal

-- no member from here on has the name
abbrev pub invariant-loop-place : goal.invariant-loop-place
invariant-loop-place l = record {
  later : get_member l.name (members_view (drop l.place l.members.items)) ≡ None;
  same : l.members.items ≡ l.fn.members.items;
  within : l.place ≤ length l.members.items;
}

abbrev pub decreases-loop-place : goal.decreases-loop-place
decreases-loop-place l = l.place
