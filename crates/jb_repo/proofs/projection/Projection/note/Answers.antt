use Rattle.std.proofs.Common.{◌≡◌, ◌<◌, List, length, take, sym, ◌∙◌, ap, arith}
use Rattle.jb_base.specs.Limits.{max_events}
use Rattle.jb_rules.specs.declared.row.Row.{Row}
use Rattle.jb_repo.specs.History.{partition_of, is_plan, is_round, events_since}
use Rattle.jb_repo.specs.Table.{Journal}
use Rattle.jb_repo.specs.inside.Projection.{CanEnter}
use Rattle.jb_repo.proofs.Noting.{any_row, number-few, since-few, own-few, totals_after, sums_fit}
use Rattle.jb_repo.proofs.Places.{places_after, one_more}
use Rattle.jb_repo.proofs.Tables.{inside_all, can_all, table_after}
use Rattle.jb_repo.proofs.projection.Projection.note.Goals as goal
use Rattle.jb_repo.proofs.projection.Projection.note.Goals.{After-partition_of-partition}

about : (c : After-partition_of-partition) (j : Journal) → CanEnter j c.args.self.now c.args.event c.args.item_count → partition_of c.args.event j.past ≡ c.partition_of-partition.result
about c j can = sym (c.partition_of-partition.ensures j.past can.shows.owners)

more : (c : After-partition_of-partition) → length c.requires.0.past < max_events
more c = let can = c.requires.1 in one_more c.requires.0 can.ready can.accepted c.args.event can.passes can.few

pub step_rows-requires-clause-inside : goal.step_rows-requires-clause-inside
step_rows-requires-clause-inside c =
    let k = (goal.at.step_rows-requires-clause-inside c).After-partition_of-partition in
    let can = c.requires.1 in
    inside_all c.requires.0 can.ready can.accepted c.args.event can.passes c.partition_of-partition.result (about k c.requires.0 can)

pub step_rows-requires-clause-can : goal.step_rows-requires-clause-can
step_rows-requires-clause-can c =
    let k = (goal.at.step_rows-requires-clause-can c).After-partition_of-partition in
    let can = c.requires.1 in
    rw can.items (can_all c.requires.0 can.ready can.accepted c.args.event can.passes c.lower_laws.ensures c.args.self.now.rows c.partition_of-partition.result can.shows.table (about k c.requires.0 can))

pub count_own-requires-clause-inside : goal.count_own-requires-clause-inside
count_own-requires-clause-inside c =
    let k = (goal.at.count_own-requires-clause-inside c).After-partition_of-partition in
    let can = c.requires.1 in
    inside_all c.requires.0 can.ready can.accepted c.args.event can.passes c.partition_of-partition.result (about k c.requires.0 can)

pub note-requires-4 : goal.note-requires-4
note-requires-4 c =
    let k = (goal.at.note-requires-4 c).After-partition_of-partition in
    let can = c.requires.1 in
    inside_all c.requires.0 can.ready can.accepted c.args.event can.passes c.partition_of-partition.result (about k c.requires.0 can)

pub count_own-requires-clause-few : goal.count_own-requires-clause-few
count_own-requires-clause-few c =
    let k = (goal.at.count_own-requires-clause-few c).After-partition_of-partition in
    λ p d lt. omega (arith, c.requires.1.shows.own_events p d lt, own-few p c.requires.0.past, more k)

pub add_gain-requires : goal.add_gain-requires
add_gain-requires c =
    let can = c.requires.1 in
    rw can.shows.totals (sums_fit c.requires.0 can.ready can.accepted c.args.event can.passes c.lower_laws.ensures)

pub overflow_sub-self : goal.overflow_sub-self
overflow_sub-self c =
    let can = c.requires.1 in
    omega (arith, can.shows.reserved, c.places.ensures, places_after c.requires.0 can.ready can.accepted c.args.event can.passes)

pub note-requires-2-clause-few : goal.note-requires-2-clause-few
note-requires-2-clause-few c =
    let k = (goal.at.note-requires-2-clause-few c).After-partition_of-partition in
    omega (arith, c.requires.1.shows.marks.rounds, number-few is_round c.requires.0.past, more k)

pub note-requires-3-clause-count : goal.note-requires-3-clause-count
note-requires-3-clause-count c =
    let k = (goal.at.note-requires-3-clause-count c).After-partition_of-partition in
    omega (arith, c.requires.1.shows.plan.count, number-few is_plan c.requires.0.past, more k)

pub note-requires-3-clause-used : goal.note-requires-3-clause-used
note-requires-3-clause-used c =
    let k = (goal.at.note-requires-3-clause-used c).After-partition_of-partition in
    let past = c.requires.0.past in
    omega (arith, c.requires.1.shows.plan.used, number-few is_round (events_since is_plan past), since-few is_plan past, more k)

pub returns : goal.returns
returns c =
    let k = (goal.at.returns c).After-partition_of-partition in
    λ j can.
    let partition = c.partition_of-partition.result in
    let at = about k j can in
    let steps = rw can.items at (c.step_rows.ensures.steps any_row) in
    let sum = rw can.shows.totals at c.add_gain.ensures in
    record {
      table = ap (λ (x : List Row). take (length j.opening) x) steps ∙ table_after j can.ready can.accepted c.args.event can.passes c.lower_laws.ensures c.args.self.now.rows any_row partition can.shows.table at;
      own_events = c.count_own.ensures j.past c.args.event at can.shows.own_events;
      failures = c.note-4.ensures j.past at can.shows.failures;
      totals = sum ∙ sym (totals_after j can.ready can.accepted c.args.event can.passes);
      reserved = omega (arith, can.shows.reserved, c.places.ensures, places_after j can.ready can.accepted c.args.event can.passes);
      owners = c.note.ensures j.past can.shows.owners;
      marks = c.note-2.ensures j.past can.shows.marks;
      plan = c.note-3.ensures j.past can.shows.plan;
    }
