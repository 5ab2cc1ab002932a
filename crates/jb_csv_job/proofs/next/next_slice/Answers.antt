use Rattle.std.{proofs.Common.{◌≡◌, refl, rules, true, false}, specs.Arc.{arc_value}}
use Rattle.jb_csv_job.{specs.Tasks.{is_own}, proofs.Going.{next-is, passed-by, read-of, yes-or-no}, proofs.Listing.{listed-as, other-listed}}
use Rattle.jb_csv_job.proofs.next.next_slice.Goals as goal

pub returns-then-not-is_own-clause-goes : goal.returns-then-not-is_own-clause-goes
returns-then-not-is_own-clause-goes g c clean functions text up start begin stands =
    let other : is_own c.args.work.now.asked.now.task c.args.number ≡ false = search rules in
    let slice = c.in_ok-is_last.ensures.read (g.F.RowFunction.answer (arc_value c.args.function.now)) text up.records c.args.number (read-of up) stands.reads in
    record {
      ran = record {
        taken = stands.ran.taken;
        took = stands.ran.took;
        done = passed-by _ _ _ _ _ _ stands.ran.done other;
        listed = listed-as begin c.args.list.now _ _ stands.ran.listed (λ first now r. (r.0, r.1, other-listed _ r.0 other r.2));
      };
      next = rw c.is_more.ensures (next-is c.in_ok-is_last.is_last true _ _ _ slice.next (λ no. yes-or-no true refl no));
    }

pub returns-clause-goes : goal.returns-clause-goes
returns-clause-goes g c clean functions text up start begin stands =
    let own : is_own c.args.work.now.asked.now.task c.args.number ≡ true = search rules in
    let slice = c.in_ok-is_last.ensures.read (g.F.RowFunction.answer (arc_value c.args.function.now)) text up.records c.args.number (read-of up) stands.reads in
    c.own_slice.ensures.goes clean functions text up start begin (record { has = slice.has; own = own; items = slice.items }) slice stands.ran

pub returns-clause-left : goal.returns-clause-left
returns-clause-left g c clean functions text up stands =
    let own : is_own c.args.work.now.asked.now.task c.args.number ≡ true = search rules in
    let slice = c.in_ok-is_last.ensures.read (g.F.RowFunction.answer (arc_value c.args.function.now)) text up.records c.args.number (read-of up) stands in
    c.own_slice.ensures.left clean functions text up (record { has = slice.has; own = own; items = slice.items })
