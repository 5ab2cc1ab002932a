use Rattle.std.proofs.Common.{◌++◌, map}
use Rattle.jb_rows.specs.Fields.{packed}
use Rattle.jb_csv_job.{proofs.Going.{next-is}, proofs.Listing.{listed-then, own-listed}}
use Rattle.jb_csv_job.proofs.next.end_slice.Goals as goal

pub returns-clause-goes : goal.returns-clause-goes
returns-clause-goes g c f text records start begin own slice ends ran =
    let s = c.in_ok-goes_on.ensures.goes f (map packed records) c.args.number own slice.has ends start ran.taken ran.took ran.done in
    record {
      ran = record {
        taken = s.0;
        took = s.1;
        done = s.2;
        listed = listed-then begin c.args.list.now c.list_slice.new.list _ _ _ ran.listed c.in_ok-list_slice.ensures.listed (λ first old new before one.
            (let r = one first before.0 before.1 in
            let listed = rw (c.as_list-items.ensures.packed, slice.items, c.lines-lines.ensures) at r.2 in
            (before.0 ++ r.0, r.1, own-listed slice own c.args.end.now c.requires ends _ _ c.in_ok-goes_on.ensures.fine before.0 r.0 before.2 listed)));
      };
      next = rw c.is_more.ensures (next-is c.args.is_last c.in_ok-goes_on.goes_on _ _ _ slice.next c.in_ok-goes_on.ensures.over);
    }
