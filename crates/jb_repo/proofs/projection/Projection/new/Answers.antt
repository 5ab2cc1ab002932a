use Rattle.std.proofs.Common.{◌≡◌, ◌∙◌, ap, sym, length, take, arith}
use Rattle.std.proofs.lemmas.List.{take_all, get_or-replicate}
use Rattle.jb_repo.specs.Rows.{total_counts}
use Rattle.jb_repo.proofs.Noting.{rows_from-opening, running-opening}
use Rattle.jb_repo.proofs.projection.Projection.new.Goals as goal

pub returns : goal.returns
returns c = λ threads item_count.
    let rows = c.args.opening.now in
    let same = rows_from-opening item_count 0 rows in
    let all : c.loop-i.i ≡ length rows = omega arith in
    let copied : take (length rows) c.loop-i.rows ≡ take (length rows) rows = rw (← all) c.loop-i.invariant.1 in
    record {
      table = copied ∙ take_all (length rows) rows (omega arith) ∙ sym same;
      own_events = λ p d lt. get_or-replicate _ p 0 d lt;
      totals = c.totals.ensures ∙ ap total_counts (sym same);
      reserved = sym (running-opening threads);
      owners = c.new.ensures;
      marks = c.new-2.ensures;
      plan = c.new-3.ensures;
      failures = c.new-4.ensures;
    }
