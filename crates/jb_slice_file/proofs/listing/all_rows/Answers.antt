use Rattle.sqlite.{specs.Held.state}
use Rattle.jb_slice_file.proofs.{Failing.not_read, Read.{lists, stored_back, survives, unchanged, wide}, Handed.handed_on, Opened.keeps_read}
use Rattle.jb_slice_file.proofs.listing.all_rows.Goals as goal

pub returns-in_err-rows-clause-crash : goal.returns-in_err-rows-clause-crash
returns-in_err-rows-clause-crash g c clean ours = survives (state g.S.Store c.args.conn.now) (state g.S.Store c.query_all.new.self) ours clean c.query_all.ensures.survives

pub returns-in_err-rows-clause-cause : goal.returns-in_err-rows-clause-cause
returns-in_err-rows-clause-cause g c clean ours =
    handed_on c.from_residual.result _ _ c.from_residual.ensures.1 (not_read (state g.S.Store c.args.conn.now) (state g.S.Store c.query_all.new.self) ours c.in_err-rows.field-0.0 (c.in_err-rows.ensures.err clean))

pub returns : goal.returns
returns g c =
    let old = state g.S.Store c.args.conn.now in
    let new = state g.S.Store c.query_all.new.self in
    let items = c.in_ok-rows.rows.items in
    let said = c.in_ok-rows.ensures.ok in
    let its = c.query_all.ensures.survives in record {
      wide = λ clean ours. wide old new ours items (said clean);
      lists = λ clean ours. lists old new ours items (said clean);
      back = λ clean ours. stored_back old new ours items (said clean);
      kept = λ clean all keeps. keeps_read old new all keeps (unchanged old new keeps.shows.schema items (said clean)) (survives old new keeps.shows.schema clean its);
      named = tt;
      untouched = λ clean ours. (unchanged old new ours items (said clean)).0.now_is;
      clean = its.clean;
      crash = λ clean ours. survives old new ours clean its;
      cause = λ clean ours. tt;
      counts = its.counts;
      shut = its.closes;
    }
