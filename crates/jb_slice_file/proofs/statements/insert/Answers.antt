use Rattle.sqlite.specs.Held.{state}
use Rattle.jb_slice_file.specs.Chain.{Linked}
use Rattle.jb_slice_file.proofs.{Failing.caused, Handed.{handed_on, on_err}, Written.{appended, fails, survived}}
use Rattle.jb_slice_file.proofs.statements.insert.Goals as goal

-- the statement failed

pub returns-in_err-execute-clause-kept : goal.returns-in_err-execute-clause-kept
returns-in_err-execute-clause-kept g c clean all keeps =
    let one : Linked = record { it = record { saved = c.args.saved.now; results = c.args.results.now }; link = c.args.link.now } in
    let runs = rw (c.params-to_sql.ensures, c.params-to_sql-2.ensures, c.params-to_sql-3.ensures, c.params-to_sql-4.ensures) at c.in_err-execute.ensures.runs in
    on_err c.from_residual.result _ (fails (state g.S.Store c.args.conn.now) (state g.S.Store c.execute.new.self) (g.met.S.Store.settled c.execute.new.self.store) all one c.args.number _ keeps (g.met.S.Store.stays c.args.conn.now.store) (runs clean))

pub returns-in_err-execute-clause-cause : goal.returns-in_err-execute-clause-cause
returns-in_err-execute-clause-cause g c clean all keeps wide =
    let one : Linked = record { it = record { saved = c.args.saved.now; results = c.args.results.now }; link = c.args.link.now } in
    let runs = rw (c.params-to_sql.ensures, c.params-to_sql-2.ensures, c.params-to_sql-3.ensures, c.params-to_sql-4.ensures) at c.in_err-execute.ensures.runs in
    handed_on c.from_residual.result _ _ c.from_residual.ensures.1 (caused (state g.S.Store c.args.conn.now) (state g.S.Store c.execute.new.self) all keeps.shows one wide c.args.number ⊥ _ (runs clean))

pub returns-in_err-execute-clause-crash : goal.returns-in_err-execute-clause-crash
returns-in_err-execute-clause-crash g c clean all keeps at next =
    survived (state g.S.Store c.args.conn.now) (state g.S.Store c.execute.new.self) all (record { it = record { saved = c.args.saved.now; results = c.args.results.now }; link = c.args.link.now }) c.args.number at next keeps clean
    (rw (c.params-to_sql.ensures, c.params-to_sql-2.ensures, c.params-to_sql-3.ensures, c.params-to_sql-4.ensures) at c.execute.ensures.survives)

-- it was committed

pub returns-clause-added : goal.returns-clause-added
returns-clause-added g c clean all keeps at next =
    let one : Linked = record { it = record { saved = c.args.saved.now; results = c.args.results.now }; link = c.args.link.now } in
    let runs = rw (c.params-to_sql.ensures, c.params-to_sql-2.ensures, c.params-to_sql-3.ensures, c.params-to_sql-4.ensures) at c.in_ok-execute.ensures.runs in
    appended (state g.S.Store c.args.conn.now) (state g.S.Store c.execute.new.self) (g.met.S.Store.settled c.execute.new.self.store) all one c.args.number c.in_ok-execute.field-0 at next keeps (runs clean)

pub returns-clause-crash : goal.returns-clause-crash
returns-clause-crash g c clean all keeps at next =
    survived (state g.S.Store c.args.conn.now) (state g.S.Store c.execute.new.self) all (record { it = record { saved = c.args.saved.now; results = c.args.results.now }; link = c.args.link.now }) c.args.number at next keeps clean
    (rw (c.params-to_sql.ensures, c.params-to_sql-2.ensures, c.params-to_sql-3.ensures, c.params-to_sql-4.ensures) at c.execute.ensures.survives)
