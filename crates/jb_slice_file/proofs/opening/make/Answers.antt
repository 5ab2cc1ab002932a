use Rattle.sqlite.specs.Held.{state}
use Rattle.jb_slice_file.proofs.{Written.{made, made_survives}, Failing.unmade, Handed.handed_on}
use Rattle.jb_slice_file.proofs.opening.make.Goals as goal

-- the statement failed

pub returns-in_err-execute-clause-crash : goal.returns-in_err-execute-clause-crash
returns-in_err-execute-clause-crash g c clean has = made_survives (state g.S.Store c.args.conn.now) (state g.S.Store c.execute.new.self) has clean c.execute.ensures.survives

pub returns-in_err-execute-clause-cause : goal.returns-in_err-execute-clause-cause
returns-in_err-execute-clause-cause g c clean has =
    handed_on c.from_residual.result _ _ c.from_residual.ensures.1 (unmade (state g.S.Store c.args.conn.now) (state g.S.Store c.execute.new.self) has c.in_err-execute.field-0.0 (c.in_err-execute.ensures.runs clean))

-- the table was made

pub returns-clause-made : goal.returns-clause-made
returns-clause-made g c clean has autocommit =
    made (state g.S.Store c.args.conn.now) (state g.S.Store c.execute.new.self) (g.met.S.Store.settled c.execute.new.self.store) c.in_ok-execute.field-0 has autocommit (c.in_ok-execute.ensures.runs clean)

pub returns-clause-crash : goal.returns-clause-crash
returns-clause-crash g c clean has = made_survives (state g.S.Store c.args.conn.now) (state g.S.Store c.execute.new.self) has clean c.execute.ensures.survives
