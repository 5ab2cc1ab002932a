use Rattle.jb_program.proofs.words.run.write_report.Goals as goal

pub returns-clause-err : goal.returns-clause-err
returns-clause-err g c = tt
