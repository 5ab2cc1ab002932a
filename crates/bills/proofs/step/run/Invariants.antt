use Rattle.bills.proofs.step.run.Given as goal

-- the ledger of the desk has the name of its blank
abbrev pub ghosts-over_desk : goal.ghosts-over_desk
ghosts-over_desk g a = record { name = a.blank.name; parts = a.blank.parts }
