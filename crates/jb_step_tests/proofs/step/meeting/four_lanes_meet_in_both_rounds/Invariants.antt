use Rattle.jb_step_tests.proofs.step.meeting.four_lanes_meet_in_both_rounds.Given as goal

abbrev pub ghosts-meet : goal.ghosts-meet
ghosts-meet g a = record { name = a.blank.name; parts = a.blank.parts }
