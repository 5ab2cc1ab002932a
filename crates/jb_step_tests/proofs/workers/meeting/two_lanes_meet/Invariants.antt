use Rattle.jb_step_tests.proofs.workers.meeting.two_lanes_meet.Given as goal

abbrev pub ghosts-meet : goal.ghosts-meet
ghosts-meet g a = record { name = a.blank.name; parts = a.blank.parts }
