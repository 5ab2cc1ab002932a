-- The worked rows, computed.
use Rattle.std.proofs.Common.{◌≡◌, refl}
use Rattle.std.specs.Prelude.{codes}
use Rattle.serde_json.specs.Written.{compact_text}
use Rattle.serde_json.proofs.OnLiterals.{serde_json_on_literals}
use Rattle.jb_saved.specs.SavedTree.{saved_tree}
use Rattle.std.specs.Fmt.{digits}
use Rattle.jb_saved.specs.Worked.{WorkedSaved, stopped}
use Rattle.jb_saved.specs.SavedForm.{row_of_tree, rows_of_tree, keyed, step_of, saved_of_tree, saved_form_at}
use Rattle.jb_rules.specs.RowTest.{is_sound}
use Rattle.jb_saved.specs.Reading.{first_unfit, saved_at}

written : compact_text (saved_tree stopped) ≡ codes "{\"rows\":[[0,3,2,0,0,2,2,2,1,0,0,0,0,0,0,\"waiting\"],[3,5,5,3,0,2,2,2,1,0,0,0,0,0,0,\"done\"],[5,7,5,5,0,0,0,0,0,0,0,0,0,0,0,\"waiting\"]],\"step\":\"s\",\"version\":2}"
unfolding digits serde_json_on_literals
written = refl

pub worked : WorkedSaved
unfolding digits row_of_tree rows_of_tree keyed step_of saved_of_tree saved_form_at is_sound first_unfit saved_at
worked = record {
  text = written;
  read = refl;
  past_end = refl;
  overlap = refl;
  empty = refl;
  unfinished = refl;
  later = refl;
  earlier = refl;
  version_alone = refl;
  first = refl;
  rows_of_the_first = refl;
  rows_of_the_second = refl;
  repeated = refl;
  not_retried = refl;
  not_repeated = refl;
  no_number = refl;
  no_step = refl;
  no_row = refl;
  no_list = refl;
  other_key = refl;
  restarted = refl;
  faults = refl;
  none = refl;
  discarded = refl;
  discarded_well = refl;
}
