use Rattle.std.proofs.Common.{refl}
use Rattle.std.specs.Str.{is_utf8, chars}
use Rattle.std.specs.Char.{encode_utf8}
use Rattle.serde_json.proofs.OnLiterals.{serde_json_on_literals}
use Rattle.jb_job.specs.Reading.{object_at, text_at, number_at, flag_at, list_at, pair_at, required, optional}
use Rattle.jb_job.specs.JobRecord.{class_name_at, classes_at, bits_at, names_at, set_at, range_pair_at, own_ranges_at, plan_at, partition_at, limit_at, chunk_at, new_id_at, step_at, steps_at, job_at}
use Rattle.jb_tests.proofs.job.worked_rows.Goals as goal

pub returns : goal.returns
unfolding serde_json_on_literals is_utf8 chars encode_utf8 object_at text_at number_at flag_at list_at pair_at required optional class_name_at classes_at bits_at names_at set_at range_pair_at own_ranges_at plan_at partition_at limit_at chunk_at new_id_at step_at steps_at job_at
returns c = record { ranges = refl; classes = refl; refused = record { count = refl; listeners = refl; undeclared = refl } }
