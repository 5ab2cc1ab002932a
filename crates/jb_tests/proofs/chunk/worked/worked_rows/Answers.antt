use Rattle.jb_chunk.proofs.Worked.{first_run, everything_filtered, no_record, retry_to_singles, skip_in_redo, one_failed, torn_write, write_retried, write_failed, shaky_write, retry_limit, read_skip, skipped_before_write, rolled_back_skip, repeat, repeat_limit, repeated_write, repeated_and_rolled, repeated_then_skipped, skipped_and_repeated, skipped_in_redo, repeated_reads, all_seen, plain_runs}
use Rattle.jb_tests.proofs.chunk.worked.worked_rows.Goals as goal

pub returns-clause-first_run : goal.returns-clause-first_run
returns-clause-first_run c = first_run

pub returns-clause-everything_filtered : goal.returns-clause-everything_filtered
returns-clause-everything_filtered c = everything_filtered

pub returns-clause-no_record : goal.returns-clause-no_record
returns-clause-no_record c = no_record

pub returns-clause-retry_to_singles : goal.returns-clause-retry_to_singles
returns-clause-retry_to_singles c = retry_to_singles

pub returns-clause-skip_in_redo : goal.returns-clause-skip_in_redo
returns-clause-skip_in_redo c = skip_in_redo

pub returns-clause-one_failed : goal.returns-clause-one_failed
returns-clause-one_failed c = one_failed

pub returns-clause-torn_write : goal.returns-clause-torn_write
returns-clause-torn_write c = torn_write

pub returns-clause-write_retried : goal.returns-clause-write_retried
returns-clause-write_retried c = write_retried

pub returns-clause-write_failed : goal.returns-clause-write_failed
returns-clause-write_failed c = write_failed

pub returns-clause-shaky_write : goal.returns-clause-shaky_write
returns-clause-shaky_write c = shaky_write

pub returns-clause-retry_limit : goal.returns-clause-retry_limit
returns-clause-retry_limit c = retry_limit

pub returns-clause-read_skip : goal.returns-clause-read_skip
returns-clause-read_skip c = read_skip

pub returns-clause-rolled_back_skip : goal.returns-clause-rolled_back_skip
returns-clause-rolled_back_skip c = rolled_back_skip

pub returns-clause-repeat : goal.returns-clause-repeat
returns-clause-repeat c = repeat

pub returns-clause-repeat_limit : goal.returns-clause-repeat_limit
returns-clause-repeat_limit c = repeat_limit

pub returns-clause-repeated_write : goal.returns-clause-repeated_write
returns-clause-repeated_write c = repeated_write

pub returns-clause-repeated_and_rolled : goal.returns-clause-repeated_and_rolled
returns-clause-repeated_and_rolled c = repeated_and_rolled

pub returns-clause-repeated_then_skipped : goal.returns-clause-repeated_then_skipped
returns-clause-repeated_then_skipped c = repeated_then_skipped

pub returns-clause-skipped_and_repeated : goal.returns-clause-skipped_and_repeated
returns-clause-skipped_and_repeated c = skipped_and_repeated

pub returns-clause-skipped_in_redo : goal.returns-clause-skipped_in_redo
returns-clause-skipped_in_redo c = skipped_in_redo

pub returns-clause-repeated_reads : goal.returns-clause-repeated_reads
returns-clause-repeated_reads c = repeated_reads

pub returns-clause-plain_runs : goal.returns-clause-plain_runs
returns-clause-plain_runs c = plain_runs

pub returns-clause-skipped_before_write : goal.returns-clause-skipped_before_write
returns-clause-skipped_before_write c = skipped_before_write

pub returns-clause-all_seen : goal.returns-clause-all_seen
returns-clause-all_seen c = all_seen
