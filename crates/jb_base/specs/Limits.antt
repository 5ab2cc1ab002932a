-- The limits of all crates, each of them an own choice. Definitions and contracts take each number from here alone, and
-- the code's constants are proved equal to it.
use Rattle.std.specs.Prelude.{ℕ}

-- ---- a job record

-- steps of a job
abbrev pub max_steps : ℕ
max_steps = 16

-- bytes of the name of a job, of a step or of a fault class
abbrev pub max_name : ℕ
max_name = 64

-- fault classes that a job declares: texts of `exception-classes`, repeated ones included
abbrev pub max_classes : ℕ
max_classes = 64

-- names of an include or exclude list
abbrev pub max_class_names : ℕ
max_class_names = 128

-- records of a chunk
abbrev pub max_item_count : ℕ
max_item_count = 1000000

-- the item count where the key is absent (Jakarta Batch 2.1, "Chunk")
abbrev pub default_item_count : ℕ
default_item_count = 10

-- faults that a partition skips
abbrev pub max_skip_limit : ℕ
max_skip_limit = 10000000

-- retries of a partition: chunks that are rolled back to be done again, and calls that are repeated in place
abbrev pub max_retry_limit : ℕ
max_retry_limit = 100000

-- the retry limit where the key is absent
abbrev pub default_retry_limit : ℕ
default_retry_limit = 1000

-- even partitions, threads and ranges that a plan may ask for; a step may take fewer of them
abbrev pub max_partitions_asked : ℕ
max_partitions_asked = 4096

abbrev pub max_threads_asked : ℕ
max_threads_asked = 4096

abbrev pub max_ranges : ℕ
max_ranges = 4096

-- ---- a step

-- records, and the end of a range of them
abbrev pub max_records : ℕ
max_records = 10000000

-- partitions
abbrev pub max_partitions : ℕ
max_partitions = 1024

-- threads, of a load too
abbrev pub max_threads : ℕ
max_threads = 64

-- rollbacks of a partition, over all restarts
abbrev pub max_rollbacks : ℕ
max_rollbacks = 1000000000000

-- calls of a partition that are repeated in place, over all restarts
abbrev pub max_in_place : ℕ
max_in_place = 1000000000000

-- ---- a load, of which rounds are planned

-- partitions
abbrev pub max_load_partitions : ℕ
max_load_partitions = 4096

-- chunks, of all partitions together
abbrev pub max_chunks : ℕ
max_chunks = 10000000

-- ---- a history

-- events, with the places that are reserved for outcomes
abbrev pub max_events : ℕ
max_events = 1000000000

-- parts of the ledger that a desk hands out, one for each commit in progress
abbrev pub max_parts : ℕ
max_parts = 1000000000000

-- ---- the command line

-- rounds that a command line may ask for
abbrev pub max_rounds : ℕ
max_rounds = 1000000000

-- ---- the documents

-- bytes of a record
abbrev pub max_record : ℕ
max_record = 4096

-- bytes of a prefix, and of the text with which filtered items begin
abbrev pub max_affix : ℕ
max_affix = 64

-- entries of a list of faults
abbrev pub max_entries : ℕ
max_entries = 10000000

-- classes of an entry
abbrev pub max_entry_classes : ℕ
max_entry_classes = 1000

-- the largest number of a lane or of a partition
abbrev pub max_place : ℕ
max_place = 4294967295
