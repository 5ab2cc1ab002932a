-- What `help` and `--version` print (own choice).
use Rattle.std.specs.Prelude.{ℕ, List, Option, Some, None, codes}
use Rattle.jb_program.specs.declared.words.request.Word.{Word}
use Rattle.jb_program.specs.declared.words.request.Word.TheVariants.{Run, Restart, Plan, Check}

-- what the program is for, its subcommands, and what each status means
unfoldable pub program_help : List ℕ
program_help = codes "usage: batchrun WORD < DOCUMENT\n       batchrun help [WORD]\n\nReads one JSON document on standard input, to its end, and prints the answer on\nstandard output. WORD says what is done with it:\n\n  run      runs the document's job and prints a report\n  restart  goes on with a job that was stopped or failed, and prints a report\n  plan     prints a plan of the fewest rounds for partitions of so many chunks\n  check    prints whether a plan is lawful, and whether its certificate holds\n\n`help WORD` and `WORD --help` tell what a word reads and prints; `--version`\nprints the version. `run --rounds 0` is a dry run: the document is checked, and\nno record is processed. tools/check-document lists all faults of a document.\n\nThe exit status says how it went:\n\n  0  The job is completed, or the plan is printed, or the plan that was checked\n     is lawful and its certificate holds.\n  1  The job failed, or the plan that was checked isn't lawful or its\n     certificate doesn't hold.\n  2  The job was stopped before its end.\n  3  The document, a step's partition plan or its saved rows are refused, and\n     standard error names the first fault.\n  4  There was no memory or no worker, or a step's repository wasn't its own or\n     refused an event, or a stream failed: standard error says which.\n  5  The words ask for nothing, and standard error names the first wrong one.\n\ndocs/FORMATS.md says what stands in documents and answers, and for each refusal\nits usual cause. examples/ has documents to begin with.\n"

-- what each word reads and prints
unfoldable pub run_help : List ℕ
run_help = codes "usage: batchrun run [--rounds N] < DOCUMENT\n\nRuns a job: its steps in turn, up to the first that isn't completed. It reads a\njob record, and for each step what it works on:\n\n  {\"job\": {\"id\": text, \"exception-classes\": [text, ..],\n           \"step\": [{\"id\": text, \"chunk\": {..}, \"partition\": {..}}, ..]},\n   \"data\": [{\"records\": [text, ..], \"prefix\": text, \"drop\": text,\n             \"faults\": {..}}, ..]}\n\nIt prints a report, one line of JSON, with the job's status and, for each step\nthat ran, what its analyzer heard, each partition's outputs, its plans, the\ncalls of its reducer, its saved rows, and its status:\n\n  {\"job\": id, \"status\": status,\n   \"steps\": [{\"heard\": [..], \"outputs\": [..], \"plans\": [..], \"reducer\": [..],\n              \"saved\": {..}, \"status\": status, \"step\": id}, ..]}\n\nWith --rounds each step stops after N rounds, 0 to 1000000000; 0 is a dry run:\nthe document and the first step's partition plan are checked, and no record is\nprocessed. The exit status is 0 where the job is completed, 1 where it failed\nand 2 where it was stopped; `batchrun restart` goes on from there.\ndocs/FORMATS.md has every key with its range. A document to begin with is\nexamples/three-records.json; examples/billing.json has faults, skips and\nretries.\n"

unfoldable pub restart_help : List ℕ
restart_help = codes "usage: batchrun restart [--rounds N] < DOCUMENT\n\nGoes on with a job that was stopped or failed, at the step whose rows were\nsaved. It reads a document of `run`, which says besides what that step left: the\noutputs and the saved rows of the step in the report before:\n\n  {\"job\": {..}, \"data\": [..],\n   \"resume\": {\"outputs\": [[text, ..], ..], \"saved\": {..}}}\n\nSteps before that one aren't run and aren't in the report; finished partitions\naren't run again, and a failed one goes on from its last chunk that was\ncommitted. It prints a report as `run` does, and --rounds and the exit status\nsay the same. docs/FORMATS.md has every key with its range.\n"

unfoldable pub plan_help : List ℕ
plan_help = codes "usage: batchrun plan < DOCUMENT\n\nPlans the chunks of partitions over threads, in the fewest rounds that there can\nbe. It reads the number of chunks of each partition, and that of the threads:\n\n  {\"counts\": [number, ..], \"threads\": number}\n\nIt prints `rounds N CERTIFICATE`, and then a line for each round: for each lane,\nof which there is one a thread, a partition and the number of its chunk, or `-`\nwhere it is idle:\n\n  rounds 2 Longest(0)\n  0: 0.0 1.0\n  1: 0.1 -\n\nThe certificate says why fewer rounds won't do: `Nothing`, since no chunk is\nleft; `Longest(p)`, since partition p alone has as many chunks; `FullLoad`,\nsince the threads can't do all chunks in fewer. The exit status is 0.\ndocs/FORMATS.md has the ranges of the numbers.\n"

unfoldable pub check_help : List ℕ
check_help = codes "usage: batchrun check < DOCUMENT\n\nChecks a plan of rounds and its certificate, whoever made them. It reads what\n`plan` reads, the rounds, and the certificate, which is \"Nothing\", \"FullLoad\" or\nthe number p for Longest(p):\n\n  {\"counts\": [number, ..], \"threads\": number,\n   \"rounds\": [[[lane, partition, chunk], ..], ..], \"certificate\": certificate}\n\nIt prints two lines: `plan lawful`, or `plan` and the plan's first fault; then\n`certificate yes` or `certificate no`. The exit status is 0 where the plan is\nlawful and its certificate holds: then no lawful plan has fewer rounds. Else it\nis 1. docs/FORMATS.md has the faults by their names.\n"

-- the help of the program, or of a word
abbrev pub help_text : Option Word → List ℕ
help_text None = program_help
help_text (Some Run) = run_help
help_text (Some Restart) = restart_help
help_text (Some Plan) = plan_help
help_text (Some Check) = check_help

-- one line
unfoldable pub version_text : List ℕ
version_text = codes "batchrun 0.1.0\n"
