-- What was written of packed results.
use Rattle.std.proofs.{Common.{◌≡◌, ◌∙◌, ℕ, List, [], ◌∷◌, ◌++◌, Option, Some, ap, arith, map, refl}, KnownBytes.{Appends-trans}, lemmas.List.{map-append}, lemmas.List.Folds.{concat-append}}
use Rattle.std.specs.{Io.KnownBytes.{Appends, Keeps}, List.{concat}}
use Rattle.jb_rows.{proofs.Lines.{appends-kept}, proofs.Packing.{read-packed}, specs.Fields.{Fields, fields_in, packed}, specs.Streams.{csv_row, csv_rows}}
use Rattle.jb_rows.specs.Texts.{copied_header}
use Rattle.jb_rows.specs.Answers as rows
use Rattle.jb_slices.specs.Function.{Function, all_results}
use Rattle.jb_csv_job.specs.{Job.{JobRecord}, Sinks.{HasTaken, IsBetweenLines, lines_written}, Skipped.{HasListed, IfListed, IsListWritten, skipped_header}, Tasks.{given_by}}
use Rattle.jb_csv_job.{specs.declared.asked.Task.{Task}, specs.declared.asked.Task.TheVariants.{Part}, specs.declared.sink.CsvSink.{CsvSink}, proofs.Listing.{listed-then}}

-- the lines of both
pub lines-of-both : (delimiter : ℕ) (first later : List Fields) → csv_rows delimiter (first ++ later) ≡ csv_rows delimiter first ++ csv_rows delimiter later
lines-of-both delimiter first later = ap concat (map-append (csv_row delimiter) first later) ∙ concat-append (map (csv_row delimiter) first) (map (csv_row delimiter) later)

-- the fields in the results of packed records are the results of the records
results-are-packed : (f : Function) (records : List Fields) → map fields_in (all_results f (map packed records)) ≡ rows.all_results f records
results-are-packed f [] = refl
results-are-packed f (fields ∷ records) = grind (arith, read-packed, results-are-packed f records)

-- the same of a task
pub given-packed : (task : Task) (f : Function) (records : List Fields) → map fields_in (given_by task (all_results f (map packed records))) ≡ given_by task (rows.all_results f records)
given-packed (Part part of) f records = refl
given-packed _ f records = results-are-packed f records

-- a header row, then these rows, and then the stream is given back
pub list-written : {W : Type 0} (contents : W → Option (List ℕ)) (delimiter : ℕ) (to done : W) (begun ended : CsvSink W) (header : List Fields) (rows : List (List ℕ))
    → IsBetweenLines delimiter begun × Appends (contents to) (lines_written contents begun) (csv_rows delimiter header) → HasTaken contents begun ended rows
    → Keeps (lines_written contents ended) (contents done) → Appends (contents to) (contents done) (csv_rows delimiter (header ++ map fields_in rows))
list-written contents delimiter to done begun ended header rows begins took kept =
    let (there, first) = begins in
    let (last, later) = took delimiter there in
    let both = Appends-trans (contents to) (lines_written contents begun) (lines_written contents ended) (csv_rows delimiter header) _ first later in
    appends-kept (contents to) (lines_written contents ended) (contents done) _ (rw lines-of-both both) kept

-- nothing, and then these lines
pub begun-by : {W : Type 0} (contents : W → Option (List ℕ)) (delimiter : ℕ) (to : W) (blank begun : CsvSink W) (lines : List ℕ) → IsBetweenLines delimiter blank
    → Appends (contents to) (lines_written contents blank) []
    → (IsBetweenLines delimiter blank → IsBetweenLines delimiter begun × Appends (lines_written contents blank) (lines_written contents begun) lines)
    → IsBetweenLines delimiter begun × Appends (contents to) (lines_written contents begun) lines
begun-by contents delimiter to blank begun lines between nothing begins =
    let (there, first) = begins between in
    (there, Appends-trans (contents to) (lines_written contents blank) (lines_written contents begun) [] lines nothing first)

-- ---- a list

-- A LIST THAT IS ASKED FOR, from its header row to the end of its stream
pub list-whole : {W : Type 0} (contents : W → Option (List ℕ)) (job : JobRecord) (text : List ℕ) (header : List Fields) (status skips : ℕ) (to : Option W) (begun ended : Option (CsvSink W)) (done : Option W)
    → header ≡ copied_header job.options text
    → IfListed to begun (λ old new. IsBetweenLines job.options.delimiter new × Appends (contents old) (lines_written contents new) (csv_rows job.options.delimiter (map skipped_header header)))
    → IfListed begun ended (λ old new. HasListed job (Some text) (HasTaken contents old new) status skips) → IfListed ended done (λ old new. Keeps (lines_written contents old) (contents new))
    → IfListed to done (λ old new. IsListWritten job (Some text) (contents old) (contents new) status skips)
list-whole {W} contents job text header status skips to begun ended done copied begins listed kept =
    let whole = listed-then begun ended done _ _ (λ b d. (e : CsvSink W) × HasListed job (Some text) (HasTaken contents b e) status skips × Keeps (lines_written contents e) (contents d)) listed kept
    (λ b e d has keeps. (e, has, keeps)) in
    listed-then to begun done _ _ _ begins whole (λ old b d first x. (let has = x.1 in record {
      header = header;
      records = has.records;
      read = (copied, has.read);
      rows = has.rows;
      last = has.last;
      written = list-written contents job.options.delimiter old d b x.0 (map skipped_header header) has.rows first has.taken x.2;
      slices = has.slices;
      ended = has.ended;
      faults = has.faults;
    }))
