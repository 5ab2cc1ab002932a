-- What a job reports of its records and of its end.
use Rattle.std.specs.Prelude.{ℕ, zero, suc, ◌-◌, ◌++◌, List, [], Option, Some, None, codes, decimal, slice_get, take, unwrap_or}

-- how many skipped records are named
abbrev pub most_named : ℕ
most_named = 10

-- THOSE OF THEM THAT ARE NAMED, after so many skipped ones: the first ten of the job
abbrev pub named_skips : {A : Type 0} → (before : ℕ) → List A → List A
named_skips before skips = take (most_named - before) skips

-- the line in which the record of this number begins, if `first` is the number of the first of these records; 0 if it isn't among them
abbrev pub line_at : (lines : List ℕ) → (first number : ℕ) → ℕ
line_at lines first number = unwrap_or (slice_get lines (number - first)) 0

-- ---- LINES

abbrev pub skip_text : (number line : ℕ) → (class : List ℕ) → List ℕ
skip_text number line class = codes "record " ++ (decimal number ++ (codes " (line " ++ (decimal line ++ (codes ") is skipped: " ++ class))))

abbrev pub others_text : (others : ℕ) → (records : List ℕ) → List ℕ
others_text others records = decimal others ++ (codes " more " ++ (records ++ codes " are skipped"))

abbrev pub fail_text : (slice partition number line : ℕ) → (class : List ℕ) → List ℕ
fail_text slice partition number line class = codes "slice " ++ (decimal slice ++ (codes ", partition " ++ (decimal partition ++ (codes ": record " ++ (decimal number ++ (codes " (line " ++ (decimal line ++ (codes ") fails: " ++ class))))))))

-- so many records are done, of all slices so far, and so many results are there
abbrev pub progress_text : (slice done results : ℕ) → (record_word result_word : List ℕ) → List ℕ
progress_text slice done results record_word result_word = codes "slice " ++ (decimal slice ++ (codes ": " ++ (decimal done ++ (codes " " ++ (record_word ++ (codes " done, " ++ (decimal results ++ (codes " " ++ result_word))))))))

-- a number with a comma before it and a word after it, if there is one
abbrev pub part_text : Option ℕ → (word : List ℕ) → List ℕ
part_text None word = []
part_text (Some number) word = codes ", " ++ (decimal number ++ word)

-- the pace: the share that is done in percent, the records a second, the seconds elapsed and the seconds left. What isn't known is left out.
abbrev pub pace_text : (share rate elapsed left : Option ℕ) → List ℕ
pace_text share rate elapsed left = part_text share (codes "%") ++ (part_text rate (codes " a second") ++ (part_text elapsed (codes " s elapsed") ++ part_text left (codes " s left")))

-- ---- THE END

abbrev pub completed_text : (slices records skips : ℕ) → (record_word : List ℕ) → List ℕ
completed_text slices records skips record_word = codes "COMPLETED: slices " ++ (decimal slices ++ (codes ", " ++ (record_word ++ (codes " " ++ (decimal records ++ (codes ", skipped " ++ decimal skips))))))

-- `failed` slices failed, or none: then more records were skipped than the job's limit
abbrev pub failed_text : (failed slices skips : ℕ) → (record_word : List ℕ) → List ℕ
failed_text zero slices skips record_word = codes "FAILED: " ++ (decimal skips ++ (codes " " ++ (record_word ++ codes " were skipped, and the limit of the job is lower. What was done is stored. When the author has raised the limit, type the same line again.")))
failed_text (suc failed) slices skips record_word = codes "FAILED: " ++ (decimal (suc failed) ++ (codes " of " ++ (decimal slices ++ codes " slices failed, at the records above. What was done is stored. Correct the cause and type the same line again: it runs these slices alone. If their records change, delete their files and logs first.")))
