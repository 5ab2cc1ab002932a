-- Worked values: the file of a slice, what the values of options say, and why a run has no answer.
use Rattle.std.{proofs.Common.{◌≡◌, arith, refl, Some, None, codes, true, false}, specs.Fmt.{char_count, digits, padded_integral}}
use Rattle.jb_csv_job.specs.{Asking.{number_between, part_of}, Causes.{IsRunError}, Paths.{slice_path}, declared.asked.Asked.{Asked}, declared.asked.Task.TheVariants.{Collect, Part, Run}}
use Rattle.jb_csv_job.specs.declared.failure.CsvJobError.TheVariants.{NotWhole, Records}

slice_57 : slice_path (codes "jobs") 57 ≡ codes "jobs/slice-000057.db"
unfolding padded_integral digits char_count
slice_57 = refl

slice_1234567 : slice_path (codes "jobs") 1234567 ≡ codes "jobs/slice-1234567.db"
unfolding padded_integral digits char_count
slice_1234567 = refl

first_part : part_of (codes "0/4") ≡ Some (Part 0 4)
first_part = refl

no_fourth_part : part_of (codes "4/4") ≡ None
no_fourth_part = refl

no_part : part_of (codes "4") ≡ None
no_part = refl

most_threads : number_between 1 64 (codes "64") ≡ Some 64
most_threads = refl

too_many : number_between 1 64 (codes "65") ≡ None
too_many = refl

too_few : number_between 1 64 (codes "0") ≡ None
too_few = refl

not_whole_if_collected : (asked : Asked) → asked.task ≡ Collect → IsRunError asked (NotWhole 3)
not_whole_if_collected asked collects = collects

whole_if_run : (asked : Asked) → asked.task ≡ Run → IsRunError asked (NotWhole 3) → ⊥
whole_if_run asked runs collects = cc (runs, collects)

fewer_records : (asked : Asked) → asked.records ≡ Some 5 → IsRunError asked (Records 5 4 true)
fewer_records asked five = (five, λ as_many. (let same : 4 ≡ 5 = (rw five at as_many).1 refl in omega arith))

not_yet_as_many : (asked : Asked) → asked.records ≡ Some 5 → IsRunError asked (Records 5 4 false) → ⊥
not_yet_as_many asked five other = other.1 (rw five (omega arith, λ no. cc no))

none_asked_for : (asked : Asked) → asked.records ≡ None → IsRunError asked (Records 5 4 true) → ⊥
none_asked_for asked none other = cc (none, other.0)
