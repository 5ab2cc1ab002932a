-- How the errors are printed; nothing is said here of the texts of faults that come from SQLite or from the step.
use Rattle.std.specs.Prelude.{ℕ, List, Option, Some, None, codes}
use Rattle.jb_slice_file.specs.Texts.{store_error_text}
use Rattle.jb_slice_run.specs.declared.error.IdentityPart.{IdentityPart}
use Rattle.jb_slice_run.specs.declared.error.IdentityPart.TheVariants.{Name, SliceLength, Partitions, ItemCount, Classes}
use Rattle.jb_slice_run.specs.declared.error.SliceError.{SliceError}
use Rattle.jb_slice_run.specs.declared.error.SliceError.TheVariants.{Store, Step, OtherJob, OtherSlice, OtherItems, OtherStamp, LoweredLimit, Damaged, TooLong, NoNumbers, TooMany, Stopped, Memory}

abbrev pub part_text : IdentityPart → List ℕ
part_text Name = codes "the slice is of a job with another name"
part_text SliceLength = codes "the slice is of a job with another number of items in a slice"
part_text Partitions = codes "the slice is of a job with another number of partitions"
part_text ItemCount = codes "the slice is of a job with another item count"
part_text Classes = codes "the slice is of a job with other classes of faults"

abbrev pub slice_error_text : SliceError → Option (List ℕ)
slice_error_text (Store error) = store_error_text error
slice_error_text (Step error) = None
slice_error_text (OtherJob part) = Some (part_text part)
slice_error_text OtherSlice = Some (codes "the slice has another number")
slice_error_text OtherItems = Some (codes "the slice is of other items")
slice_error_text OtherStamp = Some (codes "the slice was run by a function with another stamp")
slice_error_text LoweredLimit = Some (codes "a limit is lower than the slice's")
slice_error_text Damaged = Some (codes "a checkpoint of the slice is damaged")
slice_error_text TooLong = Some (codes "a string has more than 4,294,967,295 bytes, or a list more strings")
slice_error_text NoNumbers = Some (codes "the slice's items have no numbers below 18,446,744,073,709,551,616")
slice_error_text TooMany = Some (codes "there are 4,294,967,295 checkpoints")
slice_error_text Stopped = Some (codes "the run was stopped")
slice_error_text Memory = Some (codes "out of memory")
