-- The calls about each partition, put into their lists one after another.
use Rattle.std.specs.Prelude.{List, [], ◌∷◌, ◌++◌, slice_index_or, slice_set}
use Rattle.jb_collect.specs.declared.calls.AnalyzerCall.{AnalyzerCall}
use Rattle.jb_collect.specs.Heard.{partition_heard}

-- the call comes after the others in the list of its partition, if that list exists
abbrev pub placed : AnalyzerCall → (lists : List (List AnalyzerCall)) → List (List AnalyzerCall)
placed call lists = slice_set lists (partition_heard call) (slice_index_or lists (partition_heard call) [] ++ call ∷ [])
