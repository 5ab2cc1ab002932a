-- What the count collector answers (own choice).
use Rattle.std.specs.Prelude.{ℕ, List, [], ◌++◌, if◌then◌else◌, codes, decimal}
use Rattle.jb_artifacts.specs.declared.view.RowView.{RowView}

-- the partition, the checkpoint and WRITE, and on the last call the end
abbrev pub count_text : RowView → List ℕ
count_text view =
    decimal view.partition ++ codes ":" ++ decimal view.at ++ codes ":" ++ decimal view.counts.write
    ++ (if view.last then codes ":end" else [])
