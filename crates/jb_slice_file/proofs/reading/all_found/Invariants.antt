use Rattle.std.proofs.Common.{◌≡◌, length, map, take}
use Rattle.std.specs.List.{AllByRecursion}
use Rattle.jb_slice_file.specs.{Numbered.numbered, Rows.shown}
use Rattle.jb_slice_file.proofs.reading.all_found.Given as goal

-- so many rows have been read
abbrev pub invariant-rows : goal.invariant-rows
invariant-rows l = AllByRecursion (λ row. length row ≡ 4) l.rows → take l.row-index l.rows ≡ map shown (map numbered l.found.items)
