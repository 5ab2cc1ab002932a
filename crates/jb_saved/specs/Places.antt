-- How a place of saved rows is printed.
use Rattle.std.specs.Prelude.{ℕ, List, ◌++◌, codes, decimal}
use Rattle.jb_saved.specs.declared.place.SavedPlace.{SavedPlace}
use Rattle.jb_saved.specs.declared.place.SavedPlace.TheVariants.{NotJson, Shape, Version, Rows, Step, Records}

-- the name, and the row's number in parentheses
abbrev pub place_text : SavedPlace → List ℕ
place_text NotJson = codes "NotJson"
place_text Shape = codes "Shape"
place_text Version = codes "Version"
place_text (Rows i) = codes "Rows(" ++ (decimal i ++ codes ")")
place_text Step = codes "Step"
place_text Records = codes "Records"
