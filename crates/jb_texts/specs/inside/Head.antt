-- What a report has before the list of its steps.
use Rattle.std.specs.Prelude.{ℕ, List, [], ◌∷◌, ◌++◌, codes}
use Rattle.json.specs.Print.{quoted}
use Rattle.jb_collect.specs.declared.calls.Status.{Status}
use Rattle.jb_texts.specs.Statuses.{status_name}

unfoldable pub head_text : (job : List ℕ) → Status → List ℕ
head_text job status = 123 ∷ (quoted (codes "job") ++ 58 ∷ (quoted job
    ++ 44 ∷ (quoted (codes "status") ++ 58 ∷ (quoted (status_name status) ++ 44 ∷ (quoted (codes "steps") ++ 58 ∷ [])))))
