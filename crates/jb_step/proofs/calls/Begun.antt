-- A call that was answered well, and the calls behind it.
use Rattle.std.proofs.Common.{◌≡◌, List, [], ◌∷◌, ◌++◌, append_assoc, ap, sym, ◌∙◌}
use Rattle.jb_collect.specs.AnsweredCalls.{AnsweredCall, Grew, since, well}
use Rattle.jb_collect.proofs.Taking.{since_is}

pub since-begun : {C : Type 0} (before between after : List (AnsweredCall C)) (call : C) → between ≡ before ++ well call ∷ [] → Grew between after → since before after ≡ well call ∷ since between after
since-begun before between after call begun grew =
    let next = since between after in
    sym (since_is before after (well call ∷ next) (grew ∙ ap (λ (xs : List (AnsweredCall _)). xs ++ next) begun ∙ append_assoc before (well call ∷ []) next))
