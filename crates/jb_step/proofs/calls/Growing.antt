-- The calls that were taken before stay.
use Rattle.std.proofs.Common.{List, [], ◌∷◌, ◌++◌}
use Rattle.std.specs.Prelude.{Result, Ok, Err}
use Rattle.jb_base.specs.declared.artifact_error.ArtifactError.{ArtifactError}
use Rattle.jb_base.specs.declared.artifact_error.ArtifactError.TheVariants.{Fault, Memory}
use Rattle.jb_collect.specs.AnsweredCalls.{AnsweredCall, Grew, TakesCall, TakesCalls, since}
use Rattle.jb_collect.proofs.Taking.{behind, has_grown, none_taken, takes_one}

pub grew-none : {C : Type 0} (xs : List (AnsweredCall C)) → Grew xs xs
grew-none xs = (none_taken xs).grown

pub grew-more : {C : Type 0} (before between after : List (AnsweredCall C)) → Grew before between → Grew between after → Grew before after
grew-more before between after one two = has_grown before after (since before between ++ since between after) (behind before between after one two)

pub grew-calls : {C : Type 0} (before after : List (AnsweredCall C)) (cs : List C) (answer : Result (Unit {0}) ArtifactError) → TakesCalls before cs answer after → Grew before after
grew-calls before after cs (Ok done) took = took.grown
grew-calls before after cs (Err (Fault class)) took = took.grown
grew-calls before after cs (Err Memory) took = took.taken.grown

pub grew-call : {C : Type 0} (before after : List (AnsweredCall C)) (c : C) (answer : Result (Unit {0}) ArtifactError) → TakesCall before c answer after → Grew before after
grew-call before after c answer took = grew-calls before after (c ∷ []) answer (takes_one before after c answer took)
