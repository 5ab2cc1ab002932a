-- What is heard of one partition among all.
use Rattle.std.proofs.Common.{◌≡◌, ℕ, Bool, true, false, cond, eqb, List, [], ◌∷◌, ◌++◌, refl, ap, ap₂, ◌∙◌}
use Rattle.std.specs.List.{filter}
use Rattle.std.proofs.lemmas.List.Elements.{filter-append}
use Rattle.jb_rules.specs.declared.row.RowState.{RowState}
use Rattle.jb_rules.specs.declared.row.RowState.TheVariants as state
use Rattle.jb_chunk.specs.Attempt.{AttemptEnd}
use Rattle.jb_collect.specs.declared.calls.AnalyzerCall.{AnalyzerCall}
use Rattle.jb_collect.specs.declared.calls.AnalyzerCall.TheVariants.{Collected}
use Rattle.jb_collect.specs.Heard.{collected_calls, ended_calls, heard_of, heard_in, partition_heard}
use Rattle.jb_collect.specs.Laws.{PartitionsAreHeardApart}

-- the calls of partition p
abbrev own : ℕ → List AnalyzerCall → List AnalyzerCall
own p calls = filter (λ call. eqb (partition_heard call) p) calls

-- all of some calls, or none
abbrev all_if : Bool → List AnalyzerCall → List AnalyzerCall
all_if b calls = cond b calls []

all_if-append : (b : Bool) (xs ys : List AnalyzerCall) → all_if b xs ++ all_if b ys ≡ all_if b (xs ++ ys)
all_if-append true xs ys = refl
all_if-append false xs ys = refl

none_if : (b : Bool) → [] ≡ all_if b []
none_if true = refl
none_if false = refl

one_more : (b : Bool) (c : AnalyzerCall) (cs : List AnalyzerCall) → cond b (c ∷ all_if b cs) (all_if b cs) ≡ all_if b (c ∷ cs)
one_more true c cs = refl
one_more false c cs = refl

own_collected : (p q : ℕ) (texts : List (List ℕ)) → own p (collected_calls q texts) ≡ all_if (eqb q p) (collected_calls q texts)
own_collected p q [] = none_if (eqb q p)
own_collected p q (text ∷ texts) =
    ap (λ (cs : List AnalyzerCall). cond (eqb q p) (Collected q text ∷ cs) cs) (own_collected p q texts)
    ∙ one_more (eqb q p) (Collected q text) (collected_calls q texts)

own_ended : (p q : ℕ) (s : RowState) → own p (ended_calls q s) ≡ all_if (eqb q p) (ended_calls q s)
own_ended p q state.Waiting = none_if (eqb q p)
own_ended p q (state.Running lane) = none_if (eqb q p)
own_ended p q state.Finished = refl
own_ended p q state.Failed = refl

own_heard : (p : ℕ) (e : AttemptEnd) → own p (heard_of e) ≡ all_if (eqb e.task.partition p) (heard_of e)
own_heard p e =
    let q : ℕ = e.task.partition in
    filter-append (λ (call : AnalyzerCall). eqb (partition_heard call) p) (collected_calls q e.values) (ended_calls q e.task.row.state)
    ∙ ap₂ ◌++◌ (own_collected p q e.values) (own_ended p q e.task.row.state)
    ∙ all_if-append (eqb q p) (collected_calls q e.values) (ended_calls q e.task.row.state)

-- one attempt more
heard_more : (b : Bool) (e : AttemptEnd) (es : List AttemptEnd) → all_if b (heard_of e) ++ heard_in es ≡ heard_in (cond b (e ∷ es) es)
heard_more true e es = refl
heard_more false e es = refl

pub heard_apart : PartitionsAreHeardApart
heard_apart p [] = refl
heard_apart p (e ∷ es) =
    filter-append (λ (call : AnalyzerCall). eqb (partition_heard call) p) (heard_of e) (heard_in es)
    ∙ ap₂ ◌++◌ (own_heard p e) (heard_apart p es)
    ∙ heard_more (eqb e.task.partition p) e (filter (λ (x : AttemptEnd). eqb x.task.partition p) es)
