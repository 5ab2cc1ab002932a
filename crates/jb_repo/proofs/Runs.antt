-- Events applied one after another.
use Rattle.std.proofs.Common.{◌≡◌, ℕ, ◌+◌, ◌<◌, ◌≤◌, length, take, get_or, List, [], ◌∷◌, ◌++◌, Option, None, Result, Ok, Err, OnOk, OnErr, IfErr, refl, sym, ◌∙◌, ap, subst}
use Rattle.std.proofs.lemmas.List.{take_more}
use Rattle.std.specs.Result.{result_err}
use Rattle.jb_repo.specs.declared.events.Event.{Event}
use Rattle.jb_repo.specs.declared.refused.Refused.{Refused}
use Rattle.jb_repo.specs.Table.{Journal, refusal, after, with_room}
use Rattle.jb_repo.specs.Answers.{IsRefusal, needed, Applies, AppliesAll}

pub AppliesAll-push : (old mid new : Journal) (events : List Event) (answers : List (Option Refused)) (e : Event) (answer : Option Refused) → AppliesAll old events answers mid → Applies mid e answer new → AppliesAll old (events ++ e ∷ []) (answers ++ answer ∷ []) new
AppliesAll-push old mid new [] [] e answer is last = (new, subst (λ (x : Journal). Applies x e answer new) is last, refl)
AppliesAll-push old mid new [] (a ∷ answers) e answer h last = absurd h
AppliesAll-push old mid new (x ∷ events) [] e answer h last = absurd h
AppliesAll-push old mid new (x ∷ events) (a ∷ answers) e answer h last =
    (h.0, h.1, AppliesAll-push h.0 mid new events answers e answer h.2 last)

-- what `apply` ensures, as one word
pub applies : {T : Type 0} (old new : Journal) (e : Event) (r : Result T Refused) → OnOk r ((refusal old e ≡ None) × (new ≡ after (with_room old new.room) e)) → (needed old e ≤ old.room → new.room ≡ old.room) → IfErr r (λ refused. IsRefusal old e refused) → OnErr r (new ≡ old) → Applies old e (result_err r) new
applies old new e (Ok x) ok place err same = (ok.0, record { entered = ok.1; in_place = place })
applies old new e (Err refused) ok place err same = (err, same)

-- one more event of a list
pub run_more : {T : Type 0} (old mid new : Journal) (events : List Event) (i : ℕ) (e : Event) (answers more : List (Option Refused)) (r : Result T Refused) (answer : Option Refused) → i < length events → e ≡ get_or events i e → AppliesAll old (take i events) answers mid → OnOk r ((refusal mid e ≡ None) × (new ≡ after (with_room mid new.room) e)) → (needed mid e ≤ mid.room → new.room ≡ mid.room) → IfErr r (λ refused. IsRefusal mid e refused) → OnErr r (new ≡ mid) → answer ≡ result_err r → more ≡ answers ++ answer ∷ [] → AppliesAll old (take (i + 1) events) more new
run_more old mid new events i e answers more r answer lt at run ok place err same is grown =
    let step = applies mid new e r ok place err same in
    let all = AppliesAll-push old mid new (take i events) answers e (result_err r) run step in
    let longer : take (i + 1) events ≡ take i events ++ e ∷ [] = take_more events i e lt ∙ ap (λ (x : Event). take i events ++ x ∷ []) (sym at) in
    rw (grown, is, longer) all
