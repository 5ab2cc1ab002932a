-- A list that is told member by member.
use Rattle.std.proofs.Common.{◌≡◌, ◌<◌, ℕ, ◌+◌, List, [], ◌∷◌, ◌++◌, length, get_or, take, drop, None, Result, Ok, Err, ap, sym, ◌∙◌, subst, append-nil}
use Rattle.std.proofs.lemmas.List.{map-append, take_more, take-append-drop}
use Rattle.std.proofs.lemmas.Grind.{flat_map-append}
use Rattle.jb_base.specs.declared.artifact_error.ArtifactError.{ArtifactError}
use Rattle.jb_rules.specs.declared.row.RowState.{RowState}
use Rattle.jb_chunk.specs.Attempt.{AttemptEnd, ending_of}
use Rattle.jb_chunk.specs.TaskState.{TaskState}
use Rattle.jb_chunk.specs.declared.outcome.Done.{Done}
use Rattle.jb_collect.specs.declared.calls.AnalyzerCall.{AnalyzerCall}
use Rattle.jb_collect.specs.declared.calls.AnalyzerCall.TheVariants.{Collected}
use Rattle.jb_collect.specs.Heard.{collected_calls, ended_calls, heard_of, heard_in, endings_of}
use Rattle.jb_collect.specs.AnsweredCalls.{AnsweredCall, HasTaken, TakesCall, TakesCalls}
use Rattle.jb_collect.proofs.Taking.{none_taken, one_after_another, takes_one, takes_more, takes_no_more}

-- what is called for a list is what is called for its parts
module _ {X : Type 0} (calls : List X → List AnalyzerCall) (split : (xs ys : List X) → calls (xs ++ ys) ≡ calls xs ++ calls ys) where
  next : (before between after : List (AnsweredCall AnalyzerCall)) (xs : List X) (i : ℕ) (d : X) → i < length xs → HasTaken before (calls (take i xs)) None between → HasTaken between (calls (get_or xs i d ∷ [])) None after → HasTaken before (calls (take (i + 1) xs)) None after
  next before between after xs i d within first then_ =
      subst (λ (cs : List AnalyzerCall). HasTaken before cs None after) (sym (ap calls (take_more xs i d within) ∙ split (take i xs) (get_or xs i d ∷ [])))
      (one_after_another before between after (calls (take i xs)) (calls (get_or xs i d ∷ [])) None first then_)

  stop : (before between after : List (AnsweredCall AnalyzerCall)) (xs : List X) (i : ℕ) (d : X) (error : ArtifactError) → i < length xs → HasTaken before (calls (take i xs)) None between → TakesCalls between (calls (get_or xs i d ∷ [])) (Err error) after → TakesCalls before (calls xs) (Err error) after
  stop before between after xs i d error within first then_ =
      let so_far = takes_more before between after (calls (take i xs)) (calls (get_or xs i d ∷ [])) (Err error) first then_ in
      let rest = takes_no_more before after (calls (take i xs) ++ calls (get_or xs i d ∷ [])) (calls (drop (i + 1) xs)) error so_far in
      let whole : xs ≡ take (i + 1) xs ++ drop (i + 1) xs = sym (take-append-drop (i + 1) xs) in
      subst (λ (cs : List AnalyzerCall). TakesCalls before cs (Err error) after)
      (sym (ap calls whole ∙ split (take (i + 1) xs) (drop (i + 1) xs) ∙ ap (λ (cs : List AnalyzerCall). cs ++ calls (drop (i + 1) xs)) (ap calls (take_more xs i d within) ∙ split (take i xs) (get_or xs i d ∷ []))))
      rest

-- ---- texts

texts_split : (p : ℕ) (xs ys : List (List ℕ)) → collected_calls p (xs ++ ys) ≡ collected_calls p xs ++ collected_calls p ys
texts_split p xs ys = map-append (λ (text : List ℕ). Collected p text) xs ys

pub next_text : (before between after : List (AnsweredCall AnalyzerCall)) (p : ℕ) (texts : List (List ℕ)) (i : ℕ) (d text : List ℕ) (done : Unit {0}) → i < length texts → text ≡ get_or texts i d → HasTaken before (collected_calls p (take i texts)) None between → TakesCall between (Collected p text) (Ok done) after → HasTaken before (collected_calls p (take (i + 1) texts)) None after
next_text before between after p texts i d text done within is first takes =
    next (collected_calls p) (texts_split p) before between after texts i d within first
    (subst (λ (t : List ℕ). HasTaken between (Collected p t ∷ []) None after) is (takes_one between after (Collected p text) (Ok done) takes))

pub stop_text : (before between after : List (AnsweredCall AnalyzerCall)) (p : ℕ) (texts : List (List ℕ)) (i : ℕ) (d text : List ℕ) (error : ArtifactError) (result : Result (Unit {0}) ArtifactError) → i < length texts → text ≡ get_or texts i d → HasTaken before (collected_calls p (take i texts)) None between → TakesCall between (Collected p text) (Err error) after → result ≡ Err error → TakesCalls before (collected_calls p texts) result after
stop_text before between after p texts i d text error result within is first takes told =
    subst (λ (r : Result (Unit {0}) ArtifactError). TakesCalls before (collected_calls p texts) r after) (sym told)
    (stop (collected_calls p) (texts_split p) before between after texts i d error within first
    (subst (λ (t : List ℕ). TakesCalls between (Collected p t ∷ []) (Err error) after) is (takes_one between after (Collected p text) (Err error) takes)))

-- ---- texts that are handed over, one after another

pub more_texts : (before between after : List (AnsweredCall AnalyzerCall)) (p : ℕ) (text : List ℕ) (rest : List (List ℕ)) (done : Unit {0}) (result : Result (Unit {0}) ArtifactError) → TakesCall before (Collected p text) (Ok done) between → TakesCalls between (collected_calls p rest) result after → TakesCalls before (collected_calls p (text ∷ rest)) result after
more_texts before between after p text rest done result takes then_ =
    takes_more before between after (Collected p text ∷ []) (collected_calls p rest) result (takes_one before between (Collected p text) (Ok done) takes) then_

pub no_more_texts : (before after : List (AnsweredCall AnalyzerCall)) (p : ℕ) (left : List (List ℕ)) (text : List ℕ) (rest : List (List ℕ)) (error : ArtifactError) → left ≡ text ∷ rest → TakesCall before (Collected p text) (Err error) after → TakesCalls before (collected_calls p left) (Err error) after
no_more_texts before after p left text rest error is takes =
    subst (λ (texts : List (List ℕ)). TakesCalls before (collected_calls p texts) (Err error) after) (sym is)
    (takes_no_more before after (Collected p text ∷ []) (collected_calls p rest) error (takes_one before after (Collected p text) (Err error) takes))

pub no_text : (before : List (AnsweredCall AnalyzerCall)) (p : ℕ) (left : List (List ℕ)) → length left ≡ 0 → HasTaken before (collected_calls p left) None before
no_text before p [] none = none_taken before
no_text before p (text ∷ rest) none = absurd cc

-- ---- an end

pub end_told : (before after : List (AnsweredCall AnalyzerCall)) (p : ℕ) (s known : RowState) (c : AnalyzerCall) (result : Result (Unit {0}) ArtifactError) → s ≡ known → ended_calls p known ≡ c ∷ [] → TakesCall before c result after → TakesCalls before (ended_calls p s) result after
end_told before after p s known c result is one takes =
    subst (λ (cs : List AnalyzerCall). TakesCalls before cs result after) (sym (ap (ended_calls p) is ∙ one)) (takes_one before after c result takes)

-- ---- one attempt

-- where its partition, its texts and its state were read
pub record IsRead (e : AttemptEnd) (p : ℕ) (texts : List (List ℕ)) (s : RowState) : Type 0 where
  pub partition : p ≡ e.task.partition
  pub texts_are : texts ≡ e.values
  pub state : s ≡ e.task.row.state

heard_is : (e : AttemptEnd) (p : ℕ) (texts : List (List ℕ)) (s : RowState) → IsRead e p texts s → collected_calls p texts ++ ended_calls p s ≡ heard_of e
heard_is e p texts s read =
    ap (λ (q : ℕ). collected_calls q texts ++ ended_calls q s) read.partition
    ∙ ap (λ (ts : List (List ℕ)). collected_calls e.task.partition ts ++ ended_calls e.task.partition s) read.texts_are
    ∙ ap (λ (st : RowState). collected_calls e.task.partition e.values ++ ended_calls e.task.partition st) read.state

pub attempt_told : (before between after : List (AnsweredCall AnalyzerCall)) (e : AttemptEnd) (p : ℕ) (texts : List (List ℕ)) (s : RowState) (done : Unit {0}) (result : Result (Unit {0}) ArtifactError) → IsRead e p texts s → TakesCalls before (collected_calls p texts) (Ok done) between → TakesCalls between (ended_calls p s) result after → TakesCalls before (heard_of e) result after
attempt_told before between after e p texts s done result read first then_ =
    subst (λ (cs : List AnalyzerCall). TakesCalls before cs result after) (heard_is e p texts s read)
    (takes_more before between after (collected_calls p texts) (ended_calls p s) result first then_)

pub attempt_stopped : (before after : List (AnsweredCall AnalyzerCall)) (e : AttemptEnd) (p : ℕ) (texts : List (List ℕ)) (error : ArtifactError) (result : Result (Unit {0}) ArtifactError) → IsRead e p texts e.task.row.state → TakesCalls before (collected_calls p texts) (Err error) after → result ≡ Err error → TakesCalls before (heard_of e) result after
attempt_stopped before after e p texts error result read first told =
    subst (λ (r : Result (Unit {0}) ArtifactError). TakesCalls before (heard_of e) r after) (sym told)
    (subst (λ (cs : List AnalyzerCall). TakesCalls before cs (Err error) after) (heard_is e p texts e.task.row.state read)
    (takes_no_more before after (collected_calls p texts) (ended_calls p e.task.row.state) error first))

-- ---- attempts

abbrev heard_of_dones : {T : Type 0} → (T → TaskState) → List (Done T) → List AnalyzerCall
heard_of_dones task_state dones = heard_in (endings_of task_state dones)

abbrev how : {T : Type 0} → (T → TaskState) → Done T → AttemptEnd
how task_state d = ending_of (task_state d.task) d.outcome d.values.items d.again

dones_split : {T : Type 0} (task_state : T → TaskState) (xs ys : List (Done T)) → heard_of_dones task_state (xs ++ ys) ≡ heard_of_dones task_state xs ++ heard_of_dones task_state ys
dones_split task_state xs ys =
    ap heard_in (map-append (how task_state) xs ys) ∙ flat_map-append heard_of (endings_of task_state xs) (endings_of task_state ys)

one_done : {T : Type 0} (task_state : T → TaskState) (d : Done T) → heard_of_dones task_state (d ∷ []) ≡ heard_of (how task_state d)
one_done task_state d = append-nil (heard_of (how task_state d))

pub next_done : {T : Type 0} (task_state : T → TaskState) (before between after : List (AnsweredCall AnalyzerCall)) (dones : List (Done T)) (i : ℕ) (d : Done T) → i < length dones → d ≡ get_or dones i d → HasTaken before (heard_in (endings_of task_state (take i dones))) None between → HasTaken between (heard_of (how task_state d)) None after → HasTaken before (heard_in (endings_of task_state (take (i + 1) dones))) None after
next_done task_state before between after dones i d within is first takes =
    next (heard_of_dones task_state) (dones_split task_state) before between after dones i d within first
    (subst (λ (x : Done _). HasTaken between (heard_of_dones task_state (x ∷ [])) None after) is
    (subst (λ (cs : List AnalyzerCall). HasTaken between cs None after) (sym (one_done task_state d)) takes))

pub stop_done : {T : Type 0} (task_state : T → TaskState) (before between after : List (AnsweredCall AnalyzerCall)) (dones : List (Done T)) (i : ℕ) (d : Done T) (error : ArtifactError) (result : Result (Unit {0}) ArtifactError) → i < length dones → d ≡ get_or dones i d → HasTaken before (heard_in (endings_of task_state (take i dones))) None between → TakesCalls between (heard_of (how task_state d)) (Err error) after → result ≡ Err error → TakesCalls before (heard_in (endings_of task_state dones)) result after
stop_done task_state before between after dones i d error result within is first takes told =
    subst (λ (r : Result (Unit {0}) ArtifactError). TakesCalls before (heard_in (endings_of task_state dones)) r after) (sym told)
    (stop (heard_of_dones task_state) (dones_split task_state) before between after dones i d error within first
    (subst (λ (x : Done _). TakesCalls between (heard_of_dones task_state (x ∷ [])) (Err error) after) is
    (subst (λ (cs : List AnalyzerCall). TakesCalls between cs (Err error) after) (sym (one_done task_state d)) takes)))
