-- Calls one after another, up to the first fault.
use Rattle.std.proofs.Common.{◌≡◌, List, [], ◌∷◌, ◌++◌, drop, length, map, Option, Some, None, Result, Ok, Err, MatchOption, refl, ap, ap₂, sym, ◌∙◌, subst, append_assoc, append-nil}
use Rattle.std.proofs.Math.Seq.{drop-append_seam}
use Rattle.jb_base.specs.declared.class.ClassId.{ClassId}
use Rattle.jb_base.specs.declared.artifact_error.ArtifactError.{ArtifactError}
use Rattle.jb_base.specs.declared.artifact_error.ArtifactError.TheVariants.{Fault, Memory}
use Rattle.jb_collect.specs.declared.calls.AnalyzerCall.{AnalyzerCall}
use Rattle.jb_collect.specs.Laws.{AllAreTaken, TakenUpToTheFault, SomeAreTaken, TakenOneAfterAnother, NoneAfterAFault}
use Rattle.jb_collect.specs.AnsweredCalls.{AnsweredCall, AreTaken, Grew, HasTaken, TakesCall, TakesCalls, since, well, faulted}

none_some : (f : Option ClassId) (class : ClassId) → f ≡ None → f ≡ Some class → ⊥
none_some f class none some = cc

module _ {C : Type 0} where
  -- ---- what was taken

  well_one : (o : Option ClassId) (c d : C) (cs : List C) (ts : List (AnsweredCall C)) → d ≡ c → MatchOption o (AreTaken cs None ts) (λ class. (None ≡ Some class) × (ts ≡ [])) → (AreTaken cs None ts → ts ≡ map well cs) → record { call = d; fault = o } ∷ ts ≡ well c ∷ map well cs
  well_one None c d cs ts same taken more = ap₂ ◌∷◌ (ap well same) (more taken)
  well_one (Some class) c d cs ts same taken more = let never : ⊥ = none_some None class refl taken.0 in absurd never

  pub all_well : (cs : List C) (ts : List (AnsweredCall C)) → AreTaken cs None ts → ts ≡ map well cs
  all_well [] [] taken = refl
  all_well [] (t ∷ ts) taken = absurd taken
  all_well (c ∷ cs) [] taken = absurd taken
  all_well (c ∷ cs) (t ∷ ts) taken = well_one t.fault c t.call cs ts taken.0 taken.1 (all_well cs ts)

  pub record IsUpTo (cs : List C) (class : ClassId) (ts : List (AnsweredCall C)) : Type 0 where
    pub first : List C
    pub last : C
    pub rest : List C
    pub calls_are : cs ≡ first ++ last ∷ rest
    pub taken : ts ≡ map well first ++ faulted last class ∷ []

  up_to_one : (o : Option ClassId) (c d : C) (cs : List C) (class : ClassId) (ts : List (AnsweredCall C)) → d ≡ c → MatchOption o (AreTaken cs (Some class) ts) (λ found. (Some class ≡ Some found) × (ts ≡ [])) → (AreTaken cs (Some class) ts → IsUpTo cs class ts) → IsUpTo (c ∷ cs) class (record { call = d; fault = o } ∷ ts)
  up_to_one None c d cs class ts same taken more =
      let there = more taken in
      record {
        first = c ∷ there.first;
        last = there.last;
        rest = there.rest;
        calls_are = ap (λ (xs : List C). c ∷ xs) there.calls_are;
        taken = ap₂ ◌∷◌ (ap well same) there.taken;
      }
  up_to_one (Some found) c d cs class ts same taken more =
      let here : record { call = d; fault = Some found } ≡ faulted c class = ap₂ (λ (x : C) (o : Option ClassId). record { call = x; fault = o }) same (sym taken.0) in
      record {
        first = [];
        last = c;
        rest = cs;
        calls_are = refl;
        taken = ap₂ ◌∷◌ here taken.1;
      }

  pub up_to : (cs : List C) (class : ClassId) (ts : List (AnsweredCall C)) → AreTaken cs (Some class) ts → IsUpTo cs class ts
  up_to [] class [] taken = let never : ⊥ = none_some (Some class) class taken refl in absurd never
  up_to [] class (t ∷ ts) taken = absurd taken
  up_to (c ∷ cs) class [] taken = absurd taken
  up_to (c ∷ cs) class (t ∷ ts) taken = up_to_one t.fault c t.call cs class ts taken.0 taken.1 (up_to cs class ts)

  -- ---- one after another

  more_one : (o : Option ClassId) (cs ds : List C) (fault : Option ClassId) (ts us : List (AnsweredCall C)) → MatchOption o (AreTaken cs None ts) (λ class. (None ≡ Some class) × (ts ≡ [])) → (AreTaken cs None ts → AreTaken (cs ++ ds) fault (ts ++ us)) → MatchOption o (AreTaken (cs ++ ds) fault (ts ++ us)) (λ class. (fault ≡ Some class) × (ts ++ us ≡ []))
  more_one None cs ds fault ts us taken more = more taken
  more_one (Some class) cs ds fault ts us taken more = let never : ⊥ = none_some None class refl taken.0 in absurd never

  more : (cs ds : List C) (fault : Option ClassId) (ts us : List (AnsweredCall C)) → AreTaken cs None ts → AreTaken ds fault us → AreTaken (cs ++ ds) fault (ts ++ us)
  more [] ds fault [] us taken next = next
  more [] ds fault (t ∷ ts) us taken next = absurd taken
  more (c ∷ cs) ds fault [] us taken next = absurd taken
  more (c ∷ cs) ds fault (t ∷ ts) us taken next = (taken.0, more_one t.fault cs ds fault ts us taken.1 (λ rest. more cs ds fault ts us rest next))

  over_one : (o : Option ClassId) (cs ds : List C) (class : ClassId) (ts : List (AnsweredCall C)) → MatchOption o (AreTaken cs (Some class) ts) (λ found. (Some class ≡ Some found) × (ts ≡ [])) → (AreTaken cs (Some class) ts → AreTaken (cs ++ ds) (Some class) ts) → MatchOption o (AreTaken (cs ++ ds) (Some class) ts) (λ found. (Some class ≡ Some found) × (ts ≡ []))
  over_one None cs ds class ts taken rest = rest taken
  over_one (Some found) cs ds class ts taken rest = taken

  over : (cs ds : List C) (class : ClassId) (ts : List (AnsweredCall C)) → AreTaken cs (Some class) ts → AreTaken (cs ++ ds) (Some class) ts
  over [] ds class [] taken = let never : ⊥ = none_some (Some class) class taken refl in absurd never
  over [] ds class (t ∷ ts) taken = absurd taken
  over (c ∷ cs) ds class [] taken = absurd taken
  over (c ∷ cs) ds class (t ∷ ts) taken = (taken.0, over_one t.fault cs ds class ts taken.1 (over cs ds class ts))

  -- ---- since a moment

  pub since_is : (before after next : List (AnsweredCall C)) → after ≡ before ++ next → next ≡ since before after
  since_is before after next e = sym (ap (λ (xs : List (AnsweredCall C)). drop (length before) xs) e ∙ drop-append_seam before next)

  pub has_grown : (before after next : List (AnsweredCall C)) → after ≡ before ++ next → Grew before after
  has_grown before after next e = e ∙ ap (λ (xs : List (AnsweredCall C)). before ++ xs) (since_is before after next e)

  pub has_taken : (before after next : List (AnsweredCall C)) (cs : List C) (fault : Option ClassId) → after ≡ before ++ next → AreTaken cs fault next → HasTaken before cs fault after
  has_taken before after next cs fault e taken = record { grown = has_grown before after next e; taken = subst (AreTaken cs fault) (since_is before after next e) taken }

  pub none_taken : (before : List (AnsweredCall C)) → HasTaken before [] None before
  none_taken before = has_taken before before [] [] None (sym (append-nil before)) refl

  -- over a moment between
  pub behind : (before between after : List (AnsweredCall C)) → Grew before between → Grew between after → after ≡ before ++ (since before between ++ since between after)
  behind before between after one two =
      two ∙ ap (λ (xs : List (AnsweredCall C)). xs ++ since between after) one ∙ append_assoc before (since before between) (since between after)

  pub one_after_another : (before between after : List (AnsweredCall C)) (cs ds : List C) (fault : Option ClassId) → HasTaken before cs None between → HasTaken between ds fault after → HasTaken before (cs ++ ds) fault after
  one_after_another before between after cs ds fault first then_ =
      has_taken before after (since before between ++ since between after) (cs ++ ds) fault (behind before between after first.grown then_.grown)
      (more cs ds fault (since before between) (since between after) first.taken then_.taken)

  pub none_after : (before after : List (AnsweredCall C)) (cs ds : List C) (class : ClassId) → HasTaken before cs (Some class) after → HasTaken before (cs ++ ds) (Some class) after
  none_after before after cs ds class h = record { grown = h.grown; taken = over cs ds class (since before after) h.taken }

  -- ---- by what was answered

  -- one call is a list of one
  pub takes_one : (before after : List (AnsweredCall C)) (c : C) (result : Result (Unit {0}) ArtifactError) → TakesCall before c result after → TakesCalls before (c ∷ []) result after
  takes_one before after c (Ok done) takes = has_taken before after (well c ∷ []) (c ∷ []) None takes (refl, refl)
  takes_one before after c (Err (Fault class)) takes = has_taken before after (faulted c class ∷ []) (c ∷ []) (Some class) takes (refl, (refl, refl))
  takes_one before after c (Err Memory) takes = record {
    first = [];
    next = c;
    rest = [];
    calls_are = refl;
    taken = subst (HasTaken before [] None) (sym takes) (none_taken before);
  }

  -- more calls after some that were answered well
  pub takes_more : (before between after : List (AnsweredCall C)) (cs ds : List C) (result : Result (Unit {0}) ArtifactError) → HasTaken before cs None between → TakesCalls between ds result after → TakesCalls before (cs ++ ds) result after
  takes_more before between after cs ds (Ok done) first then_ = one_after_another before between after cs ds None first then_
  takes_more before between after cs ds (Err (Fault class)) first then_ = one_after_another before between after cs ds (Some class) first then_
  takes_more before between after cs ds (Err Memory) first then_ = record {
    first = cs ++ then_.first;
    next = then_.next;
    rest = then_.rest;
    calls_are = ap (λ (xs : List C). cs ++ xs) then_.calls_are ∙ sym (append_assoc cs then_.first (then_.next ∷ then_.rest));
    taken = one_after_another before between after cs then_.first None first then_.taken;
  }

  -- none after an error
  pub takes_no_more : (before after : List (AnsweredCall C)) (cs ds : List C) (error : ArtifactError) → TakesCalls before cs (Err error) after → TakesCalls before (cs ++ ds) (Err error) after
  takes_no_more before after cs ds (Fault class) takes = none_after before after cs ds class takes
  takes_no_more before after cs ds Memory takes = record {
    first = takes.first;
    next = takes.next;
    rest = takes.rest ++ ds;
    calls_are = ap (λ (xs : List C). xs ++ ds) takes.calls_are ∙ append_assoc takes.first (takes.next ∷ takes.rest) ds;
    taken = takes.taken;
  }

-- ---- the laws

pub all_are_taken : AllAreTaken
all_are_taken before after calls taken =
    taken.grown ∙ ap (λ (xs : List (AnsweredCall AnalyzerCall)). before ++ xs) (all_well calls (since before after) taken.taken)

pub taken_up_to_the_fault : TakenUpToTheFault
taken_up_to_the_fault before after calls class taken =
    let found = up_to calls class (since before after) taken.taken in
    record {
      first = found.first;
      last = found.last;
      rest = found.rest;
      calls_are = found.calls_are;
      taken = taken.grown ∙ ap (λ (xs : List (AnsweredCall AnalyzerCall)). before ++ xs) found.taken;
    }

pub some_are_taken : SomeAreTaken
some_are_taken before after calls some = all_are_taken before after some.first some.taken

pub taken_one_after_another : TakenOneAfterAnother
taken_one_after_another before between after calls later fault first then_ = one_after_another before between after calls later fault first then_

pub none_after_a_fault : NoneAfterAFault
none_after_a_fault before after calls later class taken = none_after before after calls later class taken
