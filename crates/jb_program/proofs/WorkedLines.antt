-- What some command lines ask for.
use Rattle.std.proofs.Common.{◌≡◌, List, [], ◌∷◌, Some, None, arith, codes, inl, inr, refl, subst, sym, take}
use Rattle.clap.specs.Words.{Text}
use Rattle.clap.specs.declared.error.kind.ErrorKind.TheVariants.{UnknownArgument}
use Rattle.clap.proofs.OnLiterals.{clap_on_literals}
use Rattle.jb_program.specs.declared.words.request.Request.TheVariants.{Help, Version, Perform}
use Rattle.jb_program.specs.declared.words.request.Word.TheVariants.{Run, Restart, Plan, Check}
use Rattle.jb_program.specs.declared.words.fault.Reason.TheVariants.{Rounds, Document, Unknown}
use Rattle.jb_program.specs.CommandLine.{AreUnknown, Asks, CanBeCompleted, IsWrongWord, reason_after}

a_word : Asks (codes "check" ∷ []) (Perform (record { word = Check; rounds = None }))
unfolding clap_on_literals
a_word = (refl, refl)

help : Asks (codes "help" ∷ []) (Help None)
unfolding clap_on_literals
help = inl (refl, refl)

help_with_a_word : Asks (codes "help" ∷ codes "plan" ∷ []) (Help (Some Plan))
unfolding clap_on_literals
help_with_a_word = inl (refl, refl)

help_as_an_option : Asks (codes "--help" ∷ []) (Help None)
unfolding clap_on_literals
help_as_an_option = inr (inl refl, refl)

help_behind_a_word : Asks (codes "run" ∷ codes "-h" ∷ []) (Help (Some Run))
unfolding clap_on_literals
help_behind_a_word = inr (inl refl, refl)

version : Asks (codes "--version" ∷ []) Version
unfolding clap_on_literals
version = inl refl

nothing : AreUnknown []
unfolding clap_on_literals
nothing = inl (refl, refl)

another_word : AreUnknown (codes "help" ∷ codes "walk" ∷ [])
unfolding clap_on_literals
another_word = inl (refl, refl)

a_word_twice : AreUnknown (codes "run" ∷ codes "run" ∷ [])
unfolding clap_on_literals
a_word_twice = inr (UnknownArgument, inl refl, (λ e. cc), (λ e. cc))

a_number_of_rounds : Asks (codes "restart" ∷ codes "--rounds" ∷ codes "1" ∷ []) (Perform (record { word = Restart; rounds = Some 1 }))
unfolding clap_on_literals
a_number_of_rounds = (refl, refl)

no_number_of_rounds : AreUnknown (codes "run" ∷ codes "--rounds" ∷ codes "1000000001" ∷ [])
unfolding clap_on_literals
no_number_of_rounds = inl (refl, refl)

help_for_help : Asks (codes "help" ∷ codes "help" ∷ []) (Help None)
unfolding clap_on_literals
help_for_help = inl (refl, refl)

version_behind_a_word : Asks (codes "run" ∷ codes "--version" ∷ []) Version
unfolding clap_on_literals
version_behind_a_word = inl refl

-- why a word is wrong
a_missing_number : reason_after (codes "run" ∷ []) (codes "--rounds") ≡ Rounds
a_missing_number = refl

a_number_past_the_most : reason_after (codes "run" ∷ codes "--rounds" ∷ []) (codes "1000000001") ≡ Rounds
a_number_past_the_most = refl

a_path : reason_after (codes "run" ∷ codes "--rounds" ∷ codes "1" ∷ []) (codes "job.json") ≡ Document
a_path = refl

another_option : reason_after (codes "run" ∷ []) (codes "-x") ≡ Unknown
another_option = refl

-- the option belongs to `run` and `restart` alone: it is the wrong word, not the number behind it
rounds_line : List Text
rounds_line = codes "plan" ∷ codes "--rounds" ∷ codes "1" ∷ []

the_option : IsWrongWord rounds_line (codes "--rounds") Rounds
unfolding clap_on_literals rounds_line
the_option = record {
  unknown = inr (UnknownArgument, inl refl, (λ e. cc), (λ e. cc));
  place = 1;
  told = record {
    word = codes "--rounds";
    is_there = refl;
    is_escaped = refl;
    is_why = refl;
  };
  before = λ n some to. let one : n ≡ 1 = omega (arith, some, to) in
      subst (λ m. CanBeCompleted (take m rounds_line)) (sym one) (Perform (record { word = Plan; rounds = None }), inl (refl, refl));
  up_to = inl (inr (UnknownArgument, inl refl, (λ e. cc), (λ e. cc)), inr (UnknownArgument, inl refl, (λ e. cc), (λ e. cc)));
}
