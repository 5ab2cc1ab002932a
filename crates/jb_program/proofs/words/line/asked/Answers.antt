use Rattle.std.proofs.Common.{◌≡◌, true, [], map, inl, inr, ap, refl, sym, subst, ◌∙◌}
use Rattle.clap.specs.Words.{App, HasKind, HasMatchesOf, fault_of, is_simple_and_free, kind_of}
use Rattle.clap.specs.declared.error.kind.ErrorKind.TheVariants.{DisplayHelp}
use Rattle.jb_program.specs.CommandLine.{app, request_in}
use Rattle.jb_program.proofs.CommandLines.{ends_in, is_free, simple, taken_asks}
use Rattle.jb_program.proofs.words.line.asked.Goals as goal

pub returns-in-Ok-clause-asks : goal.returns-in-Ok-clause-asks
returns-in-Ok-clause-asks c =
    let words = map (λ w. w.now) c.args.words.now in
    let P : App → Type 0 = λ program. is_simple_and_free program ≡ true → fault_of program words ≡ [] in
    let M : App → Type 0 = λ program. HasMatchesOf program words c.in-Ok.matches in
    let taken : fault_of app words ≡ [] = subst P c.in_ok-command.ensures c.in-Ok.ensures.kinds is_free in
    let found = subst M c.in_ok-command.ensures c.in-Ok.ensures.matches simple in
    taken_asks words c.request_of.result (taken, sym (c.request_of.ensures ∙ ap request_in found.1))

pub returns-in-Ok-clause-nothing : goal.returns-in-Ok-clause-nothing
returns-in-Ok-clause-nothing c none =
    let words = map (λ w. w.now) c.args.words.now in
    let P : App → Type 0 = λ program. is_simple_and_free program ≡ true → fault_of program words ≡ [] in
    let M : App → Type 0 = λ program. HasMatchesOf program words c.in-Ok.matches in
    let taken : fault_of app words ≡ [] = subst P c.in_ok-command.ensures c.in-Ok.ensures.kinds is_free in
    let found = subst M c.in_ok-command.ensures c.in-Ok.ensures.matches simple in
    inl (taken, sym (c.request_of.ensures ∙ ap request_in found.1) ∙ none)

pub returns-in-DisplayHelp-clause-asks : goal.returns-in-DisplayHelp-clause-asks
returns-in-DisplayHelp-clause-asks c =
    let words = map (λ w. w.now) c.args.words.now in
    let P : App → Type 0 = λ program. is_simple_and_free program ≡ true → HasKind (fault_of program words) c.in-Err.fault in
    let kinds : HasKind (fault_of app words) c.in-Err.fault = subst P c.in_ok-command.ensures c.in-Err.ensures.kinds is_free in
    inr (ends_in (fault_of app words) c.in-Err.fault DisplayHelp kinds (sym c.kind.ensures ∙ c.in-DisplayHelp.is) (λ e. cc), c.topic_before.ensures)

pub returns : goal.returns
returns c =
    let words = map (λ w. w.now) c.args.words.now in
    let fault = c.in-Err.fault in
    let P : App → Type 0 = λ program. is_simple_and_free program ≡ true → HasKind (fault_of program words) fault in
    let kinds : HasKind (fault_of app words) fault = subst P c.in_ok-command.ensures c.in-Err.ensures.kinds is_free in
    let other = c.in_default in
    record {
      asks = tt;
      nothing = λ none. inr (
        kind_of fault,
        ends_in (fault_of app words) fault (kind_of fault) kinds refl (λ e. other.not-OutOfMemory (c.kind.ensures ∙ e)),
        (λ e. other.not-DisplayHelp (c.kind.ensures ∙ e)),
        (λ e. other.not-DisplayVersion (c.kind.ensures ∙ e)),
      );
      err = tt;
    }
