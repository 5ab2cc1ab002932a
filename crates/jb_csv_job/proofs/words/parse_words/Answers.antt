use Rattle.std.proofs.Common.{◌≡◌, ◌∙◌, inl, inr, map, option_map, refl, subst, sym, true, []}
use Rattle.clap.specs.{Words.{App, HasKind, HasMatchesOf, fault_of, is_simple_and_free, kind_of}, declared.error.kind.ErrorKind.TheVariants.{DisplayHelp, DisplayVersion}}
use Rattle.jb_csv_job.specs.{CommandLine.{IsLine, job_app}, Matched.{all_in, first_in}, declared.asked.OwnOption.{OwnOption}}
use Rattle.jb_csv_job.proofs.Matching.{ends_in, is_free, line-said, refused-by, simple, wrong-said}
use Rattle.jb_csv_job.proofs.words.parse_words.Goals as goal

pub returns-in-Ok-clause-refused : goal.returns-in-Ok-clause-refused
returns-in-Ok-clause-refused c =
    let name = c.args.about.now.name.now in
    let own = option_map (λ (o : OwnOption). o.name.now) c.args.own in
    let words = map (λ w. w.now) c.args.words.now in
    let M : App → Type 0 = λ app. HasMatchesOf app words c.in-Ok.matches in
    let found = subst M c.in_ok-command.ensures c.in-Ok.ensures.matches (simple name own) in
    let failure = c.in-Err-asked_in.failure in
    refused-by name own words failure (wrong-said c.in-Ok.matches name own words found.0 failure c.in-Err-asked_in.ensures.wrong)

pub returns-in-Ok-asked_in-clause-asks : goal.returns-in-Ok-asked_in-clause-asks
returns-in-Ok-asked_in-clause-asks c =
    let name = c.args.about.now.name.now in
    let own = option_map (λ (o : OwnOption). o.name.now) c.args.own in
    let words = map (λ w. w.now) c.args.words.now in
    let P : App → Type 0 = λ app. is_simple_and_free app ≡ true → fault_of app words ≡ [] in
    let M : App → Type 0 = λ app. HasMatchesOf app words c.in-Ok.matches in
    let taken : fault_of (job_app name own) words ≡ [] = subst P c.in_ok-command.ensures c.in-Ok.ensures.kinds (is_free name own) in
    let found = subst M c.in_ok-command.ensures c.in-Ok.ensures.matches (simple name own) in
    let asked = c.in-Ok-asked_in.asked in
    let said = subst (λ o. IsLine (first_in c.in-Ok.matches) (all_in c.in-Ok.matches) o asked) c.own_name-own.ensures c.in-Ok-asked_in.ensures.said in
    (taken, line-said c.in-Ok.matches name own words found.0 asked said)

pub returns-in-DisplayHelp-clause-asks : goal.returns-in-DisplayHelp-clause-asks
returns-in-DisplayHelp-clause-asks c =
    let name = c.args.about.now.name.now in
    let own = option_map (λ (o : OwnOption). o.name.now) c.args.own in
    let words = map (λ w. w.now) c.args.words.now in
    let fault = c.in-Err.fault in
    let P : App → Type 0 = λ app. is_simple_and_free app ≡ true → HasKind (fault_of app words) fault in
    let kinds : HasKind (fault_of (job_app name own) words) fault = subst P c.in_ok-command.ensures c.in-Err.ensures.kinds (is_free name own) in
    elim c.in-DisplayHelp.is [
      | inl help ↦ inl (ends_in (fault_of (job_app name own) words) fault DisplayHelp kinds (sym c.kind.ensures ∙ help) (λ e. cc))
      | inr version ↦ inr (ends_in (fault_of (job_app name own) words) fault DisplayVersion kinds (sym c.kind.ensures ∙ version) (λ e. cc))
    ]

pub returns : goal.returns
returns c =
    let name = c.args.about.now.name.now in
    let own = option_map (λ (o : OwnOption). o.name.now) c.args.own in
    let words = map (λ w. w.now) c.args.words.now in
    let fault = c.in-Err.fault in
    let P : App → Type 0 = λ app. is_simple_and_free app ≡ true → HasKind (fault_of app words) fault in
    let kinds : HasKind (fault_of (job_app name own) words) fault = subst P c.in_ok-command.ensures c.in-Err.ensures.kinds (is_free name own) in
    let other = c.in_default in
    record {
      asks = tt;
      refused = (
        kind_of fault,
        ends_in (fault_of (job_app name own) words) fault (kind_of fault) kinds refl (λ e. other.not-OutOfMemory (c.kind.ensures ∙ e)),
        (λ e. other.not-DisplayHelp (c.kind.ensures ∙ e)),
        (λ e. other.not-DisplayVersion (c.kind.ensures ∙ e)),
      );
    }
