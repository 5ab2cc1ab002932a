use Rattle.std.proofs.Common.{◌≡◌, ◌∷◌, ◌++◌, [], codes, map, inl, inr, sym, ap, subst, ◌∙◌}
use Rattle.std.specs.Prelude.{IfSome}
use Rattle.jb_program.specs.CommandLine.{AreUnknown, Asks}
use Rattle.jb_program.proofs.CommandLines.{asks-something, asks-nothing}
use Rattle.jb_program.proofs.words.line.can_go_on.Goals as goal

pub returns-then-is_some-clause-yes : goal.returns-then-is_some-clause-yes
returns-then-is_some-clause-yes c =
    let found = asks-something c.in_ok-asked.field-0 (map (λ w. w.now) c.args.words.now) c.in_ok-asked.ensures.asks (sym c.is_some.ensures ∙ c.if-is_some.true) in
    λ can. (found.0, inl found.1)

pub returns-clause-yes : goal.returns-clause-yes
returns-clause-yes c can =
    let same : map (λ w. w.now) c.deref.result.now ≡ map (λ w. w.now) c.args.words.now ++ codes "0" ∷ [] = ap (map (λ w. w.now)) c.deref.ensures.value ∙ c.in_ok-longer.ensures in
    let found = asks-something c.in_ok-asked-2.field-0 (map (λ w. w.now) c.args.words.now ++ codes "0" ∷ [])
    (subst (λ words. IfSome c.in_ok-asked-2.field-0 (Asks words)) same c.in_ok-asked-2.ensures.asks) (sym c.is_some-2.ensures ∙ can) in
    (found.0, inr found.1)

pub returns-clause-no : goal.returns-clause-no
returns-clause-no c not =
    let same : map (λ w. w.now) c.deref.result.now ≡ map (λ w. w.now) c.args.words.now ++ codes "0" ∷ [] = ap (map (λ w. w.now)) c.deref.ensures.value ∙ c.in_ok-longer.ensures in (
      c.in_ok-asked.ensures.nothing (asks-nothing c.in_ok-asked.field-0 (sym c.is_some.ensures ∙ c.if-is_some.false)),
      subst AreUnknown same (c.in_ok-asked-2.ensures.nothing (asks-nothing c.in_ok-asked-2.field-0 (sym c.is_some-2.ensures ∙ not))),
    )
