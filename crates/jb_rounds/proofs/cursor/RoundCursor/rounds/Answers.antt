use Rattle.std.proofs.Common.{◌≤◌, ℕ, subst, sym}
use Rattle.jb_cert.specs.Lawful.{IsLeastNumber}
use Rattle.jb_rounds.specs.inside.Starts.{counts_between}
use Rattle.jb_cert.specs.Load.{Load}
use Rattle.jb_rounds.proofs.cursor.RoundCursor.rounds.Goals as goal

pub returns-clause-least : goal.returns-clause-least
returns-clause-least c =
    let counts = counts_between c.self.inside.starts.items in
    let threads = c.self.inside.threads in
    subst (λ (load : Load). IsLeastNumber load.counts load.threads c.self.inside.rounds) c.self.view_is
    (subst (λ (n : ℕ). IsLeastNumber counts threads n) (sym c.self.invariant.bound)
    (c.bound_is_least.ensures.least counts threads c.self.invariant.limits.some_thread))

pub returns-clause-plan : goal.returns-clause-plan
returns-clause-plan c =
    let some : 1 ≤ c.args.self.now.threads = subst (λ (load : Load). 1 ≤ load.threads) c.self.view_is c.self.invariant.limits.some_thread in
    c.wrap_around_is_least.ensures.least c.args.self.now.counts c.args.self.now.threads some
