use Rattle.std.proofs.Common.{subst, sym}
use Rattle.jb_cert.specs.Load.{mcnaughton}
use Rattle.jb_cert.specs.Certificates.{Holds}
use Rattle.jb_cert.specs.declared.certificates.Certificate.{Certificate}
use Rattle.jb_rounds.specs.inside.Starts.{counts_between}
use Rattle.jb_cert.specs.Load.{Load}
use Rattle.jb_rounds.proofs.cursor.RoundCursor.certificate.Goals as goal

pub returns-clause-holds : goal.returns-clause-holds
returns-clause-holds c =
    let counts = counts_between c.self.inside.starts.items in
    let threads = c.self.inside.threads in
    subst (λ (load : Load). Holds load.counts load.threads (mcnaughton load.counts load.threads) c.self.inside.certificate) c.self.view_is
    (subst (λ (certificate : Certificate). Holds counts threads (mcnaughton counts threads) certificate) (sym c.self.invariant.certificate_is)
    (c.bound_is_least.ensures.certified counts threads c.self.invariant.limits.some_thread))
