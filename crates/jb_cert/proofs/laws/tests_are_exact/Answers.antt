use Rattle.jb_cert.proofs.LowerBound.{none_shorter_certified}
use Rattle.jb_cert.proofs.Meant.{holds_from_test, test_from_holds, least_from_test, test_from_least}
use Rattle.jb_cert.proofs.laws.tests_are_exact.Goals as goal

pub returns-clause-shortest : goal.returns-clause-shortest
returns-clause-shortest c = none_shorter_certified

pub returns-clause-certifies : goal.returns-clause-certifies
returns-clause-certifies c = λ counts threads rounds certificate.
    (holds_from_test counts threads rounds certificate, test_from_holds counts threads rounds certificate)

pub returns-clause-least : goal.returns-clause-least
returns-clause-least c = λ counts threads rounds certificate some. (
  least_from_test counts threads rounds certificate some,
  λ least. test_from_least counts threads rounds certificate some least.0 least.1,
)
