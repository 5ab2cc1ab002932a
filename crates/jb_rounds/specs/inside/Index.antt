-- The invariant of a cursor's fields.
use Rattle.std.specs.Prelude.{◌≡◌, ℕ, ◌*◌, ◌≤◌, List, sum}
use Rattle.jb_cert.specs.declared.certificates.Certificate.{Certificate}
use Rattle.jb_cert.specs.Load.{IsWithinLimits, mcnaughton}
use Rattle.jb_cert.specs.Certificates.{bound_certificate}
use Rattle.jb_rounds.specs.inside.Starts.{starts_from, counts_between}

-- where the partitions begin determines their counts, and the counts and the threads determine the rest
pub record IsIndexOf (starts : List ℕ) (threads rounds : ℕ) (certificate : Certificate) : Type 0 where
  pub indexed : starts ≡ starts_from 0 (counts_between starts)
  pub limits : IsWithinLimits (counts_between starts) threads
  pub bound : rounds ≡ mcnaughton (counts_between starts) threads
  pub few_rounds : rounds ≤ sum (counts_between starts)
  pub room : sum (counts_between starts) ≤ rounds * threads
  pub certificate_is : certificate ≡ bound_certificate (counts_between starts) threads
