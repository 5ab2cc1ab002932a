-- What comes of parts.
use Rattle.std.proofs.Common.{ℕ, ◌/◌, ◌%◌, sym, ap, ◌∙◌, arith}
use Rattle.std.proofs.Math.Nat.{add-mul-mod_self_right, mod-add-div', mod-eq_of_lt}
use Rattle.jb_slices.specs.PartLaws.{CollectsAreJobs, EachIsInAPart, PartsAreApart}

pub apart : PartsAreApart
apart part other of number within also here there =
    sym (mod-eq_of_lt within) ∙ sym (add-mul-mod_self_right part here.0 of) ∙ ap (λ (n : ℕ). n % of) (sym here.1 ∙ there.1)
    ∙ add-mul-mod_self_right other there.0 of ∙ mod-eq_of_lt also

pub each : EachIsInAPart
each of number some = (number % of, omega (arith, some), (number / of, sym (mod-add-div' number of)))

pub collects : CollectsAreJobs
collects job functions items folders folder_of jobs = record { each = λ k. (jobs (folder_of k)).each k; none = λ k. (jobs (folder_of k)).none k }
