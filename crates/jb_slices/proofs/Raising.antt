-- What a raised limit keeps.
use Rattle.std.proofs.Common.{ℕ, ◌-◌, ◌≤◌, List, [], ◌∷◌, length, take, drop, arith, rules}
use Rattle.std.specs.Prelude.{Option, MatchOption, ⊤}
use Rattle.jb_base.specs.declared.range.Range.{Range}
use Rattle.jb_slices.specs.{Function.{Function, fault_classes}, Job.{AreRaised, IsRaised, Job, Limits, rules_of, slice_at}, LimitLaws.{RaisedJobsStayWhole, RaisedLimitsPass, RaisedLimitsPassAll}, Passing.RangesPass}

pub still-few : (before after : Option ℕ) (n : ℕ) → IsRaised before after → MatchOption before ⊤ (λ l. n ≤ l) → MatchOption after ⊤ (λ l. n ≤ l)
still-few before after n raised few = grind arith

still-raised : (a b c : Option ℕ) → IsRaised a b → IsRaised b c → IsRaised a c
still-raised a b c first second = grind arith

pub raised-twice : (a b c : Limits) → AreRaised a b → AreRaised b c → AreRaised a c
raised-twice a b c first second = record { skips = still-raised _ _ _ first.skips second.skips; job_skips = still-raised _ _ _ first.job_skips second.job_skips; retries = omega (arith, first.retries, second.retries) }

pub pass : RaisedLimitsPass
pass job before after classes raised p = record { skippable = p.skippable; few = still-few before.skips after.skips (length classes) raised.skips p.few }

pub ranges : (job : Job) (before after : Limits) (f : Function) (from : ℕ) (items : List (List ℕ)) (rs : List Range) → AreRaised before after
    → RangesPass f (rules_of job before) from items rs → RangesPass f (rules_of job after) from items rs
ranges job before after f from items [] raised p = tt
ranges job before after f from items (r ∷ rs) raised p =
    (pass job before after (fault_classes f (take (r.hi - from) items)) raised p.0, ranges job before after f r.hi (drop (r.hi - from) items) rs raised p.1)

pub pass_all : RaisedLimitsPassAll
pass_all job before after f items raised p = record { each = λ k. ranges job before after f 0 (slice_at job items k) _ raised (p.each k); few = still-few before.job_skips after.job_skips _ raised.job_skips p.few }

pub whole : RaisedJobsStayWhole
whole job functions before after items folder raised w = record { last = w.last; is_last = w.is_last; whole = λ k low. (let s = w.whole k low in let more = raised-twice _ before after s.raised raised in search rules); few = still-few before.job_skips after.job_skips _ raised.job_skips w.few }
