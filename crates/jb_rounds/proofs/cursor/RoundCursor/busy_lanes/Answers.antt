use Rattle.std.proofs.Common.{◌≡◌, ◌-◌, ℕ, List, sum, subst, ap, ◌∙◌, arith}
use Rattle.std.specs.Int.{div_ceil}
use Rattle.jb_cert.specs.Load.{Load}
use Rattle.jb_rounds.specs.inside.Starts.{counts_between}
use Rattle.jb_rounds.proofs.Busy.{BusyLanes, busy_lanes_are}
use Rattle.jb_rounds.proofs.cursor.RoundCursor.busy_lanes.Goals as goal
use Rattle.jb_rounds.proofs.cursor.RoundCursor.busy_lanes.Goals.{After-chunk_total, After-div_ceil}

total : (c : After-chunk_total) → c.chunk_total.result ≡ sum (counts_between c.self.inside.starts.items)
total c = c.chunk_total.ensures ∙ ap (λ (starts : List ℕ). sum (counts_between starts)) c.deref.ensures.value

kept_lanes : (c : After-div_ceil) → BusyLanes (record { counts = counts_between c.self.inside.starts.items; threads = c.self.inside.threads }) c.args.round c.div_ceil.result
kept_lanes c =
    let kept = c.self.invariant in
    let dealt : c.div_ceil.result ≡ div_ceil (sum (counts_between c.self.inside.starts.items) - c.args.round) c.self.inside.rounds =
    c.div_ceil.ensures ∙ ap (λ (n : ℕ). div_ceil (n - c.args.round) c.self.inside.rounds) (total c.before) in
    busy_lanes_are _ c.args.round c.self.inside.rounds c.div_ceil.result kept.bound kept.room c.if-round-self.false dealt

lanes : (c : After-div_ceil) → BusyLanes c.args.self.now c.args.round c.div_ceil.result
lanes c = subst (λ (load : Load). BusyLanes load c.args.round c.div_ceil.result) c.self.view_is (kept_lanes c)

pub overflow_sub-chunk_total : goal.overflow_sub-chunk_total
overflow_sub-chunk_total c = omega (arith, c.self.invariant.few_rounds, total (goal.at.overflow_sub-chunk_total c).After-chunk_total, c.if-round-self.false)

pub overflow_cast-result : goal.overflow_cast-result
overflow_cast-result c = omega (arith, (kept_lanes (goal.at.overflow_cast-result c).After-div_ceil).few, c.self.invariant.limits.few_threads)

pub returns-clause-few : goal.returns-clause-few
returns-clause-few c = (lanes (goal.at.returns-clause-few c).After-div_ceil).few

pub returns-clause-busy : goal.returns-clause-busy
returns-clause-busy c = (lanes (goal.at.returns-clause-busy c).After-div_ceil).busy

pub returns-clause-idle : goal.returns-clause-idle
returns-clause-idle c = (lanes (goal.at.returns-clause-idle c).After-div_ceil).idle
