use Rattle.std.proofs.Common.{◌≡◌, ◌+◌, ◌-◌, ◌≤◌, ◌<◌, ℕ, [], ◌∷◌, ◌++◌, drop, decimal, set, ◌∙◌, ap, sym, append_assoc, length-set, arith}
use Rattle.std.proofs.lemmas.List.{drop-set}
use Rattle.std.proofs.Math.ListN.{drop_of_length-le}
use Rattle.jb_cert.specs.WrapAround.{slots_of_round}
use Rattle.jb_texts.specs.PlanText.{lane_text, lanes_text, round_line}
use Rattle.jb_texts.specs.inside.Idle.{idle_text}
use Rattle.jb_texts.proofs.Digits.{byte-before, chunk-length}
use Rattle.jb_texts.proofs.Lanes.{idle-lane, lanes-split}
use Rattle.jb_texts.proofs.plan.lines.write_round.Goals as goal

pub write_digits-requires : goal.write_digits-requires
write_digits-requires c =
    (omega (arith, c.threads.ensures.limits, chunk-length c.args.round c.ranges.round.fits, c.threads.ensures.value, c.busy_lanes-busy.ensures.few, c.write_idle-idle.ensures.begin, c.write_lanes-colon.ensures.begin), omega (arith, c.told-line, c.write_lanes-colon.ensures.begin, c.write_idle-idle.ensures.begin, length-set c.write_lanes-colon.new.line (c.write_lanes-colon.result - 1) 58))

pub returns-clause-line : goal.returns-clause-line
unfolding round_line
returns-clause-line c =
    let load = c.args.cursor.now in
    let round = slots_of_round load.counts load.threads c.args.round in
    let busy = c.busy_lanes-busy.result in
    let idle = c.threads.result - busy in
    let few : busy ≤ load.threads = c.busy_lanes-busy.ensures.few in
    let whole : busy + idle ≡ load.threads = omega (arith, few, c.threads.ensures.value) in
    let is_idle : (l : ℕ) → busy ≤ l → l < busy + idle → lane_text round l ≡ 32 ∷ 45 ∷ [] =
    λ l from to. idle-lane c.lanes_are_found.ensures.found load.counts load.threads c.args.round l (omega (arith, whole, to)) (c.busy_lanes-busy.ensures.idle l from) in
    let lanes : lanes_text busy round ++ idle_text idle ≡ lanes_text load.threads round =
    lanes-split (lane_text round) busy idle is_idle ∙ ap (λ n. lanes_text n round) whole in
    let before = c.args.line.now in
    let end : drop 2069 (set before 2069 10) ≡ 10 ∷ [] = drop-set before 2069 10 (omega (arith, c.told-line)) ∙ ap (λ rest. 10 ∷ rest) (drop_of_length-le before {i = 2070} (omega (arith, c.told-line))) in
    let busy_and_on = c.write_lanes-colon.ensures.written ∙ (λ i. lanes_text busy round ++ (c.write_idle-idle.ensures.written ∙ ap (λ rest. idle_text idle ++ rest) end) i)
    ∙ sym (append_assoc (lanes_text busy round) (idle_text idle) (10 ∷ [])) ∙ ap (λ text. text ++ 10 ∷ []) lanes in
    c.write_digits.ensures.written ∙ ap (λ rest. decimal c.args.round ++ rest) (byte-before c.write_lanes-colon.new.line c.write_lanes-colon.result 58 _ (omega (arith, c.threads.ensures.limits, c.threads.ensures.value, few, c.write_idle-idle.ensures.begin, c.write_lanes-colon.ensures.begin)) (omega (arith, c.told-line, c.write_idle-idle.ensures.begin, c.write_lanes-colon.ensures.begin)) busy_and_on)
