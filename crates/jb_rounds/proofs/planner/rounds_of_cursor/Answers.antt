use Rattle.std.proofs.Common.{◌≡◌, ◌+◌, map, zero-add}
use Rattle.std.specs.List.{range_with_len}
use Rattle.std.proofs.lemmas.List.{map_push}
use Rattle.std.proofs.lemmas.List.FromFn.{map-range_with_len_more}
use Rattle.jb_cert.specs.WrapAround.{slots_of_round}
use Rattle.jb_rounds.proofs.planner.rounds_of_cursor.Goals as goal

pub loop-round-preserved : goal.loop-round-preserved
loop-round-preserved c =
    let step = map-range_with_len_more (slots_of_round c.args.cursor.now.counts c.args.cursor.now.threads) 0 c.loop-round.round c.loop-round.round (zero-add c.loop-round.round) in
    let pushed = map_push (λ round. round.items) c.loop-round.rounds.items c.in_ok-slots.slots in
    let items = c.in_ok-push.ensures.items in
    let made = c.in_ok-slots.ensures in
    let all : map (λ round. round.items) c.push.new.self.items ≡ map (slots_of_round c.args.cursor.now.counts c.args.cursor.now.threads) (range_with_len 0 (c.loop-round.round + 1)) = cc in
    all
