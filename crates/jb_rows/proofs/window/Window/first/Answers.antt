use Rattle.std.proofs.Common.{◌≡◌, arith, drop, length, length-take, rules, take}
use Rattle.jb_rows.proofs.Opening.{opened}
use Rattle.jb_rows.proofs.window.Window.first.Goals as goal

pub returns : goal.returns
returns g c =
    let size : length c.read_head.new.buffer ≡ 8192 = search rules in
    let read = take c.in_ok-filled.filled c.read_head.new.buffer in
    let count = length-take c.in_ok-filled.filled c.read_head.new.buffer in
    let within = c.in_ok-filled.ensures.within in
    opened (g.R.Read.remaining c.args.stream.now) (g.R.Read.remaining c.read_head.new.stream) read (drop c.mark_len-at.result read) c.in_ok-filled.ensures.read
    (λ short. c.in_ok-filled.ensures.end (omega (arith, short, count, size, within))) c.mark_len-at.ensures.strips
