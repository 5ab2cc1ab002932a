use Rattle.std.proofs.Common.{◌≡◌, ◌≤◌, ◌-◌, arith, length, rules, take}
use Rattle.jb_rows.proofs.Opening.{behind-read, consumed-more, consumed-none}
use Rattle.jb_rows.proofs.window.read_head.Goals as goal

pub loop-filled-init : goal.loop-filled-init
loop-filled-init g c = record { within = omega arith; read = consumed-none (g.R.Read.remaining c.args.stream.now) }

pub loop-filled-preserved : goal.loop-filled-preserved
loop-filled-preserved g c =
    let size : length c.loop-filled.buffer ≡ 8192 = search rules in
    let part : length c.read.new.buf ≡ 8192 - c.loop-filled.filled = search rules in
    let few : c.in_ok-count.count ≤ length c.read.new.buf = c.in_ok-count.ensures.bound.0 in
    let within : c.loop-filled.filled ≤ length c.loop-filled.buffer = omega (arith, c.loop-filled.invariant.within) in
    record {
      within = omega (arith, c.loop-filled.invariant.within);
      read = consumed-more _ (g.R.Read.remaining c.loop-filled.stream) _ _ (take c.in_ok-count.count c.read.new.buf) _ c.loop-filled.invariant.read c.in_ok-count.ensures.bytes.0
          (behind-read c.loop-filled.filled (8192 - c.loop-filled.filled) c.in_ok-count.count c.loop-filled.buffer c.read.new.buf within few);
    }
