use Rattle.std.proofs.Common.{◌++◌, option_map, ap, sym, ◌∙◌}
use Rattle.jb_slice_run.{specs.Held.{fault_in}, proofs.Once.{stop_once}}
use Rattle.jb_slice_run.proofs.reading.grow.Goals as goal

pub returns-clause-read : goal.returns-clause-read
returns-clause-read c new small results skips stop =
    let held = c.in_ok-new_output.field-0 in
    let agrees = c.in_ok-new_output.ensures in
    let same = stop_once (option_map fault_in held) new.stop agrees.1 small.stop (sym agrees.0 ∙ stop) in
    let joined = c.in_ok-append.ensures.ok ∙ ap (λ r. c.args.new_output.now.results ++ r) results in
    let more = c.in_ok-read_faults.ensures.read new.skips small.skips skips in
    λ i. record { results = joined i; skips = more i; stop = same i }
