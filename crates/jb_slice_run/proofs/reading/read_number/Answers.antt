use Rattle.std.{proofs.Common.{length, sym, ap, ◌∙◌, rules}, proofs.lemmas.Nat.{le_bytes_8}, specs.Int.{w64, from_le_bytes}}
use Rattle.jb_slice_run.{specs.Strings.{number_string}, proofs.Once.{number_length}}
use Rattle.jb_slice_run.proofs.reading.read_number.Goals as goal

pub returns-in-Err : goal.returns-in-Err
returns-in-Err c n is = c.in-Err.ensures.1 (ap length is ∙ number_length n)

pub returns-in-Ok : goal.returns-in-Ok
unfolding number_string
returns-in-Ok c =
    let whole = c.in-Ok.ensures.1 in
    (sym (le_bytes_8 c.args.bytes.now c.from_le_bytes.result whole.long (λ i. search rules) (c.from_le_bytes.ensures ∙ ap (from_le_bytes w64) whole.same)), c.from_le_bytes.type_inv)
