use Rattle.std.proofs.{Common.{ℕ, ◌<◌, get_or, length, rules, sym, ap, ap₂, ◌++◌, ◌∙◌, length-append, arith}, lemmas.Grind.{common_steps}, lemmas.List.{get_or-take, get_or_past, length-take, take-append-drop}, lemmas.Nat.{le_bytes_4}}
use Rattle.jb_slice_run.{specs.Coding.{coded_number}, proofs.Codings.{number_length}}
use Rattle.jb_slice_run.proofs.decoding.read_number.Goals as goal

pub returns-in_err-front : goal.returns-in_err-front
returns-in_err-front c = rw c.from_residual.ensures (λ n rest e. omega (arith, c.in_err-front.ensures.cases, ap length e, length-append (coded_number n) rest, number_length n))

pub returns : goal.returns
unfolding coded_number
returns c =
    let parts = c.in_ok-front.ensures.cases in
    let few : (i : ℕ) → get_or c.in_ok-front.front.now i 0 < 256 = λ i. rw parts.0 (grind (arith, common_steps, get_or-take, get_or_past, length-take, c.type_inv.bytes i)) in
    let four = le_bytes_4 c.in_ok-front.front.now c.from_le_bytes.result (search rules) few c.from_le_bytes.ensures in
    (sym (take-append-drop 4 c.args.bytes.now) ∙ ap₂ ◌++◌ (sym parts.0 ∙ sym four) (sym parts.1), c.from_le_bytes.type_inv)
