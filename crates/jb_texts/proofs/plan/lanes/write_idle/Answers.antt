use Rattle.std.proofs.Common.{◌≡◌, ◌+◌, ◌-◌, ◌*◌, ◌++◌, take, drop, ap, ◌∙◌, arith}
use Rattle.std.proofs.lemmas.List.{drop_at, drop-drop, length-take-le}
use borrow.Rule.Slice.PartMut.{post_of}
use Rattle.jb_texts.proofs.Lanes.{take-idle}
use Rattle.jb_texts.proofs.plan.lanes.write_idle.Goals as goal

pub returns-clause-written : goal.returns-clause-written
returns-clause-written c =
    let line = c.args.line.now in
    let bytes = 2 * c.args.lanes in
    let begin = c.args.end - bytes in
    let idle = c.copy_from_slice.ensures.after ∙ take-idle c.args.lanes 64 c.requires.lanes in
    let rest : begin + (c.args.end - begin) ≡ c.args.end = omega (arith, c.requires.room) in
    drop_at (take begin line) (c.copy_from_slice.new.self ++ post_of begin (c.args.end - begin) line) begin (length-take-le begin line (omega (arith, c.requires.room)))
    ∙ (λ i. idle i ++ (drop-drop (c.args.end - begin) begin line ∙ ap (λ n. drop n line) rest) i)
