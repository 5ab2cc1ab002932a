use Rattle.std.proofs.Common.{◌+◌, ap, arith, length}
use Rattle.std.proofs.lemmas.Bool.{leb-true}
use Rattle.jb_rows.proofs.Lengths.{one-more-length}
use Rattle.jb_rows.proofs.tokens.is_too_long.Goals as goal

pub returns : goal.returns
returns c reached =
    let small = leb-true c.args.longest (length c.as_bytes.result.now + length c.args.field.now) reached in
    let size = ap length c.as_bytes.ensures.packed in
    let all = one-more-length c.args.row.now c.args.field.now in
    omega arith
