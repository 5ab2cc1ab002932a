use Rattle.std.proofs.Common.{take, drop, arith, sym}
use Rattle.std.proofs.lemmas.List.{take-append-drop}
use Rattle.std.proofs.KnownBytes.{Appends-trans}
use Rattle.jb_texts.proofs.Fronts.{all-from, front-kept, on-err, take-then}
use Rattle.jb_texts.proofs.whole.write_bytes.Goals as goal

pub returns-in_err-written-clause-front : goal.returns-in_err-written-clause-front
returns-in_err-written-clause-front g c =
    let bytes = c.args.bytes.now in
    let w = c.loop.written in
    on-err c.from_residual.result (front-kept _ _ _ (take w bytes) (drop w bytes) bytes c.loop.invariant.taken c.in_err-written.ensures.bytes (take-append-drop w bytes))

pub loop-preserved : goal.loop-preserved
loop-preserved g c =
    let bytes = c.args.bytes.now in
    let w = c.loop.written in
    let n = c.in_ok-written.field-0 in
    record {
      within = grind (arith, c.in_ok-written.ensures.bound);
      taken = rw (sym (take-then w n bytes)) (Appends-trans _ _ _ (take w bytes) (take n (drop w bytes)) c.loop.invariant.taken (rw (all-from w bytes) at c.in_ok-written.ensures.bytes));
    }

pub returns-clause-front : goal.returns-clause-front
returns-clause-front g c =
    let bytes = c.args.bytes.now in
    let w = c.loop.written in
    (take w bytes, drop w bytes, c.loop.invariant.taken, sym (take-append-drop w bytes))
