use Rattle.std.{proofs.Common.{take, sym, [], ◌++◌, get_or, arith, ap, ◌∙◌, append_assoc, take_all}, proofs.lemmas.List.{take_more, flat_map_more}, specs.Prelude.{flat_map}}
use Rattle.sha2.specs.Sha256.{sha256}
use Rattle.jb_slices.specs.Checkpoint.{coded_item, digest_of}
use Rattle.jb_slice_run.specs.Coding.{coded_number}
use Rattle.jb_slice_run.proofs.digest.digest_of.Goals as goal

pub loop-index-init : goal.loop-index-init
loop-index-init c = ([], c.new-hasher.ensures, c.in_ok-piece.ensures.items)

pub loop-index-preserved : goal.loop-index-preserved
unfolding coded_number
loop-index-preserved c =
    let i = c.loop-index.index in
    let s = get_or c.args.items.now i [] in
    let so = c.loop-index.invariant in
    let on = c.hand_on.ensures so.0 so.1 in
    let more = ap (flat_map coded_item) (take_more c.args.items.now i [] (omega (arith, c.len-index-end.ensures, c.loop-index-test.true))) ∙ sym (flat_map_more coded_item [] (take i c.args.items.now) s) in
    let parts = append_assoc so.0 c.loop-index.piece.items (coded_item s) in
    (on.0, on.1, cc (on.2, so.2, c.in_ok-write_item.ensures.coded))

pub returns-clause-digest : goal.returns-clause-digest
unfolding digest_of
returns-clause-digest c =
    let so = c.loop-index.invariant in
    c.finalize.ensures (so.0 ++ c.as_slice.result.now) (c.update.ensures so.0 so.1)
    ∙ ap sha256 (ap (λ p. so.0 ++ p) c.as_slice.ensures.value ∙ so.2 ∙ ap (flat_map coded_item) (take_all c.loop-index.index c.args.items.now (omega (arith, c.len-index-end.ensures, c.loop-index-test.false))))
