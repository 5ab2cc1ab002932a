use Rattle.std.proofs.Common.{◌++◌, append_assoc, ap, ◌∙◌}
use Rattle.sha2.specs.Sha256.{sha256}
use Rattle.jb_slice_file.specs.Chain.{link_of}
use Rattle.jb_slice_file.proofs.list_end.link_of.Goals as goal

pub returns : goal.returns
unfolding link_of
returns c =
    let fed = c.update-5.ensures _ (c.update-4.ensures _ (c.update-3.ensures _ (c.update-2.ensures _ (c.update.ensures _ c.new-hasher.ensures)))) in
    c.finalize.ensures _ fed ∙ ap sha256 (simp append_assoc
    (λ i. c.as_slice.ensures i ++ ((c.as_slice-2.ensures ∙ c.to_le_bytes.ensures) i ++ ((c.as_slice-3.ensures ∙ c.to_le_bytes-2.ensures) i ++ (c.as_bytes.ensures.value i ++ c.args.results.now)))))
