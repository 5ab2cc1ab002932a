use Rattle.std.proofs.Common.{rules, ◌≡◌, [], ◌++◌, append-nil, ap, sym, subst, ◌∙◌}
use Rattle.std.proofs.KnownBytes.{Appends-trans}
use Rattle.jb_texts.specs.Front.{AppendsFront}
use Rattle.jb_texts.proofs.Fronts.{front-after, front-longer, on-err}
use Rattle.jb_texts.proofs.report.finished.put_text.Goals as goal

pub returns-in_err-pass_on-clause-front : goal.returns-in_err-pass_on-clause-front
returns-in_err-pass_on-clause-front g c =
    let put : c.extend_from_slice.new.self.items ≡ c.args.block.items ++ c.args.text.now = search rules in
    on-err c.from_residual-in_err-pass_on.result (subst (λ text. AppendsFront (g.W.Write.contents c.args.writer.now) (g.W.Write.contents c.pass_on.new.writer) text) put c.in_err-pass_on.ensures.front)

pub returns-in_err-write_bytes-clause-front : goal.returns-in_err-write_bytes-clause-front
returns-in_err-write_bytes-clause-front g c =
    let block : c.deref.result.now ≡ c.args.block.items = search rules in
    on-err c.from_residual-in_err-write_bytes.result (front-longer _ _ c.deref.result.now c.args.text.now _ c.in_err-write_bytes.ensures.front (ap (λ zs. zs ++ c.args.text.now) block))

pub returns-in_err-write_bytes-2-clause-front : goal.returns-in_err-write_bytes-2-clause-front
returns-in_err-write_bytes-2-clause-front g c =
    let block : c.deref.result.now ≡ c.args.block.items = search rules in
    let text = c.args.text.now in
    on-err c.from_residual-in_err-write_bytes-2.result
    (front-after _ _ _ c.deref.result.now text [] _ c.in_ok-write_bytes.ensures.whole c.in_err-write_bytes-2.ensures.front (append-nil (c.deref.result.now ++ text) ∙ ap (λ zs. zs ++ text) block))

pub returns-clause-passed : goal.returns-clause-passed
returns-clause-passed g c =
    let block : c.deref.result.now ≡ c.args.block.items = search rules in
    let text = c.args.text.now in
    let none : c.clear.new.self.items ≡ [] = search rules in (
      c.deref.result.now ++ text,
      Appends-trans _ _ _ c.deref.result.now text c.in_ok-write_bytes.ensures.whole c.in_ok-write_bytes-2.ensures.whole,
      ap (λ zs. zs ++ text) (sym block) ∙ sym (append-nil (c.deref.result.now ++ text)) ∙ ap (λ zs. (c.deref.result.now ++ text) ++ zs) (sym none),
    )
