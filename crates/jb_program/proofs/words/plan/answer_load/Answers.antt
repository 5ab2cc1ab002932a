use Rattle.std.proofs.Common.{rules, ◌≡◌, ◌⊎◌, ℕ, Err, IfErr, inr, refl, sym, subst, ◌∙◌}
use Rattle.std.specs.Io.KnownBytes.{Keeps}
use Rattle.jb_cert.specs.declared.certificates.Certificate.{Certificate}
use Rattle.jb_cert.specs.Certificates.{Holds, bound_certificate}
use Rattle.jb_cert.specs.Load.{Load, mcnaughton}
use Rattle.jb_texts.specs.Front.{AppendsFront}
use Rattle.jb_texts.specs.PlanText.{text_of_load}
use Rattle.jb_program.specs.declared.streams.error.ProgramError.TheVariants.{Memory, Stream}
use Rattle.jb_program.specs.PlanWord.{IsPlannedFor}
use Rattle.jb_program.proofs.words.plan.answer_load.Goals as goal

pub returns-clause-planned : goal.returns-clause-planned
returns-clause-planned g c =
    let load : Load = c.in_ok-cursor.cursor in
    let asked : load ≡ c.args.load.now = search rules in
    let H : ℕ → Certificate → Type 0 = λ rounds certificate. Holds load.counts load.threads rounds certificate in
    let P : Load → Type 0 = λ one. IsPlannedFor one (g.W.Write.contents c.args.writer.now) (g.W.Write.contents c.write_plan.new.writer) in
    subst P asked (record {
      written = c.in_ok-write_plan.ensures.whole;
      least = c.rounds-rounds.ensures.plan;
      certified = subst (λ n. H n (bound_certificate load.counts load.threads)) (sym (c.rounds-rounds.ensures.length ∙ c.rounds-rounds.ensures.bound)) (subst (λ k. H (mcnaughton load.counts load.threads) k) c.certificate-certificate.ensures.value c.certificate-certificate.ensures.holds);
    })

pub returns-in_err-write_plan-clause-err : goal.returns-in_err-write_plan-clause-err
returns-in_err-write_plan-clause-err g c =
    let load : Load = c.in_ok-cursor.cursor in
    let asked : load ≡ c.args.load.now = search rules in
    let old = g.W.Write.contents c.args.writer.now in
    let new = g.W.Write.contents c.write_plan.new.writer in
    let P : Load → Type 0 = λ one. AppendsFront old new (text_of_load one) in
    let reported : c.from_residual-in_err-write_plan.result ≡ Err Stream = search rules in
    subst (λ r. IfErr r (λ e. (e ≡ Memory × Keeps old new) ⊎ (e ≡ Stream × AppendsFront old new (text_of_load c.args.load.now)))) (sym reported)
    (inr (refl, subst P asked c.in_err-write_plan.ensures.front))
