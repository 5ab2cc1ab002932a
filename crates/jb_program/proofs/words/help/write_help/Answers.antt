use Rattle.std.proofs.Common.{◌≡◌, rules, IfErr, IfOk, Some, sym, subst}
use Rattle.std.specs.Io.KnownBytes.{Appends}
use Rattle.jb_texts.specs.Front.{AppendsFront}
use Rattle.jb_program.specs.declared.streams.error.ProgramError.TheVariants.{Stream}
use Rattle.jb_program.specs.declared.words.request.Word.TheVariants.{Run, Restart, Plan, Check}
use Rattle.jb_program.specs.Help.{check_help, help_text, plan_help, program_help, restart_help, run_help}
use Rattle.jb_program.proofs.words.help.write_help.Goals as goal

pub returns-in-None-clause-ok : goal.returns-in-None-clause-ok
unfolding program_help
returns-in-None-clause-ok g c =
    let old = g.W.Write.contents c.args.writer.now in
    let new = g.W.Write.contents c.write_text.new.writer in
    subst (λ topic. IfOk c.write_text.result (λ status. (status ≡ 0) × Appends old new (help_text topic))) (sym c.in-None.is) c.write_text.ensures.ok

pub returns-in-None-clause-err : goal.returns-in-None-clause-err
unfolding program_help
returns-in-None-clause-err g c =
    let old = g.W.Write.contents c.args.writer.now in
    let new = g.W.Write.contents c.write_text.new.writer in
    subst (λ topic. IfErr c.write_text.result (λ e. (e ≡ Stream) × AppendsFront old new (help_text topic))) (sym c.in-None.is) c.write_text.ensures.err

pub returns-in-Some-Run-clause-ok : goal.returns-in-Some-Run-clause-ok
unfolding run_help
returns-in-Some-Run-clause-ok g c =
    let old = g.W.Write.contents c.args.writer.now in
    let new = g.W.Write.contents c.write_text-in-Some-Run.new.writer in
    let asked : c.args.topic ≡ Some Run = search rules in
    subst (λ topic. IfOk c.write_text-in-Some-Run.result (λ status. (status ≡ 0) × Appends old new (help_text topic))) (sym asked) c.write_text-in-Some-Run.ensures.ok

pub returns-in-Some-Run-clause-err : goal.returns-in-Some-Run-clause-err
unfolding run_help
returns-in-Some-Run-clause-err g c =
    let old = g.W.Write.contents c.args.writer.now in
    let new = g.W.Write.contents c.write_text-in-Some-Run.new.writer in
    let asked : c.args.topic ≡ Some Run = search rules in
    subst (λ topic. IfErr c.write_text-in-Some-Run.result (λ e. (e ≡ Stream) × AppendsFront old new (help_text topic))) (sym asked) c.write_text-in-Some-Run.ensures.err

pub returns-in-Some-Restart-clause-ok : goal.returns-in-Some-Restart-clause-ok
unfolding restart_help
returns-in-Some-Restart-clause-ok g c =
    let old = g.W.Write.contents c.args.writer.now in
    let new = g.W.Write.contents c.write_text-in-Some-Restart.new.writer in
    let asked : c.args.topic ≡ Some Restart = search rules in
    subst (λ topic. IfOk c.write_text-in-Some-Restart.result (λ status. (status ≡ 0) × Appends old new (help_text topic))) (sym asked) c.write_text-in-Some-Restart.ensures.ok

pub returns-in-Some-Restart-clause-err : goal.returns-in-Some-Restart-clause-err
unfolding restart_help
returns-in-Some-Restart-clause-err g c =
    let old = g.W.Write.contents c.args.writer.now in
    let new = g.W.Write.contents c.write_text-in-Some-Restart.new.writer in
    let asked : c.args.topic ≡ Some Restart = search rules in
    subst (λ topic. IfErr c.write_text-in-Some-Restart.result (λ e. (e ≡ Stream) × AppendsFront old new (help_text topic))) (sym asked) c.write_text-in-Some-Restart.ensures.err

pub returns-in-Some-Plan-clause-ok : goal.returns-in-Some-Plan-clause-ok
unfolding plan_help
returns-in-Some-Plan-clause-ok g c =
    let old = g.W.Write.contents c.args.writer.now in
    let new = g.W.Write.contents c.write_text-in-Some-Plan.new.writer in
    let asked : c.args.topic ≡ Some Plan = search rules in
    subst (λ topic. IfOk c.write_text-in-Some-Plan.result (λ status. (status ≡ 0) × Appends old new (help_text topic))) (sym asked) c.write_text-in-Some-Plan.ensures.ok

pub returns-in-Some-Plan-clause-err : goal.returns-in-Some-Plan-clause-err
unfolding plan_help
returns-in-Some-Plan-clause-err g c =
    let old = g.W.Write.contents c.args.writer.now in
    let new = g.W.Write.contents c.write_text-in-Some-Plan.new.writer in
    let asked : c.args.topic ≡ Some Plan = search rules in
    subst (λ topic. IfErr c.write_text-in-Some-Plan.result (λ e. (e ≡ Stream) × AppendsFront old new (help_text topic))) (sym asked) c.write_text-in-Some-Plan.ensures.err

pub returns-in-Some-Check-clause-ok : goal.returns-in-Some-Check-clause-ok
unfolding check_help
returns-in-Some-Check-clause-ok g c =
    let old = g.W.Write.contents c.args.writer.now in
    let new = g.W.Write.contents c.write_text-in-Some-Check.new.writer in
    let asked : c.args.topic ≡ Some Check = search rules in
    subst (λ topic. IfOk c.write_text-in-Some-Check.result (λ status. (status ≡ 0) × Appends old new (help_text topic))) (sym asked) c.write_text-in-Some-Check.ensures.ok

pub returns-in-Some-Check-clause-err : goal.returns-in-Some-Check-clause-err
unfolding check_help
returns-in-Some-Check-clause-err g c =
    let old = g.W.Write.contents c.args.writer.now in
    let new = g.W.Write.contents c.write_text-in-Some-Check.new.writer in
    let asked : c.args.topic ≡ Some Check = search rules in
    subst (λ topic. IfErr c.write_text-in-Some-Check.result (λ e. (e ≡ Stream) × AppendsFront old new (help_text topic))) (sym asked) c.write_text-in-Some-Check.ensures.err
