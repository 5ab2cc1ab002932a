use Rattle.std.proofs.Common.{rules, ◌≡◌, ◌++◌, subst, OnErr}
use Rattle.std.specs.List.{enumerate_from}
use Rattle.jb_cert.specs.WrapAround.{wrapped_rounds}
use Rattle.jb_texts.specs.Front.{AppendsFront}
use Rattle.jb_texts.specs.PlanText.{heading, lines_of, plan_text, text_of_load}
use Rattle.jb_texts.proofs.plan.lines.write_plan.Goals as goal

pub returns-clause-front : goal.returns-clause-front
unfolding plan_text heading
returns-clause-front g c =
    let load = c.args.cursor.now in
    let text : c.writeln.new.self.items ++ lines_of load.threads (enumerate_from 0 (wrapped_rounds load.counts load.threads)) ≡ text_of_load load = search rules in
    subst (λ t. OnErr c.write_lines.result (AppendsFront (g.W.Write.contents c.args.writer.now) (g.W.Write.contents c.write_lines.new.writer) t)) text c.write_lines.ensures.front
