use Rattle.std.proofs.Common.{subst, OnOk, OnErr, List, ℕ}
use Rattle.std.specs.Io.KnownBytes.{Appends}
use Rattle.jb_texts.specs.Front.{AppendsFront}
use Rattle.jb_program.proofs.Usage.{wrong-joined}
use Rattle.jb_program.proofs.streams.writing.write_wrong.Goals as goal

pub returns-clause-whole : goal.returns-clause-whole
returns-clause-whole g c =
    let word = c.args.word.now in
    let is = wrong-joined c.as_bytes.result.now c.as_bytes-2.result.now c.as_bytes-3.result.now c.as_bytes-4.result.now word c.args.advice.now c.as_bytes.ensures.value c.as_bytes-2.ensures.value c.as_bytes-3.ensures.value c.as_bytes-4.ensures.value in
    subst (λ (text : List ℕ). OnOk c.write_joined.result (Appends (g.W.Write.contents c.args.writer.now) (g.W.Write.contents c.write_joined.new.writer) text)) is c.write_joined.ensures.whole

pub returns-clause-front : goal.returns-clause-front
returns-clause-front g c =
    let word = c.args.word.now in
    let is = wrong-joined c.as_bytes.result.now c.as_bytes-2.result.now c.as_bytes-3.result.now c.as_bytes-4.result.now word c.args.advice.now c.as_bytes.ensures.value c.as_bytes-2.ensures.value c.as_bytes-3.ensures.value c.as_bytes-4.ensures.value in
    subst (λ (text : List ℕ). OnErr c.write_joined.result (AppendsFront (g.W.Write.contents c.args.writer.now) (g.W.Write.contents c.write_joined.new.writer) text)) is c.write_joined.ensures.front
