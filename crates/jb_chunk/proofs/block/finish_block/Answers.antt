use Rattle.std.proofs.Common.{ℕ, ◌+◌, ◌-◌, Ok, Err, ap, ◌∙◌, subst}
use Rattle.jb_base.specs.declared.artifact_error.ArtifactError.TheVariants.{Fault}
use Rattle.jb_chunk.specs.declared.outcome.Outcome.TheVariants.{Committed}
use Rattle.std.specs.Prelude.{nat_lt}
use Rattle.jb_rules.specs.Decide.{choice_of}
use Rattle.jb_chunk.specs.Attempt.{counts_with, end_by}
use Rattle.jb_chunk.specs.inside.Gathering.{yield_of}
use Rattle.jb_chunk.specs.inside.Repeats.{IsPut}
use Rattle.jb_chunk.proofs.WriteRepeats.{put-written, put-faulted}
use Rattle.jb_chunk.proofs.block.finish_block.Goals as goal

pub returns-in-Ok-clause-ok : goal.returns-in-Ok-clause-ok
returns-in-Ok-clause-ok g c =
    let meaning = g.A.Meaning.meaning in
    let tally = yield_of c.args.tally.now (g.A.Results.ChunkResults.pairs c.args.results.now) in
    let rules = c.args.rules.now in
    let row = c.args.row.now in
    let w = meaning c.args.artifacts.now in
    let now = c.write_in_place.new.row in
    let left = meaning c.write_in_place.new.artifacts in
    let Q : ℕ → Type 0 = λ n. IsPut rules (n + tally.skips) row w tally.found (Ok tt) now left in
    let counts = ap Committed c.counts_with-delta.ensures ∙ ap (λ n. Committed (counts_with (c.args.hi - row.at) tally.skips tally.read_skips n n 0)) c.count-found.ensures in
    put-written rules row now c.args.hi w left tally _ c.requires.place c.requires.count (subst Q c.skips.ensures.value c.in-Ok.ensures.put) counts

pub returns-in-Err-Fault-clause-ok : goal.returns-in-Err-Fault-clause-ok
returns-in-Err-Fault-clause-ok g c =
    let meaning = g.A.Meaning.meaning in
    let tally = yield_of c.args.tally.now (g.A.Results.ChunkResults.pairs c.args.results.now) in
    let rules = c.args.rules.now in
    let row = c.args.row.now in
    let w = meaning c.args.artifacts.now in
    let now = c.write_in_place.new.row in
    let left = meaning c.write_in_place.new.artifacts in
    let class = c.in-Err-Fault.class in
    let fault = rw c.in-Err-Fault.field-0-is at c.in-Err-Fault.ensures.put in
    let Q : ℕ → Type 0 = λ n. IsPut rules (n + tally.skips) row w tally.found (Err (Fault class)) now left in
    let chosen = c.decide-choice.ensures ∙ ap (λ n. choice_of rules class (nat_lt now.at now.redo) (n + tally.skips) now.retries) c.skips.ensures.value in
    let skipped = c.counts_with-skipped.ensures ∙ ap (λ n. counts_with (c.args.hi - row.at) tally.skips tally.read_skips n 0 1) c.count.ensures in
    let ends = c.end_by_choice-end.ensures ∙ (λ i. end_by (skipped i) class (chosen i)) in
    put-faulted rules row now c.args.hi w left _ _ tally class _ (subst Q c.skips.ensures.value fault) ends c.open_writer_at.ensures c.reopen.ensures
