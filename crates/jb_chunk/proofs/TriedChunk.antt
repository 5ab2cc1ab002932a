-- A chunk that is tried.
use Rattle.std.proofs.Common.{◌≡◌, ℕ, ◌+◌, ◌-◌, ◌≤◌, length, take_all, Option, Some, None, false, refl, ap, sym, ◌∙◌, arith}
use Rattle.jb_base.specs.declared.class.ClassId.{ClassId}
use Rattle.jb_rules.specs.declared.choice.Choice.{Choice}
use Rattle.jb_rules.specs.declared.choice.Choice.TheVariants.{Skip, Retry, Again, Fail}
use Rattle.jb_rules.specs.declared.counts.Counts.{Counts}
use Rattle.jb_rules.specs.declared.row.Row.{Row}
use Rattle.jb_rules.specs.Rows.{skips_of}
use Rattle.jb_rules.specs.Counts.{no_counts}
use Rattle.jb_artifacts.specs.Reader.{opened}
use Rattle.jb_artifacts.specs.Writer.{Numbered, write_fault}
use Rattle.jb_artifacts.specs.Meaning.{ArtifactsMeaning}
use Rattle.jb_chunk.specs.declared.outcome.Outcome.{Outcome}
use Rattle.jb_chunk.specs.declared.outcome.Outcome.TheVariants.{Committed}
use Rattle.jb_chunk.specs.Attempt.{block_of, settled_at, results_of, fault_at, skips_at, counts_with, counts_of, end_at, end_by, end_of, row_after, artifacts_used}
use Rattle.jb_chunk.specs.TaskState.{TaskState, at_checkpoint}
use Rattle.jb_chunk.specs.Block.{entry, choice_at, skips_before, is_skip, passed}
use Rattle.jb_chunk.specs.Entries.{fault_in}
use Rattle.jb_chunk.specs.inside.Gathering.{Yield, IsTally}
use Rattle.jb_chunk.specs.inside.TriedChunk.{IsTried, IsFinish, end_from, written_with}
use Rattle.jb_chunk.proofs.RecordCounts.{AreFew, few-counted}
use Rattle.jb_chunk.proofs.SettlingRecord.{skips-tally}

pub few-tally : (w : ArtifactsMeaning) (lo hi : ℕ) (t : Yield) → lo ≤ hi → IsTally w lo hi t → AreFew (hi - lo) t.skips t.read_skips (length t.found)
few-tally w lo hi t le tally =
    let few = few-counted w lo hi le in
    let skips = tally.skips in
    let reads = tally.read_skips in
    let found = ap length tally.found in
    let few_reads = few.reads in
    let all = few.all in
    record { reads = omega (arith, skips, reads, few_reads); all = omega (arith, skips, found, all) }

-- A FAULT THAT SETTLES THE CHUNK

unskipped-end : (one other : Counts) (class : ClassId) (choice : Choice) → is_skip choice ≡ false → end_by one class choice ≡ end_by other class choice
unskipped-end one other class Skip e = cc
unskipped-end one other class Retry e = refl
unskipped-end one other class Again e = refl
unskipped-end one other class Fail e = refl

-- its checkpoint stays
unskipped-place : (row : Row) (hi : ℕ) (skipped : Counts) (class : ClassId) (choice : Choice) (w : ArtifactsMeaning) → is_skip choice ≡ false → at_checkpoint row w ≡ at_checkpoint (row_after row hi (end_by skipped class choice)) w
unskipped-place row hi skipped class Skip w e = cc
unskipped-place row hi skipped class Retry w e = refl
unskipped-place row hi skipped class Again w e = refl
unskipped-place row hi skipped class Fail w e = refl

settled-end : (t : TaskState) (k : ℕ) (class : ClassId) → settled_at t ≡ Some k → fault_in (entry t.artifacts k) ≡ Some class → is_skip (choice_at t.rules t.row class (skips_before t.row t.artifacts k)) ≡ false → end_by no_counts class (choice_at t.rules t.row class (skips_before t.row t.artifacts k)) ≡ end_of t
unfolding end_of
settled-end t k class at fault unskipped =
    unskipped-end no_counts (counts_of t 0 1) class (choice_at t.rules t.row class (skips_before t.row t.artifacts k)) unskipped
    ∙ sym (ap (λ s. end_at t (fault_at t s) (skips_at t s)) at ∙ ap (λ f. end_at t f (skips_before t.row t.artifacts k)) fault)

-- nothing was written past the checkpoint
settled-artifacts : (t : TaskState) (k : ℕ) (now : ArtifactsMeaning) → length t.artifacts.writer.written ≡ t.row.written → settled_at t ≡ Some k → now ≡ passed t.artifacts t.row.at (k + 1) → record now { reader = opened now.reader t.row.at } ≡ at_checkpoint t.row (artifacts_used t (settled_at t))
unfolding artifacts_used
settled-artifacts t k now count at e =
    let all = take_all t.row.written t.artifacts.writer.written (omega (arith, count)) in
    ap (λ (v : ArtifactsMeaning). record v { reader = opened v.reader t.row.at }) e
    ∙ (λ i. record (passed t.artifacts t.row.at (k + 1)) { reader = opened (passed t.artifacts t.row.at (k + 1)).reader t.row.at; writer = record t.artifacts.writer { written = sym all i } })
    ∙ ap (λ s. at_checkpoint t.row (artifacts_used t s)) (sym at)

pub settled-tried : (t : TaskState) (k : ℕ) (class : ClassId) (stopped now : ArtifactsMeaning) (end : Outcome) → length t.artifacts.writer.written ≡ t.row.written → settled_at t ≡ Some k → fault_in (entry t.artifacts k) ≡ Some class → is_skip (choice_at t.rules t.row class (skips_before t.row t.artifacts k)) ≡ false → stopped ≡ passed t.artifacts t.row.at (k + 1) → end ≡ end_by no_counts class (choice_at t.rules t.row class (skips_before t.row t.artifacts k)) → now ≡ record stopped { reader = opened stopped.reader t.row.at } → IsTried t end now
settled-tried t k class stopped now end count at fault unskipped passes ends left =
    let used = artifacts_used t (settled_at t) in
    let choice = choice_at t.rules t.row class (skips_before t.row t.artifacts k) in
    record {
      ended = ends ∙ settled-end t k class at fault unskipped;
      left =
          left
          ∙ settled-artifacts t k stopped count at passes
          ∙ unskipped-place t.row (block_of t).hi no_counts class choice used unskipped
          ∙ ap (λ e. at_checkpoint (row_after t.row (block_of t).hi e) used) (sym ends);
    }

-- THE WRITE

-- a write ends the chunk that nothing settled before
write-end : (t : TaskState) (fault : Option ClassId) → settled_at t ≡ None → fault ≡ write_fault t.artifacts.writer (results_of t) → end_at t fault (skips_before t.row t.artifacts (block_of t).hi) ≡ end_of t
unfolding end_of
write-end t fault at e = ap (λ f. end_at t f (skips_before t.row t.artifacts (block_of t).hi)) e ∙ ap (λ s. end_at t (fault_at t s) (skips_at t s)) (sym at)

tally-end : (t : TaskState) (tally : Yield) (fault : Option ClassId) (skips : ℕ) → IsTally t.artifacts t.row.at (block_of t).hi tally → end_from t.rules t.row ((block_of t).hi - t.row.at) tally fault skips ≡ end_at t fault skips
tally-end t tally None skips counted = λ i. Committed (counts_with ((block_of t).hi - t.row.at) (counted.skips i) (counted.read_skips i) (length (counted.found i)) (length (counted.found i)) 0)
tally-end t tally (Some class) skips counted = λ i. end_by (counts_with ((block_of t).hi - t.row.at) (counted.skips i) (counted.read_skips i) (length (counted.found i)) 0 1) class (choice_at t.rules t.row class skips)

pub whole-tried : (t : TaskState) (tally : Yield) (whole now : ArtifactsMeaning) (end : Outcome) → settled_at t ≡ None → IsTally t.artifacts t.row.at (block_of t).hi tally → whole ≡ passed t.artifacts t.row.at (block_of t).hi → IsFinish t.rules t.row (block_of t).hi tally whole end now → IsTried t end now
unfolding artifacts_used
whole-tried t tally whole now end at counted passes finish =
    let row = row_after t.row (block_of t).hi end in
    record {
      ended =
          finish.ended
          ∙ ap (λ (v : ArtifactsMeaning). end_from t.rules t.row ((block_of t).hi - t.row.at) tally (write_fault v.writer tally.found) (skips_of t.row + tally.skips)) passes
          ∙ tally-end t tally (write_fault t.artifacts.writer tally.found) (skips_of t.row + tally.skips) counted
          ∙ ap (λ (xs : Numbered). end_at t (write_fault t.artifacts.writer xs) (skips_of t.row + tally.skips)) counted.found
          ∙ ap (λ n. end_at t (write_fault t.artifacts.writer (results_of t)) n) (sym (skips-tally t.row t.artifacts (block_of t).hi tally counted))
          ∙ write-end t _ at refl;
      left =
          finish.left
          ∙ ap (λ (v : ArtifactsMeaning). at_checkpoint row (written_with v tally.found)) passes
          ∙ ap (λ (xs : Numbered). at_checkpoint row (written_with (passed t.artifacts t.row.at (block_of t).hi) xs)) counted.found
          ∙ ap (λ s. at_checkpoint row (artifacts_used t s)) (sym at);
    }
