-- What a committed chunk adds to the counts.
use Rattle.std.proofs.Common.{◌≡◌, ℕ, ◌-◌, ◌≤◌, inl, inr, Bool, true, false, not, cond, List, [], ◌∷◌, length, Option, Some, None, refl, ap, subst, arith}
use Rattle.std.specs.List.{range_with_len, find, take_while}
use Rattle.jb_base.specs.declared.class.ClassId.{ClassId}
use Rattle.jb_base.specs.Rules.{RulesRecord}
use Rattle.jb_rules.specs.declared.choice.Choice.{Choice}
use Rattle.jb_rules.specs.declared.choice.Choice.TheVariants.{Skip, Retry, Again, Fail}
use Rattle.jb_rules.specs.declared.row.Row.{Row}
use Rattle.jb_rules.specs.Counts.{IsDelta}
use Rattle.jb_artifacts.specs.Faults.{is_live}
use Rattle.jb_artifacts.specs.Writer.{Writer, Numbered, texts_of, write_fault, after_write}
use Rattle.jb_artifacts.specs.Meaning.{ArtifactsMeaning}
use Rattle.jb_chunk.specs.declared.outcome.Outcome.{Outcome}
use Rattle.jb_chunk.specs.Attempt.{block_of, counts_of, end_of, end_at, end_by, fault_at, skips_at, settled_at, results_of, row_after, artifacts_used}
use Rattle.jb_chunk.specs.TaskState.{TaskState}
use Rattle.jb_chunk.specs.Block.{entry, settles, settling, stops, skips_before, choice_at, is_skip}
use Rattle.jb_chunk.specs.Entries.{fault_in}
use Rattle.jb_chunk.specs.inside.TriedChunk.{HasDelta}
use Rattle.jb_chunk.proofs.RecordCounts.{few-counted}
use Rattle.jb_chunk.proofs.WrittenResults.{whole-long, front-longer}

-- a chunk ended so that has as many results behind its checkpoint as its row says, of so many that are written; and what it
-- adds to the counts is what its records may
abbrev pub IsAdded : TaskState → (written : ℕ) → Outcome → Type 0
IsAdded t written e =
    ((row_after t.row (block_of t).hi e).written ≤ written)
    × (t.row.at ≤ (block_of t).hi → HasDelta ((block_of t).hi - t.row.at) e)

-- EACH RECORD IS COUNTED

written-delta : (t : TaskState) → t.row.at ≤ (block_of t).hi → IsDelta ((block_of t).hi - t.row.at) (counts_of t (length (results_of t)) 0)
written-delta t le =
    let few = few-counted t.artifacts t.row.at (block_of t).hi le in
    let reads = few.reads in
    let all = few.all in
    record { passed = omega (arith, reads, all); commit = refl; rollback = refl; results = inl (refl, omega (arith, reads, all)) }

unwritten-delta : (t : TaskState) → 1 ≤ length (results_of t) → t.row.at ≤ (block_of t).hi → IsDelta ((block_of t).hi - t.row.at) (counts_of t 0 1)
unwritten-delta t some le =
    let few = few-counted t.artifacts t.row.at (block_of t).hi le in
    let reads = few.reads in
    let all = few.all in
    record { passed = omega (arith, reads, all); commit = refl; rollback = refl; results = inr (refl, refl, omega (arith, reads, all, some)) }

-- a fault ends the chunk; where it is skipped, the write call had results
added-choice : (t : TaskState) (written : ℕ) (class : ClassId) (choice : Choice) → t.row.written ≤ written → (is_skip choice ≡ true → 1 ≤ length (results_of t)) → IsAdded t written (end_by (counts_of t 0 1) class choice)
added-choice t written class Skip le some = (omega (arith, le), unwritten-delta t (some refl))
added-choice t written class Retry le some = (le, λ _. tt)
added-choice t written class Again le some = (le, λ _. tt)
added-choice t written class Fail le some = (le, λ _. tt)

skipped-none : (b : Bool) (n : ℕ) → not b ≡ true → b ≡ true → 1 ≤ n
skipped-none b n e is = absurd cc

added-stopped : (t : TaskState) (written : ℕ) (fault : Option ClassId) (skips : ℕ) → t.row.written ≤ written → stops t.rules t.row fault skips ≡ true → IsAdded t written (end_at t fault skips)
added-stopped t written None skips le e = absurd cc
added-stopped t written (Some class) skips le e = let choice = choice_at t.rules t.row class skips in added-choice t written class choice le (skipped-none (is_skip choice) _ e)

some-written : (w : Writer) (found : Numbered) (class : ClassId) → write_fault w found ≡ Some class → 1 ≤ length found
some-written w [] class e = absurd cc
some-written w (x ∷ xs) class e = omega arith

added-written : (t : TaskState) (fault : Option ClassId) (skips : ℕ) → length t.artifacts.writer.written ≡ t.row.written → write_fault t.artifacts.writer (results_of t) ≡ fault → IsAdded t (length (after_write t.artifacts.writer (results_of t)).written) (end_at t fault skips)
added-written t None skips count e = let long = whole-long t.artifacts.writer (results_of t) e in (omega (arith, count, long), written-delta t)
added-written t (Some class) skips count e =
    let longer = front-longer t.artifacts.writer.written (texts_of (take_while (λ r. not (is_live t.artifacts.writer.faults r.0)) (results_of t))) in
    added-choice t _ class (choice_at t.rules t.row class skips) (omega (arith, count, longer)) (λ _. some-written t.artifacts.writer (results_of t) class e)

abbrev value_or : ℕ → Option ℕ → ℕ
value_or n None = n
value_or n (Some m) = m

found-step : (p : ℕ → Bool) (x k : ℕ) (others : Option ℕ) (b : Bool) → p x ≡ b → (others ≡ Some k → p k ≡ true) → cond b (Some x) others ≡ Some k → p k ≡ true
found-step p x k others true h more e = subst (λ y. p y ≡ true) (ap (value_or x) e) h
found-step p x k others false h more e = more e

-- what is found passes the test
found-passes : (p : ℕ → Bool) (xs : List ℕ) (k : ℕ) → find p xs ≡ Some k → p k ≡ true
found-passes p [] k e = absurd cc
found-passes p (x ∷ xs) k e = found-step p x k (find p xs) (p x) refl (found-passes p xs k) e

-- the record that settles a block has a fault that isn't skipped
pub settling-stops : (rules : RulesRecord) (row : Row) (w : ArtifactsMeaning) (hi k : ℕ) → settling rules row w hi ≡ Some k → stops rules row (fault_in (entry w k)) (skips_before row w k) ≡ true
unfolding settling settles
settling-stops rules row w hi k e = found-passes (settles rules row w) (range_with_len row.at (hi - row.at)) k e

added-after : (t : TaskState) (o : Option ℕ) → length t.artifacts.writer.written ≡ t.row.written → settled_at t ≡ o → IsAdded t (length (artifacts_used t o).writer.written) (end_at t (fault_at t o) (skips_at t o))
unfolding artifacts_used
added-after t None count at = added-written t (fault_at t None) (skips_at t None) count refl
added-after t (Some k) count at = added-stopped t _ (fault_at t (Some k)) (skips_at t (Some k)) (omega (arith, count)) (settling-stops t.rules t.row t.artifacts (block_of t).hi k at)

pub end-added : (t : TaskState) → length t.artifacts.writer.written ≡ t.row.written → IsAdded t (length (artifacts_used t (settled_at t)).writer.written) (end_of t)
unfolding end_of
end-added t count = added-after t (settled_at t) count refl
