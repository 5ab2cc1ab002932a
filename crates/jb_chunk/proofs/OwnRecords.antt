-- A block uses the records and the plans that it has.
use Rattle.std.proofs.Common.{◌≡◌, ℕ, zero, suc, ◌+◌, ◌-◌, ◌≤◌, ◌<◌, Bool, true, false, cond, List, Option, Some, None, refl, ap, ◌∙◌, arith}
use Rattle.std.specs.List.{range_with_len, find, filter_map, cons_option}
use Rattle.jb_artifacts.specs.Faults.{FaultTable, is_live}
use Rattle.jb_artifacts.specs.Writer.{Numbered, failing}
use Rattle.jb_artifacts.specs.Meaning.{ArtifactsMeaning}
use Rattle.jb_chunk.specs.Attempt.{results_of, settled_at, block_of}
use Rattle.jb_chunk.specs.TaskState.{TaskState}
use Rattle.jb_chunk.proofs.ArtifactsUsed.{read_end}
use Rattle.jb_chunk.specs.Block.{entry, results, settles, settling}
use Rattle.jb_chunk.specs.Entries.{text_in, numbered}

-- one of the n numbers from lo on
abbrev IsOf : (lo n k : ℕ) → Type 0
IsOf lo n k = (lo ≤ k) × (k < lo + n)

of-more : (lo n k : ℕ) → IsOf (lo + 1) n k → IsOf lo (suc n) k
of-more lo n k is = let from = is.0 in let to = is.1 in (omega (arith, from), omega (arith, to))

of-first : (lo n k : ℕ) → lo ≡ k → IsOf lo (suc n) k
of-first lo n k same = (omega (arith, same), omega (arith, same))

-- what is found among numbers is one of them
found-by : (b : Bool) (lo n k : ℕ) (others : Option ℕ) → cond b (Some lo) others ≡ Some k → (others ≡ Some k → IsOf (lo + 1) n k) → IsOf lo (suc n) k
found-by true lo n k others e more = of-first lo n k cc
found-by false lo n k others e more = of-more lo n k (more e)

pub found-of : (p : ℕ → Bool) (n lo k : ℕ) → find p (range_with_len lo n) ≡ Some k → IsOf lo n k
found-of p zero lo k e = absurd cc
found-of p (suc n) lo k e = found-by (p lo) lo n k (find p (range_with_len (lo + 1) n)) e (found-of p n (lo + 1) k)

read-by : (t : TaskState) (settled : Option ℕ) → ((k : ℕ) → settled ≡ Some k → IsOf t.row.at ((block_of t).hi - t.row.at) k) → read_end t settled ≤ (block_of t).hi
read-by t None within = omega arith
read-by t (Some k) within = let is = within k refl in let from = is.0 in let to = is.1 in omega (arith, from, to)

-- no record is read past the block's end
pub read-in : (t : TaskState) (settled : Option ℕ) → settled_at t ≡ settled → read_end t settled ≤ (block_of t).hi
unfolding settling
read-in t settled at = read-by t settled (λ k e. found-of (settles t.rules t.row t.artifacts) ((block_of t).hi - t.row.at) t.row.at k (at ∙ e))

named-by : (b : Bool) (lo n : ℕ) (text : List ℕ) (others : Option (ℕ × List ℕ)) (r : ℕ × List ℕ) → cond b (Some (lo, text)) others ≡ Some r → (others ≡ Some r → IsOf (lo + 1) n r.0) → IsOf lo (suc n) r.0
named-by true lo n text others r e more = let same : (lo, text) ≡ r = cc in of-first lo n r.0 (ap (λ (x : ℕ × List ℕ). x.0) same)
named-by false lo n text others r e more = of-more lo n r.0 (more e)

named-next : (q : ℕ × List ℕ → Bool) (lo n : ℕ) (o : Option (List ℕ)) (rest : Numbered) (r : ℕ × List ℕ) → find q (cons_option (numbered lo o) rest) ≡ Some r → (find q rest ≡ Some r → IsOf (lo + 1) n r.0) → IsOf lo (suc n) r.0
named-next q lo n None rest r e more = of-more lo n r.0 (more e)
named-next q lo n (Some text) rest r e more = named-by (q (lo, text)) lo n text (find q rest) r e more

-- a result that is found among those of some numbers has one of them
named-of : (q : ℕ × List ℕ → Bool) (w : ArtifactsMeaning) (n lo : ℕ) (r : ℕ × List ℕ) → find q (filter_map (λ k. numbered k (text_in (entry w k))) (range_with_len lo n)) ≡ Some r → IsOf lo n r.0
named-of q w zero lo r e = absurd cc
named-of q w (suc n) lo r e =
    named-next q lo n (text_in (entry w lo)) (filter_map (λ k. numbered k (text_in (entry w k))) (range_with_len (lo + 1) n)) r e (named-of q w n (lo + 1) r)

-- a write of these records' results fails at one of them
pub failing-of : (plans : FaultTable) (w : ArtifactsMeaning) (lo hi : ℕ) (r : ℕ × List ℕ) → failing plans (results w lo hi) ≡ Some r → (lo ≤ r.0) × (r.0 < hi)
unfolding results
failing-of plans w lo hi r e =
    let is = named-of (λ x. is_live plans x.0) w (hi - lo) lo r e in
    let from = is.0 in
    let to = is.1 in
    (from, omega (arith, from, to))

-- a write fails at a record of the block
pub failing-in : (t : TaskState) (r : ℕ × List ℕ) → failing t.artifacts.writer.faults (results_of t) ≡ Some r → (t.row.at ≤ r.0) × (r.0 < (block_of t).hi)
unfolding results
failing-in t r e =
    let is = named-of (λ x. is_live t.artifacts.writer.faults x.0) t.artifacts ((block_of t).hi - t.row.at) t.row.at r e in
    let from = is.0 in
    let to = is.1 in
    (from, omega (arith, from, to))
