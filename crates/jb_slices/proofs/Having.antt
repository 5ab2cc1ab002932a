-- What a whole slice has.
use Rattle.std.proofs.Common.{◌≡◌, ℕ, zero, suc, ◌+◌, ◌-◌, ◌<◌, List, [], ◌∷◌, ◌++◌, take, drop, refl, ap, sym, ◌∙◌, arith}
use Rattle.std.{proofs.lemmas.List.take-take, specs.Prelude.flat_map}
use Rattle.jb_base.specs.Rules.{RulesRecord}
use Rattle.jb_slices.specs.{Checkpoint.Progress, Function.{Function, all_results, faults_from}, Job.{Job, first_of, slice_at}, Partitions.{AreFinished, ArePartitionsSoFar, IsPartitionSoFar, passed_items}, Slice.slice_state, SliceLaws.{WholeSlicesHaveAll, WholeSlicesHaveSkips}}
use Rattle.jb_slices.proofs.{Faults.{faults-split, results-split}, Lists.drop-front}

-- all its own items are before a finished partition's checkpoint
pub own-whole : (p : Progress) (from : ℕ) (items : List (List ℕ)) → p.row.lo ≡ from → p.row.at ≡ p.row.hi
    → take (p.row.at - p.row.lo) (take (p.row.hi - from) items) ≡ take (p.row.hi - from) items
own-whole p from items lo end = grind (arith, take-take)

-- What is told of items part by part is told of all of them, whether it is their results or their faults.
module _ {X : Type 0} (Told : ℕ → List (List ℕ) → List X) (none : (n : ℕ) → Told n [] ≡ [])
    (split : (first k second : ℕ) (items : List (List ℕ)) → first + k ≡ second → Told first (take k items) ++ Told second (drop k items) ≡ Told first items) where
  pub join : (f : Function) (rules : RulesRecord) (of : Progress → List X)
      → ((first : ℕ) (own : List (List ℕ)) (p : Progress) → IsPartitionSoFar f rules first own p → of p ≡ Told first (passed_items own p))
      → (first from : ℕ) (items : List (List ℕ)) (ps : List Progress) → ArePartitionsSoFar f rules first from items ps → AreFinished ps → flat_map of ps ≡ Told (first + from) items
  join f rules of each first from items [] parts finished = sym (ap (Told (first + from)) parts ∙ none (first + from))
  join f rules of each first from items (p ∷ ps) parts finished =
      let n = p.row.hi - from in
      let within = parts.1 in
      let next : (first + from) + n ≡ first + p.row.hi = omega (arith, within) in
      let here = each (first + from) (take n items) p parts.2 ∙ ap (Told (first + from)) (own-whole p from items parts.0 (parts.2.finished finished.0)) in
      (λ i. here i ++ join f rules of each first p.row.hi (drop n items) ps parts.3 finished.1 i) ∙ split (first + from) n (first + p.row.hi) items next

  -- slice after slice, up to a seam
  pub up-to : (job : Job) (items : List (List ℕ)) (all one : ℕ → List X) → all 0 ≡ [] → ((k : ℕ) → all (suc k) ≡ all k ++ one k) → (count : ℕ)
      → ((k : ℕ) → k < count → one k ≡ Told (first_of job k) (slice_at job items k)) → all count ≡ Told 0 (take (first_of job count) items)
  up-to job items all one start more zero each = start ∙ sym (none 0) ∙ (let e : 0 ≡ first_of job 0 = omega arith in ap (λ (n : ℕ). Told 0 (take n items)) e)
  up-to job items all one start more (suc k) each =
      let m = first_of job k in
      let n = first_of job (suc k) in
      let was = up-to job items all one start more k (λ j low. each j (omega (arith, low))) ∙ ap (Told 0) (sym (take-take m n items (omega arith))) in
      let here = each k (omega arith) ∙ ap (Told m) (sym (drop-front m job.slice_length n items (omega arith))) in
      more k ∙ (λ i. was i ++ here i) ∙ split 0 m m (take n items) (omega arith)

pub results : WholeSlicesHaveAll
results job functions limits number items all w =
    let f = functions (slice_state all).stamp in
    join (λ n. all_results f) (λ n. refl) (results-split f) f _ (λ p. p.results) (λ first own p so-far. so-far.results)
    (first_of job number) 0 items _ w.partitions w.finished

pub skips : WholeSlicesHaveSkips
skips job functions limits number items all w =
    let f = functions (slice_state all).stamp in
    let e : first_of job number + 0 ≡ first_of job number = omega arith in
    join (faults_from f) (λ n. refl) (faults-split f) f _ (λ p. p.skips) (λ first own p so-far. so-far.skips)
    (first_of job number) 0 items _ w.partitions w.finished
    ∙ ap (λ (n : ℕ). faults_from f n items) e
