-- Reader and processor that pass one record after another.
use Rattle.std.proofs.Common.{◌≡◌, ℕ, ◌+◌, ◌≤◌, ◌<◌, Bool, true, false, not, Option, Some, None, is_some, refl, ap, sym, ◌∙◌, arith}
use Rattle.std.proofs.lemmas.Bool.Decides.{nat_tests}
use Rattle.jb_base.specs.declared.class.ClassId.{ClassId}
use Rattle.jb_artifacts.specs.Faults.{FaultTable, live, used_at, is_live}
use Rattle.jb_artifacts.specs.Reader.{record_at}
use Rattle.jb_artifacts.specs.Meaning.{ArtifactsMeaning}
use Rattle.jb_chunk.specs.Block.{used_between, passed, entry, entry_by}
use Rattle.jb_chunk.specs.inside.Gathering.{processed_at, passed_one}

pub fun_ext : {A B : Type 0} {f g : A → B} → ((x : A) → f x ≡ g x) → f ≡ g
fun_ext h = λ i x. h x i

-- a plan that isn't among those used is as it was
pub between-outside : (called : ℕ → Bool) (plans : FaultTable) (lo hi k : ℕ) → hi ≤ k → used_between called plans lo hi k ≡ plans k
unfolding used_between
between-outside called plans lo hi k le = grind (arith, nat_tests)

pub between-before : (called : ℕ → Bool) (plans : FaultTable) (lo hi k : ℕ) → k < lo → used_between called plans lo hi k ≡ plans k
unfolding used_between
between-before called plans lo hi k lt = grind (arith, nat_tests)

pub between-none : (called : ℕ → Bool) (plans : FaultTable) (lo : ℕ) → used_between called plans lo lo ≡ plans
unfolding used_between
between-none called plans lo = fun_ext (λ k. grind (arith, nat_tests))

-- one more record at which there is a call
pub between-called : (called : ℕ → Bool) (plans : FaultTable) (lo n : ℕ) → lo ≤ n → called n ≡ true → used_at (used_between called plans lo n) n ≡ used_between called plans lo (n + 1)
unfolding used_between used_at
between-called called plans lo n le is_called = fun_ext (λ k. grind (arith, nat_tests))

-- one more record at which there is none
pub between-idle : (called : ℕ → Bool) (plans : FaultTable) (lo n : ℕ) → called n ≡ false → used_between called plans lo n ≡ used_between called plans lo (n + 1)
unfolding used_between
between-idle called plans lo n is_idle = fun_ext (λ k. grind (arith, nat_tests))

pub passed-none : (w : ArtifactsMeaning) (lo : ℕ) → w.reader.place ≡ lo → w ≡ passed w lo lo
passed-none w lo at =
    let reads = sym (between-none (λ _. true) w.reader.faults lo) in
    let processes = sym (between-none (λ k. not (is_live w.reader.faults k)) w.processor.faults lo) in
    λ i. record w {
      reader = record w.reader { place = at i; faults = reads i };
      processor = record w.processor { faults = processes i };
    }

processed-more : (o : Option ClassId) (called : ℕ → Bool) (plans : FaultTable) (lo n : ℕ) → lo ≤ n → called n ≡ not (is_some o) → processed_at o (used_between called plans lo n) n ≡ used_between called plans lo (n + 1)
processed-more None called plans lo n le e = between-called called plans lo n le e
processed-more (Some class) called plans lo n le e = between-idle called plans lo n e

pub passed-more : (w : ArtifactsMeaning) (lo n : ℕ) → lo ≤ n → passed_one (passed w lo n) n ≡ passed w lo (n + 1)
passed-more w lo n le =
    let called : ℕ → Bool = λ k. not (is_live w.reader.faults k) in
    let reads = between-called (λ _. true) w.reader.faults lo n le refl in
    let fault = ap live (between-outside (λ _. true) w.reader.faults lo n n (omega arith)) in
    let processes =
    ap (λ (o : Option ClassId). processed_at o (used_between called w.processor.faults lo n) n) fault
    ∙ processed-more (live (w.reader.faults n)) called w.processor.faults lo n le refl in
    λ i. record w {
      reader = record w.reader { place = n + 1; faults = reads i };
      processor = record w.processor { faults = processes i };
    }

pub entry-passed : (w : ArtifactsMeaning) (lo n : ℕ) → entry (passed w lo n) n ≡ entry w n
unfolding entry
entry-passed w lo n =
    let reads = between-outside (λ _. true) w.reader.faults lo n n (omega arith) in
    let processes = between-outside (λ k. not (is_live w.reader.faults k)) w.processor.faults lo n n (omega arith) in
    λ i. entry_by (live (reads i)) (live (processes i)) (w.processor.answer n (record_at w.reader n))
