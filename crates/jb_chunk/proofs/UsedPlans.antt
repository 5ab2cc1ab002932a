-- Reader and processor that stop in the middle of a block.
use Rattle.std.proofs.Common.{◌≡◌, ℕ, ◌≤◌, Bool, true, not, ◌&&◌, nat_lt, refl, sym, ◌∙◌, subst, arith, ◌<◌, ◌⊎◌, inl, inr}
use Rattle.std.specs.Prelude.{nat_le}
use Rattle.jb_artifacts.specs.Faults.{FaultTable, is_live}
use Rattle.jb_artifacts.specs.Meaning.{ArtifactsMeaning}
use Rattle.jb_chunk.specs.Block.{used_between, passed, MayBeUsed}
use Rattle.jb_chunk.specs.inside.Gathering.{IsWornTo}
use Rattle.jb_chunk.proofs.PassedRecords.{between-before, between-outside}
use Rattle.jb_chunk.proofs.ChunkRepeats.{one-or-none, may-trans, may-wide}

others-between : (called : ℕ → Bool) (plans : FaultTable) (lo n hi k : ℕ) → n ≤ hi → (k < lo) ⊎ (hi ≤ k) → used_between called plans lo n k ≡ plans k
others-between called plans lo n hi k le (inl below) = between-before called plans lo n k below
others-between called plans lo n hi k le (inr past) = between-outside called plans lo n k (omega (arith, le, past))

used_between-may : (called : ℕ → Bool) (plans : FaultTable) (lo n hi : ℕ) → n ≤ hi → MayBeUsed lo hi plans (used_between called plans lo n)
unfolding used_between
used_between-may called plans lo n hi le = record {
  each = λ k. one-or-none (nat_le lo k && nat_lt k n && called k) (plans k);
  others = λ k out. others-between called plans lo n hi k le out;
}

pub worn-trans : (lo hi : ℕ) (a b c : ArtifactsMeaning) → IsWornTo lo hi a b → IsWornTo lo hi b c → IsWornTo lo hi a c
worn-trans lo hi a b c one two = record {
  reader = two.reader ∙ (λ i. record (one.reader i) { place = c.reader.place; faults = c.reader.faults });
  processor = two.processor ∙ (λ i. record (one.processor i) { faults = c.processor.faults });
  writer = two.writer ∙ one.writer;
  collector = two.collector ∙ one.collector;
  read_plans = may-trans lo hi _ _ _ one.read_plans two.read_plans;
  process_plans = may-trans lo hi _ _ _ one.process_plans two.process_plans;
}

pub worn-wide : (lo hi from to : ℕ) (a b : ArtifactsMeaning) → from ≤ lo → hi ≤ to → IsWornTo lo hi a b → IsWornTo from to a b
worn-wide lo hi from to a b f t worn = record {
  reader = worn.reader;
  processor = worn.processor;
  writer = worn.writer;
  collector = worn.collector;
  read_plans = may-wide lo hi from to _ _ f t worn.read_plans;
  process_plans = may-wide lo hi from to _ _ f t worn.process_plans;
}

-- the records up to `n` passed
pub worn-passed : (w now : ArtifactsMeaning) (lo n hi : ℕ) → n ≤ hi → now ≡ passed w lo n → IsWornTo lo hi w now
worn-passed w now lo n hi le e =
    let P : ArtifactsMeaning → Type 0 = λ v. IsWornTo lo hi w v in
    subst P (sym e) (record {
      reader = refl;
      processor = refl;
      writer = refl;
      collector = refl;
      read_plans = used_between-may (λ _. true) w.reader.faults lo n hi le;
      process_plans = used_between-may (λ k. not (is_live w.reader.faults k)) w.processor.faults lo n hi le;
    })
