use Rattle.std.proofs.Common.{◌==◌, ℕ, ap, refl, arith}
use Rattle.std.proofs.lemmas.List.{get_or-replicate}
use Rattle.jb_repo.proofs.marks.Marks.new.Goals as goal

pub returns : goal.returns
returns c = record {
  lanes = λ l d lt. ap (λ (n : ℕ). n == 1) (get_or-replicate _ l 0 d lt);
  partitions = λ p d lt. ap (λ (n : ℕ). n == 1) (get_or-replicate _ p 0 d lt);
  early_lanes = λ l d lt. let none = get_or-replicate _ l 0 d lt in omega (arith, none);
  early_partitions = λ p d lt. let none = get_or-replicate _ p 0 d lt in omega (arith, none);
  rounds = refl;
}
