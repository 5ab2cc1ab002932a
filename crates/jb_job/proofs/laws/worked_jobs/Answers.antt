use Rattle.std.proofs.Common.{inl, inr, refl, arith}
use Rattle.std.specs.Fmt.{digits}
use Rattle.serde_json.proofs.OnLiterals.{serde_json_on_literals}
use Rattle.jb_job.proofs.laws.worked_jobs.Goals as goal

pub returns : goal.returns
unfolding digits serde_json_on_literals
returns c = record {
  ranges = refl;
  classes = refl;
  included = inl (omega arith);
  excluded = inr (record { whole = omega arith; excluded = omega arith });
  undeclared = λ set. elim set [ inl declared ↦ omega (arith, declared) | inr others ↦ omega (arith, others.excluded) ];
  undeclared_out = λ set. elim set [ inl declared ↦ omega (arith, declared) | inr others ↦ omega (arith, others.excluded) ];
  past_all = λ set. elim set [ inl declared ↦ omega (arith, declared) | inr others ↦ omega (arith, others.whole) ];
}
