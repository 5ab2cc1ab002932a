-- A job's command line, as `clap` takes it.
use Rattle.std.proofs.Common.{◌≡◌, ◌∙◌, refl, ap, subst, subst₂, true, List, Option, Some, None, inl, inr, ◌≢◌}
use mathlib.Core.Path.{fun_ext}
use Rattle.clap.{proofs.WalkLemmas.{first_value-rows, raw_values-rows}, specs.Words.{HasKind, IsAmong, Text, all_of, first_of, found_of, is_simple, is_simple_and_free, kind_of, matches_of, rows_of}}
use Rattle.clap.specs.declared.{error.Error.{Error}, error.kind.ErrorKind.{ErrorKind}, error.kind.ErrorKind.TheVariants.{OutOfMemory}, parser.matches.ArgMatches.{ArgMatches}}
use Rattle.jb_csv_job.specs.{CommandLine.{AreRefused, IsLine, IsWrong, all_at, first_at, job_app}, Matched.{all_in, first_in}, declared.asked.Asked.{Asked}, declared.failure.CsvJobError.{CsvJobError}}
use Rattle.jb_csv_job.specs.declared.failure.CsvJobError.TheVariants as failure
use Rattle.jb_csv_job.specs.declared.failure.WordsFault.TheVariants as fault

-- it is simple, and no argument of it has a rule on another
pub is_free : (name : Text) (own : Option Text) → is_simple_and_free (job_app name own) ≡ true
is_free name None = refl
is_free name (Some own) = refl

pub simple : (name : Text) (own : Option Text) → is_simple (job_app name own) ≡ true
simple name None = refl
simple name (Some own) = refl

-- an error that isn't one of memory has one of the kinds
pub ends_in : (kinds : List ErrorKind) (e : Error) (kind : ErrorKind) → HasKind kinds e → kind_of e ≡ kind → kind ≢ OutOfMemory → IsAmong kind kinds
ends_in kinds e kind (inl full) is other = absurd (other cc)
ends_in kinds e kind (inr among) is other = subst (λ k. IsAmong k kinds) is among

module _ (m : ArgMatches) (name : Text) (own : Option Text) (words : List Text) (rows : rows_of (found_of m) ≡ matches_of (job_app name own) words) where
  first-is : first_in m ≡ first_at name own words
  first-is = fun_ext (λ id. first_value-rows (found_of m) id ∙ ap (first_of id) rows)

  all-is : all_in m ≡ all_at name own words
  all-is = fun_ext (λ id. raw_values-rows (found_of m) id ∙ ap (all_of id) rows)

  -- what the matches say is what the words say
  pub line-said : (asked : Asked) → IsLine (first_in m) (all_in m) own asked → IsLine (first_at name own words) (all_at name own words) own asked
  line-said asked line = subst₂ (λ first all. IsLine first all own asked) first-is all-is line

  pub wrong-said : (e : CsvJobError) → IsWrong (first_in m) e → IsWrong (first_at name own words) e
  wrong-said e wrong = subst (λ first. IsWrong first e) first-is wrong

-- a wrong value is why words are refused
pub refused-by : (name : Text) (own : Option Text) (words : List Text) (e : CsvJobError) → IsWrong (first_at name own words) e → AreRefused name own words e
refused-by name own words (failure.Words (fault.Threads value)) wrong = wrong
refused-by name own words (failure.Words (fault.Records value)) wrong = wrong
refused-by name own words (failure.Words (fault.Bytes value)) wrong = wrong
refused-by name own words (failure.Words (fault.Sha256 value)) wrong = wrong
refused-by name own words (failure.Words (fault.Part value)) wrong = wrong
refused-by name own words (failure.Words fault.PartAndCollect) wrong = wrong
refused-by name own words (failure.Words fault.PartAndOutput) wrong = wrong
refused-by name own words (failure.Words fault.NoFolder) wrong = wrong
refused-by name own words (failure.Words fault.NoText) wrong = wrong
refused-by name own words failure.Memory wrong = tt
refused-by name own words e wrong = absurd wrong
