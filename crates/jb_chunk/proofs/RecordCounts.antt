-- Results and counts of records that grow by one.
use Rattle.std.proofs.Common.{◌≡◌, ℕ, ◌+◌, ◌-◌, ◌≤◌, zero, suc, Bool, true, false, cond, List, [], ◌∷◌, ◌++◌, length, Option, Some, None, refl, ap, sym, ◌∙◌, arith, length-append, subst}
use Rattle.std.specs.List.{filter_map, range_with_len, cons_option, count_by}
use Rattle.std.specs.Prelude.{option_to_list}
use Rattle.std.proofs.lemmas.List.Elements.{filter_map-append}
use Rattle.std.proofs.lemmas.List.Sums.{sum_by-append}
use Rattle.jb_artifacts.specs.Meaning.{ArtifactsMeaning}
use Rattle.jb_chunk.specs.Block.{entry, results, count_of, passed}
use Rattle.jb_chunk.specs.Entries.{Entry, ReadFault, ProcessFault, Processed, text_in, numbered, one_if, is_fault, is_read_fault}
use Rattle.jb_chunk.specs.inside.Gathering.{Yield, IsTally, IsCountedUp}
use Rattle.jb_chunk.proofs.PassedRecords.{entry-passed}

-- the numbers from a on, and one more
pub numbers-more : (a n j : ℕ) → a + n ≡ j → range_with_len a (suc n) ≡ range_with_len a n ++ j ∷ []
numbers-more a zero j e = ap (λ x. x ∷ []) (omega arith)
numbers-more a (suc n) j e = ap (λ xs. a ∷ xs) (numbers-more (a + 1) n j (omega arith))

pub numbers-to : (lo n : ℕ) → lo ≤ n → range_with_len lo ((n + 1) - lo) ≡ range_with_len lo (n - lo) ++ n ∷ []
numbers-to lo n le =
    let len : (n + 1) - lo ≡ suc (n - lo) = omega arith in
    ap (range_with_len lo) len ∙ numbers-more lo (n - lo) n (omega arith)

cons-nil : {Y : Type 0} (o : Option Y) → cons_option o [] ≡ option_to_list o
cons-nil None = refl
cons-nil (Some y) = refl

pub results-none : (w : ArtifactsMeaning) (lo : ℕ) → results w lo lo ≡ []
unfolding results
results-none w lo =
    let none : lo - lo ≡ 0 = omega arith in
    ap (λ n. filter_map (λ k. numbered k (text_in (entry w k))) (range_with_len lo n)) none

pub results-more : (w : ArtifactsMeaning) (lo n : ℕ) → lo ≤ n → results w lo (n + 1) ≡ results w lo n ++ option_to_list (numbered n (text_in (entry w n)))
unfolding results
results-more w lo n le =
    let h : ℕ → Option (ℕ × List ℕ) = λ k. numbered k (text_in (entry w k)) in
    ap (filter_map h) (numbers-to lo n le)
    ∙ filter_map-append h (range_with_len lo (n - lo)) (n ∷ [])
    ∙ ap (λ ys. filter_map h (range_with_len lo (n - lo)) ++ ys) (cons-nil (h n))

pub count-none : (p : Entry → Bool) (w : ArtifactsMeaning) (lo : ℕ) → count_of p w lo lo ≡ 0
unfolding count_of
count-none p w lo =
    let none : lo - lo ≡ 0 = omega arith in
    ap (λ n. count_by (λ k. p (entry w k)) (range_with_len lo n)) none

one-cond : (b : Bool) → 0 + cond b 1 0 ≡ one_if b
one-cond true = refl
one-cond false = refl

pub count-more : (p : Entry → Bool) (w : ArtifactsMeaning) (lo n : ℕ) → lo ≤ n → count_of p w lo (n + 1) ≡ count_of p w lo n + one_if (p (entry w n))
unfolding count_of
count-more p w lo n le =
    let one : ℕ → ℕ = λ k. cond (p (entry w k)) 1 0 in
    ap (count_by (λ k. p (entry w k))) (numbers-to lo n le)
    ∙ sum_by-append one (range_with_len lo (n - lo)) (n ∷ [])
    ∙ ap (λ m. count_by (λ k. p (entry w k)) (range_with_len lo (n - lo)) + m) (one-cond (p (entry w n)))

pub tally-more : (w now : ArtifactsMeaning) (lo n : ℕ) (t new : Yield) → lo ≤ n → now ≡ passed w lo n → IsTally w lo n t → IsCountedUp n (entry now n) t new → IsTally w lo (n + 1) new
tally-more w now lo n t new le at tally up =
    let same : entry now n ≡ entry w n = ap (λ v. entry v n) at ∙ entry-passed w lo n in
    let counts : (p : Entry → Bool) (old next : ℕ) → old ≡ count_of p w lo n → next ≡ old + one_if (p (entry now n)) → next ≡ count_of p w lo (n + 1) =
    λ p old next e f. f ∙ ap (λ m. m + one_if (p (entry now n))) e ∙ ap (λ v. count_of p w lo n + one_if (p v)) same ∙ sym (count-more p w lo n le) in
    record {
      found =
          up.found
          ∙ ap (λ xs. xs ++ option_to_list (numbered n (text_in (entry now n)))) tally.found
          ∙ ap (λ v. results w lo n ++ option_to_list (numbered n (text_in v))) same
          ∙ sym (results-more w lo n le);
      skips = counts is_fault _ _ tally.skips up.skips;
      read_skips = counts is_read_fault _ _ tally.read_skips up.read_skips;
    }

pub tally-none : (w : ArtifactsMeaning) (lo : ℕ) (t : Yield) → t.found ≡ [] → t.skips ≡ 0 → t.read_skips ≡ 0 → IsTally w lo lo t
tally-none w lo t found skips reads = record {
  found = found ∙ sym (results-none w lo);
  skips = skips ∙ sym (count-none is_fault w lo);
  read_skips = reads ∙ sym (count-none is_read_fault w lo);
}

pub one_if-le : (b : Bool) → one_if b ≤ 1
one_if-le true = omega arith
one_if-le false = omega arith

-- so many records have so many skips, so many of them of reads, and so many results
pub record AreFew (records skips read_skips results : ℕ) : Type 0 where
  pub reads : read_skips ≤ skips
  pub all : skips + results ≤ records

few-each : (k : ℕ) (e : Entry) → AreFew 1 (one_if (is_fault e)) (one_if (is_read_fault e)) (length (option_to_list (numbered k (text_in e))))
few-each k (ReadFault class) = record { reads = omega arith; all = omega arith }
few-each k (ProcessFault class) = record { reads = omega arith; all = omega arith }
few-each k (Processed None) = record { reads = omega arith; all = omega arith }
few-each k (Processed (Some text)) = record { reads = omega arith; all = omega arith }

few-to : (w : ArtifactsMeaning) (lo m n : ℕ) → lo + m ≡ n → AreFew m (count_of is_fault w lo n) (count_of is_read_fault w lo n) (length (results w lo n))
few-to w lo zero n e =
    let P : ℕ → Type 0 = λ n. AreFew 0 (count_of is_fault w lo n) (count_of is_read_fault w lo n) (length (results w lo n)) in
    let same : lo ≡ n = omega arith in
    let skips = count-none is_fault w lo in
    let reads = count-none is_read_fault w lo in
    let found = ap length (results-none w lo) in
    subst P same (record { reads = omega (arith, skips, reads); all = omega (arith, skips, found) })
few-to w lo (suc m) n e =
    let P : ℕ → Type 0 = λ n. AreFew (suc m) (count_of is_fault w lo n) (count_of is_read_fault w lo n) (length (results w lo n)) in
    let k = lo + m in
    let same : k + 1 ≡ n = omega arith in
    let le : lo ≤ k = omega arith in
    let skips = count-more is_fault w lo k le in
    let reads = count-more is_read_fault w lo k le in
    let found = ap length (results-more w lo k le) ∙ length-append (results w lo k) (option_to_list (numbered k (text_in (entry w k)))) in
    let before = few-to w lo m k refl in
    let here = few-each k (entry w k) in
    let before_reads = before.reads in
    let before_all = before.all in
    let here_reads = here.reads in
    let here_all = here.all in
    subst P same (record { reads = omega (arith, before_reads, here_reads, skips, reads); all = omega (arith, before_all, here_all, skips, found) })

-- a record has a fault or a result, and not both
pub few-counted : (w : ArtifactsMeaning) (lo hi : ℕ) → lo ≤ hi → AreFew (hi - lo) (count_of is_fault w lo hi) (count_of is_read_fault w lo hi) (length (results w lo hi))
few-counted w lo hi le = few-to w lo (hi - lo) hi (omega arith)
