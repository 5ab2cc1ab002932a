-- Records of which no call fails.
use Rattle.std.proofs.Common.{◌≡◌, ℕ, zero, suc, ◌+◌, ◌-◌, ◌≤◌, ◌<◌, Bool, false, cond, List, ◌∷◌, Option, Some, None, is_some, refl, ap, ◌∙◌, arith}
use Rattle.std.specs.Prelude.{find, count_by}
use Rattle.std.specs.List.{filter_map, range_with_len, cons_option}
use Rattle.std.proofs.lemmas.List.Sums.{sum_by-cons}
use Rattle.jb_base.specs.Rules.{RulesRecord}
use Rattle.jb_rules.specs.declared.row.Row.{Row}
use Rattle.jb_artifacts.specs.Faults.{FaultTable, live}
use Rattle.jb_artifacts.specs.Reader.{record_at}
use Rattle.jb_artifacts.specs.Writer.{Numbered, texts_of, failing}
use Rattle.jb_artifacts.specs.Meaning.{ArtifactsMeaning}
use Rattle.jb_chunk.specs.Block.{entry, entry_by, results, count_of, settles, settling, stops, skips_before}
use Rattle.jb_chunk.specs.Entries.{Entry, Processed, fault_in, text_in, numbered}
use Rattle.jb_chunk.specs.Plain.{plain_answers, IsCalm}

-- the answer for a record
abbrev pub answer_at : ArtifactsMeaning → ℕ → Option (List ℕ)
answer_at w k = w.processor.answer k (record_at w.reader k)

-- its entry is that of the answer
abbrev IsSound : ArtifactsMeaning → ℕ → Type 0
IsSound w k = entry w k ≡ entry_by None None (answer_at w k)

calm-entry : (w : ArtifactsMeaning) (lo hi k : ℕ) → IsCalm w lo hi → lo ≤ k → k < hi → IsSound w k
unfolding entry
calm-entry w lo hi k calm le lt =
    let reads = calm.reads k le lt in
    let processes = calm.processes k le lt in
    λ i. entry_by (reads i) (processes i) (answer_at w k)

abbrev result_at : ArtifactsMeaning → ℕ → Option (ℕ × List ℕ)
result_at w k = numbered k (text_in (entry w k))

texts-one : (k : ℕ) (a : Option (List ℕ)) (more : Numbered) (rest : List (List ℕ)) → texts_of more ≡ rest → texts_of (cons_option (numbered k (text_in (entry_by None None a))) more) ≡ cons_option a rest
texts-one k None more rest e = e
texts-one k (Some x) more rest e = ap (λ ys. x ∷ ys) e

texts-calm : (w : ArtifactsMeaning) (n lo : ℕ) → ((k : ℕ) → lo ≤ k → k < lo + n → IsSound w k) → texts_of (filter_map (result_at w) (range_with_len lo n)) ≡ filter_map (answer_at w) (range_with_len lo n)
texts-calm w zero lo sound = refl
texts-calm w (suc n) lo sound =
    let rest = texts-calm w n (lo + 1) (λ k le lt. sound k (omega (arith, le)) (omega (arith, lt))) in
    ap (λ e. texts_of (cons_option (numbered lo (text_in e)) (filter_map (result_at w) (range_with_len (lo + 1) n)))) (sound lo (omega arith) (omega arith))
    ∙ texts-one lo (answer_at w lo) _ _ rest

faultless-one : (plans : FaultTable) (k : ℕ) (a : Option (List ℕ)) (more : Numbered) → live (plans k) ≡ None → failing plans more ≡ None → failing plans (cons_option (numbered k (text_in (entry_by None None a))) more) ≡ None
faultless-one plans k None more e rest = rest
faultless-one plans k (Some x) more e rest = ap (λ o. cond (is_some o) (Some (k, x)) (failing plans more)) e ∙ rest

faultless : (w : ArtifactsMeaning) (n lo : ℕ) → ((k : ℕ) → lo ≤ k → k < lo + n → IsSound w k) → ((k : ℕ) → lo ≤ k → k < lo + n → live (w.writer.faults k) ≡ None) → failing w.writer.faults (filter_map (result_at w) (range_with_len lo n)) ≡ None
faultless w zero lo sound writes = refl
faultless w (suc n) lo sound writes =
    let rest = faultless w n (lo + 1) (λ k le lt. sound k (omega (arith, le)) (omega (arith, lt))) (λ k le lt. writes k (omega (arith, le)) (omega (arith, lt))) in
    ap (λ e. failing w.writer.faults (cons_option (numbered lo (text_in e)) (filter_map (result_at w) (range_with_len (lo + 1) n)))) (sound lo (omega arith) (omega arith))
    ∙ faultless-one w.writer.faults lo (answer_at w lo) _ (writes lo (omega arith) (omega arith)) rest

sound-settles : (rules : RulesRecord) (row : Row) (w : ArtifactsMeaning) (k : ℕ) → IsSound w k → settles rules row w k ≡ false
unfolding settles
sound-settles rules row w k e = ap (λ o. stops rules row o (skips_before row w k)) (ap fault_in e)

pub find-idle : (p : ℕ → Bool) (n lo : ℕ) → ((k : ℕ) → lo ≤ k → k < lo + n → p k ≡ false) → find p (range_with_len lo n) ≡ None
find-idle p zero lo idle = refl
find-idle p (suc n) lo idle =
    ap (λ b. cond b (Some lo) (find p (range_with_len (lo + 1) n))) (idle lo (omega arith) (omega arith))
    ∙ find-idle p n (lo + 1) (λ k le lt. idle k (omega (arith, le)) (omega (arith, lt)))

count-idle : (p : ℕ → Bool) (n lo : ℕ) → ((k : ℕ) → lo ≤ k → k < lo + n → p k ≡ false) → count_by p (range_with_len lo n) ≡ 0
count-idle p zero lo idle = refl
count-idle p (suc n) lo idle =
    let first = idle lo (omega arith) (omega arith) in
    let rest = count-idle p n (lo + 1) (λ k le lt. idle k (omega (arith, le)) (omega (arith, lt))) in
    sum_by-cons (λ k. cond (p k) 1 0) lo (range_with_len (lo + 1) n)
    ∙ ap (λ b. cond b 1 0 + count_by p (range_with_len (lo + 1) n)) first
    ∙ ap (λ m. 0 + m) rest

-- the records of a calm range, by their numbers from `lo` on
pub calm-sound : (w : ArtifactsMeaning) (lo hi : ℕ) → lo ≤ hi → IsCalm w lo hi → (k : ℕ) → lo ≤ k → k < lo + (hi - lo) → IsSound w k
calm-sound w lo hi le calm k from to = calm-entry w lo hi k calm from (omega (arith, le, to))

pub calm-texts : (w : ArtifactsMeaning) (lo hi : ℕ) → lo ≤ hi → IsCalm w lo hi → texts_of (results w lo hi) ≡ plain_answers w lo hi
unfolding results plain_answers
calm-texts w lo hi le calm = texts-calm w (hi - lo) lo (calm-sound w lo hi le calm)

pub calm-failing : (w : ArtifactsMeaning) (lo hi : ℕ) → lo ≤ hi → IsCalm w lo hi → failing w.writer.faults (results w lo hi) ≡ None
unfolding results
calm-failing w lo hi le calm = faultless w (hi - lo) lo (calm-sound w lo hi le calm) (λ k from to. calm.writes k from (omega (arith, le, to)))

pub calm-settling : (rules : RulesRecord) (row : Row) (w : ArtifactsMeaning) (hi : ℕ) → row.at ≤ hi → IsCalm w row.at hi → settling rules row w hi ≡ None
unfolding settling
calm-settling rules row w hi le calm = find-idle (settles rules row w) (hi - row.at) row.at (λ k from to. sound-settles rules row w k (calm-sound w row.at hi le calm k from to))

pub calm-counts : (p : Entry → Bool) → ((answer : Option (List ℕ)) → p (Processed answer) ≡ false) → (w : ArtifactsMeaning) (lo hi : ℕ) → lo ≤ hi → IsCalm w lo hi → count_of p w lo hi ≡ 0
unfolding count_of
calm-counts p none w lo hi le calm = count-idle (λ k. p (entry w k)) (hi - lo) lo (λ k from to. ap p (calm-sound w lo hi le calm k from to) ∙ none (answer_at w k))
