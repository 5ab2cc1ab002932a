-- The report of a step's partitions, put together.
use Rattle.std.proofs.Common.{◌≡◌, ◌≢◌, ℕ, zero, suc, ◌+◌, ◌<◌, ◌==◌, Bool, true, false, ltb, slice_get, subst, List, [], ◌∷◌, ◌++◌, map, flat_map, find, get_or, take, length, add-one, append-nil, arith, Option, Some, None, option_map, cond, refl, ap, sym, ◌∙◌, append_assoc}
use Rattle.std.specs.List.{enumerate_from, position_or_len, remove}
use Rattle.std.specs.Str.Lossy.{utf8_lossy}
use Rattle.json.specs.Token.{Token}
use Rattle.jb_rules.specs.declared.row.Row.{Row}
use Rattle.std.proofs.Math.Path.{fun_ext}
use Rattle.std.proofs.lemmas.Bool.Decides.{nat_tests}
use Rattle.std.proofs.lemmas.List.Folds.{find_at}
use Rattle.std.proofs.lemmas.List.Sums.{passes_at_first}
use Rattle.std.proofs.lemmas.Option.{slice_get-get_or, slice_get_past}
use Rattle.jb_artifacts.specs.Meaning.{ArtifactsMeaning}
use Rattle.jb_artifacts.specs.Writer.{Texts}
use Rattle.jb_collect.specs.declared.calls.AnalyzerCall.{AnalyzerCall}
use Rattle.jb_collect.specs.declared.calls.ReducerCall.{ReducerCall}
use Rattle.jb_collect.specs.declared.calls.Status.{Status}
use Rattle.jb_saved.specs.SavedTree.{tokens_of}
use Rattle.jb_step.specs.Answers.{given_back}
use Rattle.jb_cert.specs.declared.notes.PlanNote.{PlanNote}
use Rattle.jb_texts.specs.Report.{PartitionReport, results_tree}
use Rattle.jb_texts.specs.ReportTokens.{outputs_tokens, step_head, step_tail, step_tokens}
use Rattle.jb_program.specs.StepRun.{committed_of, outputs_in, partitions_left}
use Rattle.jb_program.specs.inside.Written.{lists_left, outputs_by, written_at}

-- ---- the writers that came back

-- one list more
pub one-list : {B : Type 0} (meaning : B → ArtifactsMeaning) (old new : List (ℕ × Texts)) (list : ℕ × Texts) (left : ℕ × B) (items rest : List (ℕ × B)) (whole : List (ℕ × Texts))
    → new ≡ old ++ list ∷ [] → items ≡ left ∷ rest → list ∷ [] ≡ lists_left (given_back meaning (left ∷ []))
    → old ++ lists_left (given_back meaning items) ≡ whole → new ++ lists_left (given_back meaning rest) ≡ whole
one-list meaning old new list left items rest whole is next same so_far =
    let later = lists_left (given_back meaning rest) in
    ap (λ ls. ls ++ later) is ∙ append_assoc old (list ∷ []) later ∙ ap (λ ls. old ++ (ls ++ later)) same
    ∙ ap (λ is. old ++ lists_left (given_back meaning is)) (sym next) ∙ so_far

-- ---- the list of a partition, taken out of the others

is-placed : (b : Bool) (k place : ℕ) → ◌≡◌ {A = Option ℕ} (Some place) (cond b (Some k) None) → (place ≡ k) × (b ≡ true)
is-placed true k place is = (cc, refl)
is-placed false k place is = absurd cc

is-missed : (b : Bool) (k : ℕ) → ◌≡◌ {A = Option ℕ} None (cond b (Some k) None) → b ≡ false
is-missed true k is = absurd cc
is-missed false k is = refl

kept-by : (b : Bool) (x : ℕ × Texts) (one other : Option (ℕ × Texts)) → one ≡ other → cond b (Some x) one ≡ cond b (Some x) other
kept-by b x one other is = ap (cond b (Some x)) is

passed-by : (b : Bool) (x : ℕ × Texts) (found : Option (ℕ × Texts)) → b ≡ false → found ≡ cond b (Some x) found
passed-by true x found is = absurd cc
passed-by false x found is = refl

-- where a list is taken out, those of other partitions are found as before
others-kept : (lists : List (ℕ × Texts)) (k q : ℕ) (d : ℕ × Texts) → k < length lists → ((get_or lists k d).0 == q) ≡ false → find (λ one. one.0 == q) (remove lists k) ≡ find (λ one. one.0 == q) lists
others-kept [] k q d within other = absurd (omega (arith, within))
others-kept (x ∷ lists) zero q d within other = passed-by (x.0 == q) x (find (λ one. one.0 == q) lists) other
others-kept (x ∷ lists) (suc k) q d within other = kept-by (x.0 == q) x _ _ (others-kept lists k q d (omega (arith, within)) other)

-- the first list of a partition, by its place
module _ (lists : List (ℕ × Texts)) (p place : ℕ) (d : ℕ × Texts)
    (is : ◌≡◌ {A = Option ℕ} (Some place) (cond (ltb (position_or_len (λ one. one.0 == p) lists) (length lists)) (Some (position_or_len (λ one. one.0 == p) lists)) None)) where
  abbrev place-of : ℕ
  place-of = position_or_len (λ one. one.0 == p) lists

  same-place : place ≡ place-of
  same-place = (is-placed (ltb place-of (length lists)) place-of place is).0

  pub place-within : place < length lists
  place-within = let below = (is-placed (ltb place-of (length lists)) place-of place is).1 in grind (arith, nat_tests, same-place, below)

  pub found-at : find (λ one. one.0 == p) lists ≡ Some (get_or lists place d)
  found-at = find_at (λ one. one.0 == p) lists ∙ ap (slice_get lists) (sym same-place) ∙ slice_get-get_or lists place d place-within

  of-this : (get_or lists place d).0 ≡ p
  of-this =
      let within : place-of < length lists = subst (λ n. n < length lists) same-place place-within in
      let passes : ((get_or lists place-of d).0 == p) ≡ true = passes_at_first (λ one. one.0 == p) lists d within in
      let here : (get_or lists place-of d).0 ≡ p = grind (arith, nat_tests, passes) in
      ap (λ n. (get_or lists n d).0) same-place ∙ here

  pub others-found : (q : ℕ) → q ≢ p → find (λ one. one.0 == q) (remove lists place) ≡ find (λ one. one.0 == q) lists
  others-found q other = others-kept lists place q d place-within (not-other ((get_or lists place d).0 == q) refl)
    where
      not-other : (b : Bool) → ((get_or lists place d).0 == q) ≡ b → ((get_or lists place d).0 == q) ≡ false
      not-other true same = let equal : (get_or lists place d).0 ≡ q = grind (arith, nat_tests, same) in absurd (other (sym equal ∙ of-this))
      not-other false same = same

-- and where there is none
pub found-none : (lists : List (ℕ × Texts)) (p : ℕ) → ◌≡◌ {A = Option ℕ} None (cond (ltb (position_or_len (λ one. one.0 == p) lists) (length lists)) (Some (position_or_len (λ one. one.0 == p) lists)) None)
    → find (λ one. one.0 == p) lists ≡ None
found-none lists p is =
    let first = position_or_len (λ one. one.0 == p) lists in
    let past = is-missed (ltb first (length lists)) first is in
    find_at (λ one. one.0 == p) lists ∙ slice_get_past lists first (grind (arith, nat_tests, past))

-- what is of the same partition
abbrev paired : {A B : Type 0} → (A → B) → ℕ × A → ℕ × B
paired held one = (one.0, held one.1)

found-by : {A B : Type 0} (b : Bool) (a : ℕ × A) (held : A → B) (found : Option (ℕ × A)) (rest : Option (ℕ × B))
    → option_map (paired held) found ≡ rest
    → option_map (paired held) (cond b (Some a) found) ≡ cond b (Some (paired held a)) rest
found-by true a held found rest same = refl
found-by false a held found rest same = same

-- what is of a partition, looked for among what is of all
find-mapped : {A B : Type 0} (held : A → B) (all : List (ℕ × A)) (p : ℕ)
    → option_map (paired held) (find (λ one. one.0 == p) all) ≡ find (λ one. one.0 == p) (map (paired held) all)
find-mapped held [] p = refl
find-mapped held (a ∷ all) p =
    found-by (a.0 == p) a held (find (λ one. one.0 == p) all) (find (λ one. one.0 == p) (map (paired held) all)) (find-mapped held all p)

by-writer : (before : Texts) (found : Option (ℕ × ArtifactsMeaning)) → outputs_by before (option_map (paired (λ (artifacts : ArtifactsMeaning). artifacts.writer.written)) found) ≡ outputs_in before found
by-writer before None = refl
by-writer before (Some left) = refl

-- ---- what is written of the partitions

-- the outputs of a partition, of all that came back
abbrev pub outputs_at : (outputs : List (List (List ℕ))) → List (ℕ × ArtifactsMeaning) → ℕ × Row → List Token
outputs_at outputs left n = tokens_of (results_tree (outputs_in (committed_of outputs n) (find (λ one. one.0 == n.0) left)))

-- they are those of the writers
written-left : (outputs : List (List (List ℕ))) (left : List (ℕ × ArtifactsMeaning)) (n : ℕ × Row) → written_at outputs (lists_left left) n ≡ outputs_at outputs left n
written-left outputs left n = ap (λ outs. tokens_of (results_tree outs))
    (sym (ap (outputs_by (committed_of outputs n)) (find-mapped (λ (artifacts : ArtifactsMeaning). artifacts.writer.written) left n.0)) ∙ by-writer (committed_of outputs n) (find (λ one. one.0 == n.0) left))

-- of all partitions
pub all-written : (outputs : List (List (List ℕ))) (left : List (ℕ × ArtifactsMeaning)) (lists : List (ℕ × Texts)) (rows : List Row) → lists ≡ lists_left left
    → flat_map (written_at outputs lists) (enumerate_from 0 rows) ≡ flat_map (outputs_at outputs left) (enumerate_from 0 rows)
all-written outputs left lists rows is =
    ap (λ ls. flat_map (written_at outputs ls) (enumerate_from 0 rows)) is ∙ ap (λ f. flat_map f (enumerate_from 0 rows)) (fun_ext (written-left outputs left))

more-from : (f : ℕ × Row → List Token) (n : ℕ) (rows : List Row) (k : ℕ) (d : Row) → k < length rows → flat_map f (enumerate_from n (take (suc k) rows)) ≡ flat_map f (enumerate_from n (take k rows)) ++ f (n + k, get_or rows k d)
more-from f n [] k d below = absurd (omega (arith, below))
more-from f n (row ∷ rows) zero d below = let here : n ≡ n + 0 = omega arith in append-nil (f (n, row)) ∙ ap (λ i. f (i, row)) here
more-from f n (row ∷ rows) (suc k) d below =
    let on : n + 1 + k ≡ n + suc k = omega arith in
    ap (λ ts. f (n, row) ++ ts) (more-from f (n + 1) rows k d (omega (arith, below)) ∙ ap (λ i. flat_map f (enumerate_from (n + 1) (take k rows)) ++ f (i, get_or rows k d)) on)
    ∙ sym (append_assoc (f (n, row)) (flat_map f (enumerate_from (n + 1) (take k rows))) (f (n + suc k, get_or rows k d)))

-- the outputs of one partition more
pub outputs-more : (f : ℕ × Row → List Token) (rows : List Row) (k : ℕ) (d : Row) → k < length rows → flat_map f (enumerate_from 0 (take (k + 1) rows)) ≡ flat_map f (enumerate_from 0 (take k rows)) ++ f (k, get_or rows k d)
outputs-more f rows k d below =
    let none : 0 + k ≡ k = omega arith in
    ap (λ n. flat_map f (enumerate_from 0 (take n rows))) (add-one k) ∙ more-from f 0 rows k d below ∙ ap (λ i. flat_map f (enumerate_from 0 (take k rows)) ++ f (i, get_or rows k d)) none

-- the partitions from this number on
abbrev pub left-from : (outputs : List (List (List ℕ))) → (first : ℕ) → List Row → List (ℕ × ArtifactsMeaning) → List PartitionReport
left-from outputs first rows left = map (λ n. record { row = n.1; outputs = outputs_in (committed_of outputs n) (find (λ one. one.0 == n.0) left) }) (enumerate_from first rows)

rows-left : (outputs : List (List (List ℕ))) (first : ℕ) (rows : List Row) (left : List (ℕ × ArtifactsMeaning)) → map (λ p. p.row) (left-from outputs first rows left) ≡ rows
rows-left outputs first [] left = refl
rows-left outputs first (row ∷ rows) left = ap (λ rs. row ∷ rs) (rows-left outputs (first + 1) rows left)

outputs-left : (outputs : List (List (List ℕ))) (first : ℕ) (rows : List Row) (left : List (ℕ × ArtifactsMeaning)) → outputs_tokens (left-from outputs first rows left) ≡ flat_map (outputs_at outputs left) (enumerate_from first rows)
outputs-left outputs first [] left = refl
outputs-left outputs first (row ∷ rows) left = ap (λ ts. outputs_at outputs left (first, row) ++ ts) (outputs-left outputs (first + 1) rows left)

count-left : (outputs : List (List (List ℕ))) (first : ℕ) (rows : List Row) (left : List (ℕ × ArtifactsMeaning)) → length (left-from outputs first rows left) ≡ length rows
count-left outputs first [] left = refl
count-left outputs first (row ∷ rows) left = ap suc (count-left outputs (first + 1) rows left)

-- a step's report, written one part after another
pub step-written : (id : List ℕ) (status : Status) (outputs : List (List (List ℕ))) (rows : List Row) (left : List (ℕ × ArtifactsMeaning)) (heard : List AnalyzerCall) (plans : List PlanNote) (reducer : List ReducerCall) (old begun passed : List Token)
    → begun ≡ old ++ step_head (length rows) heard → passed ≡ begun ++ flat_map (outputs_at outputs left) (enumerate_from 0 rows)
    → passed ++ step_tail rows plans reducer status id ≡ old ++ step_tokens (record { id = id; status = status; partitions = partitions_left outputs rows left; heard = heard; plans = plans; reducer = reducer })
step-written id status outputs rows left heard plans reducer old begun passed begins passes =
    let written = flat_map (outputs_at outputs left) (enumerate_from 0 rows) in
    let tail : List Row → List Token = λ rs. step_tail rs plans reducer status id in
    let reports = partitions_left outputs rows left in
    ap (λ ts. ts ++ tail rows) passes ∙ ap (λ ts. (ts ++ written) ++ tail rows) begins
    ∙ append_assoc (old ++ step_head (length rows) heard) written (tail rows) ∙ append_assoc old (step_head (length rows) heard) (written ++ tail rows)
    ∙ sym (ap (λ n. old ++ (step_head n heard ++ (outputs_tokens reports ++ tail (map (λ p. p.row) reports)))) (count-left outputs 0 rows left)
    ∙ ap (λ ts. old ++ (step_head (length rows) heard ++ (ts ++ tail (map (λ p. p.row) reports)))) (outputs-left outputs 0 rows left)
    ∙ ap (λ rs. old ++ (step_head (length rows) heard ++ (written ++ tail rs))) (rows-left outputs 0 rows left))
