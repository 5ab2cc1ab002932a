-- Partitions that grow, one after the other and interval by interval.
use Rattle.std.{proofs.Common.{◌^◌, ◌/◌, ◌%◌, ◌==◌, ◌++◌, ℕ, zero, suc, ◌≡◌, ◌<◌, ◌+◌, ◌*◌, List, [], ◌∷◌, length, map, take, drop, get_or, set, refl, sym, ap, subst, ◌∙◌, arith}, specs.List.{filter, range_with_len}, specs.Prelude.{Bool}, proofs.lemmas.List.Elements.{filter-append}}
use Rattle.jb_slice_run.{proofs.RowsSoFar.{range-on}, specs.Members.{classes_below}, specs.Named.{Faults, failures_by, faults_grown}, specs.Held.{AreIntervalsOf, new_output_grown, no_new_output, one_grown}, specs.Strings.{NewOutput, fault_string, new_output_lists, stop_list}}
use Rattle.jb_slice_run.specs.SliceBytes.{AreStoredAs, IsIntervalStored}
use Rattle.jb_rules.specs.declared.row.Row.{Row}
use Rattle.jb_slice_file.specs.{CheckpointBytes.{checkpoint_bytes}, declared.checkpoint.Checkpoint.{Checkpoint as HeldCheckpoint}}
use Rattle.jb_slices.specs.Checkpoint.{Begins, Checkpoint, GoesOn, Interval}

-- ---- the three lists of a partition

pub three_each : (ns : List NewOutput) → length (new_output_lists ns) ≡ 3 * length ns
three_each [] = refl
three_each (n ∷ ns) = let more = three_each ns in omega (arith, more)

-- they come after a first list
pub three_at : (first : List (List ℕ)) (ns : List NewOutput) (i : ℕ) (a b d : List (List ℕ)) → i < length ns → a ≡ get_or (first ∷ new_output_lists ns) (3 * i + 1) a → b ≡ get_or (first ∷ new_output_lists ns) (3 * i + 2) b
    → d ≡ get_or (first ∷ new_output_lists ns) (3 * i + 3) d
    → (a ≡ (get_or ns i no_new_output).results) × (b ≡ map fault_string (get_or ns i no_new_output).skips) × (d ≡ stop_list (get_or ns i no_new_output).stop)
three_at first [] i a b d within p q r = absurd (omega (arith, within))
three_at first (n ∷ ns) zero a b d within p q r = (p, q, r)
three_at first (n ∷ ns) (suc i) a b d within p q r =
    let next = λ (k : ℕ) (x : List (List ℕ)). (let more : 3 * suc i + k ≡ suc (suc (suc (3 * i + k))) = omega arith in ap (λ (m : ℕ). get_or (first ∷ new_output_lists (n ∷ ns)) m x) more) in
    three_at (stop_list n.stop) ns i a b d (omega (arith, within)) (p ∙ next 1 a) (q ∙ next 2 b) (r ∙ next 3 d)

-- ---- one partition more

pub none_grown : (bs : List NewOutput) → new_output_grown bs [] ≡ bs
none_grown [] = refl
none_grown (b ∷ bs) = refl

pub next_grown : (bs ns : List NewOutput) (i : ℕ) → i < length ns → i < length bs
    → set (new_output_grown bs (take i ns)) i (one_grown (get_or (new_output_grown bs (take i ns)) i no_new_output) (get_or ns i no_new_output)) ≡ new_output_grown bs (take (suc i) ns)
next_grown (b ∷ bs) (n ∷ ns) zero within below = ap (λ r. one_grown b n ∷ r) (sym (none_grown bs))
next_grown (b ∷ bs) (n ∷ ns) (suc i) within below = ap (λ r. one_grown b n ∷ r) (next_grown bs ns i (omega (arith, within)) (omega (arith, below)))
next_grown _ _ i within below = absurd (omega (arith, within, below))

-- ---- one interval after the other

pub nth_interval : (count : ℕ) (cs : List Checkpoint) (later : List HeldCheckpoint) (i : ℕ) (item : HeldCheckpoint) → AreStoredAs cs (map checkpoint_bytes later) → AreIntervalsOf count cs → i < length later
    → item ≡ get_or later i item → (iv : Interval) × IsIntervalStored iv (checkpoint_bytes item) × (length iv.partitions ≡ count) × (drop i cs ≡ GoesOn iv ∷ drop (suc i) cs)
nth_interval count (GoesOn iv ∷ cs) (l ∷ later) zero item so all within at = (iv, subst (λ (k : HeldCheckpoint). IsIntervalStored iv (checkpoint_bytes k)) (sym at) so.0, all.0, refl)
nth_interval count (GoesOn iv ∷ cs) (l ∷ later) (suc i) item so all within at = nth_interval count cs later i item so.1 all.1 (omega (arith, within)) at
nth_interval count (Begins h ∷ cs) (l ∷ later) i item so all within at = absurd all.0
nth_interval count [] [] i item so all within at = absurd (omega (arith, within))
nth_interval count _ _ i item so all within at = absurd so

-- ---- the faults and failures of no partition

pub none_after : (bs : List Faults) → faults_grown bs [] ≡ []
none_after [] = refl
none_after (b ∷ bs) = refl

pub none_left : (k : ℕ) (rows : List Row) → failures_by k rows [] ≡ []
none_left k [] = refl
none_left k (row ∷ rows) = refl

-- ---- the classes of a set

pub none_below : (set : ℕ) → classes_below set 0 ≡ []
unfolding classes_below
none_below set = refl

pub one_below : (set n : ℕ) → classes_below set (n + 1) ≡ classes_below set n ++ filter (λ (class : ℕ). (set / 2 ^ class) % 2 == 1) (n ∷ [])
unfolding classes_below
one_below set n =
    let p : ℕ → Bool = λ class. (set / 2 ^ class) % 2 == 1 in
    ap (filter p) (sym (range-on 0 n 1 n (n + 1) (omega arith) (omega arith))) ∙ filter-append p (range_with_len 0 n) (n ∷ [])
