-- The first record whose fault isn't skipped.
use Rattle.std.proofs.Common.{◌≡◌, ℕ, ◌+◌, ◌-◌, ◌≤◌, ◌<◌, zero, suc, Bool, true, false, not, cond, [], ◌∷◌, ◌++◌, Option, Some, None, ap, sym, ◌∙◌, arith}
use Rattle.std.specs.List.{range_with_len, find}
use Rattle.std.specs.Option.{option_or}
use Rattle.std.proofs.lemmas.List.Folds.{find-append}
use Rattle.jb_base.specs.declared.class.ClassId.{ClassId}
use Rattle.jb_rules.specs.declared.choice.Choice.{Choice}
use Rattle.jb_base.specs.Rules.{RulesRecord}
use Rattle.jb_rules.specs.declared.row.Row.{Row}
use Rattle.jb_rules.specs.Rows.{skips_of}
use Rattle.jb_artifacts.specs.Meaning.{ArtifactsMeaning}
use Rattle.jb_chunk.specs.Block.{entry, settles, settling, stops, is_skip, choice_at, skips_before, passed}
use Rattle.jb_chunk.specs.Entries.{fault_in}
use Rattle.jb_chunk.specs.inside.Gathering.{Yield, IsTally, IsGatheringStep}
use Rattle.jb_chunk.proofs.PassedRecords.{entry-passed}
use Rattle.jb_chunk.proofs.RecordCounts.{numbers-to}

pub settling-none : (rules : RulesRecord) (row : Row) (w : ArtifactsMeaning) → settling rules row w row.at ≡ None
unfolding settling
settling-none rules row w =
    let none : row.at - row.at ≡ 0 = omega arith in
    ap (λ n. find (settles rules row w) (range_with_len row.at n)) none

pub settling-idle : (rules : RulesRecord) (row : Row) (w : ArtifactsMeaning) (n : ℕ) → row.at ≤ n → settling rules row w n ≡ None → settles rules row w n ≡ false → settling rules row w (n + 1) ≡ None
unfolding settling
settling-idle rules row w n le none idle =
    let p = settles rules row w in
    ap (find p) (numbers-to row.at n le)
    ∙ find-append p (range_with_len row.at (n - row.at)) (n ∷ [])
    ∙ ap (λ o. option_or o (cond (p n) (Some n) None)) none
    ∙ ap (λ b. cond b (Some n) None) idle

pub numbers-split : (lo n m : ℕ) → range_with_len lo (n + m) ≡ range_with_len lo n ++ range_with_len (lo + n) m
numbers-split lo zero m =
    let len : 0 + m ≡ m = omega arith in
    let start : lo ≡ lo + 0 = omega arith in
    ap (range_with_len lo) len ∙ ap (λ a. range_with_len a m) start
numbers-split lo (suc n) m =
    let len : suc n + m ≡ suc (n + m) = omega arith in
    let start : lo + 1 + n ≡ lo + suc n = omega arith in
    ap (range_with_len lo) len
    ∙ ap (λ xs. lo ∷ xs) (numbers-split (lo + 1) n m)
    ∙ ap (λ a. lo ∷ range_with_len (lo + 1) n ++ range_with_len a m) start

pub settling-found : (rules : RulesRecord) (row : Row) (w : ArtifactsMeaning) (n hi : ℕ) → row.at ≤ n → n < hi → settling rules row w n ≡ None → settles rules row w n ≡ true → settling rules row w hi ≡ Some n
unfolding settling
settling-found rules row w n hi le lt none found =
    let p = settles rules row w in
    let rest = hi - n - 1 in
    let len : hi - row.at ≡ (n - row.at) + suc rest = omega arith in
    let start : row.at + (n - row.at) ≡ n = omega arith in
    ap (λ m. find p (range_with_len row.at m)) len
    ∙ ap (find p) (numbers-split row.at (n - row.at) (suc rest))
    ∙ find-append p (range_with_len row.at (n - row.at)) (range_with_len (row.at + (n - row.at)) (suc rest))
    ∙ ap (λ o. option_or o (find p (range_with_len (row.at + (n - row.at)) (suc rest)))) none
    ∙ ap (λ a. find p (range_with_len a (suc rest))) start
    ∙ ap (λ b. cond b (Some n) (find p (range_with_len (n + 1) rest))) found

-- the skips before a record are those of the row and of the tally
pub skips-tally : (row : Row) (w : ArtifactsMeaning) (n : ℕ) (t : Yield) → IsTally w row.at n t → skips_before row w n ≡ skips_of row + t.skips
skips-tally row w n t tally = ap (λ m. skips_of row + m) (sym tally.skips)

-- a record settles the block by its fault and the skips before it
settles-by : (rules : RulesRecord) (row : Row) (w : ArtifactsMeaning) (n skips : ℕ) (fault : Option ClassId) (b : Bool) → fault_in (entry w n) ≡ fault → skips_before row w n ≡ skips → stops rules row fault skips ≡ b → settles rules row w n ≡ b
unfolding settles
settles-by rules row w n skips fault b e f h =
    ap (λ o. stops rules row o (skips_before row w n)) e ∙ ap (stops rules row fault) f ∙ h

pub step-some : (rules : RulesRecord) (row : Row) (w now : ArtifactsMeaning) (n hi : ℕ) (t new : Yield) (class : ClassId) (choice : Choice) → row.at ≤ n → n < hi → now ≡ passed w row.at n → IsTally w row.at n t → settling rules row w n ≡ None → IsGatheringStep rules row (entry now n) n t (Some (class, choice)) new → (settling rules row w hi ≡ Some n) × (fault_in (entry w n) ≡ Some class) × (choice ≡ choice_at rules row class (skips_before row w n)) × (is_skip choice ≡ false)
step-some rules row w now n hi t new class choice le lt at tally none step =
    let same : entry now n ≡ entry w n = ap (λ v. entry v n) at ∙ entry-passed w row.at n in
    let fault : fault_in (entry w n) ≡ Some class = ap fault_in (sym same) ∙ step.0 in
    let skips = skips-tally row w n t tally in
    let found = settles-by rules row w n _ _ true fault skips (ap not step.2) in
    (settling-found rules row w n hi le lt none found, fault, step.1 ∙ ap (choice_at rules row class) (sym skips), ap is_skip step.1 ∙ step.2)

pub step-none : (rules : RulesRecord) (row : Row) (w now : ArtifactsMeaning) (n : ℕ) (t new : Yield) → row.at ≤ n → now ≡ passed w row.at n → IsTally w row.at n t → settling rules row w n ≡ None → IsGatheringStep rules row (entry now n) n t None new → settling rules row w (n + 1) ≡ None
step-none rules row w now n t new le at tally none step =
    let same : entry now n ≡ entry w n = ap (λ v. entry v n) at ∙ entry-passed w row.at n in
    let idle = settles-by rules row w n _ _ false (ap fault_in (sym same)) (skips-tally row w n t tally) step.0 in
    settling-idle rules row w n le none idle
