-- The records that were skipped, one after another.
use Rattle.std.proofs.Common.{◌≡◌, ℕ, ◌+◌, ◌-◌, ◌++◌, List, [], Option, None, Some, refl, ap, sym, ◌∙◌, arith}
use Rattle.std.specs.Prelude.{option_to_list}
use Rattle.std.specs.List.{cons_option, filter_map, range_with_len}
use Rattle.std.proofs.lemmas.List.{append_assoc}
use Rattle.std.proofs.lemmas.List.Elements.{filter_map-append}
use Rattle.jb_chunk.proofs.SettlingRecord.{numbers-split}
use Rattle.jb_ready.specs.declared.notes.Note.{Note}
use Rattle.jb_records.specs.Function.{Function, refusal_of}
use Rattle.jb_records.specs.Skips.{skip_by, skips_between}
use Rattle.jb_records.specs.Artifacts.{record_of}

-- at first there is none
pub skips-none : (f : Function) (records : List (List ℕ)) (lo : ℕ) → skips_between f records lo lo ≡ []
skips-none f records lo =
    let none : lo - lo ≡ 0 = omega arith in
    ap (λ n. filter_map (λ k. skip_by k (refusal_of f (record_of 0 records k))) (range_with_len lo n)) none

one-option : (o : Option Note) → cons_option o [] ≡ option_to_list o
one-option None = refl
one-option (Some note) = refl

-- one record more
pub skips-more : (f : Function) (records : List (List ℕ)) (lo i : ℕ) → skips_between f records lo (lo + (i + 1)) ≡ skips_between f records lo (lo + i) ++ option_to_list (skip_by (lo + i) (refusal_of f (record_of 0 records (lo + i))))
skips-more f records lo i =
    let g : ℕ → Option Note = λ k. skip_by k (refusal_of f (record_of 0 records k)) in
    let long : lo + (i + 1) - lo ≡ i + 1 = omega arith in
    let short : i ≡ lo + i - lo = omega arith in
    ap (λ n. filter_map g (range_with_len lo n)) long
    ∙ ap (filter_map g) (numbers-split lo i 1)
    ∙ filter_map-append g (range_with_len lo i) (range_with_len (lo + i) 1)
    ∙ ap (λ xs. filter_map g (range_with_len lo i) ++ xs) (one-option (g (lo + i)))
    ∙ ap (λ n. filter_map g (range_with_len lo n) ++ option_to_list (g (lo + i))) short

pub skips-on : (f : Function) (records : List (List ℕ)) (lo i : ℕ) (start skips now : List Note) → skips ≡ start ++ skips_between f records lo (lo + i)
    → now ≡ skips ++ option_to_list (skip_by (lo + i) (refusal_of f (record_of 0 records (lo + i)))) → now ≡ start ++ skips_between f records lo (lo + (i + 1))
skips-on f records lo i start skips now is made =
    let one = option_to_list (skip_by (lo + i) (refusal_of f (record_of 0 records (lo + i)))) in
    made
    ∙ ap (λ xs. xs ++ one) is
    ∙ append_assoc start (skips_between f records lo (lo + i)) one
    ∙ ap (λ xs. start ++ xs) (sym (skips-more f records lo i))

-- all of them
pub skips-all : (f : Function) (records : List (List ℕ)) (lo hi i : ℕ) (start skips : List Note) → i ≡ hi - lo → skips ≡ start ++ skips_between f records lo (lo + i) → skips ≡ start ++ skips_between f records lo hi
skips-all f records lo hi i start skips all is =
    let g : ℕ → Option Note = λ k. skip_by k (refusal_of f (record_of 0 records k)) in
    let same : lo + i - lo ≡ hi - lo = omega (arith, all) in
    is ∙ ap (λ n. start ++ filter_map g (range_with_len lo n)) same
