-- Which records have no result.
use Rattle.std.proofs.Common.{◌≡◌, ℕ, suc, ◌+◌, cond, List, [], ◌∷◌, length, is_some, refl, arith}
use Rattle.std.specs.Prelude.{filter}
use Rattle.std.specs.List.{cons_option, filter_map}
use Rattle.jb_rows.specs.Answers.{Answer, Filtered, Given, Refused}
use Rattle.jb_records.specs.Function.{OthersAreLeftOut, answer_for, is_filtered, is_filtered_by, is_refused, refusal_in, result_in, result_of}

-- a record has a result, or is refused, or is filtered
one-more : (a : Answer) (bytes : List ℕ) (rs xs ys : List (List ℕ)) (m : ℕ) → length rs + length xs + length ys ≡ m
    → length (cons_option (result_in a) rs) + length (cond (is_some (refusal_in a)) (bytes ∷ xs) xs) + length (cond (is_filtered_by a) (bytes ∷ ys) ys) ≡ suc m
one-more (Refused class) bytes rs xs ys m e = omega (arith, e)
one-more (Given fields) bytes rs xs ys m e = omega (arith, e)
one-more Filtered bytes rs xs ys m e = omega (arith, e)

pub others-left-out : OthersAreLeftOut
others-left-out f [] = refl
others-left-out f (bytes ∷ records) = one-more (answer_for f bytes) bytes (filter_map (result_of f) records) (filter (is_refused f) records) (filter (is_filtered f) records) (length records) (others-left-out f records)
