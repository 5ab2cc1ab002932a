-- Reading the compact text of saved rows.
use Rattle.std.proofs.Common.{◌≡◌, ℕ, zero, suc, ◌≤◌, ◌<◌, ◌^◌, List, [], ◌∷◌, ◌++◌, map, Some, Option, refl, sym, ap, ◌∙◌, arith, append-nil}
use Rattle.std.specs.Prelude.{option_and_then}
use Rattle.json.specs.Token.{Token}
use Rattle.json.specs.Lex.{tokens}
use Rattle.json.specs.Json as json
use Rattle.json.specs.Tree as tree
use Rattle.json.proofs.Printed.Decimals.{IsNumber-decimal}
use Rattle.json.proofs.Printed.Tokens.{tokens-print}
use Rattle.json.proofs.Printed.Trees.{value-json_tokens, ArePrintable-json_tokens}
use Rattle.serde_json.specs.Data.{Items, string}
use Rattle.serde_json.specs.Read.{read, max_depth, of_json, of_items}
use Rattle.serde_json.specs.View.{items_of}
use Rattle.serde_json.specs.Written.{compact_text, outline, items_outline}
use Rattle.serde_json.proofs.Numbers.{number_of-decimal}
use Rattle.serde_json.proofs.Texts.{print-outline}
use Rattle.jb_rules.specs.declared.row.Row.{Row}
use Rattle.jb_rules.specs.Numbers.{numbers_of, state_name}
use Rattle.jb_rules.specs.Sound.{IsSoundRow}
use Rattle.jb_repo.specs.Openable.{AreIdle}
use Rattle.jb_saved.specs.SavedRows.{SavedRows, IsSaved}
use Rattle.jb_saved.specs.SavedTree.{number_tree, row_tree, saved_tree}

-- each number of a list fits
abbrev AreSmall : List ℕ → Type 0
AreSmall [] = Unit {0}
AreSmall (n ∷ ns) = (n < 2 ^ 64) × AreSmall ns

small : (r : Row) → IsSoundRow r → AreSmall (numbers_of r)
small r sound =
    let p = sound.placed in
    let c = sound.counted in
    (omega arith, (omega arith, (omega arith, (omega arith, (omega arith, (omega arith, (omega arith, (omega arith, (omega arith, (omega arith, (omega arith, (omega arith, (omega arith, (omega arith, (omega arith, tt)))))))))))))))

abbrev items : List ℕ → List ℕ → Items
items ns name = items_of (map number_tree ns ++ string name ∷ [])

numbers-json : (ns name : List ℕ) → AreSmall ns → of_items (items_outline (items ns name)) ≡ Some (items ns name)
numbers-json [] name fit = refl
numbers-json (n ∷ ns) name fit = rw (number_of-decimal n fit.0, numbers-json ns name fit.1) refl

numbers-print : (ns name : List ℕ) → AreSmall ns → tree.ItemsHaveNumbers (items_outline (items ns name))
numbers-print [] name fit = (tt, tt)
numbers-print (n ∷ ns) name fit = (IsNumber-decimal n fit.0, numbers-print ns name fit.1)

row-json : (r : Row) → AreSmall (numbers_of r) → of_json (outline (row_tree r)) ≡ Some (row_tree r)
row-json r fit = rw (numbers-json (numbers_of r) (state_name r.state) fit) refl

row-numbers : (r : Row) → AreSmall (numbers_of r) → tree.HasNumbers (outline (row_tree r))
row-numbers r fit = numbers-print (numbers_of r) (state_name r.state) fit

idle-tail : (r : Row) (rows : List Row) → AreIdle (r ∷ rows) → AreIdle rows
idle-tail r rows idle i s is = idle (suc i) s is

rows-json : (rows : List Row) → AreIdle rows → of_items (items_outline (items_of (map row_tree rows))) ≡ Some (items_of (map row_tree rows))
rows-json [] idle = refl
rows-json (r ∷ rows) idle = rw (row-json r (small r (idle zero r refl).0), rows-json rows (idle-tail r rows idle)) refl

rows-numbers : (rows : List Row) → AreIdle rows → tree.ItemsHaveNumbers (items_outline (items_of (map row_tree rows)))
rows-numbers [] idle = tt
rows-numbers (r ∷ rows) idle = (row-numbers r (small r (idle zero r refl).0), rows-numbers rows (idle-tail r rows idle))

rows-shallow : (rows : List Row) → tree.items_depth (items_outline (items_of (map row_tree rows))) ≤ 1
rows-shallow [] = omega arith
rows-shallow (r ∷ rows) = omega (arith, rows-shallow rows)

saved-json : (s : SavedRows) → IsSaved s → of_json (outline (saved_tree s)) ≡ Some (saved_tree s)
saved-json s kept = rw (rows-json s.rows kept.idle, number_of-decimal 2 (omega arith)) refl

saved-numbers : (s : SavedRows) → IsSaved s → tree.HasNumbers (outline (saved_tree s))
saved-numbers s kept = (rows-numbers s.rows kept.idle, (tt, (IsNumber-decimal 2 (omega arith), tt)))

saved-shallow : (s : SavedRows) → tree.depth (outline (saved_tree s)) ≤ max_depth
saved-shallow s = omega (arith, rows-shallow s.rows)

pub text-read : (s : SavedRows) → IsSaved s → read (compact_text (saved_tree s)) ≡ Some (saved_tree s)
text-read s kept =
    let j = outline (saved_tree s) in
    let ts = ap tokens (sym (print-outline (saved_tree s))) ∙ tokens-print (tree.json_tokens j) (ArePrintable-json_tokens j (saved-numbers s kept)) in
    ap (λ (us : List Token). option_and_then of_json (option_and_then (λ p. json.if_last p.0 p.1) (json.value max_depth us))) (ts ∙ sym (append-nil (tree.json_tokens j)))
    ∙ ap (λ (o : Option (json.Json × List Token)). option_and_then of_json (option_and_then (λ p. json.if_last p.0 p.1) o)) (value-json_tokens j max_depth [] (saved-shallow s))
    ∙ saved-json s kept

-- bytes that are a text have the tree that is read of them
