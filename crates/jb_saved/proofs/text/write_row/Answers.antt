use Rattle.std.proofs.Common.{rules, ◌≡◌, ◌++◌, ◌∷◌, [], ◌∙◌, ap, append_assoc}
use Rattle.std.proofs.lemmas.Result.{on_ok_weaker}
use Rattle.json.specs.Token.{begin_array, end_array, string}
use Rattle.jb_rules.specs.Numbers.{state_name}
use Rattle.jb_saved.proofs.text.write_row.Goals as goal

pub returns-clause-row : goal.returns-clause-row
returns-clause-row c =
    let state : c.string.new.self.tokens ≡ c.write_numbers.new.out.tokens ++ string (state_name c.args.row.now.state) ∷ [] = search rules in
    let begun : c.begin_array.new.self.tokens ≡ c.args.out.now.tokens ++ begin_array ∷ [] = search rules in
    let numbers = c.in_ok-write_numbers.ensures.numbers in
    on_ok_weaker c.end_array.result (λ ended. ended ∙ ap (λ ts. ts ++ end_array ∷ []) state ∙ rw (c.in_ok-write_numbers.ensures.numbers, begun, c.numbers.ensures) (simp append_assoc)) c.end_array.ensures.ok
