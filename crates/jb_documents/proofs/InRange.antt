-- A tree whose numbers are in range is the data that its text is; a text with another number is none.
use Rattle.std.proofs.Common.{◌≡◌, ◌&&◌, Bool, true, false, cond, Option, Some, None, option_map, option_and_then, refl, ap, ◌∙◌}
use Rattle.std.specs.Prelude.{is_some}
use Rattle.json.specs.Json as json
use Rattle.json.specs.Json.{Json}
use Rattle.serde_json.specs.Data.{Data, Num, number, array, object, Items, item, Members, no_members, put}
use Rattle.serde_json.specs.Read.{number_of, of_json, of_items, of_members}
use Rattle.jb_documents.specs.inside.Borrowed.{number_data, data_of, items_data, members_data, in_range, items_in_range, members_in_range}

-- this value, where the test holds
abbrev pub given : {A : Type 0} → Bool → A → Option A
given b x = cond b (Some x) None

number_read : (o : Option Num) → option_map number o ≡ given (is_some o) (number_data o)
number_read None = refl
number_read (Some n) = refl

mapped : {A B : Type 0} (f : A → B) (b : Bool) (x : A) → option_map f (given b x) ≡ given b (f x)
mapped f true x = refl
mapped f false x = refl

one_item : (b c : Bool) (d : Data) (ds : Items) → option_and_then (λ x. option_map (item x) (given c ds)) (given b d) ≡ given (b && c) (item d ds)
one_item true true d ds = refl
one_item true false d ds = refl
one_item false true d ds = refl
one_item false false d ds = refl

one_member : (b c : Bool) (d : Data) (next : Data → Option Members) (found : Members) → next d ≡ given c found → option_and_then next (given b d) ≡ given (b && c) found
one_member true true d next found e = e
one_member true false d next found e = e
one_member false true d next found e = refl
one_member false false d next found e = refl

mutual
  pub of_json-is : (j : Json) → of_json j ≡ given (in_range j) (data_of j)
  of_json-is json.null = refl
  of_json-is (json.boolean b) = refl
  of_json-is (json.number s) = number_read (number_of s)
  of_json-is (json.string s) = refl
  of_json-is (json.array js) = ap (option_map array) (of_items-is js) ∙ mapped array (items_in_range js) (items_data js)
  of_json-is (json.object ms) = ap (option_map object) (of_members-is ms no_members) ∙ mapped object (members_in_range ms) (members_data ms no_members)

  of_items-is : (js : json.Items) → of_items js ≡ given (items_in_range js) (items_data js)
  of_items-is json.no_items = refl
  of_items-is (json.item j js) =
      ap (λ o. option_and_then (λ d. option_map (item d) o) (of_json j)) (of_items-is js)
      ∙ ap (option_and_then (λ d. option_map (item d) (given (items_in_range js) (items_data js)))) (of_json-is j)
      ∙ one_item (in_range j) (items_in_range js) (data_of j) (items_data js)

  of_members-is : (ms : json.Members) (found : Members) → of_members ms found ≡ given (members_in_range ms) (members_data ms found)
  of_members-is json.no_members found = refl
  of_members-is (json.member k j ms) found =
      ap (option_and_then (λ d. of_members ms (put k d found))) (of_json-is j)
      ∙ one_member (in_range j) (members_in_range ms) (data_of j) (λ d. of_members ms (put k d found)) (members_data ms (put k (data_of j) found)) (of_members-is ms (put k (data_of j) found))
