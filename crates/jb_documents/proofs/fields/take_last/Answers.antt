use Rattle.std.proofs.Common.{◌≡◌, suc, ◌-◌, ◌<◌, true, None, length, get_or, drop, bytes_eq, sym, ap, subst, ◌∙◌, arith}
use Rattle.std.proofs.lemmas.List.{get_or_default}
use Rattle.std.proofs.lemmas.Slice.Eq.{bytes_eq-Decides}
use Rattle.std.specs.List.{remove}
use Rattle.json.specs.Find.{get_member}
use Rattle.json.specs.Json as json
use Rattle.json.specs.Value.{value_view, members_view}
use Rattle.jb_documents.specs.inside.Borrowed.{IsApart}
use Rattle.jb_documents.proofs.Apart.{apart_at}
use Rattle.jb_documents.proofs.fields.take_last.Goals as goal

pub returns-then-eq : goal.returns-then-eq
returns-then-eq c =
    let xs = c.loop-place.members.items in
    let i = c.loop-place.place - 1 in
    let m = c.index.result.now in
    let x = c.remove-part.result in
    let name = c.args.name.now in
    let within : i < length xs = omega (arith, c.loop-place.invariant.within) in
    let found : m ≡ get_or xs i m = c.index.ensures in
    let removed : x ≡ get_or xs i x = c.remove-part.ensures.value in
    let same : x ≡ m = removed ∙ get_or_default xs i x m within ∙ sym found in
    let equal : bytes_eq m.0.now name ≡ true = grind arith in
    let called : x.0.now ≡ name = ap (λ y. y.0.now) same ∙ (bytes_eq-Decides m.0.now name).0 equal in
    let next : c.loop-place.place ≡ suc i = omega arith in
    let last : get_member name (members_view (drop (suc i) xs)) ≡ None = ap (λ k. get_member name (members_view (drop k xs))) (sym next) ∙ c.loop-place.invariant.later in
    let apart = apart_at name xs i x within removed called last in
    let rest : c.remove-part.new.self.items ≡ remove xs i = c.remove-part.ensures.items in
    subst (λ ys. IsApart name (json.object (members_view ys)) (value_view x.1) (json.object (members_view c.remove-part.new.self.items))) c.loop-place.invariant.same
    (subst (λ ys. IsApart name (json.object (members_view xs)) (value_view x.1) (json.object (members_view ys))) (sym rest) apart)
