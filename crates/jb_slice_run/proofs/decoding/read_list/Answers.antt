use Rattle.std.proofs.{Common.{refl, sym, inr, ◌∙◌, length, ◌++◌, arith}, lemmas.Result.{IfOk-weaker}}
use Rattle.jb_slice_run.{specs.Coding.{coded_strings}, proofs.Codings.{list_bytes, number_parted}, proofs.Why.{why_so}}
use Rattle.jb_slice_run.proofs.decoding.read_list.Goals as goal

pub returns-in_default-clause-why : goal.returns-in_default-clause-why
returns-in_default-clause-why c = inr (refl, λ strings rest codable e. c.in_default.ensures (length strings) (coded_strings strings ++ rest) (e ∙ list_bytes strings rest))

pub returns-clause-read : goal.returns-clause-read
returns-clause-read c =
    let found = c.in-Some.ensures in
    IfOk-weaker c.read_strings.result _ _
    (λ rest so. let whole = list_bytes c.read_strings.new.list rest.now in record { codable = record { few = omega (arith, so.number, found.1); short = so.fit }; left = cc (found.0, so.left, so.number) })
    c.read_strings.ensures.read

pub returns-clause-why : goal.returns-clause-why
returns-clause-why c =
    let found = c.in-Some.ensures in
    why_so c.read_strings.result _
    (λ none strings rest codable e.
    let parts = number_parted c.in-Some.count (length strings) c.in-Some.rest.now (coded_strings strings ++ rest) found.1 codable.few (sym found.0 ∙ e ∙ list_bytes strings rest) in
    none strings rest codable (sym parts.0) parts.1)
    c.read_strings.ensures.why
