use Rattle.std.proofs.Common.{◌≡◌, ◌∙◌, ◌-◌, [], ap, arith, rules, slice_index_or, Some, None}
use native.Mathlib.Numerals.{unary_clauses}
use Rattle.std.specs.Arc.{arc_value}
use Rattle.bills.proofs.Refusals.{check-reads}
use Rattle.bills.specs.Bills.{refusal_of}
use Rattle.bills.proofs.reader.UsageReaderItemReader.read_item.Goals as goal

pub returns-in-Some-clause-faulted : goal.returns-in-Some-clause-faulted
returns-in-Some-clause-faulted c below =
    let r = c.args.self.now in
    let is : c.at-bytes.result.now ≡ slice_index_or (arc_value r.usage) (r.place - 0) [] = simp unary_clauses (search rules) in
    let told : refusal_of r.tariff c.at-bytes.result.now ≡ Some c.in-Some.class = search rules in
    check-reads (refusal_of r.tariff) 0 (arc_value r.usage) r.place c.at-bytes.result.now (Some c.in-Some.class) (omega arith) below is told

pub returns-clause-answered : goal.returns-clause-answered
returns-clause-answered c below =
    let r = c.args.self.now in
    let is : c.at-bytes.result.now ≡ slice_index_or (arc_value r.usage) (r.place - 0) [] = simp unary_clauses (search rules) in
    let told : refusal_of r.tariff c.at-bytes.result.now ≡ None = search rules in
    let reads = check-reads (refusal_of r.tariff) 0 (arc_value r.usage) r.place c.at-bytes.result.now None (omega arith) below is told in
    (reads.0, ap Some (c.in_ok-item.ensures ∙ is), reads.1)
