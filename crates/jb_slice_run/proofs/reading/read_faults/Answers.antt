use Rattle.std.proofs.{Common.{◌≡◌, ◌++◌, ◌∷◌, [], length, take, take_all, get_or, refl, inr, sym, ap, ◌∙◌, append_assoc, rules, arith}, lemmas.List.{append-nil, length-map, map_push, take_more}}
use Rattle.sqlite_trees.proofs.ListLemmas.{all-get_or}
use Rattle.jb_slices.specs.Function.{Fault}
use Rattle.jb_slice_run.{specs.Held.{fault_in, faults_in}, specs.Strings.{IsSmall, fault_string}, proofs.Once.{fault_there, no_fault, fault_once}}
use Rattle.jb_slice_run.proofs.reading.read_faults.Goals as goal

pub loop-index-init : goal.loop-index-init
loop-index-init c = λ new small is. sym (append-nil _)

pub returns-in_default-clause-why : goal.returns-in_default-clause-why
returns-in_default-clause-why c =
    inr (refl, λ new is. let at = fault_there new c.args.list.now is c.loop-index.index (omega (arith, c.len-index-end.ensures, c.loop-index-test.true)) in c.in_default.ensures (get_or new c.loop-index.index no_fault) (c.at.ensures ∙ at.1))

pub loop-index-preserved : goal.loop-index-preserved
loop-index-preserved c = λ new small is.
    let i = c.loop-index.index in
    let before = faults_in c.args.faults.now.items in
    let fault = fault_in c.in-Some.fault in
    let at = fault_there new c.args.list.now is i (omega (arith, c.len-index-end.ensures, c.loop-index-test.true)) in
    let one = fault_once fault (get_or new i no_fault) c.in-Some.ensures.1 (all-get_or (λ (f : Fault). IsSmall f.number) new i no_fault small at.0) (sym c.in-Some.ensures.0 ∙ c.at.ensures ∙ at.1) in
    let put : c.push.new.self.items ≡ c.loop-index.faults.items ++ c.in-Some.fault ∷ [] = search rules in
    let mapped = map_push fault_in c.loop-index.faults.items c.in-Some.fault in
    let parts = append_assoc before (take i new) (fault ∷ []) in
    let more = take_more new i no_fault at.0 in
    let so = c.loop-index.invariant new small is in
    cc

pub returns-clause-read : goal.returns-clause-read
returns-clause-read c new small is =
    c.loop-index.invariant new small is
    ∙ ap (λ fs. faults_in c.args.faults.now.items ++ fs) (take_all c.loop-index.index new (omega (arith, ap length is, length-map new fault_string, c.len-index-end.ensures, c.loop-index-test.false)))
