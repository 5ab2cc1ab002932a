use Rattle.std.proofs.Common.{◌≡◌, Bool, true, false, Some, Ok, option_map, sym, ap, ◌∙◌, rules}
use Rattle.serde_json.specs.Find.{get}
use Rattle.jb_job.specs.Names.{name_of}
use Rattle.jb_job.specs.Reading.{shaped}
use Rattle.jb_job.specs.declared.field.Field.TheVariants as field
use Rattle.jb_documents.specs.RestartDocument.{resume_at}
use Rattle.jb_documents.specs.inside.Borrowed.{seen}
use Rattle.jb_documents.proofs.Resumed.{end, resume-read}
use Rattle.jb_documents.proofs.restart.resume_fields.resume.Goals as goal
use Rattle.jb_documents.proofs.restart.resume_fields.resume.Goals.{After-has_id}

-- what is read, by whether a step has the id
read-by : (c : After-has_id) (found : Bool) → c.has_id.result ≡ found → resume_at c.args.steps.now field.Resume (seen c.args.tree) ≡ end found c.in_ok-held.held c.in_ok-saved.saved
read-by c found is =
    let tree = seen c.args.tree in
    let outputs = seen c.in_ok-outputs_tree.outputs_tree in
    let rows = seen c.in_ok-saved_tree.saved_tree in
    let taken : option_map seen c.take_parts-outputs_tree.result.0 ≡ Some outputs = search rules in
    let left : option_map seen c.take_parts-outputs_tree.result.1 ≡ Some rows = search rules in
    let there : get (name_of field.Outputs) tree ≡ Some outputs = sym c.take_parts-outputs_tree.ensures.outputs ∙ taken in
    let kept : shaped field.Saved (get (name_of field.Saved) tree) ≡ Ok rows = ap (shaped field.Saved) (sym c.take_parts-outputs_tree.ensures.saved ∙ left) in
    let held = rw c.rows.ensures.rows at c.in_ok-held.ensures in
    resume-read c.args.steps.now tree tree outputs rows c.in_ok-outputs.outputs c.in_ok-held.held c.in_ok-saved.saved found
    c.in_ok-object.ensures there c.in_ok-outputs.ensures kept c.in_ok-saved.ensures held (sym (rw c.step_id.ensures.id at c.has_id.ensures) ∙ is)

pub returns-then-has_id : goal.returns-then-has_id
returns-then-has_id c = read-by (goal.at.returns-then-has_id c).After-has_id true c.if-has_id.true

pub returns-else-has_id : goal.returns-else-has_id
returns-else-has_id c = read-by (goal.at.returns-else-has_id c).After-has_id false c.if-has_id.false
