use Rattle.std.proofs.Common.{◌≡◌, [], length, drop}
use Rattle.serde_json.specs.View.{items_view}
use Rattle.jb_saved.specs.SavedForm.{rows_from_trees}
use Rattle.jb_saved.specs.inside.Forms.{AreStill}
use Rattle.jb_saved.proofs.form.rows_in.Given as goal

abbrev pub invariant-loop-item : goal.invariant-loop-item
invariant-loop-item l = record {
  form : rows_from_trees l.version l.rows.items (items_view (drop l.item-index l.items.items)) ≡ rows_from_trees l.version [] (items_view l.items.items);
  count : length l.rows.items ≡ l.item-index;
  still : AreStill l.rows.items;
}
