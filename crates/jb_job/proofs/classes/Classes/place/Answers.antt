use Rattle.std.proofs.Common.{string_bytes, sym, ◌∙◌}
use Rattle.std.specs.Prelude.{bytes_eq}
use Rattle.jb_job.proofs.Names.{position-map}
use Rattle.jb_job.proofs.classes.Classes.place.Goals as goal

pub returns-clause-value : goal.returns-clause-value
returns-clause-value c = rw (← c.self.view_is) (c.get_index_of.ensures.index ∙ sym (position-map (bytes_eq c.args.name.now) string_bytes c.self.inside.names.keys))
