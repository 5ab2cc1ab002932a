use Rattle.jb_job.proofs.Names.{map-insert_key}
use Rattle.jb_job.proofs.class_list.add_name.Goals as goal

pub returns-clause-added : goal.returns-clause-added
returns-clause-added c = rw c.in_ok-insert.ensures.keys (map-insert_key c.args.names.now.keys c.args.name)
