use Rattle.std.proofs.Common.{length}
use Rattle.jb_records.proofs.Begun.{artifacts-begun}
use Rattle.jb_records.proofs.Calling.{have-own}
use Rattle.jb_records.proofs.artifacts.all_artifacts.Goals as goal

pub returns-clause-artifacts : goal.returns-clause-artifacts
returns-clause-artifacts g c = artifacts-begun _ _ c.args.records.now _ c.args.prepared.now.rows _ _ c.needs.ensures c.in_ok-all.ensures.artifacts

pub artifacts_for-requires-after_bounds : goal.artifacts_for-requires-after_bounds
artifacts_for-requires-after_bounds g c κs within = have-own (length c.args.records.now) c.args.prepared.now.rows c.args.partition_results.now _ c.needs.ensures c.requires
