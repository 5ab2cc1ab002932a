use Rattle.std.proofs.{Common.{◌≡◌, ◌∙◌, ◌<◌, ◌++◌, [], ap, arith, length, map, sym}, lemmas.List.{get_or-map, length-map, take_all}}
use Rattle.std.specs.Prelude.{slice_index_or}
use Rattle.jb_rows.specs.Fields.{fields_in}
use Rattle.jb_csv_job.{specs.Skipped.{skipped_header}, proofs.Skipping.{fields-after, one-line}}
use Rattle.jb_csv_job.proofs.skipped.headed.Goals as goal

pub loop-index-preserved : goal.loop-index-preserved
loop-index-preserved c =
    let headers = c.args.headers.now in
    let index = c.loop-index.index in
    let front = c.as_bytes.result.now in
    let bytes = c.at.result.now in
    let below : index < length headers = omega (arith, c.loop-index-test.true, c.len-index-end.ensures) in
    let is : fields_in bytes ≡ slice_index_or (map fields_in headers) index [] = ap fields_in c.at.ensures ∙ sym (get_or-map fields_in headers index [] [] below) in
    let said : fields_in (front ++ bytes) ≡ skipped_header (fields_in bytes) = rw (c.as_bytes.ensures.packed, fields-after, c.in_ok-head.ensures) in
    one-line skipped_header (map fields_in headers) index [] (fields_in bytes) c.loop-index.rows c.push_joined.new.self (front ++ bytes) (rw length-map below) is
    c.in_ok-push_joined.ensures.ok said c.loop-index.invariant

pub returns : goal.returns
returns c =
    let all = map fields_in c.args.headers.now in
    c.loop-index.invariant ∙ ap (map skipped_header) (take_all c.loop-index.index all (rw length-map (omega (arith, c.loop-index-test.false, c.len-index-end.ensures))))
