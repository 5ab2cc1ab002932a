use Rattle.std.proofs.Common.{◌≡◌, ◌-◌, arith, drop, get_or, length, length-drop, subst, take}
use Rattle.std.proofs.lemmas.List.{take_all}
use Rattle.csv.specs.Machine.{Runs}
use Rattle.csv.specs.declared.parser.State.TheVariants as st
use Rattle.jb_rows.specs.Bytes.{csv_state, marks_config}
use Rattle.jb_rows.proofs.Bytes.{copy-run, field-end, record-end, skip-one}
use Rattle.jb_rows.proofs.Runs.{more-taken, one-taken}
use Rattle.jb_rows.proofs.tokens.take_some.Goals as goal

pub returns-in-Skip-clause-read : goal.returns-in-Skip-clause-read
returns-in-Skip-clause-read c =
    let bytes = c.args.bytes.now in
    rw (one-taken bytes c.requires)
    (skip-one (marks_config c.args.marks.now) (csv_state c.args.place) (csv_state c.in-Skip.next) c.args.row.now c.args.field.now.items (get_or bytes 0 0) c.in-Skip.ensures)

pub returns-in_ok-extend_from_slice-in-Copy-clause-read : goal.returns-in_ok-extend_from_slice-in-Copy-clause-read
returns-in_ok-extend_from_slice-in-Copy-clause-read c after =
    let bytes = c.args.bytes.now in
    let items = c.in_ok-extend_from_slice-in-Copy.ensures.items in
    let behind : take (length bytes - 1) (drop 1 bytes) ≡ drop 1 bytes = take_all (length bytes - 1) (drop 1 bytes) (omega (arith, length-drop 1 bytes)) in
    let runs = subst (λ rest. Runs (marks_config c.args.marks.now) (csv_state c.in-Copy.next) (take c.run-count.result rest)) behind c.run-count.ensures.runs in
    rw (items, more-taken bytes c.run-count.result c.requires)
    (copy-run (marks_config c.args.marks.now) (csv_state c.args.place) (csv_state c.in-Copy.next) c.args.row.now c.args.field.now.items (get_or bytes 0 0) (take c.run-count.result (drop 1 bytes))
    c.in-Copy.ensures runs after)

pub returns-in_ok-end_field-in-EndField-clause-read : goal.returns-in_ok-end_field-in-EndField-clause-read
returns-in_ok-end_field-in-EndField-clause-read c after =
    let bytes = c.args.bytes.now in
    let ended = c.in_ok-end_field-in-EndField.ensures in
    rw (one-taken bytes c.requires, ended.row, ended.field)
    (field-end (marks_config c.args.marks.now) (csv_state c.args.place) st.StartField c.args.row.now c.args.field.now.items (get_or bytes 0 0) c.in-EndField.ensures after)

pub returns-in_ok-end_field-in-EndRecord-clause-read : goal.returns-in_ok-end_field-in-EndRecord-clause-read
returns-in_ok-end_field-in-EndRecord-clause-read c after =
    let bytes = c.args.bytes.now in
    let ended = c.in_ok-end_field-in-EndRecord.ensures in
    rw (one-taken bytes c.requires, ended.row)
    (record-end (marks_config c.args.marks.now) (csv_state c.args.place) c.args.row.now c.args.field.now.items (get_or bytes 0 0) c.in-EndRecord.ensures after)
