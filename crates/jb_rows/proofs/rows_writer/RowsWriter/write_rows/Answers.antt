use Rattle.jb_rows.proofs.rows_writer.RowsWriter.write_rows.Goals as goal

pub returns : goal.returns
returns g c = rw c.as_list.ensures.fields at c.write_packed.ensures
