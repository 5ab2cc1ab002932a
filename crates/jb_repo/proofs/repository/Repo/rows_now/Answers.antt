use Rattle.std.proofs.Common.{◌≡◌, length, ◌∙◌, ap, arith}
use Rattle.jb_repo.specs.Representation.{journal_of}
use Rattle.jb_repo.specs.Table.{rows_of}
use Rattle.jb_repo.proofs.Tables.{is_table}
use Rattle.jb_repo.proofs.Totals.{totals_fit}
use Rattle.jb_repo.proofs.repository.Repo.rows_now.Goals as goal

pub returns : goal.returns
returns c =
    let all : c.len.result ≡ length c.self.inside.opening.items = omega arith in
    let table = is_table c.lower_laws.ensures (journal_of c.self.inside) c.self.invariant.ready c.self.invariant.accepted in
    let shown = rw (← all) at c.self.invariant.shows.table in
    record {
      rows = shown ∙ ap rows_of c.self.view_is;
      table = rw shown table;
      fit = rw shown (totals_fit _ table.few_rows table.sound);
    }
