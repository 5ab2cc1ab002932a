use Rattle.std.proofs.Common.{[]}
use Rattle.jb_rows.specs.Streams.{HasGivenRows}
use Rattle.jb_rows.specs.declared.rows_options.TheConstants.RowsOptions.{CSV}
use Rattle.sales.proofs.ListOfPrices.{of-text}
use Rattle.sales.proofs.prices.read_prices.Goals as goal

pub returns : goal.returns
returns g c =
    of-text CSV (g.R.Read.remaining c.args.from) c.in_ok-rows.rows c.prices_in.result (λ text. HasGivenRows CSV g.R.Read.remaining c.in_ok-reader.reader text [])
    c.in_ok-reader.ensures.given (λ text given. c.in_ok-rows.ensures CSV text given) c.prices_in.ensures
