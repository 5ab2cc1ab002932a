-- A list of prices.
use Rattle.std.specs.Prelude.{ℕ, ◌≡◌, List, bytes_eq, length, map}
use Rattle.std.specs.List.{IsDistinct}
use Rattle.jb_rows.specs.Fields.{Fields}
use Rattle.jb_rows.specs.Texts.{AreRowsOf}
use Rattle.jb_rows.specs.declared.rows_options.RowsOptions.{RowsOptions}
use Rattle.sales.specs.Amounts.{Amount, amounts_in}

-- THE PRICES IN THESE RECORDS ITEM,CENTS: one for each record, and no item has two
pub record ArePrices (rows : List Fields) (prices : List Amount) : Type 0 where
  pub same : prices ≡ amounts_in rows
  pub whole : length prices ≡ length rows
  pub once : IsDistinct bytes_eq (map (λ price. price.0) prices)

-- the same of a text of CSV
pub record ArePricesOf (options : RowsOptions) (text : List ℕ) (prices : List Amount) : Type 0 where
  pub rows : List Fields
  pub read : AreRowsOf options text rows
  pub are : ArePrices rows prices
