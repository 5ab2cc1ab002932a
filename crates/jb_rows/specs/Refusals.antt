-- Why records are refused.
use Rattle.std.specs.Prelude.{ℕ, ⊤}
use Rattle.jb_rows.specs.declared.rows_error.RowsError.{RowsError}
use Rattle.jb_rows.specs.declared.rows_error.RowsError.TheVariants as error

-- if the record of a number is too long, P of the number
abbrev pub IfTooLong : RowsError → (P : ℕ → Type 0) → Type 0
IfTooLong (error.TooLong number) P = P number
IfTooLong error.LongHeader P = ⊤
IfTooLong (error.Stream why) P = ⊤
IfTooLong error.Memory P = ⊤
