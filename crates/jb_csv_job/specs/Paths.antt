-- THE FILE OF A SLICE: FOLDER/slice-000057.db, by the slice's number, with six digits at least.
use Rattle.std.specs.Prelude.{ℕ, ◌-◌, ◌^◌, List, [], ◌++◌, codes, decimal, false}
use Rattle.std.specs.Fmt.{format_spec, padded_integral}

-- a number as `{:06}` writes it: its decimal digits, after zeros up to six characters
abbrev pub six_digits : ℕ → List ℕ
six_digits n = padded_integral (format_spec 32 0 4 6 (2 ^ 64 - 1)) false [] (decimal n)

abbrev pub slice_path : (folder : List ℕ) → (slice : ℕ) → List ℕ
slice_path folder slice = folder ++ (codes "/slice-" ++ (six_digits slice ++ codes ".db"))
