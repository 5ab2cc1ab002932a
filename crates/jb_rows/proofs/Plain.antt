-- A field without quotes, with its end.
use Rattle.std.proofs.Common.{◌≡◌, ◌<◌, ◌==◌, ◌++◌, ◌∷◌, ◌∙◌, [], ℕ, zero, suc, Bool, false, List, refl, sym, length, take, get_or, arith}
use Rattle.std.specs.Prelude.{◌&&◌}
use Rattle.csv.specs.Machine.{Runs, after_end, in_field, step}
use Rattle.csv.specs.declared.parser.Action.TheVariants as act
use Rattle.csv.specs.declared.parser.State.TheVariants as st
use Rattle.csv.specs.declared.parser.Terminator.TheVariants as term
use Rattle.jb_rows.specs.Bytes.{EndsRecord, ReadsOn}
use Rattle.jb_rows.specs.Fields.{Fields}
use Rattle.jb_rows.specs.Texts.{config_with}
use Rattle.jb_rows.proofs.Bytes.{copy-run, field-end, reads-both, reads-end, record-end}

-- a byte that is no quote does at a field's start what it does in a field
starts-same : (quoting : Bool) (delimiter byte : ℕ) → (quoting && (byte == 34)) ≡ false → in_field (config_with quoting delimiter) byte ≡ step (config_with quoting delimiter) st.StartField byte
starts-same quoting delimiter byte other = rw other refl

-- so does the first byte of a run
run-starts : (quoting : Bool) (delimiter : ℕ) (fields : Fields) (byte : ℕ) (run : List ℕ) → (quoting && (byte == 34)) ≡ false → Runs (config_with quoting delimiter) st.InField (byte ∷ run)
    → ReadsOn (config_with quoting delimiter) st.StartField fields [] (byte ∷ run) st.InField fields (byte ∷ run)
unfolding Runs
run-starts quoting delimiter fields byte run other runs =
    copy-run (config_with quoting delimiter) st.StartField st.InField fields [] byte run (sym runs.0 ∙ starts-same quoting delimiter byte other) runs.1

pub field-taken : (quoting : Bool) (delimiter : ℕ) (fields : Fields) (run : List ℕ) (byte : ℕ) → (quoting && (get_or (run ++ byte ∷ []) 0 0 == 34)) ≡ false
    → Runs (config_with quoting delimiter) st.InField run → (st.StartField, act.EndField) ≡ in_field (config_with quoting delimiter) byte
    → ReadsOn (config_with quoting delimiter) st.StartField fields [] (run ++ byte ∷ []) st.StartField (fields ++ run ∷ []) []
field-taken quoting delimiter fields [] byte other runs ends =
    field-end (config_with quoting delimiter) st.StartField st.StartField fields [] byte (ends ∙ starts-same quoting delimiter byte other)
field-taken quoting delimiter fields (first ∷ run) byte other runs ends =
    reads-both (config_with quoting delimiter) st.StartField st.InField st.StartField fields fields (fields ++ (first ∷ run) ∷ []) [] (first ∷ run) [] (first ∷ run) (byte ∷ [])
    (run-starts quoting delimiter fields first run other runs) (field-end (config_with quoting delimiter) st.InField st.StartField fields (first ∷ run) byte ends)

pub record-taken : (quoting : Bool) (delimiter : ℕ) (fields : Fields) (run : List ℕ) (byte : ℕ) → (quoting && (get_or (run ++ byte ∷ []) 0 0 == 34)) ≡ false
    → Runs (config_with quoting delimiter) st.InField run → (after_end term.CRLF byte, act.EndRecord) ≡ in_field (config_with quoting delimiter) byte
    → EndsRecord (config_with quoting delimiter) st.StartField fields [] (run ++ byte ∷ []) (fields ++ run ∷ [])
record-taken quoting delimiter fields [] byte other runs ends =
    record-end (config_with quoting delimiter) st.StartField fields [] byte (ends ∙ starts-same quoting delimiter byte other)
record-taken quoting delimiter fields (first ∷ run) byte other runs ends =
    reads-end (config_with quoting delimiter) st.StartField st.InField fields fields (fields ++ (first ∷ run) ∷ []) [] (first ∷ run) (first ∷ run) (byte ∷ [])
    (run-starts quoting delimiter fields first run other runs) (record-end (config_with quoting delimiter) st.InField fields (first ∷ run) byte ends)

-- the first byte of a front is the first of all
pub first-of-front : (bytes : List ℕ) (run : ℕ) → run < length bytes → get_or (take run bytes ++ get_or bytes run 0 ∷ []) 0 0 ≡ get_or bytes 0 0
first-of-front [] run below = absurd (omega arith)
first-of-front (byte ∷ bytes) zero below = refl
first-of-front (byte ∷ bytes) (suc run) below = refl
