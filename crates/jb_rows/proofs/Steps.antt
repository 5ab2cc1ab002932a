-- What a reader has given, one record later.
use Rattle.std.proofs.Common.{◌≡◌, ◌<◌, ◌++◌, ◌∷◌, ◌∙◌, [], ℕ, Bool, true, false, List, Option, refl, ap, sym, subst, length, append_assoc, arith}
use Rattle.std.specs.Bool.{MatchBool}
use Rattle.std.proofs.lemmas.List.{append-nil}
use Rattle.csv.specs.Reading.{AreRecords, strip_bom}
use Rattle.csv.specs.declared.parser.Config.{Config}
use Rattle.csv.specs.declared.parser.State.TheVariants as st
use Rattle.jb_rows.specs.Bytes.{BeginsRecord, ReadsOn, marks_config}
use Rattle.jb_rows.specs.Fields.{Fields}
use Rattle.jb_rows.specs.Passing.{IsLonger, PassesEnds, PassesRecord}
use Rattle.jb_rows.specs.Places.{BeginsAt}
use Rattle.jb_rows.specs.Streams.{AreWhole, HasGiven}
use Rattle.jb_rows.specs.Texts.{AreFieldsOf, AreFirst, IsLongAfter}
use Rattle.jb_rows.specs.declared.text_reader.TextReader.{TextReader}
use Rattle.jb_rows.proofs.Whole.{all-of, begins-at, first-one, last-record, whole-both, whole-ends, whole-record}

-- after the ends of lines between records the same records are given, and there is one more or none
pub ends-passed : {R : Type 0} (config : Config) (remaining : R → Option (List ℕ)) (old new : TextReader R) (found : Bool) (text : List ℕ) (records : List Fields)
    → HasGiven config remaining old text records → new.marks ≡ old.marks → PassesEnds remaining old new found
    → (given : HasGiven config remaining new text records) × MatchBool found (BeginsRecord given.1) (given.1 ≡ [])
ends-passed config remaining old new found text records given same passes =
    let (bytes, rest, passed, reads, next) = passes given.1 given.3 in
    let whole = whole-both config given.0 bytes records [] given.4 (whole-ends config bytes (subst (λ c. ReadsOn c st.StartRecord [] [] bytes st.StartRecord [] []) given.5 reads)) in (
      (
        given.0 ++ bytes,
        rest,
        given.2 ∙ ap (λ left. given.0 ++ left) passed.0 ∙ sym (append_assoc given.0 bytes rest),
        passed.1,
        subst (λ r. AreWhole config (given.0 ++ bytes) r) (append-nil records) whole,
        ap marks_config same ∙ given.5,
        passed.2 given.0 given.6,
      ),
      next,
    )

-- nothing is left, so these are all records
pub all-given : {R : Type 0} (config : Config) (remaining : R → Option (List ℕ)) (reader : TextReader R) (text : List ℕ) (records : List Fields)
    → (given : HasGiven config remaining reader text records) → given.1 ≡ [] → AreFieldsOf config text records
all-given config remaining reader text records given none =
    let split : strip_bom text ≡ given.0 = given.2 ∙ ap (λ left. given.0 ++ left) none ∙ append-nil given.0 in
    subst (λ bytes. AreRecords config st.StartRecord bytes records) (sym split) (all-of config given.0 records given.4)

front-begins : (bytes rest : List ℕ) → 0 < length bytes → BeginsRecord (bytes ++ rest) → BeginsRecord bytes
front-begins [] rest some begins = absurd (omega arith)
front-begins (byte ∷ bytes) rest some begins = begins

-- the next record was read
pub record-passed : {R : Type 0} (config : Config) (remaining : R → Option (List ℕ)) (old new : TextReader R) (fields : Fields) (is_last : Bool) (text : List ℕ) (records : List Fields)
    → (given : HasGiven config remaining old text records) → BeginsRecord given.1 → new.marks ≡ old.marks → PassesRecord remaining old new fields is_last
    → MatchBool is_last (AreFieldsOf config text (records ++ fields ∷ [])) (HasGiven config remaining new text (records ++ fields ∷ []))
record-passed config remaining old new fields true text records given begins same passes =
    let (bytes, rest, passed, (none, is)) = passes given.1 given.3 in
    let left : given.1 ≡ bytes = passed.0 ∙ ap (λ behind. bytes ++ behind) none ∙ append-nil bytes in
    let whole = subst (λ c. AreWhole c given.0 records) (sym given.5) given.4 in
    let last = last-record old.marks.quoting old.marks.delimiter bytes (fields, st.StartRecord, []) (subst BeginsRecord left begins) is refl refl in
    let all = whole.0 bytes (fields ∷ []) last in
    subst (λ c. AreFieldsOf c text (records ++ fields ∷ [])) given.5
    (subst (λ b. AreRecords (marks_config old.marks) st.StartRecord b (records ++ fields ∷ [])) (sym (given.2 ∙ ap (λ l. given.0 ++ l) left)) all)
record-passed config remaining old new fields false text records given begins same passes =
    let (bytes, rest, passed, (some, ends)) = passes given.1 given.3 in
    let first = front-begins bytes rest some (subst BeginsRecord passed.0 begins) in
    let one = subst (λ c. AreWhole c bytes (fields ∷ [])) given.5 (whole-record old.marks.quoting old.marks.delimiter bytes fields first ends) in (
      given.0 ++ bytes,
      rest,
      given.2 ∙ ap (λ left. given.0 ++ left) passed.0 ∙ sym (append_assoc given.0 bytes rest),
      passed.1,
      whole-both config given.0 bytes records (fields ∷ []) given.4 one,
      ap marks_config same ∙ given.5,
      passed.2 given.0 given.6,
    )

-- the line in which it begins
pub begins-in : {R : Type 0} (config : Config) (remaining : R → Option (List ℕ)) (reader : TextReader R) (text : List ℕ) (records : List Fields)
    → (given : HasGiven config remaining reader text records) → BeginsRecord given.1 → BeginsAt config (strip_bom text) (length records) reader.line
begins-in config remaining reader text records given begins =
    let whole = subst (λ c. AreWhole c given.0 records) (sym given.5) given.4 in
    subst (λ c. BeginsAt c (strip_bom text) (length records) reader.line) given.5
    (begins-at reader.marks.quoting reader.marks.delimiter (strip_bom text) given.0 given.1 records reader.line given.2 begins whole given.6)

-- it is too long
pub long-after : {R : Type 0} (config : Config) (remaining : R → Option (List ℕ)) (reader : TextReader R) (text : List ℕ) (records : List Fields) (longest : ℕ)
    → (given : HasGiven config remaining reader text records) → BeginsRecord given.1 → IsLonger remaining reader longest → IsLongAfter config text records longest
long-after config remaining reader text records longest given begins longer =
    let l = longer given.1 given.3 in
    let one = subst (λ c. AreFirst c given.1 (l.0.0 ∷ [])) given.5 (first-one reader.marks.quoting reader.marks.delimiter given.1 l.0 begins l.1) in
    record {
      fields = l.0.0;
      read = subst (λ bytes. AreFirst config bytes (records ++ l.0.0 ∷ [])) (sym given.2) (given.4.1 given.1 (l.0.0 ∷ []) one);
      longer = l.2;
    }
