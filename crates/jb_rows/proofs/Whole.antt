-- Bytes that are whole records.
use Rattle.std.proofs.Common.{◌≡◌, ◌+◌, ◌++◌, ◌∷◌, ◌∙◌, [], ℕ, suc, Bool, false, List, Some, refl, ap, sym, subst, length, take, length-append, append_assoc, arith}
use Rattle.std.proofs.lemmas.List.{append-nil}
use Rattle.csv.specs.Machine.{Read, ends_at_end, next_record}
use Rattle.csv.specs.Reading.{AreRecords, Reached}
use Rattle.csv.specs.declared.parser.Config.{Config}
use Rattle.csv.specs.declared.parser.State.{State}
use Rattle.csv.specs.declared.parser.State.TheVariants as st
use Rattle.jb_rows.specs.Bytes.{BeginsRecord, EndsRecord, ReadsOn, line_after}
use Rattle.jb_rows.specs.Fields.{Fields}
use Rattle.jb_rows.specs.Places.{BeginsAt, HasMoreThan, HasUpTo}
use Rattle.jb_rows.specs.Streams.{AreWhole}
use Rattle.jb_rows.specs.Texts.{AreFirst, config_with}
use Rattle.jb_rows.proofs.Bytes.{between-same, record-starts}
use Rattle.jb_rows.proofs.Inside.{one-byte}

pub no-records : (config : Config) → AreRecords config st.StartRecord [] []
unfolding Reached next_record
no-records config = (st.StartRecord, [], (refl, refl), refl)

pub none-first : (config : Config) (bytes : List ℕ) → AreFirst config bytes []
unfolding Reached
none-first config bytes = (st.StartRecord, bytes, (refl, refl))

-- the records from a state and text are those from another, from which the next one is the same
records-same : (config : Config) (s t : State) (xs ys : List ℕ) (records : List Fields) → next_record config s [] [] xs ≡ next_record config t [] [] ys
    → AreRecords config t ys records → AreRecords config s xs records
unfolding Reached
records-same config s t xs ys [] e h = (s, xs, (refl, refl), e ∙ rw (h.2.0, h.2.1) h.3)
records-same config s t xs ys (r ∷ rs) e h = (h.0, h.1, (h.2.0, e ∙ h.2.1, h.2.2, h.2.3), h.3)

first-same : (config : Config) (s t : State) (xs ys : List ℕ) (records : List Fields) → next_record config s [] [] xs ≡ next_record config t [] [] ys
    → ((s2 : State) × (left : List ℕ) × Reached config t ys records s2 left) → (s2 : State) × (left : List ℕ) × Reached config s xs records s2 left
unfolding Reached
first-same config s t xs ys [] e h = (s, xs, (refl, refl))
first-same config s t xs ys (r ∷ rs) e h = (h.0, h.1, (h.2.0, e ∙ h.2.1, h.2.2, h.2.3))

pub whole-none : (config : Config) → AreWhole config [] []
whole-none config = ((λ after later h. h), (λ after later h. h))

pub whole-both : (config : Config) (x y : List ℕ) (first later : List Fields) → AreWhole config x first → AreWhole config y later → AreWhole config (x ++ y) (first ++ later)
whole-both config x y first later f g = (
  (λ after more h. rw (append_assoc x y after, append_assoc first later more) (f.0 (y ++ after) (later ++ more) (g.0 after more h))),
  (λ after more h. rw (append_assoc x y after, append_assoc first later more) (f.1 (y ++ after) (later ++ more) (g.1 after more h))),
)

-- ends of lines between records
pub whole-ends : (config : Config) (bytes : List ℕ) → ReadsOn config st.StartRecord [] [] bytes st.StartRecord [] [] → AreWhole config bytes []
whole-ends config bytes reads = (
  (λ after later h. records-same config st.StartRecord st.StartRecord (bytes ++ after) after later (reads after) h),
  (λ after later h. first-same config st.StartRecord st.StartRecord (bytes ++ after) after later (reads after) h),
)

begins-front : (bytes after : List ℕ) → BeginsRecord bytes → BeginsRecord (bytes ++ after)
begins-front [] after begins = absurd begins
begins-front (byte ∷ bytes) after begins = begins

-- a record
pub whole-record : (quoting : Bool) (delimiter : ℕ) (bytes : List ℕ) (fields : Fields) → BeginsRecord bytes → EndsRecord (config_with quoting delimiter) st.StartField [] [] bytes fields
    → AreWhole (config_with quoting delimiter) bytes (fields ∷ [])
unfolding Reached
whole-record quoting delimiter bytes fields begins ends = (
  (λ after later h.
      let e = ends after in
      let start = record-starts quoting delimiter (bytes ++ after) (begins-front bytes after begins) in
      let rest = records-same (config_with quoting delimiter) e.0 st.StartRecord after after later (between-same quoting delimiter e.0 after e.2) h in
      (rest.0, rest.1, ((fields, e.0, after), start ∙ e.1, refl, rest.2), rest.3)),
  (λ after later h.
      let e = ends after in
      let start = record-starts quoting delimiter (bytes ++ after) (begins-front bytes after begins) in
      let rest = first-same (config_with quoting delimiter) e.0 st.StartRecord after after later (between-same quoting delimiter e.0 after e.2) h in
      (rest.0, rest.1, ((fields, e.0, after), start ∙ e.1, refl, rest.2))),
)

-- a record that is all of a text
pub last-record : (quoting : Bool) (delimiter : ℕ) (bytes : List ℕ) (read : Read) → BeginsRecord bytes → next_record (config_with quoting delimiter) st.StartField [] [] bytes ≡ Some read
    → read.2 ≡ [] → ends_at_end read.1 ≡ false → AreRecords (config_with quoting delimiter) st.StartRecord bytes (read.0 ∷ [])
unfolding Reached next_record
last-record quoting delimiter bytes read begins e rest between =
    (read.1, read.2, (read, record-starts quoting delimiter bytes begins ∙ e, refl, (refl, refl)), rw rest (between-same quoting delimiter read.1 [] between))

-- a record and what comes after it
pub first-one : (quoting : Bool) (delimiter : ℕ) (bytes : List ℕ) (read : Read) → BeginsRecord bytes → next_record (config_with quoting delimiter) st.StartField [] [] bytes ≡ Some read
    → AreFirst (config_with quoting delimiter) bytes (read.0 ∷ [])
unfolding Reached
first-one quoting delimiter bytes read begins e = (read.1, read.2, (read, record-starts quoting delimiter bytes begins ∙ e, refl, (refl, refl)))

-- whole records alone
pub all-of : (config : Config) (bytes : List ℕ) (records : List Fields) → AreWhole config bytes records → AreRecords config st.StartRecord bytes records
all-of config bytes records whole =
    subst (λ b. AreRecords config st.StartRecord b records) (append-nil bytes)
    (subst (λ r. AreRecords config st.StartRecord (bytes ++ []) r) (append-nil records) (whole.0 [] [] (no-records config)))

pub first-of : (config : Config) (bytes left : List ℕ) (records : List Fields) → AreWhole config bytes records → AreFirst config (bytes ++ left) records
first-of config bytes left records whole =
    subst (λ r. AreFirst config (bytes ++ left) r) (append-nil records) (whole.1 left [] (none-first config left))

-- ---- WHERE A RECORD BEGINS

front-taken : (front behind : List ℕ) → take (length front) (front ++ behind) ≡ front
front-taken [] behind = refl
front-taken (x ∷ front) behind = ap (λ xs. x ∷ xs) (front-taken front behind)

front-and-one : (front : List ℕ) (byte : ℕ) (behind : List ℕ) → take (length front + 1) (front ++ byte ∷ behind) ≡ front ++ byte ∷ []
front-and-one [] byte behind = refl
front-and-one (x ∷ front) byte behind =
    let one : length (x ∷ front) + 1 ≡ suc (length front + 1) = omega arith in
    rw one (ap (λ xs. x ∷ xs) (front-and-one front byte behind))

pub begins-at : (quoting : Bool) (delimiter : ℕ) (bytes passed rest : List ℕ) (records : List Fields) (line : ℕ) → bytes ≡ passed ++ rest → BeginsRecord rest
    → AreWhole (config_with quoting delimiter) passed records → line ≡ line_after passed → BeginsAt (config_with quoting delimiter) bytes (length records) line
begins-at quoting delimiter bytes passed [] records line split begins whole is = absurd begins
begins-at quoting delimiter bytes passed (byte ∷ rest) records line split begins whole is =
    let config = config_with quoting delimiter in
    let front : take (length passed) bytes ≡ passed = rw split (front-taken passed (byte ∷ rest)) in
    let more : take (length passed + 1) bytes ≡ passed ++ byte ∷ [] = rw split (front-and-one passed byte rest) in
    let one = one-byte quoting delimiter byte in
    let read = last-record quoting delimiter (byte ∷ []) one.0 begins one.1 one.2 one.3 in
    let all = length-append records (one.0.0 ∷ []) in
    let size = ap length split ∙ length-append passed (byte ∷ rest) in
    record {
      place = length passed;
      within = omega (arith, size);
      without = subst (HasUpTo config (length records)) (sym front) (record { records = records; read = all-of config passed records whole; up_to = omega arith });
      with_it = subst (HasMoreThan config (length records)) (sym more) (record { records = records ++ one.0.0 ∷ []; read = whole.0 (byte ∷ []) (one.0.0 ∷ []) read; more = omega (arith, all) });
      line_is = is ∙ ap line_after (sym front);
    }
