-- The records of one slice.
use Rattle.std.proofs.Common.{◌≡◌, ◌∙◌, ℕ, suc, ◌≤◌, ◌++◌, ◌∷◌, List, [], Bool, true, false, Option, None, ap, append_assoc, arith, length, map, refl, subst, subst₂, sym, take, drop, inl, inr}
use Rattle.std.{specs.Bool.{MatchBool}, proofs.lemmas.Bool.{cases_Bool}}
use Rattle.std.proofs.lemmas.List.{append-nil, append_cancel_left, drop-map, drop_at, length-map, length-take-le, take-map, take_all, take_at}
use Rattle.csv.specs.{Machine.{next_record}, Reading.{Reached, strip_bom}, declared.parser.Config.{Config}, declared.parser.State.{State}, declared.parser.State.TheVariants.{StartRecord}}
use Rattle.jb_rows.{proofs.Headers.{read-first}, specs.Fields.{Fields, packed}, specs.Places.{AreLinesFrom}, specs.Streams.{HasGivenRows, lines_of}, specs.Texts.{AreRowsOf, config_of, header_of}}
use Rattle.jb_rows.specs.declared.{rows_options.RowsOptions.{RowsOptions}, rows_reader.RowsReader.{RowsReader}}
use Rattle.jb_slices.{specs.Job.{HasSlice, IsLastSlice, Job, first_of, slice_at}, proofs.Seams.{next-first}}
use lib.Seq.{take-add}
use Rattle.jb_csv_job.specs.{Job.{JobRecord}, SliceFiles.{slice_of}, Loop.{IsSliceRead, StandsBefore}}

-- ---- a text is read in one way only

no-more : (cfg : Config) (s s2 : State) (xs ys : List ℕ) (rest : List Fields) → Reached cfg s xs rest s2 ys → next_record cfg s [] [] xs ≡ None → rest ≡ []
unfolding Reached
no-more cfg s s2 xs ys [] read end = refl
no-more cfg s s2 xs ys (r ∷ rs) read end = cc (read.1, end)

-- what was read are the first of all records, and the rest comes after them
front-records : (cfg : Config) (s : State) (xs : List ℕ) (front all : List Fields) (s2 s3 : State) (ys zs : List ℕ) → Reached cfg s xs front s2 ys
    → Reached cfg s xs all s3 zs → next_record cfg s3 [] [] zs ≡ None → (rest : List Fields) × (all ≡ front ++ rest) × Reached cfg s2 ys rest s3 zs
unfolding Reached
front-records cfg s xs [] all s2 s3 ys zs read other end = (all, refl, subst₂ (λ t bytes. Reached cfg t bytes all s3 zs) read.0 read.1 other)
front-records cfg s xs (r ∷ rs) [] s2 s3 ys zs read other end = (let no : ⊥ = cc (read.1, other.0, other.1, end) in absurd no)
front-records cfg s xs (r ∷ rs) (o ∷ os) s2 s3 ys zs read other end =
    let same : read.0 ≡ other.0 = cc (read.1, other.1) in
    let later = subst (λ p. Reached cfg p.1 p.2 rs s2 ys) same read.3 in
    let found = front-records cfg other.0.1 other.0.2 rs os s2 s3 ys zs later other.3 end in
    (found.0, cc (same, read.2, other.2, found.1), found.2)

-- what was given are the first records of the text
given-front : {R : Type 0} (options : RowsOptions) (remaining : R → Option (List ℕ)) (reader : RowsReader R) (text : List ℕ) (given records : List Fields)
    → HasGivenRows options remaining reader text given → AreRowsOf options text records → (rest : List Fields) × (records ≡ given ++ rest)
given-front options remaining reader text given records gave are =
    let header = header_of options text in
    let first = read-first (config_of options) remaining reader text (header ++ given) gave.0 in
    let found = front-records (config_of options) StartRecord (strip_bom text) (header ++ given) (header ++ records) first.0 are.0 first.1 are.1 first.2 are.2 are.3 in
    (found.0, append_cancel_left header records (given ++ found.0) (found.1 ∙ append_assoc header given found.0))

same-rows : (options : RowsOptions) (text : List ℕ) (rows others : List Fields) → AreRowsOf options text rows → AreRowsOf options text others → others ≡ rows
same-rows options text rows others are were =
    let header = header_of options text in
    let found = front-records (config_of options) StartRecord (strip_bom text) (header ++ rows) (header ++ others) are.0 were.0 are.1 were.1 are.2 were.2 were.3 in
    append_cancel_left header others rows (found.1 ∙ ap (λ rest. (header ++ rows) ++ rest) (no-more _ _ _ _ _ found.0 found.2 are.3) ∙ append-nil (header ++ rows))

-- ---- a slice

if-not : (P Q S : Type 0) (b : Bool) → MatchBool b P Q → (Q → S) → MatchBool b P S
if-not P Q S true is f = is
if-not P Q S false is f = f is

module _ {R : Type 0} (job : JobRecord) (remaining : R → Option (List ℕ)) (text : List ℕ) (records : List Fields) (number : ℕ) (old new : RowsReader R) (rows : List Fields) (more : Bool)
    (read : AreRowsOf job.options text records) (stands : StandsBefore job remaining text records number old)
    (gave : HasGivenRows job.options remaining new text (take (first_of job.job number) records ++ rows))
    (all : more ≡ false → AreRowsOf job.options text (take (first_of job.job number) records ++ rows))
    (most : length rows ≤ job.job.slice_length) (full : more ≡ true → length rows ≡ job.job.slice_length) where
  abbrev before : List Fields
  before = take (first_of job.job number) records

  count-before : length before ≡ first_of job.job number
  count-before = length-take-le (first_of job.job number) records (omega (arith, stands.has, length-map records packed))

  -- they are those of the slice
  rows-are : rows ≡ take job.job.slice_length (drop (first_of job.job number) records)
  rows-are = elim (cases_Bool more) [
    | inl is ↦ (let (rest, front) = given-front job.options remaining new text (before ++ rows) records gave read in
        rw (front, append_assoc before rows rest, drop_at before (rows ++ rest) _ count-before, take_at rows rest _ (full is)))
    | inr isnt ↦ rw (same-rows job.options text (before ++ rows) records (all isnt) read, drop_at before rows _ count-before, take_all _ rows most)
  ]

  items-are : map packed rows ≡ slice_of job records number
  items-are = ap (map packed) rows-are ∙ sym (ap (take job.job.slice_length) (drop-map packed _ records) ∙ take-map packed _ (drop (first_of job.job number) records))

  next-stands : HasSlice job.job (map packed records) (suc number) → StandsBefore job remaining text records (suc number) new
  next-stands has =
      let both = sym (take-add (first_of job.job number) job.job.slice_length records) ∙ ap (λ (n : ℕ). take n records) (next-first job.job number) in
      record { has = has; given = subst (HasGivenRows job.options remaining new text) (ap (λ xs. before ++ xs) rows-are ∙ both) gave }

  pub slice-read : (is_last : Bool) (count : ℕ) → count ≡ length rows → AreLinesFrom job.options text (length before) (lines_of new) → length (lines_of new) ≡ length rows
      → ((j : Job) (items : List (List ℕ)) (k : ℕ) → j.slice_length ≡ job.job.slice_length → HasSlice j items k → length (slice_at j items k) ≡ count
      → MatchBool is_last (IsLastSlice j items k) (HasSlice j items (suc k)))
      → IsSliceRead job remaining text records number new rows is_last
  slice-read is_last count is lines each last =
      let same = sym (length-map rows packed) ∙ ap length items-are in
      record {
        has = stands.has;
        items = items-are;
        lines = subst (λ k. AreLinesFrom job.options text k (lines_of new)) count-before lines;
        each = each ∙ same;
        next = if-not _ _ (StandsBefore job remaining text records (suc number) new) is_last (last job.job (map packed records) number refl stands.has (sym same ∙ sym is)) next-stands;
      }
