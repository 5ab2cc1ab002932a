-- What the program may be asked.
use Rattle.std.proofs.Common.{◌≡◌, ◌≢◌, ◌⊎◌, ◌<◌, ◌≤◌, ℕ, ◌+◌, Bool, true, false, Decides, List, Option, Some, None, IfSome, is_some, codes, option_map, get_or, length, map, take, ap, ap₂, arith, inl, inr, refl, subst, sym, ◌∙◌}
use Rattle.std.specs.Borrow.{Bor}
use Rattle.std.specs.Box.{box_value}
use Rattle.std.specs.Prelude.{Box, bytes_eq, if◌then◌else◌, option_and_then, slice_get}
use Rattle.std.proofs.lemmas.Bool.{cases_lt}
use Rattle.std.proofs.lemmas.Slice.Eq.{bytes_eq-Decides}
use Rattle.std.proofs.lemmas.List.{take-map}
use Rattle.std.proofs.lemmas.Option.{slice_get-get_or, slice_get-map}
use Rattle.clap.specs.Words.{HasKind, IsAmong, Row, Text, first_of, is_simple, is_simple_and_free, kind_of, subcommand_name_of, subcommand_of, subcommand_rows, subcommand_rows_of}
use Rattle.clap.specs.declared.error.Error.{Error}
use Rattle.clap.specs.declared.parser.matches.ArgMatches.{ArgMatches}
use Rattle.clap.specs.declared.parser.matches.ArgMatches.TheViews.{out-ArgMatches, out-SubCommand}
use Rattle.clap.specs.declared.parser.matches.SubCommand.{SubCommand}
use Rattle.clap.specs.declared.error.kind.ErrorKind.{ErrorKind}
use Rattle.clap.specs.declared.error.kind.ErrorKind.TheVariants.{OutOfMemory}
use Rattle.jb_program.specs.declared.words.fault.UsageFault.{UsageFault}
use Rattle.jb_program.specs.declared.words.fault.UsageFault.TheVariants as usage
use Rattle.jb_program.specs.declared.words.request.Request.{Request}
use Rattle.jb_program.specs.declared.words.request.Request.TheVariants.{Help, Version, Perform}
use Rattle.jb_program.specs.declared.words.request.Word.{Word}
use Rattle.jb_program.specs.CommandLine.{AreTakenAs, AreUnknown, Asks, CanBeCompleted, CannotGoOn, IsToldAt, IsWrong, app, line_in, request_in, rounds_of_word, topic_in, perform_in, word_in}

-- what the program may be asked is simple, and no argument of it has a rule on another
pub is_free : is_simple_and_free app ≡ true
is_free = refl

pub simple : is_simple app ≡ true
simple = refl

-- an error that isn't want of memory has one of the kinds
pub ends_in : (kinds : List ErrorKind) (fault : Error) (kind : ErrorKind) → HasKind kinds fault → kind_of fault ≡ kind → kind ≢ OutOfMemory → IsAmong kind kinds
ends_in kinds fault kind (inl full) is other = absurd (other cc)
ends_in kinds fault kind (inr among) is other = subst (λ k. IsAmong k kinds) is among

-- ---- the subcommand that was found

pub found-as : (name : Text) (rows : List Row) (o : Option (Text × List Row)) → Some name ≡ option_map (λ p. p.0) o → Some rows ≡ option_map (λ p. p.1) o → o ≡ Some (name, rows)
found-as name rows None is_name is_rows = absurd cc
found-as name rows (Some found) is_name is_rows = ap₂ (λ n rs. Some (n, rs)) (same found.0 name (sym is_name)) (same found.1 rows (sym is_rows))
  where
    same : {X : Type 0} (x y : X) → ◌≡◌ {A = Option X} (Some x) (Some y) → x ≡ y
    same x y e = cc

name-in : {Z : Type 0} (o : Option (Box SubCommand Z)) → option_map (λ b. (out-SubCommand (box_value b)).name.now) o ≡ option_map (λ p. p.0) (subcommand_rows o)
name-in None = refl
name-in (Some found) = refl

pub named : (m : ArgMatches) → subcommand_name_of m ≡ option_map (λ p. p.0) (subcommand_rows_of m)
named m = name-in (out-ArgMatches m).subcommand

-- the word `help` asks for what its own word says
pub help-asks : (name : Text) (rows : List Row) → name ≡ codes "help" → request_in (Some (name, rows)) ≡ topic_in (first_of (codes "word") rows)
help-asks name rows is = rw is refl

-- another word asks for what it says with its number of rounds
pub word-asks : (name : Text) (rows : List Row) → name ≢ codes "help" → request_in (Some (name, rows)) ≡ perform_in name (first_of (codes "rounds") rows)
word-asks name rows other =
    ap (λ b. if b then topic_in (first_of (codes "word") rows) else perform_in name (first_of (codes "rounds") rows)) (not-same (bytes_eq name (codes "help")) (bytes_eq-Decides name (codes "help")))
  where
    not-same : (b : Bool) → Decides b (name ≡ codes "help") → b ≡ false
    not-same true decides = absurd (other (decides.0 refl))
    not-same false decides = refl

-- ---- matches ask for no version

help_is_no_version : (o : Option Word) → option_map (λ word. Help (Some word)) o ≡ Some Version → ⊥
help_is_no_version None e = cc
help_is_no_version (Some word) e = cc

limit_is_no_version : (word : Word) (o : Option ℕ) → option_map (λ n. Perform (record { word = word; rounds = Some n })) o ≡ Some Version → ⊥
limit_is_no_version word None e = cc
limit_is_no_version word (Some n) e = cc

line_is_no_version : (word : Word) (given : Option Text) → line_in word given ≡ Some Version → ⊥
line_is_no_version word None e = cc
line_is_no_version word (Some text) e = limit_is_no_version word (rounds_of_word text) e

perform_is_no_version : (given : Option Text) (o : Option Word) → option_and_then (λ word. line_in word given) o ≡ Some Version → ⊥
perform_is_no_version given None e = cc
perform_is_no_version given (Some word) e = line_is_no_version word given e

other_is_no_version : (is_help : Bool) (name : Text) → (if is_help then Some (Help None) else option_map (λ word. Help (Some word)) (word_in name)) ≡ Some Version → ⊥
other_is_no_version true name e = cc
other_is_no_version false name e = help_is_no_version (word_in name) e

topic_is_no_version : (o : Option Text) → topic_in o ≡ Some Version → ⊥
topic_is_no_version None e = cc
topic_is_no_version (Some name) e = other_is_no_version (bytes_eq name (codes "help")) name e

either_is_no_version : (b : Bool) (name : Text) (rows : List Row) → (if b then topic_in (first_of (codes "word") rows) else perform_in name (first_of (codes "rounds") rows)) ≡ Some Version → ⊥
either_is_no_version true name rows e = topic_is_no_version (first_of (codes "word") rows) e
either_is_no_version false name rows e = perform_is_no_version (first_of (codes "rounds") rows) (word_in name) e

request_is_no_version : (found : Option (Text × List Row)) → request_in found ≡ Some Version → ⊥
request_is_no_version None e = cc
request_is_no_version (Some found) e = either_is_no_version (bytes_eq found.0 (codes "help")) found.0 found.1 e

-- what the words ask for where `clap` takes them
pub taken_asks : (words : List Text) (request : Option Request) → AreTakenAs words request → IfSome request (Asks words)
taken_asks words None taken = tt
taken_asks words (Some (Perform line)) taken = taken
taken_asks words (Some (Help topic)) taken = inl taken
taken_asks words (Some Version) taken = absurd (request_is_no_version (subcommand_of app words) taken.1)

-- what is asked, where something is, and that nothing is
pub asks-something : (o : Option Request) (words : List Text) → IfSome o (Asks words) → is_some o ≡ true → (request : Request) × Asks words request
asks-something None words asks there = cc
asks-something (Some request) words asks there = (request, asks)

pub asks-nothing : (o : Option Request) → is_some o ≡ false → o ≡ None
asks-nothing None none = refl
asks-nothing (Some request) none = cc

-- ---- one word after another

-- the words that these texts are
abbrev pub texts : List (Bor Text) → List Text
texts = map (λ w. w.now)

-- up to each of the first so many words, they can go on
abbrev pub GoOnUpTo : List Text → ℕ → Type 0
GoOnUpTo words k = (n : ℕ) → 0 < n → n ≤ k → CanBeCompleted (take n words)

front-texts : (words front : List (Bor Text)) (n : ℕ) → front ≡ take n words → texts front ≡ take n (texts words)
front-texts words front n is = ap texts is ∙ sym (take-map (λ w. w.now) n words)

pub goes-on-more : (words front : List (Bor Text)) (k : ℕ) → front ≡ take (k + 1) words → CanBeCompleted (texts front) → GoOnUpTo (texts words) k → GoOnUpTo (texts words) (k + 1)
goes-on-more words front k is can before n some to = go (cases_lt k n)
  where
    go : (k < n) ⊎ (n ≤ k) → CanBeCompleted (take n (texts words))
    go (inl past) =
        let last : n ≡ k + 1 = omega (arith, past, to) in
        subst (λ m. CanBeCompleted (take m (texts words))) (sym last) (subst CanBeCompleted (front-texts words front (k + 1) is) can)
    go (inr within) = before n some within

pub stuck-up-to : (words front : List (Bor Text)) (n : ℕ) → front ≡ take n words → CannotGoOn (texts front) → CannotGoOn (take n (texts words))
stuck-up-to words front n is stuck = subst CannotGoOn (front-texts words front n is) stuck

-- the word at a place
pub text-at : (words : List (Bor Text)) (k : ℕ) (d : Bor Text) (text : Text) → k < length words → text ≡ (get_or words k d).now → slice_get (texts words) k ≡ Some text
text-at words k d text within is =
    slice_get-map (λ (w : Bor Text). w.now) words k ∙ ap (option_map (λ (w : Bor Text). w.now)) (slice_get-get_or words k d within) ∙ ap (λ t. Some t) (sym is)

-- what is said of the word at a place, where the words up to it can't go on, or it is the last
pub told-wrong : (words : List Text) (place : ℕ) (fault : UsageFault) → AreUnknown words → IsToldAt words place fault
    → ((n : ℕ) → 0 < n → n ≤ place → CanBeCompleted (take n words)) → CannotGoOn (take (place + 1) words) ⊎ (place + 1 ≡ length words) → IsWrong fault (Some words)
told-wrong words place usage.NoWord unknown told before up = absurd told
told-wrong words place usage.NoText unknown told before up = absurd told
told-wrong words place (usage.Wrong text reason) unknown told before up = record {
  unknown = unknown;
  place = place;
  told = told;
  before = before;
  up_to = up;
}
