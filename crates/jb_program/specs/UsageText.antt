-- What is written if the arguments are wrong (own choice).
use Rattle.std.specs.Prelude.{ℕ, List, ◌++◌, codes, encode_utf8, flat_map, if◌then◌else◌, false, string_bytes}
use Rattle.std.specs.Char.{is_control}
use Rattle.std.specs.Fmt.{digits}
use Rattle.std.specs.Str.{chars}
use Rattle.jb_program.specs.declared.words.fault.Reason.{Reason}
use Rattle.jb_program.specs.declared.words.fault.Reason.TheVariants.{Rounds, Document, Unknown}
use Rattle.jb_program.specs.declared.words.fault.UsageFault.{UsageFault}
use Rattle.jb_program.specs.declared.words.fault.UsageFault.TheVariants as fault

-- where to find which arguments are right
unfoldable pub advice : List ℕ
advice = codes "batchrun --help says which words there are\n"

-- which number `--rounds` takes, and where
unfoldable pub rounds_advice : List ℕ
rounds_advice = codes "`--rounds N` comes once, after `run` or `restart`; N is a number from 0 to 1000000000\n"

-- where a document comes from
unfoldable pub document_advice : List ℕ
document_advice = codes "a document is read from standard input: < job.json\n"

-- what is right, or where to find it
abbrev pub advice_on : Reason → List ℕ
advice_on Rounds = rounds_advice
advice_on Document = document_advice
advice_on Unknown = advice

-- a control character is written by its number, as `\u{1b}`, and every other character as it is
abbrev pub shown : (character : ℕ) → List ℕ
shown c = if is_control c then codes "\\u{" ++ (digits 16 false c ++ codes "}") else encode_utf8 c

-- a word as it is written
abbrev pub escaped : (word : List ℕ) → List ℕ
escaped word = flat_map shown (chars word)

-- that the word is wrong, and what is right
abbrev pub wrong_text : (word right : List ℕ) → List ℕ
wrong_text word right = codes "wrong word: `" ++ (word ++ (codes "`\n" ++ right))

-- two lines: what is wrong, and what is right
abbrev pub usage_text : UsageFault → List ℕ
usage_text fault.NoWord = codes "no word\n" ++ advice
usage_text fault.NoText = codes "a word is no text\n" ++ advice
usage_text (fault.Wrong word reason) = wrong_text (string_bytes word) (advice_on reason)
