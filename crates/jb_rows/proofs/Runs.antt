-- Runs of bytes that only join a field.
use Rattle.std.proofs.Common.{◌≡◌, ◌<◌, ◌+◌, ◌==◌, ◌∷◌, [], ℕ, suc, Bool, true, false, List, refl, length, take, drop, get_or, arith}
use Rattle.csv.specs.Machine.{step}
use Rattle.csv.specs.declared.parser.Action.TheVariants as act
use Rattle.csv.specs.declared.parser.State.TheVariants as st
use Rattle.jb_rows.specs.TextLines.{ends_line}
use Rattle.jb_rows.specs.Texts.{config_with}

pub plain-step : (quoting : Bool) (delimiter byte : ℕ) → (byte == delimiter) ≡ false → ends_line byte ≡ false
    → step (config_with quoting delimiter) st.InField byte ≡ (st.InField, act.Copy)
plain-step quoting delimiter byte other goes = rw (other, goes) refl

pub quoted-step : (quoting : Bool) (delimiter byte : ℕ) → (byte == 34) ≡ false → step (config_with quoting delimiter) st.InQuoted byte ≡ (st.InQuoted, act.Copy)
quoted-step false delimiter byte other = refl
quoted-step true delimiter byte other = rw other refl

-- the first byte, and those behind it
pub front-of : (bytes : List ℕ) → 0 < length bytes → bytes ≡ get_or bytes 0 0 ∷ drop 1 bytes
front-of [] some = absurd (omega arith)
front-of (byte ∷ bytes) some = refl

pub one-taken : (bytes : List ℕ) → 0 < length bytes → take 1 bytes ≡ get_or bytes 0 0 ∷ []
one-taken [] some = absurd (omega arith)
one-taken (byte ∷ bytes) some = refl

pub more-taken : (bytes : List ℕ) (run : ℕ) → 0 < length bytes → take (1 + run) bytes ≡ get_or bytes 0 0 ∷ take run (drop 1 bytes)
more-taken [] run some = absurd (omega arith)
more-taken (byte ∷ bytes) run some =
    let one : 1 + run ≡ suc run = omega arith in
    rw one refl
