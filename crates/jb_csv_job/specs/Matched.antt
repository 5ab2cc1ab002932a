-- What the getters of `clap`'s matches give.
use Rattle.std.specs.Prelude.{List, Option, option_map}
use Rattle.clap.specs.Words.{Text, first_value, found_of, matched_of, raw_values}
use Rattle.clap.specs.declared.parser.matches.ArgMatches.{ArgMatches}

-- the first value of an option, and all of them
abbrev pub first_in : ArgMatches → Text → Option Text
first_in m id = first_value (found_of m) id

abbrev pub all_in : ArgMatches → Text → Option (List Text)
all_in m id = option_map raw_values (matched_of (found_of m) id)
