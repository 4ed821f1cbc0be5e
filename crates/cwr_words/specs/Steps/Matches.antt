-- What the matches of a parse give.
use Rattle.std.specs.Prelude.{option_map}
use Rattle.clap.specs.Words.{first_value, matched_of, one_text, raw_values}
use Rattle.clap.specs.declared.parser.matches.Found.{Found}
use Rattle.cwr_words.specs.Format.Words.{Given}

-- what was found gives
abbrev pub given_by : Found → Given
given_by found = record {
  first = λ id. first_value found id;
  read = λ id. one_text found id;
  all = λ id. option_map raw_values (matched_of found id);
}
