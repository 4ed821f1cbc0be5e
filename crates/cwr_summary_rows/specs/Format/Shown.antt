-- What a row that is put says.
use Rattle.std.specs.Prelude.{ℕ, List, Option, option_map}
use Rattle.cwr_summary.specs.declared.summaries.Summary.{Summary}
use Rattle.cwr_summary_rows.specs.declared.headers.Header.{Header}
use Rattle.cwr_summary_rows.specs.declared.rows.Row.{Row}
use Rattle.cwr_summary_rows.specs.Format.Rows.{HeaderCells, RowValue}

-- the numbers of a summary, if there is one
abbrev pub numbers_of : Option Summary → Option (List ℕ)
numbers_of summary = option_map (λ (s : Summary). s.numbers) summary

abbrev pub cells_of : Header → HeaderCells
cells_of header = record {
  sender_type = header.sender_type.now;
  sender_id = header.sender_id.now;
  sender_name = header.sender_name.now;
  creation_date = header.creation_date.now;
  creation_time = header.creation_time.now;
  transmission_date = header.transmission_date.now;
}

abbrev pub row_value : Row → RowValue
row_value row = record {
  file = option_map (λ n. n.now) row.file;
  bytes = row.bytes;
  after = row.after;
  digest = row.digest;
  canonical = row.canonical;
  verdict = row.verdict.now;
  header = cells_of row.header;
  numbers = numbers_of row.summary;
  advice = row.advice;
  senders = row.senders;
}
