-- The canonical text of records, part by part.
pub use Rattle.cwr_lines.specs.Steps.NumberedTexts.{text_from}
