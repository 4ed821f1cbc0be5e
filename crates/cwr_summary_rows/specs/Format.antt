-- A cell of a row in each form.
pub mod Cells
-- The rows of a summary.
pub mod Rows
-- What a row that is put says.
pub mod Shown
