-- What is promised, in the words of the format.
pub mod Fields
pub mod Findings
pub mod Headers
pub mod ReportLines
