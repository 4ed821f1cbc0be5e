-- What is promised, in the words of the command line.
pub mod CommandLine
