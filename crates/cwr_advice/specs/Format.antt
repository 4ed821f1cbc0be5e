-- What is promised, in the words of the format.
pub mod Characters
pub mod Days
pub mod Numbers
pub mod RuleOrder
pub mod Rules
pub mod Said
pub mod Shifts
pub mod Words
