-- What is promised, in the words of the format.
pub mod AloneKinds
pub mod Endings
pub mod Faults
pub mod Imports
pub mod Lacks
pub mod Laws
pub mod OutcomeTexts
