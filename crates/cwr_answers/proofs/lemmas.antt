-- What is read of acknowledgements is what the texts of their names say.
pub mod AnsweredPlaces
-- What failed where a run over acknowledgements, and what they answer, stops.
pub mod AnswersFail
-- How the reading of acknowledgements ends, by the texts that are read.
pub mod Ends
-- What is kept of what was sent stands for that, and for what is read.
pub mod Kept
-- How the reading of what was sent ends, by the texts that are read.
pub mod Sent
-- The status is that of what was read, and of the states of what was sent.
pub mod States
