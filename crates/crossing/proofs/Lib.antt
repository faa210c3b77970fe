-- What crosses loses nothing, a number is renamed by its port bits, and its text is that of a replay's line. Last what a host is promised on three calls,
-- computed.
pub mod PartsLaws
pub mod LosesNothing
pub mod AnswerBits
pub mod AnswerTexts
pub mod Instance
