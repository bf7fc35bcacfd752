-- Laws and worked examples.
-- numbers and bytes as text
pub mod HexExamples
pub mod Placed
pub mod Spelling
-- answers as lines
pub mod Spoken
pub mod AnswersExamples
-- the language of a script
pub mod Lines
pub mod ScriptExamples
