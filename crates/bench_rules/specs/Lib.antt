-- The bench's text: numbers and bytes as text, which line of a script asks for what, the answers as lines.
-- numbers and bytes as text
pub mod Text
-- answers as lines
pub mod Answers
-- the language of a script
pub mod Script
