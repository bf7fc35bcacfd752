-- Laws and worked examples.
-- the image: words, checksums, the check
pub mod Xor
pub mod Words
pub mod EepromExamples
-- the line that is printed
pub mod ImageLineExamples
