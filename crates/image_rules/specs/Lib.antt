-- The EEPROM image: its words and bytes, the checksums, the check, and the line that the image program prints.
-- the image: words, checksums, the check
pub mod Image
-- the line that is printed
pub mod Line
-- the public calls
pub mod ImageContracts
pub mod Put
