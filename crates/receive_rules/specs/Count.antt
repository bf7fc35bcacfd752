-- The unread bytes of a frame, a signed number, and how RX Status tells them. Assumes nothing.
use Rattle.std.specs.Prelude.{cond, ℕ, ◌-◌, ◌%◌, leb, ℤ, pos, negsuc, ◌-ℤ◌}

-- Stored bytes less bytes read: below 0 once pad has been read.
abbrev pub unread : ℕ → ℕ → ℤ
unread stored read = pos stored -ℤ pos read

-- Bits 10-0 of RX Status: the count in two's complement.
abbrev pub encoded : ℤ → ℕ
encoded (pos n) = n % 2048
encoded (negsuc n) = 2047 - n % 2048

-- A frame has no more bytes than these, and so no more are unread.
abbrev pub most_unread : ℕ
most_unread = 1792

-- The count that a word tells. What is above the most is below 0.
abbrev pub decoded : ℕ → ℤ
decoded rx = cond (leb (rx % 2048) most_unread) (pos (rx % 2048)) (negsuc (2047 - rx % 2048))
