-- The answers of the bench, each a line of characters with its newline. Assumes nothing.
use Rattle.std.specs.Prelude.{ℕ, suc, ◌/◌, ◌%◌, cond, List, [], ◌∷◌, ◌++◌, take, ℤ, pos, negsuc, ltb}
use Rattle.bench_rules.specs.Text.{byte_text, word_text, bytes_text, decimal_text}
use Rattle.bench_rules.specs.declared.Reply.{Reply}
use Rattle.bench_rules.specs.declared.Reply.TheVariants as reply

abbrev pub newline : List ℕ
newline = 0x0A ∷ []

-- ok
abbrev pub ok_line : List ℕ
ok_line = 0x6F ∷ 0x6B ∷ 0x0A ∷ []

-- what?
abbrev pub what_line : List ℕ
what_line = 0x77 ∷ 0x68 ∷ 0x61 ∷ 0x74 ∷ 0x3F ∷ 0x0A ∷ []

-- a label and a number in decimal
abbrev pub labelled : List ℕ → ℕ → List ℕ
labelled label n = label ++ decimal_text n ++ newline

-- = XXXX, = XX
abbrev pub equals : List ℕ
equals = 0x3D ∷ 0x20 ∷ []

abbrev pub word_line : ℕ → List ℕ
word_line v = equals ++ word_text v ++ newline

abbrev pub byte_line : ℕ → List ℕ
byte_line v = equals ++ byte_text (v % 256) ++ newline

-- A number in decimal, with a minus sign below 0: `negsuc n` is -(n + 1).
unfoldable pub signed_text : ℤ → List ℕ
signed_text (pos n) = decimal_text n
signed_text (negsuc n) = (0x2D ∷ []) ++ decimal_text (suc n)

-- rx XXXX unread N
abbrev pub rx_status_line : ℕ → ℤ → List ℕ
rx_status_line v n =
    (0x72 ∷ 0x78 ∷ 0x20 ∷ []) ++ word_text v
    ++ (0x20 ∷ 0x75 ∷ 0x6E ∷ 0x72 ∷ 0x65 ∷ 0x61 ∷ 0x64 ∷ 0x20 ∷ []) ++ signed_text n ++ newline

-- accesses N, at the end of a line
abbrev pub accesses_text : ℕ → List ℕ
accesses_text used = (0x20 ∷ 0x61 ∷ 0x63 ∷ 0x63 ∷ 0x65 ∷ 0x73 ∷ 0x73 ∷ 0x65 ∷ 0x73 ∷ 0x20 ∷ []) ++ decimal_text (used % 100000) ++ newline

-- status SS accesses N
abbrev pub status_line : ℕ → ℕ → List ℕ
status_line s used = (0x73 ∷ 0x74 ∷ 0x61 ∷ 0x74 ∷ 0x75 ∷ 0x73 ∷ 0x20 ∷ []) ++ byte_text (s % 256) ++ accesses_text used

-- report TICKET SS accesses N
abbrev pub report_line : ℕ → ℕ → ℕ → List ℕ
report_line ticket s used =
    (0x72 ∷ 0x65 ∷ 0x70 ∷ 0x6F ∷ 0x72 ∷ 0x74 ∷ 0x20 ∷ []) ++ decimal_text ticket ++ (0x20 ∷ []) ++ byte_text (s % 256) ++ accesses_text used

-- At most 1,792 bytes are told.
abbrev pub shortened : List ℕ → List ℕ
shortened bytes = take 1792 bytes

-- wire HEX
abbrev pub bytes_line : List ℕ → List ℕ
bytes_line bytes = (0x77 ∷ 0x69 ∷ 0x72 ∷ 0x65 ∷ 0x20 ∷ []) ++ bytes_text bytes ++ newline

-- a label, HEX, accesses N
abbrev pub frame_line : List ℕ → List ℕ → ℕ → List ℕ
frame_line label bytes used = label ++ bytes_text bytes ++ accesses_text used

-- a blank and 12 digits for each address
abbrev pub address_text : ℕ → List ℕ
address_text a = (0x20 ∷ []) ++ word_text (a / 0x100000000 % 0x10000) ++ word_text (a / 0x10000 % 0x10000) ++ word_text (a % 0x10000)

unfoldable pub addresses_text : List ℕ → List ℕ
addresses_text [] = []
addresses_text (a ∷ s) = address_text a ++ addresses_text s

abbrev pub seven_at_most : ℕ → ℕ
seven_at_most m = cond (ltb 7 m) 7 m

-- found M accesses N, and M addresses
abbrev pub found_line : ℕ → ℕ → List ℕ → List ℕ
found_line m used found =
    (0x66 ∷ 0x6F ∷ 0x75 ∷ 0x6E ∷ 0x64 ∷ 0x20 ∷ []) ++ decimal_text m
    ++ (0x20 ∷ 0x61 ∷ 0x63 ∷ 0x63 ∷ 0x65 ∷ 0x73 ∷ 0x73 ∷ 0x65 ∷ 0x73 ∷ 0x20 ∷ [])
    ++ decimal_text (used % 100000) ++ addresses_text (take m found) ++ newline

-- the labels
abbrev pub refused_label : List ℕ
refused_label = 0x72 ∷ 0x65 ∷ 0x66 ∷ 0x75 ∷ 0x73 ∷ 0x65 ∷ 0x64 ∷ 0x20 ∷ []

abbrev pub ticket_label : List ℕ
ticket_label = 0x74 ∷ 0x69 ∷ 0x63 ∷ 0x6B ∷ 0x65 ∷ 0x74 ∷ 0x20 ∷ []

abbrev pub look_label : List ℕ
look_label = 0x66 ∷ 0x72 ∷ 0x61 ∷ 0x6D ∷ 0x65 ∷ 0x20 ∷ 0x6C ∷ 0x6F ∷ 0x6F ∷ 0x6B ∷ 0x20 ∷ []

abbrev pub frame_label : List ℕ
frame_label = 0x66 ∷ 0x72 ∷ 0x61 ∷ 0x6D ∷ 0x65 ∷ 0x20 ∷ 0x66 ∷ 0x72 ∷ 0x61 ∷ 0x6D ∷ 0x65 ∷ 0x20 ∷ []

abbrev pub idle_label : List ℕ
idle_label = 0x69 ∷ 0x64 ∷ 0x6C ∷ 0x65 ∷ 0x20 ∷ 0x61 ∷ 0x63 ∷ 0x63 ∷ 0x65 ∷ 0x73 ∷ 0x73 ∷ 0x65 ∷ 0x73 ∷ 0x20 ∷ []

abbrev pub short_label : List ℕ
short_label = 0x72 ∷ 0x65 ∷ 0x66 ∷ 0x75 ∷ 0x73 ∷ 0x65 ∷ 0x64 ∷ 0x20 ∷ 0x36 ∷ 0x20 ∷ 0x61 ∷ 0x63 ∷ 0x63 ∷ 0x65 ∷ 0x73 ∷ 0x73 ∷ 0x65 ∷ 0x73 ∷ 0x20 ∷ []

-- The line of an answer, with the bytes and the addresses that stand beside it.
unfoldable pub line_of : Reply → List ℕ → List ℕ → List ℕ
line_of reply.Nothing bytes found = []
line_of reply.What bytes found = what_line
line_of reply.Ok bytes found = ok_line
line_of (reply.Refused n) bytes found = labelled refused_label n
line_of (reply.Word v) bytes found = word_line v
line_of (reply.Byte v) bytes found = byte_line v
line_of (reply.RxStatus v n) bytes found = rx_status_line v n
line_of (reply.Bit b) bytes found = labelled equals b
line_of reply.Wire bytes found = bytes_line (shortened bytes)
line_of (reply.Found m used) bytes found = found_line (seven_at_most m) used found
line_of (reply.Ticket n) bytes found = labelled ticket_label n
line_of (reply.Report ticket s used) bytes found = report_line ticket s used
line_of (reply.Status s used) bytes found = status_line s used
line_of (reply.Look used) bytes found = frame_line look_label (shortened bytes) used
line_of (reply.Frame used) bytes found = frame_line frame_label (shortened bytes) used
line_of (reply.Idle used) bytes found = labelled idle_label (used % 100000)
line_of (reply.Short used) bytes found = labelled short_label (used % 100000)
