-- The language of the bench: which line asks for what. A line is a list of characters without its newline. Assumes nothing.
use Rattle.std.specs.Prelude.{ℕ, suc, ◌+◌, ◌*◌, ◌/◌, ◌≤◌, ◌≡◌, Bool, cond, not, ◌||◌, Option, Some, None, List, [], ◌∷◌, length, take, drop, get_or, ltb, leb, eqb}
use Rattle.std.specs.Option.{unwrap_or}
use Rattle.bench_rules.specs.Text.{none, number_of, is_pairs, bytes_of}
use Rattle.bench_rules.specs.declared.Kind.{Kind}
use Rattle.bench_rules.specs.declared.Kind.TheVariants.{Nothing, Unknown, Power, Join, ReadWord, ReadByte, WriteWord, WriteByte, Start, Bytes, End, Sent, Collided, RxStatus, IdWrite, IdRead, Search, Activate, Open, Send, Service}
use Rattle.bench_rules.specs.declared.Line.{Line}

-- ---- words

-- A blank is a space or a tab.
abbrev pub blank : ℕ → Bool
blank b = eqb b 0x20 || eqb b 0x09

-- The classes of characters: 0 blank, 1 not blank, 2 the #.
unfoldable pub is_of : ℕ → ℕ → Bool
is_of class b = cond (eqb class 0) (blank b) (cond (eqb class 1) (not (blank b)) (eqb b 0x23))

-- How far it is to the first character of a class; to the end if there is none.
unfoldable pub reach_of : ℕ → List ℕ → ℕ
reach_of class [] = 0
reach_of class (b ∷ s) = cond (is_of class b) 0 (suc (reach_of class s))

-- The word at the front: up to the first blank.
unfoldable pub word_of : List ℕ → List ℕ
word_of s = take (reach_of 0 s) s

abbrev pub skip_of : List ℕ → List ℕ
skip_of s = drop (reach_of 1 s) s

-- From the next word on.
unfoldable pub next_of : List ℕ → List ℕ
next_of s = skip_of (drop (reach_of 0 s) s)

-- From the first word on; a # starts a comment wherever it stands.
unfoldable pub begun_of : List ℕ → List ℕ
begun_of s = skip_of (take (reach_of 2 s) s)

-- ---- names

-- A word of up to eight characters as one number, its characters as bytes; longer ones are 0.
unfoldable pub key_on : ℕ → List ℕ → ℕ
key_on n [] = n
key_on n (b ∷ s) = cond (leb 0x100000000000000 n) 0 (key_on (n * 256 + b) s)

-- A word that begins with a zero is none of ours.
unfoldable pub key_of : List ℕ → ℕ
key_of s = cond (eqb (get_or s 0 0) 0) 0 (key_on 0 s)

unfoldable pub kind_of : ℕ → Kind
kind_of key =
    -- power, join, rw, rb, ww, wb, start, bytes, end, sent, collided, rx, idw, idr, search, activate, open, send, service
    cond (eqb key 0x706F776572) Power
    (cond (eqb key 0x6A6F696E) Join
    (cond (eqb key 0x7277) ReadWord
    (cond (eqb key 0x7262) ReadByte
    (cond (eqb key 0x7777) WriteWord
    (cond (eqb key 0x7762) WriteByte
    (cond (eqb key 0x7374617274) Start
    (cond (eqb key 0x6279746573) Bytes
    (cond (eqb key 0x656E64) End
    (cond (eqb key 0x73656E74) Sent
    (cond (eqb key 0x636F6C6C69646564) Collided
    (cond (eqb key 0x7278) RxStatus
    (cond (eqb key 0x696477) IdWrite
    (cond (eqb key 0x696472) IdRead
    (cond (eqb key 0x736561726368) Search
    (cond (eqb key 0x6163746976617465) Activate
    (cond (eqb key 0x6F70656E) Open
    (cond (eqb key 0x73656E64) Send
    (cond (eqb key 0x73657276696365) Service
    Unknown))))))))))))))))))

-- ---- operands

abbrev pub line_of : Kind → ℕ → ℕ → ℕ → ℕ → Line
line_of k a b c n = record { kind = k; a = a; b = b; c = c; len = n }

abbrev pub nothing_line : Line
nothing_line = line_of Nothing 0 0 0 0

abbrev pub unknown_line : Line
unknown_line = line_of Unknown 0 0 0 0

-- A line that may not be understood.
abbrev pub or_unknown : Option Line → Line
or_unknown l = unwrap_or l unknown_line

-- How many words follow the first, from the lengths of what follows: 4 for more than three.
unfoldable pub count_of : ℕ → ℕ → ℕ → ℕ → ℕ
count_of one two three more = cond (eqb one 0) 0 (cond (eqb two 0) 1 (cond (eqb three 0) 2 (cond (eqb more 0) 3 4)))

-- The number that a word spells, if it is at most `most`.
unfoldable pub operand_of : ℕ → ℕ → List ℕ → ℕ
operand_of base most word = cond (ltb most (number_of base word)) none (number_of base word)

-- No operand; a number; two; three.
unfoldable pub plain_line : Kind → ℕ → Line
plain_line k count = cond (eqb count 0) (line_of k 0 0 0 0) unknown_line

unfoldable pub number_line : Kind → ℕ → ℕ → List ℕ → Line
number_line k base count one =
    cond (eqb count 1)
    (cond (ltb 65535 (operand_of base 65535 one)) unknown_line
    (line_of k (operand_of base 65535 one) 0 0 0))
    unknown_line

unfoldable pub pair_line : Kind → ℕ → ℕ → List ℕ → List ℕ → Line
pair_line k most count one two =
    cond (eqb count 2)
    (cond (ltb 65535 (operand_of 16 65535 one)) unknown_line
    (cond (ltb 65535 (operand_of 16 most two)) unknown_line
    (line_of k (operand_of 16 65535 one) (operand_of 16 most two) 0 0)))
    unknown_line

unfoldable pub triple_line : Kind → ℕ → ℕ → ℕ → List ℕ → List ℕ → List ℕ → Line
triple_line k base most count one two three =
    cond (eqb count 3)
    (cond (ltb 65535 (operand_of 16 65535 one)) unknown_line
    (cond (ltb 65535 (operand_of base most two)) unknown_line
    (cond (ltb 65535 (operand_of base most three)) unknown_line
    (line_of k (operand_of 16 65535 one) (operand_of base most two) (operand_of base most three) 0))))
    unknown_line

-- A flag is 0 or 1.
unfoldable pub flag_of : ℕ → ℕ
flag_of b = cond (eqb b 0x30) 0 (cond (eqb b 0x31) 1 2)

-- Two flags in one word: check sequence good, alignment good.
unfoldable pub flag_line : ℕ → List ℕ → Line
flag_line count one =
    cond (eqb count 1)
    (cond (eqb (length one) 2)
    (cond (ltb 1 (flag_of (get_or one 0 0))) unknown_line
    (cond (ltb 1 (flag_of (get_or one 1 0))) unknown_line
    (line_of End (flag_of (get_or one 0 0)) (flag_of (get_or one 1 0)) 0 0)))
    unknown_line)
    unknown_line

-- A byte string of n bytes: as many as are wanted, or any number where none is.
unfoldable pub exact_line : Kind → ℕ → ℕ → Line
exact_line k exact n = cond (eqb n exact) (line_of k 0 0 0 n) unknown_line

unfoldable pub counted_line : Kind → Option ℕ → ℕ → Line
counted_line k None n = line_of k 0 0 0 n
counted_line k (Some exact) n = exact_line k exact n

unfoldable pub byte_line : Kind → Option ℕ → ℕ → ℕ → List ℕ → Line
byte_line k exact count room one =
    cond (eqb count 1)
    (cond (is_pairs room one) (counted_line k exact (length one / 2)) unknown_line)
    unknown_line

-- Numbers are hexadecimal but for tag, base number and budget.
unfoldable pub numbers_line : Kind → ℕ → List ℕ → List ℕ → List ℕ → Line
numbers_line Nothing count one two three = unknown_line
numbers_line Unknown count one two three = unknown_line
numbers_line Power count one two three = unknown_line
numbers_line Join count one two three = unknown_line
numbers_line ReadWord count one two three = number_line ReadWord 16 count one
numbers_line ReadByte count one two three = number_line ReadByte 16 count one
numbers_line WriteWord count one two three = pair_line WriteWord 65535 count one two
numbers_line WriteByte count one two three = pair_line WriteByte 255 count one two
numbers_line Start count one two three = unknown_line
numbers_line Bytes count one two three = unknown_line
numbers_line End count one two three = flag_line count one
numbers_line Sent count one two three = plain_line Sent count
numbers_line Collided count one two three = plain_line Collided count
numbers_line RxStatus count one two three = plain_line RxStatus count
numbers_line IdWrite count one two three = pair_line IdWrite 255 count one two
numbers_line IdRead count one two three = number_line IdRead 16 count one
numbers_line Search count one two three = number_line Search 16 count one
numbers_line Activate count one two three = triple_line Activate 10 65535 count one two three
numbers_line Open count one two three = triple_line Open 16 65535 count one two three
numbers_line Send count one two three = unknown_line
numbers_line Service count one two three = number_line Service 10 count one

-- 64 words are 128 bytes; a start has 8.
unfoldable pub operand_line : Kind → ℕ → ℕ → List ℕ → List ℕ → List ℕ → Line
operand_line Nothing count room one two three = numbers_line Nothing count one two three
operand_line Unknown count room one two three = numbers_line Unknown count one two three
operand_line Power count room one two three = byte_line Power (Some 128) count room one
operand_line Join count room one two three = byte_line Join (Some 128) count room one
operand_line ReadWord count room one two three = numbers_line ReadWord count one two three
operand_line ReadByte count room one two three = numbers_line ReadByte count one two three
operand_line WriteWord count room one two three = numbers_line WriteWord count one two three
operand_line WriteByte count room one two three = numbers_line WriteByte count one two three
operand_line Start count room one two three = byte_line Start (Some 8) count room one
operand_line Bytes count room one two three = byte_line Bytes None count room one
operand_line End count room one two three = numbers_line End count one two three
operand_line Sent count room one two three = numbers_line Sent count one two three
operand_line Collided count room one two three = numbers_line Collided count one two three
operand_line RxStatus count room one two three = numbers_line RxStatus count one two three
operand_line IdWrite count room one two three = numbers_line IdWrite count one two three
operand_line IdRead count room one two three = numbers_line IdRead count one two three
operand_line Search count room one two three = numbers_line Search count one two three
operand_line Activate count room one two three = numbers_line Activate count one two three
operand_line Open count room one two three = numbers_line Open count one two three
operand_line Send count room one two three = byte_line Send None count room one
operand_line Service count room one two three = numbers_line Service count one two three

-- ---- lines

-- From the first word on: empty for an empty line and for a comment.
unfoldable pub words_line : ℕ → List ℕ → Line
words_line room [] = nothing_line
words_line room (b ∷ s) =
    operand_line (kind_of (key_of (word_of (b ∷ s))))
    (count_of (length (next_of (b ∷ s))) (length (next_of (next_of (b ∷ s)))) (length (next_of (next_of (next_of (b ∷ s))))) (length (next_of (next_of (next_of (next_of (b ∷ s)))))))
    room
    (word_of (next_of (b ∷ s)))
    (word_of (next_of (next_of (b ∷ s))))
    (word_of (next_of (next_of (next_of (b ∷ s)))))

-- What a line means, with room for so many bytes.
abbrev pub meaning_of : ℕ → List ℕ → Line
meaning_of room line = words_line room (begun_of line)

-- The bytes that a line spells.
abbrev pub spelled_of : List ℕ → List ℕ
spelled_of line = bytes_of (word_of (next_of (begun_of line)))

-- A line is understood as wanted, and its bytes stand at the front of the area.
pub record Spells (wanted : Line) (one : List ℕ) (room : ℕ) (r : Line) (bytes : List ℕ) : Type 0 where
  pub meaning : r ≡ wanted
  pub spelled : take r.len bytes ≡ take r.len (bytes_of one)
  pub fits : r.len ≤ room
  pub long : length bytes ≡ room

abbrev pub Means : List ℕ → ℕ → Line → List ℕ → Type 0
Means line room r bytes = Spells (meaning_of room line) (word_of (next_of (begun_of line))) room r bytes
