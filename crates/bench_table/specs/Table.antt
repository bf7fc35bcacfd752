-- The bench table of document 01: every figure, in its order, with request 3's. Assumes nothing.
use Rattle.std.specs.Prelude.{◌≡◌, Bool, true, false, List, [], ◌∷◌, ◌++◌, map, ℕ, ◌-◌, ℤ, negsuc, replicate}
use Rattle.port_rules.specs.Sequence.{id_byte}
use Rattle.port_rules.specs.Search.{id_bytes}
use Rattle.found.specs.Theorems.{TheSearchCosts}
use Rattle.card_rules.specs.Access.{ReadWord, access}
use Rattle.card_rules.specs.RxStatus.{rx_unread}
use Rattle.driver_rules.specs.Talk.{after_reads}
use Rattle.driver_rules.specs.Paper.{Paper, frame, idle}
use Rattle.runs.specs.Run.{Bench, Areas, Event, Start, Byte, End, Service, Said, refused, told, answered, served, with_adapter, said, after}
use Rattle.sends_carried.specs.Rooms.{ready, Rows}

-- a power-on card with words of zero, activated, and a driver opened with the address 00 00 00 00 00 00
unfoldable pub opened : Bench
opened = ready (replicate 64 0) 0 0 0 0

-- a frame of n zero bytes comes and ends, its check sequence good or not
abbrev pub coming : ℕ → List Event
coming n = Start (replicate 8 0) (λ i. 8) ∷ map Byte (replicate (n - 8) 0)

abbrev pub ended : ℕ → Bool → Bench
ended n check = after (coming n ++ (End check true ∷ [])) opened

-- what RX Status shows
abbrev pub rx_status : Bench → ℕ
rx_status b = (access (ReadWord 0x08) b.adapter).value

-- the unread bytes that `rx_status` tells
abbrev pub unread_bytes : Bench → ℤ
unread_bytes b = rx_unread b.adapter

-- after the host read w words of it
abbrev pub after_words : ℕ → Bench → Bench
after_words w b = with_adapter (after_reads w b.adapter) b

abbrev pub areas : Areas
areas = record { look = replicate 256 0; frame = replicate 1514 0 }

-- what a service answers, with its accesses
unfoldable pub papers : List Said → List Paper
papers [] = []
papers (refused n ∷ xs) = papers xs
papers (told bytes ∷ xs) = papers xs
papers (answered p ∷ xs) = p ∷ papers xs
papers (served p bytes s ∷ xs) = p ∷ papers xs

abbrev pub service : Bench → List Paper
service b = papers (said (Service 65535 areas) b)

pub record TheBenchTable : Type 0 where
  -- sequence starts FF 31 62 C4 47 8E D3 69 and ends 98
  pub starts : id_bytes 0 8 ≡ 0xFF ∷ (0x31 ∷ (0x62 ∷ (0xC4 ∷ (0x47 ∷ (0x8E ∷ (0xD3 ∷ (0x69 ∷ [])))))))
  pub ends : id_byte 254 ≡ 0x98
  -- 14 bytes leave TX Free 3,052 of 3,072; two of 1,514 leave 32, then 28 is taken and 29 refused 4: any bytes
  pub tx_free_is : Rows opened
  -- good 60 shows 003Ch, 1,514 shows 05EAh
  pub good_60 : rx_status (ended 60 true) ≡ 0x003C
  pub good_1514 : rx_status (ended 1514 true) ≡ 0x05EA
  -- 59 shows 583Bh, 1,515 shows 4DEBh, bad check at 60 shows 683Ch
  pub short_59 : rx_status (ended 59 true) ≡ 0x583B
  pub long_1515 : rx_status (ended 1515 true) ≡ 0x4DEB
  pub bad_check : rx_status (ended 60 false) ≡ 0x683C
  -- 61 bytes after 31 words show 07FFh, after 32 show 07FDh
  pub after_31 : rx_status (after_words 31 (ended 61 true)) ≡ 0x07FF
  pub after_32 : rx_status (after_words 32 (ended 61 true)) ≡ 0x07FD
  -- .. which are -1 and -3 unread bytes
  pub unread_31 : unread_bytes (after_words 31 (ended 61 true)) ≡ negsuc 0
  pub unread_32 : unread_bytes (after_words 32 (ended 61 true)) ≡ negsuc 2
  -- service costs 33 for 60 bytes, 760 for 1,514, 5 for one damaged frame and idle
  pub serves_60 : service (ended 60 true) ≡ frame 60 33 ∷ []
  pub serves_1514 : service (ended 1514 true) ≡ frame 1514 760 ∷ []
  pub serves_damaged : service (ended 60 false) ≡ idle 5 ∷ []
  -- search costs 566, 1,184, 2,421 for 0, 2, 7 cards
  pub search : TheSearchCosts
