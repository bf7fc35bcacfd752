-- Worked numbers of document 01, computed from the definitions. Assumes nothing.
use mathlib.Core.Path.{◌≡◌, refl}
use mathlib.Core.Bool.{true, false}
use mathlib.Core.List.{List, [], ◌∷◌, map}
use Prim.Native.Nat.{ℕ}
use lib.ListN.{length, take, drop, replicate}
use Rattle.port_rules.specs.declared.IdState.{IdState}
use Rattle.port_rules.specs.Sound.{id_sound}
use Rattle.port_rules.specs.Card.{moved, loaded, id_fresh, id_write, id_command, id_drives, id_bit, id_after_read}
use Rattle.port_rules.specs.declared.Bus.{Bus}
use Rattle.port_rules.specs.Port.{port_bit, port_write, port_read, write, read, value, after, run}
use Rattle.port_rules.specs.Search.{id_bytes, puts, call_up, bits, read_address, rounds, search, activate}
use Rattle.port_rules.specs.Calls.{refused, told, all_sound, naming, allowed, judged, port_writes, port_reads, searched, finds_cards, activates_card}

-- a bus with these cards there
bus : List IdState → Bus
bus cards = record { cards = cards; count = length cards }

-- a card in ID_CMD at port 110h, with this in its EEPROM Data register
obedient : ℕ → IdState
obedient d = loaded d (moved true 1 0 (id_fresh []))

-- ---- one access

-- D3h to two such cards: the tag of each is 3
labelled : map (λ s. s.tag) (port_writes (bus (obedient 0 ∷ obedient 0 ∷ [])) 0x110 0xD3).bus.cards ≡ 3 ∷ 3 ∷ []
unfolding bus obedient judged all_sound id_sound allowed port_write id_write id_command
labelled = refl

-- A card drives a 1, another a 0: the bit is 0, and the first loses.
carried : (port_reads (bus (obedient 0x8000 ∷ obedient 0 ∷ [])) 0x110).reply ≡ told (0 ∷ [])
unfolding bus obedient judged all_sound id_sound allowed port_bit id_bit id_drives
carried = refl

lost : map (λ s. s.command) (port_reads (bus (obedient 0x8000 ∷ obedient 0 ∷ [])) 0x110).bus.cards ≡ false ∷ true ∷ []
unfolding bus obedient judged all_sound id_sound allowed port_read port_bit id_after_read id_bit id_drives
lost = refl

-- an ID port that is not 1x0h, and more than 8 cards: refusal 12
outside : (port_reads (bus []) 0x200).reply ≡ refused 12
unfolding bus judged all_sound allowed
outside = refl

nine : (port_reads (bus (replicate 9 (obedient 0))) 0x110).reply ≡ refused 12
unfolding bus obedient judged all_sound id_sound allowed
nine = refl

-- a tag that is not 1 to 7, and a base number above 31: refusal 12
tag_8 : (activates_card (bus []) 0x110 8 5).reply ≡ refused 12
unfolding bus judged all_sound allowed naming
tag_8 = refl

base_32 : (activates_card (bus []) 0x110 1 32).reply ≡ refused 12
unfolding bus judged all_sound allowed naming
base_32 = refl

-- ---- the search and the activation

-- two zeros and 255 bytes, then D0h
cleared : take 1 (drop 257 (run 1 search []).accesses) ≡ write 0xD0 ∷ []
unfolding run value after search call_up puts id_bytes rounds read_address bits
cleared = refl

-- 566 accesses for no card
none : (finds_cards (bus []) 0x110).reply ≡ told (0 ∷ 566 ∷ [])
unfolding bus judged all_sound allowed run value after port_write port_read port_bit search call_up puts id_bytes rounds read_address bits
none = refl

-- a run that has found one card: 258 + 309 + 308
one : (searched (bus []) (record { answer = 0x0200_0000_0001 ∷ []; accesses = replicate 875 read; cards = [] })).reply ≡ told (1 ∷ 875 ∷ [])
unfolding bus
one = refl

-- 259 accesses for an activation
activation : (activates_card (bus []) 0x110 1 5).reply ≡ told (259 ∷ [])
unfolding bus judged all_sound allowed naming run value after port_write activate call_up puts id_bytes
activation = refl
