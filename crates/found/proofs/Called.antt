-- Two zeros and the sequence bring every card, but one in ID_CMD at another port, to ID_CMD at this port with its tag kept.
-- Assumes nothing.
use Prim.Native.Nat.{ℕ, zero, suc, ◌+◌, ◌<◌}
use mathlib.Core.Path.{◌≡◌, refl, sym, ◌∙◌, ap, subst₂}
use mathlib.Core.Bool.{Bool, true, false}
use mathlib.Core.List.{List, ◌∷◌, map}
use native.Mathlib.Omega.{arith}
use native.Mathlib.Numerals.{add-one}
use lib.ListN.{length}
use borrow.Author.Tests.{lt-ltb, eq-eqb, ne_eqb}
use Rattle.port_rules.specs.declared.IdState.{IdState}
use Rattle.port_rules.specs.Sequence.{id_byte}
use Rattle.port_rules.proofs.Chain.{the_sequence_lem}
use Rattle.port_rules.specs.Card.{expected, id_write, id_wait, id_command, moved}
use Rattle.port_rules.specs.Port.{Talk}
use Rattle.port_rules.specs.Search.{puts, id_bytes, call_up}
use Rattle.found.specs.Theorems.{All}
use Rattle.port_rules.specs.Leads.{Leads}
use Rattle.found.proofs.Run.{writes_all, map-eq}
use Rattle.found.specs.OneCard.{wrote}

pub nonzero : (i : ℕ) → i < 255 → id_byte i ≡ 0 → ⊥
nonzero = the_sequence_lem.nonzero

-- at each place of the sequence its byte is the expected one
right : (i : ℕ) → i < 255 → expected i (id_byte i) ≡ true
unfolding expected
right i h = rw (lt-ltb i 255 h, eq-eqb (id_byte i) (id_byte i) refl)

-- shapes: a card that has seen i bytes of the sequence at p; one in ID_CMD at p, with a tag and a word; one that is out
abbrev pub listening : ℕ → ℕ → IdState → IdState
listening p i s = moved false p i s

abbrev pub obeying : ℕ → ℕ → ℕ → IdState → IdState
obeying p t w s = record { command = true; port = p; at = 0; tag = t; shift = w; address = s.address; active = s.active; due = s.due; words = s.words }

abbrev pub out : ℕ → IdState → IdState
out w s = record { command = false; port = 16; at = 0; tag = s.tag; shift = w; address = s.address; active = s.active; due = s.due; words = s.words }

-- a zero; the next byte; the last
zeroed : (p : ℕ) (s : IdState) → s.command ≡ false → id_write s p 0 ≡ listening p 0 s
unfolding id_write id_wait
zeroed p s e = rw (e, id_write)

next : (p i : ℕ) (s : IdState) → i < 254 → id_write (listening p i s) p (id_byte i) ≡ listening p (suc i) s
unfolding id_write id_wait
next p i s h = rw (ne_eqb (id_byte i) 0 (nonzero i (omega arith)), eq-eqb p p refl, right i (omega arith), ne_eqb i 254 (omega arith), add-one)

last : (p : ℕ) (s : IdState) → id_write (listening p 254 s) p (id_byte 254) ≡ obeying p s.tag s.shift s
unfolding id_write id_wait
last p s = rw (ne_eqb (id_byte 254) 0 (nonzero 254 (omega arith)), eq-eqb p p refl, right 254 (omega arith))

sequenced : (p n i : ℕ) (s : IdState) → i + n ≡ 254 → wrote p (id_bytes i (suc n)) (listening p i s) ≡ obeying p s.tag s.shift s
unfolding wrote id_bytes
sequenced p zero i s e = let q : i ≡ 254 = omega arith in rw q (last p s)
sequenced p (suc n) i s e = ap (wrote p (id_bytes (suc i) (suc n))) (next p i s (omega arith)) ∙ sequenced p n (suc i) s (omega arith)

pub roused : (p : ℕ) (s : IdState) → s.command ≡ true → s.port ≡ p → id_write s p 0 ≡ out s.shift s
unfolding id_write id_command
roused p s e h = rw (e, eq-eqb p s.port (sym h), id_write)

-- both zeros
zeros : (p : ℕ) (s : IdState) → (s.command ≡ true → s.port ≡ p) → id_write (id_write s p 0) p 0 ≡ listening p 0 s
zeros p s h = go s.command refl
  where
    go : (c : Bool) → s.command ≡ c → id_write (id_write s p 0) p 0 ≡ listening p 0 s
    go false e = rw (zeroed p s e) (zeroed p (listening p 0 s) refl)
    go true e = rw (roused p s e (h e)) (zeroed p (out s.shift s) refl)

pub called : (p : ℕ) (s : IdState) → (s.command ≡ true → s.port ≡ p) → wrote p (id_bytes 0 255) (id_write (id_write s p 0) p 0) ≡ obeying p s.tag s.shift s
called p s h = rw (zeros p s h) (sequenced p 254 0 s refl)

pub id_bytes-length : (n i : ℕ) → length (id_bytes i n) ≡ n
unfolding id_bytes
id_bytes-length zero i = refl
id_bytes-length (suc n) i = ap suc (id_bytes-length n (suc i))

-- two zeros and the sequence: 257 accesses
pub calls : {A : Type 0} {P : IdState → Type 0} (p : ℕ) (k : Talk A) → ((s : IdState) → P s → s.command ≡ true → s.port ≡ p) → (cs : List IdState) → All P cs →
    Leads p (call_up k) cs 257 k (map (λ s. obeying p s.tag s.shift s) cs)
unfolding call_up puts wrote
calls p k h cs a =
    let xs : List ℕ = 0 ∷ (0 ∷ id_bytes 0 255) in
    let n : length xs ≡ 257 = ap (λ (m : ℕ). suc (suc m)) (id_bytes-length 255 0) in
    let e : map (wrote p xs) cs ≡ map (λ s. obeying p s.tag s.shift s) cs = map-eq (wrote p xs) (λ s. obeying p s.tag s.shift s) (λ s q. called p s (h s q)) cs a in
    subst₂ (λ (m : ℕ) (ds : List IdState). Leads p (call_up k) cs m k ds) n e (writes_all p xs k cs)
