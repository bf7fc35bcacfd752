-- Search and activation as talks: document 01, "Finding cards on one ID port".
-- Assumes nothing.
use Rattle.std.specs.Prelude.{ℕ, zero, suc, ◌+◌, ◌-◌, ◌*◌, cond, List, [], ◌∷◌, eqb}
use Rattle.port_rules.specs.Sequence.{id_byte}
use Rattle.port_rules.specs.Port.{Talk, done, ask, write, read}

-- n bytes of the ID sequence, from its i-th on
unfoldable pub id_bytes : ℕ → ℕ → List ℕ
id_bytes i zero = []
id_bytes i (suc n) = id_byte i ∷ id_bytes (suc i) n

module _ {A : Type 0} where
  -- A byte is written; bytes one after the other.
  abbrev pub put : ℕ → Talk A → Talk A
  put x k = ask (write x) (λ _. k)

  unfoldable pub puts : List ℕ → Talk A → Talk A
  puts [] k = k
  puts (x ∷ xs) k = put x (puts xs k)

  -- Two zeros, sequence.
  unfoldable pub call_up : Talk A → Talk A
  call_up k = put 0 (put 0 (puts (id_bytes 0 255) k))

  -- n reads, each the next lower bit of a number that so far is a
  unfoldable pub bits : ℕ → ℕ → (ℕ → Talk A) → Talk A
  bits zero a k = k a
  bits (suc n) a k = ask read (λ b. bits n (a * 2 + b) k)

  -- For words 00h, 01h, 02h a read command and 16 reads.
  unfoldable pub read_address : (ℕ → Talk A) → Talk A
  read_address k =
      put 0x80 (bits 16 0 (λ a.
      put 0x81 (bits 16 0 (λ b.
      put 0x82 (bits 16 0 (λ c.
      k ((a * 65536 + b) * 65536 + c)))))))

-- forty-eight ones
abbrev pub all_ones : ℕ
all_ones = 0xFFFF_FFFF_FFFF

-- Each round: two zeros, sequence, the address. Forty-eight ones end it; otherwise tag the survivor with the next number from 1, and the same search runs with one tag fewer.
unfoldable pub rounds : {A : Type 0} → ℕ → (List ℕ → Talk A) → Talk A
rounds zero k = k []
rounds (suc free) k =
    call_up (read_address (λ a.
    cond (eqb a all_ones) (k [])
    (put (0xD0 + (7 - free)) (rounds free (λ found. k (a ∷ found))))))

-- Search: two zeros, sequence, D0h; then the rounds, with seven tags.
unfoldable pub search : Talk (List ℕ)
search = call_up (put 0xD0 (rounds 7 done))

-- Activation: two zeros, sequence, D8h plus tag, E0h plus base number (31 means preconfigured).
unfoldable pub activate : ℕ → ℕ → Talk (List ℕ)
activate tag base = call_up (put (0xD8 + tag) (put (0xE0 + base) (done [])))
