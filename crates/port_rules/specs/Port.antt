-- The cards on one ID port, what an access does to them, and a host that does nothing but accesses. A port is its x in 1x0h.
-- Assumes nothing.
use Rattle.std.specs.Prelude.{ℕ, List, [], ◌∷◌, ◌++◌, map, take, drop}
use Rattle.port_rules.specs.declared.IdState.{IdState}
use Rattle.port_rules.specs.Card.{id_write, id_after_read}
use Rattle.port_rules.specs.declared.Bus.{Bus}
-- the bit that the bus carries
unfoldable pub use Rattle.port_rules.specs.Gathered.{port_bit}

-- the cards that are there, and what stands in the places past them
abbrev pub held : Bus → List IdState
held b = take b.count b.cards

abbrev pub rest : Bus → List IdState
rest b = drop b.count b.cards

-- the bus with other cards there
abbrev pub seated : List IdState → Bus → Bus
seated cards b = record { cards = cards ++ rest b; count = b.count }

-- Each card sees a byte that is written.
unfoldable pub port_write : ℕ → ℕ → List IdState → List IdState
port_write p x cards = map (λ s. id_write s p x) cards

-- A read: each card compares the bit that it drove with the bus's.
unfoldable pub port_read : ℕ → List IdState → List IdState
port_read p cards = map (λ s. id_after_read s p (port_bit p cards)) cards

pub data Access : Type 0 where
  write : ℕ → Access
  read : Access

-- What the host reads (at a write nothing, 0), and the cards after.
unfoldable pub value : ℕ → Access → List IdState → ℕ
value p (write x) cards = 0
value p read cards = port_bit p cards

unfoldable pub after : ℕ → Access → List IdState → List IdState
after p (write x) cards = port_write p x cards
after p read cards = port_read p cards

-- A host's part: accesses, each chosen by what was read so far, and in the end an answer.
pub data Talk (A : Type 0) : Type 0 where
  done : A → Talk A
  ask : Access → (ℕ → Talk A) → Talk A

pub record Ran (A : Type 0) : Type 0 where
  pub answer : A
  pub accesses : List Access
  pub cards : List IdState

-- Its accesses in order, at port p.
unfoldable pub run : {A : Type 0} → ℕ → Talk A → List IdState → Ran A
run p (done a) cards = record { answer = a; accesses = []; cards = cards }
run p (ask a k) cards =
    let r = run p (k (value p a cards)) (after p a cards) in
    record { answer = r.answer; accesses = a ∷ r.accesses; cards = r.cards }
