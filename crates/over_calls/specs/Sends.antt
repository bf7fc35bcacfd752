-- Demand 2, its first half, over public calls, of which nothing is known but their contracts. Assumes nothing.
use Rattle.std.specs.Prelude.{◌≡◌, true, List, [], ◌++◌, map}
use Rattle.transmit_rules.specs.Leave as leave
use Rattle.runs.specs.Run.{Event, Said}
use Rattle.sends_carried.specs.Packets.{stored, padded, packets, Clear, accepted, sends_bytes, gone, all_succeed, on_wire, successes}
use Rattle.run_calls.specs.Takes.{State, seen, Good, Calls}

-- The calls es take the state s to t and say so.
pub record CarriesSends (es : List Event) (s t : State) (says : List Said) : Type 0 where
  -- What was stored and what is accepted is what has gone and what is stored, in this order.
  pub in_order : packets (seen s) ++ map stored (accepted es (seen s)) ≡ map (λ g. g.packet) (gone es (seen s)) ++ packets (seen t)
  -- The wire is told of those that went by success, and of nothing else.
  pub on_wire_is : on_wire says ≡ successes (gone es (seen s))
  -- From an empty FIFO and without collisions: what the wire was told, and will be told of what is still stored, is what was accepted.
  pub byte_for_byte : packets (seen s) ≡ [] → all_succeed (gone es (seen s)) ≡ true → on_wire says ++ map leave.told (packets (seen t)) ≡ map padded (accepted es (seen s))
  -- So it goes on from there.
  pub good : Good t
  pub clear : Clear (seen t)

-- From any state that passes the code's own test, with no transmit failure and no packet half written, through any public calls.
abbrev pub SendsOverCalls : Type 0
SendsOverCalls =
    (es : List Event) (s t : State) (says : List Said) → Good s → Clear (seen s) → sends_bytes es ≡ true → Calls s es t says → CarriesSends es s t says
