-- Computed examples of the transmit side. Assumes nothing.
use mathlib.Core.Path.{◌≡◌, refl}
use mathlib.Core.Bool.{Bool, true, false}
use mathlib.Core.List.{List, [], ◌∷◌, ◌++◌}
use Prim.Native.Nat.{ℕ}
use lib.ListN.{replicate}
use Rattle.store.specs.Store.{frames, room_of}
use Rattle.transmit_rules.specs.Queue.{empty, free, room}
use Rattle.transmit_rules.specs.Write.{put, completed}
use Rattle.transmit_rules.specs.Leave.{oldest_wanted, told_of, others}
use Rattle.transmit_rules.specs.QueueSound.{all_sized}
use Rattle.transmit_rules.specs.QueueView.{part_of, sound_fifo}
use Rattle.transmit_rules.specs.Outcome.{enable, push, succeeded, collided, due, set_level}
use Rattle.transmit_rules.specs.OutcomesView.{sound_outcomes}
use Rattle.transmit_rules.specs.Tx.{Tx, on_reports, tx_empty, write_data, any, ready, success, collisions, tx_reset, settle}
use Rattle.transmit_rules.specs.View.{sound_side}

writes : List ℕ → Tx → Tx
writes [] x = x
writes (v ∷ vs) x = writes vs (write_data 3072 v x)

-- a packet of 14 bytes with bit 15, on a transmitter that is on
stored : Tx
stored = writes (32782 ∷ 0 ∷ replicate 8 257) (on_reports enable tx_empty)

-- it can go, and the wire is told 60 bytes
stored-ready : (ready stored ≡ true) × (told_of stored.queue.packets ≡ replicate 14 1 ++ replicate 46 0)
unfolding stored writes enable put completed free room any told_of
stored-ready = (refl, refl)

-- while a transmit failure stands it cannot
failed_waits : ready (writes (5 ∷ []) stored) ≡ false
unfolding stored writes enable put completed free room any
failed_waits = refl

-- at a success its room returns and C0h is pushed; at 16 collisions C8h, and the transmitter is off
stored-sent : ((success stored).queue ≡ empty) × ((success stored).reports.statuses ≡ 192 ∷ [])
unfolding stored writes enable put completed free room success oldest_wanted others succeeded push
stored-sent = (refl, refl)

stored-collided : ((collisions stored).reports.statuses ≡ 200 ∷ []) × ((collisions stored).reports.sender.on ≡ false)
unfolding stored writes enable put completed free room collisions oldest_wanted others collided push
stored-collided = (refl, refl)

-- a preamble of 5 fails, later words are dropped, and TX Reset takes the failure away
failed-reset : ((writes (5 ∷ 0 ∷ []) tx_empty).queue.failed ≡ true) × (tx_reset (writes (5 ∷ 0 ∷ []) tx_empty) ≡ tx_empty)
unfolding writes put free room tx_reset
failed-reset = (refl, refl)

-- with the threshold at 1,000 an empty FIFO sets TX Available
settled : (settle 3072 (on_reports (set_level 1000) tx_empty)).reports.sender.available ≡ true
unfolding due free room
settled = refl

-- an empty FIFO with that threshold is sound only while TX Available stands (no memory is read)
handed : Bool → Bool
handed stands =
    sound_side 3072
    (record {
      fifo = record { failed = false; packets = 0; words = 0 };
      outcomes =
          record {
            sender = record { on = false; available = stands; level = 1000; start = 2044 };
            statuses = record { entries = replicate 31 0; count = 0 };
          };
    })
    [] []

settled_sound : handed true ≡ true
unfolding handed sound_side sound_fifo frames room_of part_of room free all_sized sound_outcomes due
settled_sound = refl

unsettled : handed false ≡ false
unfolding handed sound_side sound_fifo frames room_of part_of room free all_sized sound_outcomes due
unsettled = refl
