-- A word that the host writes to the transmit FIFO. Assumes nothing.
use Rattle.std.specs.Prelude.{[], ◌∷◌, ◌++◌, Bool, true, cond, ◌&&◌, ℕ, ◌+◌, ◌/◌, ◌%◌, length, take, ltb, leb, eqb}
use Rattle.store.specs.Store.{begun, len_of, round4}
use Rattle.transmit_rules.specs.Queue.{Part, no_part, Queue, free}

-- a length of 6 to 1,792
abbrev pub sized : ℕ → Bool
sized n = leb 6 n && leb n 1792

abbrev pub fails : Queue → Queue
fails q = record { failed = true; packets = q.packets; part = q.part }

abbrev pub with_part : Part → Queue → Queue
with_part p q = record { failed = q.failed; packets = q.packets; part = p }

-- the first preamble word, with the length in bits 10-0; the second; and a word of data, low byte first
abbrev pub opened : ℕ → Part
opened v = record { words = 1; preamble = v; bytes = [] }

abbrev pub second : Part → Part
second p = record { words = 2; preamble = p.preamble; bytes = p.bytes }

abbrev pub written : ℕ → Part → Part
written v p = record { words = p.words + 1; preamble = p.preamble; bytes = p.bytes ++ (v % 256 ∷ v / 256 ∷ []) }

-- A packet is whole when its data, padded to 4, is in.
unfoldable pub completed : Queue → Queue
completed q =
    cond (eqb (length q.part.bytes) (round4 (len_of q.part.preamble)))
    (record {
      failed = q.failed;
      packets = q.packets ++ (begun (q.part.preamble / 2048) (take (len_of q.part.preamble) q.part.bytes) ∷ []);
      part = no_part;
    })
    q

-- A length outside 6 to 1,792, or a word without room, is a transmit failure: that and later writes are dropped.
unfoldable pub put : ℕ → ℕ → Queue → Queue
put size v q =
    cond q.failed q
    (cond (ltb (free size q) 2) (fails q)
    (cond (eqb q.part.words 0) (cond (sized (len_of v)) (with_part (opened v) q) (fails q))
    (cond (eqb q.part.words 1) (with_part (second q.part) q)
    (completed (with_part (written v q.part) q)))))
