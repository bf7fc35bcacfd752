-- The oldest packet leaves, and what the wire is told of it. Assumes nothing.
use Rattle.std.specs.Prelude.{List, [], ◌∷◌, ◌++◌, Bool, false, cond, ℕ, ◌-◌, length, replicate}
use Rattle.bits.specs.Bits.{has}
use Rattle.store.specs.Store.{Frame}
use Rattle.transmit_rules.specs.Queue.{Queue}

-- of the first preamble word's bits 15 to 11: bit 15 completion wanted, bit 13 check included
abbrev pub wanted : Frame → Bool
wanted p = has 16 p.head

abbrev pub checked : Frame → Bool
checked p = has 4 p.head

unfoldable pub oldest_wanted : List Frame → Bool
oldest_wanted [] = false
oldest_wanted (p ∷ ps) = wanted p

-- Its bytes, then zeros up to 60 unless bit 13 was set.
abbrev pub told : Frame → List ℕ
told p = p.bytes ++ replicate (cond (checked p) 0 (60 - length p.bytes)) 0

unfoldable pub told_of : List Frame → List ℕ
told_of [] = []
told_of (p ∷ ps) = told p

unfoldable pub others : List Frame → List Frame
others [] = []
others (p ∷ ps) = ps

-- The oldest packet leaves, and its room returns.
abbrev pub leave : Queue → Queue
leave q = record { failed = q.failed; packets = others q.packets; part = q.part }
