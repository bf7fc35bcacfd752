-- A packet written whole. Assumes nothing.
use Rattle.std.specs.Prelude.{List, [], ◌∷◌, ℕ, ◌/◌, ◌%◌}
use Rattle.transmit_rules.specs.Queue.{Queue}
use Rattle.transmit_rules.specs.Write.{put}

-- word after word
unfoldable pub puts : ℕ → List ℕ → Queue → Queue
puts size [] q = q
puts size (v ∷ vs) q = puts size vs (put size v q)

-- the bytes of words, low byte first
unfoldable pub bytes_of : List ℕ → List ℕ
bytes_of [] = []
bytes_of (v ∷ vs) = v % 256 ∷ v / 256 ∷ bytes_of vs
