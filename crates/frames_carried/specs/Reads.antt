-- What the host reads: the frames that services hand up. Assumes nothing.
use Rattle.std.specs.Prelude.{cond, List, [], ◌∷◌, ◌++◌, ℕ, length, drop, leb}
use Rattle.driver_rules.specs.HandUp as hand_up
use Rattle.driver_rules.specs.Paper as paper
use Rattle.driver_rules.specs.Paper.{Paper, opened, ticket, report, status_alone, frame, idle, short}
use Rattle.runs.specs.Run.{Areas, Said, refused, told, answered, served}

-- Up to 256 bytes land at the front of the lookahead area, more at that of the frame area; no other byte of either changes.
abbrev pub laid_in : List ℕ → Areas → Areas
laid_in bytes s =
    cond (leb (length bytes) 256)
    (record { look = bytes ++ drop (length bytes) s.look; frame = s.frame })
    (record { look = s.look; frame = bytes ++ drop (length bytes) s.frame })

-- Where a service answers a frame of n bytes, the host reads what hand_up gives of the areas for n.
-- Under another answer nothing is to be handed up; if it were, it would count.
unfoldable pub offered : List ℕ → List (List ℕ)
offered [] = []
offered (v ∷ vs) = (v ∷ vs) ∷ []

unfoldable pub reads : Paper → List ℕ → Areas → List (List ℕ)
reads opened bytes s = offered bytes
reads (ticket n) bytes s = offered bytes
reads (report t k used) bytes s = offered bytes
reads (status_alone k used) bytes s = offered bytes
reads (frame n used) bytes s = hand_up.handed s.look s.frame n ∷ []
reads (idle used) bytes s = offered bytes
reads (short used) bytes s = offered bytes
reads (paper.refused n) bytes s = offered bytes

-- in the order of the answers
unfoldable pub host_reads : List Said → List (List ℕ)
host_reads [] = []
host_reads (refused n ∷ xs) = host_reads xs
host_reads (told bytes ∷ xs) = host_reads xs
host_reads (answered p ∷ xs) = host_reads xs
host_reads (served p bytes s ∷ xs) = reads p bytes s ++ host_reads xs
