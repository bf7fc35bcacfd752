-- There is one test of soundness: the code tests `sound_state`, a run speaks of `sound_bench`, and they are one. Assumes nothing.
use Rattle.std.specs.Prelude.{◌≡◌, ◌↔◌, true, length}
use Rattle.card_rules.specs.View.{Held}
use Rattle.driver_rules.specs.Calls.{sound_state}
use Rattle.runs.specs.Run.{sound_bench}
use Rattle.run_calls.specs.Takes.{State, seen}

-- Memory that has its size, as its type says, passes the code's test exactly when frames, packets and statuses lie in their places and what a run sees is sound.
abbrev pub TheOneTestOfSoundness : Type 0
TheOneTestOfSoundness =
    (s : State) → length s.ram ≡ 8192 → length s.dir ≡ 1110 →
    sound_state s.card s.ram s.dir s.driver ≡ true ↔ Held s.card s.ram s.dir × (sound_bench (seen s) ≡ true)
