-- Demand 2, what the wire brings is what the host reads, over public calls, of which nothing is known but their contracts. Assumes nothing.
use Rattle.std.specs.Prelude.{◌≡◌, true, false, List, [], ◌∷◌, ◌++◌, ℕ, length}
use Rattle.runs.specs.Run.{Event, Start, Open, Earlier, Said}
use Rattle.frames_carried.specs.Bytes.{octets, dir_words, wire_octets, between, bytes_in}
use Rattle.frames_carried.specs.Brings.{stored, good, newest, arrived}
use Rattle.frames_carried.specs.Reads.{host_reads}
use Rattle.frames_carried.specs.Carried.{Taken, Call, services, Enough, good_among}
use Rattle.run_calls.specs.Takes.{State, seen, Good, Called, Calls, CallsBefore}

-- Nothing of the oldest frame is read and no receive failure stands; the memory holds bytes and 16-bit words, as its type says.
pub record UnreadState (s : State) : Type 0 where
  pub none_read : s.card.receive.receiver.read ≡ 0
  pub no_failure : s.card.receive.receiver.failed ≡ false
  pub bytes : octets s.ram ≡ true
  pub words : dir_words s.dir ≡ true

-- Reached by public calls from a state that passes the test: any history, then an open, then any calls.
pub data Opened : State → Type 0 where
  opened : (s₀ s₁ s₂ s : State) → Good s₀ → (history : List Earlier) → CallsBefore s₀ history s₁ →
      (w₀ w₁ w₂ : ℕ) (opening : List Said) → Called s₁ (Open w₀ w₁ w₂) s₂ opening → (es : List Event) (says : List Said) → Calls s₂ es s says → Opened s

-- the good frames that are stored at s, and then those that arrive
abbrev pub brought : List Event → State → List (List ℕ)
brought es s = good (stored (seen s)) ++ arrived es (newest (stored (seen s))) (seen s)

pub record FramesOverCalls : Type 0 where
  -- From any state that passes the test: what is brought is what the calls hand up, and then what is stored still.
  pub nothing_else :
      (s t : State) → Good s → UnreadState s → (es : List Event) → wire_octets es ≡ true → (says : List Said) → Calls s es t says →
      brought es s ≡ host_reads says ++ good (stored (seen t))
  -- After an open, once service calls enough are made: all that is brought is handed up.
  pub nothing_left :
      (s t u : State) → Opened s → UnreadState s → (es : List Event) → wire_octets es ≡ true → (says : List Said) → Calls s es t says →
      (cs : List Call) → Enough cs (seen t) → (more : List Said) → Calls t (services cs) u more →
      host_reads (says ++ more) ≡ brought es s
  -- So a good frame that fits is handed up, and is the last.
  pub good_frame_is :
      (s t u : State) → Opened s → UnreadState s →
      (first : List ℕ) (eight : length first ≡ 8) (es : List Event) → between es ≡ true → wire_octets (Start first eight ∷ es) ≡ true → Taken first (bytes_in es) (seen s) →
      (says : List Said) → Calls s (good_among first eight es) t says → (cs : List Call) → Enough cs (seen t) → (more : List Said) → Calls t (services cs) u more →
      host_reads (says ++ more) ≡ good (stored (seen s)) ++ ((first ++ bytes_in es) ∷ [])
