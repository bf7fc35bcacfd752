-- The host's calls take its accesses: words written are those of the packet, and words answered those of the frame. Assumes nothing.
use mathlib.Core.Path.{◌≡◌, refl, ap, sym, ◌∙◌}
use mathlib.Core.Bool.{Bool, true, false}
use mathlib.Core.List.{List, [], ◌∷◌, map}
use Prim.Native.Nat.{ℕ, ◌/◌, ◌%◌}
use lib.ListN.{length, take}
use Rattle.bits.proofs.Tests.{never}
use Rattle.transmit_rules.specs.Whole.{bytes_of}
use Rattle.card_rules.specs.Access.{ReadWord, WriteWord, access}
use Rattle.card_rules.specs.View.{sound_card}
use Rattle.card_rules.specs.Calls as card
use Rattle.card_rules.specs.Calls.{Reply, judged, replying, read_reply}
use Rattle.driver_rules.specs.Registers.{data_port}
use Rattle.driver_rules.specs.Talk as talk
use Rattle.driver_rules.specs.Talk.{after_writes, bytes_read}
use Rattle.runs.specs.Run.{Bench, with_adapter, before, permitted, since, Sent}
use Rattle.sends_carried.specs.Packets.{packets}
use Rattle.sends_carried.proofs.Host.{host_packets}
use Rattle.frames_carried.proofs.Host.{host_reads_lem}
use Rattle.run_calls.specs.Takes.{State, seen, Good}
use Rattle.run_calls.proofs.Good.{fine_of}
use Rattle.run_calls.proofs.Card.{reads_word}
use Rattle.run_calls.proofs.All.{one, take_the_steps}
use Rattle.over_calls.specs.Host.{put, HostPacketsOverCalls, ReadsWords, none_read, then_read, HostReadsOverCalls}

-- ---- words written

since-writes : (vs : List ℕ) (b : Bench) → since (map put vs) b ≡ with_adapter (after_writes vs b.adapter) b
unfolding since before permitted talk.after
since-writes [] b = refl
since-writes (v ∷ vs) b = since-writes vs (with_adapter (access (WriteWord data_port v) b.adapter).adapter b)

pub host_packets_over_calls_lem : HostPacketsOverCalls
host_packets_over_calls_lem =
    record {
      stored = λ w z ds s t g whole writable calls.
          ap packets ((take_the_steps.any_calls_before (map put (w ∷ z ∷ ds)) s t g calls).leaves ∙ since-writes (w ∷ z ∷ ds) (seen s))
          ∙ ap (λ q. q.packets) (host_packets.stored w z ds (seen s).adapter whole writable);
      gone = λ w ds newer s t says g oldest ready called.
          let p = one s t Sent says g called in
          let q = host_packets.gone w ds newer (seen s) oldest ready in
          (p.answers ∙ q.0, ap packets p.leaves ∙ q.1);
    }

-- ---- words read

-- a sound state's word is the step's
answered : (sound : Bool) (x : ℕ) (reply : Reply) → sound ≡ true → reply ≡ replying (judged sound true 12) (card.value x) → reply ≡ card.value x
unfolding judged replying
answered true x reply e k = k
answered false x reply e k = never e

unfoldable value_of : Reply → ℕ
value_of (card.refused n) = 0
value_of card.done = 0
value_of (card.value v) = v

words-read : (vs : List ℕ) (s : State) → Good s → ReadsWords s vs → bytes_of vs ≡ bytes_read (length vs) (seen s).adapter
unfolding bytes_of bytes_read before permitted value_of access
words-read vs s g (none_read u) = refl
words-read vs s g (then_read u r v rest k e more) =
    let p = reads_word s g data_port r k in
    let x : ℕ = (access (ReadWord data_port) (seen s).adapter).value in
    let is : v ≡ x = ap (λ a. value_of (read_reply a)) (sym e) ∙ ap value_of (answered (sound_card s.card s.ram s.dir) x (read_reply r.answer) (fine_of s g).tested k.answer) in
    let later : bytes_of rest ≡ bytes_read (length rest) (access (ReadWord data_port) (seen s).adapter).adapter = words-read rest _ p.good more ∙ ap (λ b. bytes_read (length rest) b.adapter) p.leaves in
    λ i. is i % 256 ∷ (is i / 256 ∷ later i)

pub host_reads_over_calls_lem : HostReadsOverCalls
host_reads_over_calls_lem f newer s vs g readable reads many =
    ap (take (length f.bytes)) (words-read vs s g reads ∙ ap (λ n. bytes_read n (seen s).adapter) many) ∙ host_reads_lem f newer (seen s).adapter readable
