-- A packet written whole is the newest packet, and TX Free falls by its room. Assumes nothing.
use mathlib.Core.Path.{◌≡◌, refl, ap, ◌∙◌}
use mathlib.Core.Bool.{true, false}
use mathlib.Core.List.{List, [], ◌∷◌, ◌++◌, append_assoc}
use Prim.Native.Nat.{ℕ, suc, ◌+◌, ◌*◌, ◌-◌, ◌/◌, ◌%◌, ◌≤◌}
use native.Mathlib.Omega.{arith}
use lib.ListN.{length, take, length-append}
use Rattle.store.specs.Store.{Frame, begun, len_of, round4}
use Rattle.transmit_rules.specs.Queue.{no_part, Queue, room, free}
use Rattle.transmit_rules.specs.Write.{sized, put}
use Rattle.transmit_rules.specs.Whole.{puts, bytes_of}
use Rattle.transmit_rules.proofs.QueueKeeps.{room_snoc}
use Rattle.transmit_rules.proofs.Put.{put-opens, put_second, put_more, completes, goes_on_lem}

-- the queue while k words of the packet of preamble w have come, with the bytes bs
abbrev during : List Frame → ℕ → ℕ → List ℕ → Queue
during ps w k bs = record { failed = false; packets = ps; part = record { words = k; preamble = w; bytes = bs } }

abbrev done : List Frame → ℕ → List ℕ → Queue
done ps w bs = record { failed = false; packets = ps ++ (begun (w / 2048) (take (len_of w) bs) ∷ []); part = no_part }

rest : (size w k : ℕ) (ps : List Frame) (bs : List ℕ) (v : ℕ) (vs : List ℕ) → 2 ≤ k → length bs + 2 * suc (length vs) ≡ round4 (len_of w)
    → room ps + 2 * k + 2 * suc (length vs) ≤ size → puts size (v ∷ vs) (during ps w k bs) ≡ done ps w (bs ++ bytes_of (v ∷ vs))
unfolding puts bytes_of free
rest size w k ps bs v [] h e s =
    let l : length (bs ++ (v % 256 ∷ v / 256 ∷ [])) ≡ round4 (len_of w) = length-append bs (v % 256 ∷ v / 256 ∷ []) ∙ omega arith in
    put_more size v (during ps w k bs) refl (omega arith) h ∙ completes (during ps w (k + 1) (bs ++ (v % 256 ∷ v / 256 ∷ []))) l
rest size w k ps bs v (u ∷ vs) h e s =
    let cs : List ℕ = bs ++ (v % 256 ∷ v / 256 ∷ []) in
    let l : length cs ≡ length bs + 2 = length-append bs (v % 256 ∷ v / 256 ∷ []) in
    ap (λ (q : Queue). puts size (u ∷ vs) q) (put_more size v (during ps w k bs) refl (omega arith) h ∙ goes_on_lem (during ps w (k + 1) cs) (λ z. omega (arith, z)))
    ∙ rest size w (k + 1) ps cs u vs (omega arith) (omega arith) (omega arith)
    ∙ ap (λ (b : List ℕ). done ps w b) (append_assoc bs (v % 256 ∷ v / 256 ∷ []) (bytes_of (u ∷ vs)))

-- the preamble and its data, padded to 4: v and vs are the words of data
pub written-whole : (size w z v : ℕ) (vs : List ℕ) (ps : List Frame) → sized (len_of w) ≡ true → 2 * suc (length vs) ≡ round4 (len_of w)
    → room ps + (4 + round4 (len_of w)) ≤ size
    → puts size (w ∷ z ∷ v ∷ vs) (record { failed = false; packets = ps; part = no_part })
    ≡ record { failed = false; packets = ps ++ (begun (w / 2048) (take (len_of w) (bytes_of (v ∷ vs))) ∷ []); part = no_part }
unfolding puts free
written-whole size w z v vs ps g e s =
    let q : Queue = record { failed = false; packets = ps; part = no_part } in
    ap (λ (x : Queue). puts size (v ∷ vs) (put size z x)) (put-opens size w q refl (omega arith) refl g)
    ∙ ap (λ (x : Queue). puts size (v ∷ vs) x) (put_second size z (during ps w 1 []) refl (omega arith) refl)
    ∙ rest size w 2 ps [] v vs (omega arith) (omega arith) (omega arith)

-- TX Free falls by 4 and the length rounded up to 4
pub free_falls : (size : ℕ) (ps : List Frame) (p : Frame) → free size (record { failed = false; packets = ps ++ (p ∷ []); part = no_part }) ≡ size - room ps - (4 + round4 (length p.bytes))
unfolding free
free_falls size ps p = omega (arith, room_snoc ps p)
