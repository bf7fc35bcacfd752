-- Nothing good is left behind: with a call for each that waits, a status or a good frame, none is left. Assumes nothing.
use mathlib.Core.Path.{◌≡◌, refl, sym, ap, subst⁻¹, ◌∙◌}
use mathlib.Core.Bool.{true, false, ◌&&◌}
use mathlib.Core.List.{List, [], ◌∷◌, ◌++◌, append-nil}
use Prim.Native.Nat.{ℕ, ◌%◌, ◌≤◌}
use native.Mathlib.Omega.{arith}
use borrow.Author.Tests.{leb-true, le-leb}
use lib.ListN.{length}
use lib.Dec.{leb, eqb}
use Rattle.bits.proofs.Tests.{both, join, neither}
use Rattle.receive_rules.proofs.Facts.{sound-told}
use Rattle.receive_rules.proofs.Order.{order-count}
use Rattle.card_rules.specs.Room.{rx_room}
use Rattle.card_rules.proofs.Ranges.{rx-small}
use Rattle.card_rules.proofs.Sides.{rx_of_lem}
use Rattle.driver_rules.specs.Talk.{Talk, run}
use Rattle.driver_rules.specs.Items.{Serving}
use Rattle.runs.specs.Run.{Bench, sound_bench, Areas, full, Event, Start, End, Open, Service, serves, next, after, sayings, since}
use Rattle.runs.proofs.Kept.{adapter_of, next-sound, after-sound, since-sound}
use Rattle.runs.proofs.Append.{after-append}
use Rattle.runs.proofs.Opened.{Opened, opens-set, opens-driver, keeps_open, keeps_all}
use Rattle.frames_carried.specs.Bytes.{octets_of, wire_octets}
use Rattle.frames_carried.specs.Brings.{stored, good, newest, hears, arrives, arrived}
use Rattle.frames_carried.specs.Reads.{host_reads}
use Rattle.frames_carried.specs.Carried.{Unread, AfterOpen, after_open, Call, services, needed, ample, ABudgetOf3061IsEnough, NothingGoodIsLeftBehind, good_among, AGoodFrameIsHandedUp, WhatTheWireBringsIsWhatTheHostReads}
use Rattle.frames_carried.proofs.One.{looks}
use Rattle.frames_carried.proofs.Events.{sane_of, serve_carries, as_they_came}
use Rattle.frames_carried.proofs.Arrive.{good-arrives}
use Rattle.frames_carried.proofs.OneLess.{waits, Less, look-less}

-- ---- calls one after the other

record Ready (b : Bench) : Type 0 where
  sound : sound_bench b ≡ true
  unread : Unread b
  opened : Opened b
  active : b.adapter.id.active ≡ true
  failed : b.adapter.tx.queue.failed ≡ false

module _ (budget : ℕ) (s : Areas) (b : Bench) (h : Ready b) where
  serve-less : full s ≡ true → needed (length (stored b)) ≤ budget → Less b.adapter (next (Service budget s) b).adapter
  unfolding next serves
  serve-less y k =
      subst⁻¹ (λ (t : Talk Serving). Less b.adapter (run t b.adapter).adapter) (looks b.driver (full s) budget h.opened.driver y)
      (look-less budget b.driver b.adapter
      (record { sane = sane_of b h.sound h.unread; active = h.active; select = h.opened.set.is h.active; failed = h.failed }) k)

  serve-ready : Less b.adapter (next (Service budget s) b).adapter → Ready (next (Service budget s) b)
  unfolding next
  serve-ready l =
      let c = serve_carries budget s b (sane_of b h.sound h.unread) in
      record {
        sound = next-sound (Service budget s) b h.sound;
        unread = record { none_read = c.read; no_failure = c.failed; held = c.held };
        opened = keeps_open (Service budget s) b h.opened;
        active = l.active;
        failed = l.failed;
      }

none_left : (l : List (List ℕ)) → length l ≤ 0 → l ≡ []
none_left [] h = refl
none_left (x ∷ l) h = absurd (omega arith)

drained : (cs : List Call) (n : ℕ) (b : Bench) → Ready b → length (stored b) ≤ n → ample n cs ≡ true → waits b.adapter ≤ length cs → good (stored (after (services cs) b)) ≡ []
unfolding after ample
drained [] n b h few k w = none_left (good (stored b)) (omega arith)
drained (c ∷ cs) n b h few k w =
    let p = both (full c.areas) (leb (needed n) c.budget && ample n cs) k in
    let q = both (leb (needed n) c.budget) (ample n cs) p.1 in
    let l = serve-less c.budget c.areas b h p.0 (omega (arith, leb-true (needed n) c.budget q.0)) in
    drained cs n (next (Service c.budget c.areas) b) (serve-ready c.budget c.areas b h l) (omega (arith, l.fewer)) q.1 (omega (arith, l.falls))

-- ---- 8 bytes at least for each frame, 6,144 at most for all

pub budget-enough : ABudgetOf3061IsEnough
unfolding ample
budget-enough b s c y k =
    let r = (sound-told (rx_room b.adapter) b.adapter.rx (rx_of_lem b.adapter (adapter_of b s))).0 in
    let n = order-count (eqb b.adapter.rx.receiver.wire 2) (stored b) r.order in
    join (full c.areas) _ y
    (join (leb (needed (length (stored b))) c.budget) true (le-leb (needed (length (stored b))) c.budget (omega (arith, r.space, rx-small (b.adapter.config.second % 4)))) refl)

-- ---- services bring nothing

brings_none : (cs : List Call) (heard : List ℕ) (b : Bench) → arrived (services cs) heard b ≡ []
unfolding arrived arrives hears
brings_none [] heard b = refl
brings_none (c ∷ cs) heard b = brings_none cs heard (next (Service c.budget c.areas) b)

brings_same : (es : List Event) (cs : List Call) (heard : List ℕ) (b : Bench) → arrived (es ++ services cs) heard b ≡ arrived es heard b
unfolding arrived
brings_same [] cs heard b = brings_none cs heard b
brings_same (e ∷ es) cs heard b = ap (λ (l : List (List ℕ)). arrives e heard b ++ l) (brings_same es cs (hears e heard b) (next e b))

octets-append : (es fs : List Event) → wire_octets es ≡ true → wire_octets fs ≡ true → wire_octets (es ++ fs) ≡ true
unfolding wire_octets
octets-append [] fs o p = p
octets-append (e ∷ es) fs o p = let q = both (octets_of e) (wire_octets es) o in join (octets_of e) (wire_octets (es ++ fs)) q.0 (octets-append es fs q.1 p)

octets-served : (cs : List Call) → wire_octets (services cs) ≡ true
unfolding wire_octets octets_of
octets-served [] = refl
octets-served (c ∷ cs) = octets-served cs

-- ---- the promise

-- what an open and any events leave
record Known (b : Bench) : Type 0 where
  sound : sound_bench b ≡ true
  opened : Opened b

known : (b : Bench) → AfterOpen b → Known b
known b (after_open b₀ s history w₀ w₁ w₂ es) =
    let x : Bench = since history b₀ in
    let o : Bench = next (Open w₀ w₁ w₂) x in
    record {
      sound = after-sound es o (next-sound (Open w₀ w₁ w₂) x (since-sound history b₀ s));
      opened = keeps_all es o (record { set = opens-set w₀ w₁ w₂ x; driver = opens-driver w₀ w₁ w₂ x });
    }

pub nothing_left : NothingGoodIsLeftBehind
nothing_left b a u es o cs h =
    let k = known b a in
    let c : Bench = after es b in
    let all : List Event = es ++ services cs in
    let r = as_they_came b k.sound u all (octets-append es (services cs) o (octets-served cs)) in
    let ready : Ready c =
    record {
      sound = after-sound es b k.sound;
      unread = (as_they_came b k.sound u es o).again;
      opened = keeps_all es b k.opened;
      active = h.active;
      failed = (neither c.adapter.rx.receiver.failed c.adapter.tx.queue.failed h.no_adapter_failure).1;
    } in
    let none : good (stored (after all b)) ≡ [] = ap (λ (x : Bench). good (stored x)) (after-append es (services cs) b) ∙ drained cs (length (stored c)) c ready (omega arith) h.each (omega (arith, h.calls)) in
    sym
    (ap (λ (l : List (List ℕ)). good (stored b) ++ l) (sym (brings_same es cs (newest (stored b)) b)) ∙ r.as_they_came
    ∙ ap (λ (l : List (List ℕ)). host_reads (sayings all b) ++ l) none ∙ append-nil (host_reads (sayings all b)))

pub good_frame_is : AGoodFrameIsHandedUp
unfolding wire_octets octets_of
good_frame_is b a u first eight es k o t cs h =
    nothing_left b a u (good_among first eight es) (octets-append (Start first eight ∷ es) (End true true ∷ []) o refl) cs h
    ∙ ap (λ (l : List (List ℕ)). good (stored b) ++ l) (good-arrives b (known b a).sound u first eight es k o t (newest (stored b)))

pub brings_and_reads : WhatTheWireBringsIsWhatTheHostReads
brings_and_reads = record { nothing_else = as_they_came; nothing_left = nothing_left; good_frame_is = good_frame_is }
