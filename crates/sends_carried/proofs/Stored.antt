-- A send is taken exactly when none of its refusals holds; then its words make the newest packet. Assumes nothing.
use Rattle.std.specs.Prelude.{Result, Ok, Err}
use mathlib.Core.Path.{◌≡◌, refl, sym, ap, subst⁻¹, ◌∙◌}
use mathlib.Core.Bool.{Bool, true, false, cond, not, ◌&&◌, ◌||◌}
use mathlib.Core.List.{List, [], ◌∷◌, ◌++◌}
use Prim.Native.Nat.{ℕ, ◌+◌, ◌-◌, ◌%◌, ◌≤◌}
use native.Mathlib.Omega.{arith}
use borrow.Author.Tests.{ltb-true, ltb-false, lt-ltb, le-ltb, eqb-true, not-false}
use lib.Dec.{ltb, eqb}
use lib.ListN.{length}
use Rattle.refusal.specs.declared.Refusal.{Refusal}
use Rattle.refusal.specs.declared.Refusal.TheVariants.{NeverOpened, LengthOutside, SixteenUnreported, CardUnfit, NoRoom}
use Rattle.bits.proofs.Tests.{both, neither, by_test, never}
use Rattle.bits.specs.Bits.{has}
use Rattle.store.specs.Store.{round4}
use Rattle.transmit_rules.specs.Queue.{Queue, no_part, free, room}
use Rattle.transmit_rules.specs.Whole.{puts}
use Rattle.transmit_rules.proofs.Whole.{free_falls}
use Rattle.transmit_rules.specs.Outcome.{fours}
use Rattle.card_rules.specs.Adapter.{Adapter}
use Rattle.card_rules.specs.Room.{tx_size, tx_room, tx_free}
use Rattle.card_rules.specs.Status.{failure, shows, flags}
use Rattle.card_rules.specs.Settle.{settle}
use Rattle.card_rules.specs.Sound.{sound}
use Rattle.card_rules.proofs.Sides.{settle-stays}
use Rattle.card_rules.specs.Read.{window1, word_at, after_word}
use Rattle.card_rules.specs.Write.{writing, write, write1, write_word}
use Rattle.card_rules.specs.Access.{ReadWord, WriteWord, Step, step, effect, access}
use Rattle.card_rules.proofs.StepEnds.{asleep, awake}
use Rattle.driver_rules.specs.declared.Driver.{Driver}
use Rattle.driver_rules.specs.Registers.{status_port, unfit}
use Rattle.driver_rules.specs.Registers as registers
use Rattle.driver_rules.specs.Talk.{Talk, done, read_word, Ran, run, after, after_writes, write_words}
use Rattle.driver_rules.proofs.Runs.{writes_law}
use Rattle.driver_rules.specs.Driver.{driver_sound, sending}
use Rattle.driver_rules.specs.Packet.{outside, packet_words}
use Rattle.driver_rules.specs.Send.{Sending, refuses, ticketed, send_talk, refusing}
use Rattle.driver_rules.proofs.SendWays.{not-long}
use Rattle.driver_rules.specs.Calls.{send_call}
use Rattle.driver_rules.proofs.Status.{unfit-status}
use Rattle.runs.specs.Run.{Bench, sends, next}
use Rattle.sends_carried.specs.Packets.{are_bytes, stored, Clear, fit, answer_to}
use Rattle.sends_carried.specs.Carried.{ASendAnswersByTheTable, APacketIsStoredWhole}
use Rattle.sends_carried.proofs.Quiet.{Same, access-same, word_read}
use Rattle.sends_carried.proofs.Words.{packet-whole}

-- ---- the words on an active card in window 1

data_port_lem : (v : ℕ) (a : Adapter) → a.select.window ≡ 1 → write_word 0 v a ≡ writing v a
unfolding write_word write write1
data_port_lem v a w = rw w

written : (v : ℕ) (a : Adapter) → a.id.active ≡ true → a.select.window ≡ 1 → (access (WriteWord 0 v) a).adapter ≡ settle (writing v a)
unfolding effect
written v a y w = ap (λ (t : Step). t.adapter) (awake (WriteWord 0 v) a y) ∙ ap settle (data_port_lem v a w)

-- b is as a but for what settle sets
record Alike (a b : Adapter) : Type 0 where
  queue : b.tx.queue ≡ a.tx.queue
  config : b.config ≡ a.config
  id : b.id ≡ a.id
  select : b.select ≡ a.select
  failed : b.rx.receiver.failed ≡ a.rx.receiver.failed

-- b is a with the words vs written to the FIFO, but for what settle sets
pub record Wrote (vs : List ℕ) (a b : Adapter) : Type 0 where
  pub queue : b.tx.queue ≡ puts (tx_room a) vs a.tx.queue
  pub config : b.config ≡ a.config
  pub id : b.id ≡ a.id
  pub select : b.select ≡ a.select
  pub failed : b.rx.receiver.failed ≡ a.rx.receiver.failed

alike_wrote : (vs : List ℕ) (a b c : Adapter) → Alike a b → Wrote vs b c → Wrote vs a c
alike_wrote vs a b c l r =
    record {
      queue = r.queue ∙ (λ j. puts (tx_size ((l.config j).second % 4)) vs (l.queue j));
      config = r.config ∙ l.config;
      id = r.id ∙ l.id;
      select = r.select ∙ l.select;
      failed = r.failed ∙ l.failed;
    }

pub writes : (vs : List ℕ) (a : Adapter) → a.id.active ≡ true → a.select.window ≡ 1 → Wrote vs a (after_writes vs a)
unfolding after puts settle
writes [] a y w = record { queue = refl; config = refl; id = refl; select = refl; failed = refl }
writes (v ∷ vs) a y w =
    let r = writes vs (settle (writing v a)) y w in
    subst⁻¹ (λ (b : Adapter). Wrote (v ∷ vs) a (after_writes vs b)) (written v a y w)
    (record { queue = r.queue; config = r.config; id = r.id; select = r.select; failed = r.failed })

-- ---- the two reads

fit_or : (x y : Bool) → (not x || y) ≡ not (x && not y)
fit_or true true = refl
fit_or true false = refl
fit_or false y = refl

-- Status shows whether the card is fit
shows-fit : (a : Adapter) → unfit (access (ReadWord 14) a).value ≡ not (fit a)
unfolding effect word_at
shows-fit a =
    by_test a.id.active
    (λ y.
    ap (λ (t : Step). unfit t.value) (awake (ReadWord 14) a y) ∙ unfit-status a.select (flags a)
    ∙ fit_or (eqb a.select.window 1) (has 2 a.select.zero && failure a)
    ∙ ap (λ (b : Bool). not (b && (eqb a.select.window 1 && not (has 2 a.select.zero && failure a)))) (sym y))
    (λ n.
    ap (λ (t : Step). unfit t.value) (asleep (ReadWord 14) a n)
    ∙ ap (λ (b : Bool). not (b && (eqb a.select.window 1 && not (has 2 a.select.zero && failure a)))) (sym n))

status-read : (a : Adapter) → a.id.active ≡ true → (access (ReadWord 14) a).adapter ≡ settle a
unfolding effect after_word
status-read a y = ap (λ (t : Step). t.adapter) (awake (ReadWord 14) a y)

free-word : (a : Adapter) → a.select.window ≡ 1 → word_at 12 a ≡ fours (tx_free a)
unfolding word_at window1
free-word a w = rw w

free-read : (a : Adapter) → a.id.active ≡ true → a.select.window ≡ 1 → access (ReadWord 12) a ≡ step (fours (tx_free a)) (settle a)
unfolding effect after_word
free-read a y w = awake (ReadWord 12) a y ∙ ap (λ (n : ℕ). step n (settle a)) (free-word a w)

-- what is asked for is a multiple of 4, and so no room is lost by the cut
cut : (f n : ℕ) → ltb (fours f) (4 + round4 n) ≡ ltb f (4 + round4 n)
cut f n =
    by_test (ltb f (4 + round4 n))
    (λ y. lt-ltb (fours f) (4 + round4 n) (omega (arith, ltb-true f (4 + round4 n) y)) ∙ sym y)
    (λ m. le-ltb (fours f) (4 + round4 n) (omega (arith, ltb-false f (4 + round4 n) m)) ∙ sym m)

-- a sound card is as it was
status-kept : (a : Adapter) → sound a ≡ true → (access (ReadWord 14) a).adapter ≡ a
status-kept a s =
    by_test a.id.active (λ y. status-read a y ∙ settle-stays a s) (λ n. ap (λ (t : Step). t.adapter) (asleep (ReadWord 14) a n))

-- ---- the run of a send from a

module _ (a : Adapter) (d : Driver) (p : List ℕ) where
  -- b has the FIFO of a, and is a if that is sound
  record Kept (b : Adapter) : Type 0 where
    same : Same a b
    whole : sound a ≡ true → b ≡ a

  -- The run ends with the answer x: a ticket, and then with the words written; or a refusal, and then as it began.
  record End (x : Result ℕ Refusal) (y : Sending) (b : Adapter) : Type 0 where
    answer : y.answer ≡ x
    filled : refusing x ≡ false → Wrote (packet_words p) a b × (y.driver ≡ sending d)
    kept : refusing x ≡ true → Kept b × (y.driver ≡ d)

  abbrev Ends : Result ℕ Refusal → Ran Sending → Type 0
  Ends x R = End x R.answer R.adapter

  refused : (why : Refusal) (b : Adapter) → Kept b → Ends (Err why) (run (done (refuses d why)) b)
  unfolding run
  refused why b k = record { answer = refl; filled = λ e. never (sym e); kept = λ _. (k, refl) }

  -- a refusal that holds, or not
  guards : (c h : Bool) (why : Refusal) (x : Result ℕ Refusal) (y : Talk Sending) (b : Adapter) → c ≡ h → Kept b → (h ≡ false → Ends x (run y b))
      → Ends (cond h (Err why) x) (run (cond c (done (refuses d why)) y) b)
  guards true true why x y b e k f = refused why b k
  guards true false why x y b e k f = never (sym e)
  guards false true why x y b e k f = never e
  guards false false why x y b e k f = f refl

  abbrev needed : ℕ
  needed = 4 + round4 (length p)

  abbrev ticket : Result ℕ Refusal
  ticket = Ok d.sent

  abbrev words : Talk Sending
  words = write_words (packet_words p) (done (ticketed d))

  abbrev on_free : ℕ → Talk Sending
  on_free free = cond (ltb free needed) (done (refuses d NoRoom)) words

  -- the words, on a card that is a but for what settle sets
  ends-written : (b : Adapter) → b.id.active ≡ true → b.select.window ≡ 1 → Alike a b → Ends ticket (run words b)
  unfolding run
  ends-written b y w l =
      let r = alike_wrote (packet_words p) a b _ l (writes (packet_words p) b y w) in
      rw writes_law (record { answer = refl; filled = λ _. (r, refl); kept = λ e. never e })

  -- TX Free
  ends-free : (b : Adapter) → b.id.active ≡ true → b.select.window ≡ 1 → Alike a b → (sound a ≡ true → b ≡ a)
      → Ends (cond (ltb (tx_free a) needed) (Err NoRoom) ticket) (run (read_word registers.tx_free on_free) b)
  unfolding run settle
  ends-free b y w l k =
      let same : tx_free b ≡ tx_free a = λ j. free (tx_size ((l.config j).second % 4)) (l.queue j) in
      let test : ltb (fours (tx_free b)) needed ≡ ltb (tx_free a) needed = cut (tx_free b) (length p) ∙ ap (λ (n : ℕ). ltb n needed) same in
      rw (free-read b y w)
      (guards (ltb (fours (tx_free b)) needed) (ltb (tx_free a) needed) NoRoom ticket words (settle b) test
      (record { same = l.queue; whole = λ s. ap settle (k s) ∙ settle-stays a s })
      (λ _. ends-written (settle b) y w (record { queue = l.queue; config = l.config; id = l.id; select = l.select; failed = l.failed })))

  -- Status
  ends-status : Ends (cond (not (fit a)) (Err CardUnfit) (cond (ltb (tx_free a) needed) (Err NoRoom) ticket))
      (run (read_word status_port (λ status. cond (unfit status) (done (refuses d CardUnfit)) (read_word registers.tx_free on_free))) a)
  unfolding run settle
  ends-status =
      let b : Adapter = (access (ReadWord 14) a).adapter in
      let x : Result ℕ Refusal = cond (ltb (tx_free a) needed) (Err NoRoom) ticket in
      guards (unfit (access (ReadWord 14) a).value) (not (fit a)) CardUnfit x (read_word registers.tx_free on_free) b (shows-fit a)
      (record { same = access-same (ReadWord 14) a (word_read 14 a); whole = status-kept a })
      (λ f.
      let g = both a.id.active (eqb a.select.window 1 && not (has 2 a.select.zero && failure a)) (not-false (fit a) f) in
      let w : a.select.window ≡ 1 = eqb-true a.select.window 1 (both (eqb a.select.window 1) (not (has 2 a.select.zero && failure a)) g.1).0 in
      subst⁻¹ (λ (c : Adapter). Ends x (run (read_word registers.tx_free on_free) c)) (status-read a g.0)
      (ends-free (settle a) g.0 w (record { queue = refl; config = refl; id = refl; select = refl; failed = refl }) (settle-stays a)))

  at_once : Kept a
  at_once = record { same = refl; whole = λ _. refl }

module _ (p : List ℕ) (b : Bench) where
  abbrev a : Adapter
  a = b.adapter

  abbrev d : Driver
  d = b.driver

  ends : Ends a d p (answer_to p b) (sends p b)
  unfolding answer_to sends send_call send_talk
  ends =
      guards a d p (not d.opened) (not d.opened) NeverOpened _ _ a refl (at_once a d p)
      (λ _. guards a d p (outside (length p)) (outside (length p)) LengthOutside _ _ a refl (at_once a d p)
      (λ _. guards a d p (ltb 15 d.unreported) (ltb 15 d.unreported) SixteenUnreported _ _ a refl (at_once a d p)
      (λ _. ends-status a d p)))

pub answers : ASendAnswersByTheTable
unfolding next
answers p b =
    let E = ends p b in
    record {
      answer = E.answer;
      fifo_kept = λ r. (E.kept r).0.same;
      kept = λ r s. λ j. record { adapter = (E.kept r).0.whole (both (sound b.adapter) (driver_sound b.driver) s).0 j; driver = (E.kept r).1 j };
    }

-- ---- a packet that is taken

not-refused : (c : Bool) (why : Refusal) (x : Result ℕ Refusal) → refusing (cond c (Err why) x) ≡ false → (c ≡ false) × (refusing x ≡ false)
not-refused true why x e = never (sym e)
not-refused false why x e = (refl, e)

module _ (p : List ℕ) (b : Bench) (t : refusing (answer_to p b) ≡ false) where
  record Facts : Type 0 where
    long : 14 ≤ length p
    short : length p ≤ 1514
    space : 4 + round4 (length p) ≤ tx_free b.adapter

  facts : Facts
  unfolding answer_to
  facts =
      let n : ℕ = length p in
      let f = not-refused (not b.driver.opened) NeverOpened _ t in
      let g = not-refused (outside n) LengthOutside _ f.1 in
      let h = not-refused (ltb 15 b.driver.unreported) SixteenUnreported _ g.1 in
      let i = not-refused (not (fit b.adapter)) CardUnfit _ h.1 in
      let k = not-refused (ltb (tx_free b.adapter) (4 + round4 n)) NoRoom _ i.1 in
      record { long = ltb-false n 14 (neither (ltb n 14) (ltb 1514 n) g.0).0; short = not-long n g.0; space = ltb-false (tx_free b.adapter) (4 + round4 n) k.0 }

  module _ (bytes : are_bytes p ≡ true) (clear : Clear b) where
    new : (sends p b).adapter.tx.queue ≡ record { failed = false; packets = b.adapter.tx.queue.packets ++ (stored p ∷ []); part = no_part }
    new =
        let F = facts in
        ((ends p b).filled t).0.queue
        ∙ packet-whole p F.long F.short bytes (tx_room b.adapter) b.adapter.tx.queue clear.no_failure clear.none_half_written F.space

    -- the rest of what Status shows is as it was
    stays : fit (sends p b).adapter ≡ fit b.adapter
    stays =
        let W = ((ends p b).filled t).0 in
        let f : (sends p b).adapter.tx.queue.failed ≡ b.adapter.tx.queue.failed = ap (λ (x : Queue). x.failed) new ∙ sym clear.no_failure in
        λ j. (W.id j).active && (eqb (W.select j).window 1 && not (shows 2 (W.select j).zero (W.failed j || f j)))

    left : tx_free (sends p b).adapter + (4 + round4 (length p)) ≡ tx_free b.adapter
    unfolding free
    left =
        let c = ((ends p b).filled t).0.config in
        let e : tx_free (sends p b).adapter ≡ tx_room b.adapter - room b.adapter.tx.queue.packets - (4 + round4 (length p)) =
        (λ j. free (tx_size ((c j).second % 4)) (new j)) ∙ free_falls (tx_room b.adapter) b.adapter.tx.queue.packets (stored p) in
        omega (arith, e, facts.space, clear.none_half_written)

pub stored-whole : APacketIsStoredWhole
unfolding next
stored-whole p b bytes clear t =
    let q = new p b t bytes clear in
    record {
      last = ap (λ (x : Queue). x.packets) q;
      room = left p b t bytes clear;
      driver = ((ends p b).filled t).1;
      stays_fit = stays p b t bytes clear;
      clear = record { no_failure = ap (λ (x : Queue). x.failed) q; none_half_written = ap (λ (x : Queue). x.part.words) q };
    }
