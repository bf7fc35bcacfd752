-- On a good state a contract of the card goes by the call's own test, and so does the run's event. Assumes nothing.
use Rattle.std.specs.Prelude.{⊤}
use mathlib.Core.Path.{◌≡◌, refl, ap, ◌∙◌}
use mathlib.Core.Bool.{Bool, true, false, cond, not, ◌&&◌}
use mathlib.Core.List.{List, [], ◌∷◌}
use Prim.Native.Nat.{ℕ, suc, ◌<◌}
use lib.ListN.{length, take, drop}
use lib.Seq.{take_at}
use Rattle.bits.proofs.Tests.{never, both}
use Rattle.port_rules.specs.declared.IdState.{IdState}
use Rattle.port_rules.specs.Card.{id_write, id_after_read}
use Rattle.port_rules.specs.Sound.{id_sound}
use Rattle.port_rules.proofs.Keep.{every_step_keeps_soundness_lem}
use Rattle.transmit_rules.specs.Leave.{told_of}
use Rattle.transmit_rules.specs.Tx.{ready}
use Rattle.card_rules.specs.declared.Card.{Card}
use Rattle.card_rules.specs.Adapter.{Adapter}
use Rattle.card_rules.specs.Sound.{select_sound}
use Rattle.card_rules.specs.View.{view, sound_card}
use Rattle.card_rules.proofs.Sides.{registers_of}
use Rattle.card_rules.specs.Access.{ReadWord, ReadByte, WriteWord, WriteByte, access}
use Rattle.card_rules.specs.Event as event
use Rattle.card_rules.specs.declared.After.{After as AfterCard}
use Rattle.card_rules.specs.Calls as card
use Rattle.card_rules.specs.Calls.{Reply, done, value, judged, replying, Does, Call, Area, read_reply, done_reply, told_reply, is_word, is_byte, on_wire, off_wire}
use Rattle.card_rules.specs.CardContracts as contract
use Rattle.runs.specs.Run as run
use Rattle.runs.specs.Run.{Host, IdWrite, IdRead, next, said, before, permitted}
use Rattle.run_calls.specs.Takes.{State, seen, Good, left, says_done, says_told}
use Rattle.run_calls.proofs.Good.{Fine, fine, kept_fine, good_of, fine_of, driver_of_lem, sound_of, Stepping, Before}

-- the step is taken where the call's own test holds, and refused otherwise
record Stepped (ok : Bool) (k : ℕ) (x w : Reply) (c r : Card) (ram dir ram' dir' : List ℕ) (a : Adapter) : Type 0 where
  shows : view r ram' dir' ≡ cond ok a (view c ram dir)
  reply : x ≡ cond ok w (card.refused k)
  fits : Fine r ram' dir'

stepped : (s ok : Bool) (k : ℕ) (x w : Reply) (c r : Card) (ram dir ram' dir' : List ℕ) (a : Adapter) → s ≡ true → Fine c ram dir
    → Call (judged s ok (suc k)) x w c r ram dir ram' dir' a → Stepped ok (suc k) x w c r ram dir ram' dir' a
unfolding judged replying Does
stepped true true k x w c r ram dir ram' dir' a e f h = record { shows = h.does.shows; reply = h.answer; fits = fine r ram' dir' h.does.sound }
stepped true false k x w c r ram dir ram' dir' a e f h =
    record {
      shows = λ i. view (h.does.0 i) (h.does.1 i) (h.does.2 i);
      reply = h.answer;
      fits = kept_fine c ram dir r ram' dir' h.does.0 h.does.1 h.does.2 f;
    }
stepped false ok k x w c r ram dir ram' dir' a e f h = never e

-- what is said, by the test
says-done : (ok : Bool) (k : ℕ) → says_done (cond ok done (card.refused k)) ≡ cond ok [] (run.refused k ∷ [])
says-done true k = refl
says-done false k = refl

says-told : (s ok : Bool) (k : ℕ) (told out out' : List ℕ) (x : Reply) → s ≡ true → Area (judged s ok (suc k)) told out out' → x ≡ cond ok (value (length told)) (card.refused (suc k))
    → says_told out' x ≡ cond ok (run.told told) (run.refused (suc k)) ∷ []
unfolding judged Area
says-told true true k told out out' x e h y =
    ap (says_told out') y ∙ ap (λ (l : List ℕ). run.told (take (length told) l) ∷ []) h ∙ ap (λ (l : List ℕ). run.told l ∷ []) (take_at told (drop (length told) out) (length told) refl)
says-told true false k told out out' x e h y = ap (says_told out') y
says-told false ok k told out out' x e h y = never e

module _ (s : State) (g : Good s) where
  abbrev c : Card
  c = s.card

  abbrev a : Adapter
  a = view s.card s.ram s.dir

  abbrev test : Bool
  test = sound_card s.card s.ram s.dir

  goes : (ok : Bool) (k : ℕ) (x w : Reply) (r : Card) (ram dir : List ℕ) (b : Adapter) → Call (judged test ok (suc k)) x w c r s.ram s.dir ram dir b
      → Stepped ok (suc k) x w c r s.ram s.dir ram dir b
  goes ok k x w r ram dir b h = stepped test ok k x w c r s.ram s.dir ram dir b (fine_of s g).tested (fine_of s g) h

  good-after : (r : Card) (ram dir : List ℕ) → Fine r ram dir → Good (left r ram dir s.driver)
  good-after r ram dir f = good_of r ram dir s.driver f (driver_of_lem s g)

  -- ---- a call that answers done, with its own refusal 11

  record Done (ok : Bool) (b : Adapter) (r : AfterCard ⊤) (ram dir : List ℕ) : Type 0 where
    leaves : seen (left r.card ram dir s.driver) ≡ record { adapter = cond ok b a; driver = s.driver }
    answers : says_done (done_reply r.answer) ≡ run.refusing ok
    good : Good (left r.card ram dir s.driver)

  does : (ok : Bool) (b : Adapter) (r : AfterCard ⊤) (ram dir : List ℕ) → Call (judged test ok 11) (done_reply r.answer) done c r.card s.ram s.dir ram dir b → Done ok b r ram dir
  does ok b r ram dir h =
      let q = goes ok 10 (done_reply r.answer) done r.card ram dir b h in
      record { leaves = λ i. record { adapter = q.shows i; driver = s.driver }; answers = ap says_done q.reply ∙ says-done ok 11; good = good-after r.card ram dir q.fits }

  pub wire-starts : (first : List ℕ) (eight : length first ≡ 8) (r : AfterCard ⊤) (ram dir : List ℕ) → contract.WireStart s.card s.ram s.dir first r ram dir
      → Stepping (run.Start first eight) s (left r.card ram dir s.driver) (says_done (done_reply r.answer))
  unfolding next said view
  wire-starts first eight r ram dir h =
      let q = does (off_wire c.receive.receiver.wire) (event.wire_start first a) r ram dir h in
      record { leaves = q.leaves; answers = q.answers; good = q.good }

  pub wire_brings : (v : ℕ) (r : AfterCard ⊤) (ram dir : List ℕ) → contract.WireByte s.card s.ram s.dir v r ram dir
      → Stepping (run.Byte v) s (left r.card ram dir s.driver) (says_done (done_reply r.answer))
  unfolding next said view
  wire_brings v r ram dir h =
      let q = does (on_wire c.receive.receiver.wire) (event.wire_byte v a) r ram dir h in
      record { leaves = q.leaves; answers = q.answers; good = q.good }

  pub wire-ends : (check alignment : Bool) (r : AfterCard ⊤) (ram dir : List ℕ) → contract.WireEnd s.card s.ram s.dir check alignment r ram dir
      → Stepping (run.End check alignment) s (left r.card ram dir s.driver) (says_done (done_reply r.answer))
  unfolding next said view
  wire-ends check alignment r ram dir h =
      let q = does (on_wire c.receive.receiver.wire) (event.wire_end check alignment a) r ram dir h in
      record { leaves = q.leaves; answers = q.answers; good = q.good }

  pub collides : (r : AfterCard ⊤) (ram dir : List ℕ) → contract.Collisions s.card s.ram s.dir r ram dir
      → Stepping run.Collided s (left r.card ram dir s.driver) (says_done (done_reply r.answer))
  unfolding next said
  collides r ram dir h =
      let q = does (ready a.tx) (event.collisions a) r ram dir h in
      record { leaves = q.leaves; answers = q.answers; good = q.good }

  pub succeeds : (out out' : List ℕ) (r : AfterCard ℕ) (ram dir : List ℕ) → contract.Success s.card s.ram s.dir r ram dir → contract.SuccessArea s.card s.ram s.dir out out'
      → Stepping run.Sent s (left r.card ram dir s.driver) (says_told out' (told_reply r.answer))
  unfolding next said
  succeeds out out' r ram dir h area =
      let told : List ℕ = told_of a.tx.queue.packets in
      let q = goes (ready a.tx) 10 (told_reply r.answer) (value (length told)) r.card ram dir (event.success a) h in
      record {
        leaves = λ i. record { adapter = q.shows i; driver = s.driver };
        answers = says-told test (ready a.tx) 10 told out out' (told_reply r.answer) (fine_of s g).tested area q.reply;
        good = good-after r.card ram dir q.fits;
      }

  -- ---- before the driver is opened

  record Hosted (ok : Bool) (b : Adapter) (r : Card) (ram dir : List ℕ) : Type 0 where
    leaves : seen (left r ram dir s.driver) ≡ record { adapter = cond ok b a; driver = s.driver }
    good : Good (left r ram dir s.driver)

  hosts : (ok : Bool) (k : ℕ) (b : Adapter) (x w : Reply) (r : Card) (ram dir : List ℕ) → Call (judged test ok (suc k)) x w c r s.ram s.dir ram dir b → Hosted ok b r ram dir
  hosts ok k b x w r ram dir h =
      let q = goes ok k x w r ram dir b h in
      record { leaves = λ i. record { adapter = q.shows i; driver = s.driver }; good = good-after r ram dir q.fits }

  pub reads_word : (o : ℕ) (r : AfterCard ℕ) → contract.ReadsWord s.card s.ram s.dir o r → Before (Host (ReadWord o)) s (left r.card s.ram s.dir s.driver)
  unfolding before permitted
  reads_word o r h =
      let q = hosts (is_word o) 11 (access (ReadWord o) a).adapter (read_reply r.answer) _ r.card s.ram s.dir h in
      record { leaves = q.leaves; good = q.good }

  pub reads_byte : (o : ℕ) (r : AfterCard ℕ) → contract.ReadsByte s.card s.ram s.dir o r → Before (Host (ReadByte o)) s (left r.card s.ram s.dir s.driver)
  unfolding before permitted view
  reads_byte o r h =
      let q = hosts (is_byte c.select.window o) 11 (access (ReadByte o) a).adapter (read_reply r.answer) _ r.card s.ram s.dir h in
      record { leaves = q.leaves; good = q.good }

  pub writes-word : (o v : ℕ) (r : AfterCard ⊤) (ram dir : List ℕ) → contract.WritesWord s.card s.ram s.dir o v r ram dir → Before (Host (WriteWord o v)) s (left r.card ram dir s.driver)
  unfolding before permitted
  writes-word o v r ram dir h =
      let q = hosts (is_word o) 11 (access (WriteWord o v) a).adapter (done_reply r.answer) done r.card ram dir h in
      record { leaves = q.leaves; good = q.good }

  pub writes_byte : (o v : ℕ) (r : AfterCard ⊤) (ram dir : List ℕ) → contract.WritesByte s.card s.ram s.dir o v r ram dir → Before (Host (WriteByte o v)) s (left r.card ram dir s.driver)
  unfolding before permitted view
  writes_byte o v r ram dir h =
      let q = hosts (is_byte c.select.window o) 11 (access (WriteByte o v) a).adapter (done_reply r.answer) done r.card ram dir h in
      record { leaves = q.leaves; good = q.good }

  id_sound_call : id_sound c.id ≡ true
  unfolding view
  id_sound_call = (both (id_sound c.id) (not c.id.due && select_sound c.select) (registers_of a (sound_of s g).calm)).0

  seats : (j : IdState) (r : AfterCard ⊤) → id_sound j ≡ true → contract.Seat s.card s.ram s.dir j r → Hosted true (event.seat j a) r.card s.ram s.dir
  seats j r y h =
      let q = hosts (id_sound j) 0 (event.seat j a) (done_reply r.answer) done r.card s.ram s.dir h in
      record { leaves = q.leaves ∙ ap (λ (t : Bool). record { adapter = cond t (event.seat j a) a; driver = s.driver }) y; good = q.good }

  pub seats_written : (p : ℕ) (small : p < 16) (byte : ℕ) (r : AfterCard ⊤) → contract.Seat s.card s.ram s.dir (id_write s.card.id p byte) r
      → Before (IdWrite p small byte) s (left r.card s.ram s.dir s.driver)
  unfolding before view
  seats_written p small byte r h =
      let q = seats (id_write c.id p byte) r (every_step_keeps_soundness_lem.writes c.id p byte small id_sound_call) h in
      record { leaves = q.leaves; good = q.good }

  pub seats_read : (p : ℕ) (small : p < 16) (bus : ℕ) (r : AfterCard ⊤) → contract.Seat s.card s.ram s.dir (id_after_read s.card.id p bus) r
      → Before (IdRead p small bus) s (left r.card s.ram s.dir s.driver)
  unfolding before view
  seats_read p small bus r h =
      let q = seats (id_after_read c.id p bus) r (every_step_keeps_soundness_lem.reads c.id p bus id_sound_call) h in
      record { leaves = q.leaves; good = q.good }
