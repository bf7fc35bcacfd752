-- Each way through send is the run of its tree. `access` stays shut. Assumes nothing.
use Rattle.std.specs.Prelude.{Ok, Err}
use mathlib.Core.Path.{◌≡◌, refl, sym, ap}
use mathlib.Core.Bool.{true, false}
use mathlib.Core.List.{List, [], ◌∷◌}
use Prim.Native.Nat.{ℕ, ◌+◌, ◌/◌, ◌<◌, ◌≤◌}
use lib.ListN.{length}
use lib.Dec.{ltb}
use borrow.Author.Tests.{lt-ltb, le-ltb, ltb-false}
use Rattle.refusal.specs.declared.Refusal.{Refusal}
use Rattle.refusal.specs.declared.Refusal.TheVariants.{NeverOpened, LengthOutside, SixteenUnreported, CardUnfit, NoRoom}
use Rattle.store.specs.Store.{round4}
use Rattle.bits.proofs.Tests.{never, neither}
use Rattle.card_rules.specs.declared.Card.{Card}
use Rattle.card_rules.specs.Adapter.{Adapter}
use Rattle.card_rules.specs.View.{view, Sound, Stands}
use Rattle.card_rules.specs.Access.{ReadWord, WriteWord, step, access}
use Rattle.driver_rules.specs.declared.Driver.{Driver}
use Rattle.driver_rules.specs.Registers.{unfit}
use Rattle.driver_rules.specs.Talk.{Ran, run, words_of, after_writes}
use Rattle.driver_rules.proofs.Runs.{writes_law, stands-then, stands_one}
use Rattle.driver_rules.specs.Packet.{outside, lacks_room, packet_words}
use Rattle.driver_rules.specs.Send.{Sending, refuses, ticketed, send_talk}
use Rattle.driver_rules.specs.Sends.{Sends, Passed, Tests}

-- no packet is too long that is not outside
pub not-long : (n : ℕ) → outside n ≡ false → n ≤ 1514
not-long n e = ltb-false 1514 n (neither (ltb n 14) (ltb 1514 n) e).1

-- the two preamble words, then the data
pub written : {c₁ c₂ c₃ : Card} {ram₁ dir₁ ram₂ dir₂ ram₃ dir₃ : List ℕ} (p : List ℕ) (a : Adapter) (m : ℕ) → m ≡ round4 (length p)
    → Stands c₁ ram₁ dir₁ (access (WriteWord 0 (0x8000 + length p)) a).adapter → Stands c₂ ram₂ dir₂ (access (WriteWord 0 0) (view c₁ ram₁ dir₁)).adapter
    → Stands c₃ ram₃ dir₃ (after_writes (words_of (m / 2) p) (view c₂ ram₂ dir₂)) → Stands c₃ ram₃ dir₃ (after_writes (packet_words p) a)
written p a m e s t u =
    rw (← e)
    (stands-then (WriteWord 0 (0x8000 + length p) ∷ []) _ a (stands_one _ a s)
    (stands-then (WriteWord 0 0 ∷ []) _ _ (stands_one _ _ t) u))

module _ (d : Driver) (p : List ℕ) (c : Card) (ram dir : List ℕ) where
  abbrev R : Ran Sending
  R = run (send_talk d p) (view c ram dir)

  -- a test that is not passed is the refusal of the whole send
  pub refused : (why : Refusal) → Tests d p c ram dir (Err why) → Sends R c ram dir (record { card = c; driver = d; answer = Err why }) ram dir
  unfolding Tests
  refused why e =
      record { answer = sym (ap (λ x. x.answer) e); driver = sym (ap (λ x. x.driver) e); taken = λ n. never (sym n); kept = λ _. (refl, (refl, refl)) }

  pub few : (e : Card) → Tests d p c ram dir (Ok e) → Passed d p c e ram dir
  unfolding Tests
  few e t = t

  pub taken : (e : Card) → Tests d p c ram dir (Ok e) → (e' : Card) (ram' dir' : List ℕ) → Stands e' ram' dir' (after_writes (packet_words p) (view e ram dir))
      → Sends R c ram dir (record { card = e'; driver = (ticketed d).driver; answer = Ok d.sent }) ram' dir'
  unfolding Tests run
  taken e t e' ram' dir' last =
      rw (t.onward, writes_law)
      (record { answer = refl; driver = refl; taken = λ _. last; kept = λ n. never n })

  pub unopened : d.opened ≡ false → Tests d p c ram dir (Err NeverOpened)
  unfolding Tests run send_talk
  unopened o = rw o

  module _ (o : d.opened ≡ true) where
    pub misfits : outside (length p) ≡ true → Tests d p c ram dir (Err LengthOutside)
    unfolding Tests run send_talk
    misfits h = rw (o, h)

    module _ (h : outside (length p) ≡ false) where
      pub many : 15 < d.unreported → Tests d p c ram dir (Err SixteenUnreported)
      unfolding Tests run send_talk
      many u = rw (o, h, lt-ltb 15 d.unreported u)

      module _ (u : d.unreported ≤ 15) (v₁ : ℕ) (s₁ : Adapter) (e₁ : access (ReadWord 14) (view c ram dir) ≡ step v₁ s₁) where
        pub unfits : unfit v₁ ≡ true → Tests d p c ram dir (Err CardUnfit)
        unfolding Tests run send_talk
        unfits w = rw (o, h, le-ltb 15 d.unreported u, e₁, w)

        module _ (w : unfit v₁ ≡ false) (v₂ : ℕ) (s₂ : Adapter) (e₂ : access (ReadWord 12) s₁ ≡ step v₂ s₂) where
          -- refused for room, a send has read two words and written none
          nothing_written : lacks_room v₂ (length p) ≡ true → R.made ≡ ReadWord 14 ∷ (ReadWord 12 ∷ [])
          unfolding run send_talk
          nothing_written f = rw (o, h, le-ltb 15 d.unreported u, e₁, w, e₂, f)

          pub full : lacks_room v₂ (length p) ≡ true → Tests d p c ram dir (Err NoRoom)
          unfolding Tests run send_talk
          full f = rw (o, h, le-ltb 15 d.unreported u, e₁, w, e₂, f)

          pub passed : lacks_room v₂ (length p) ≡ false → (e : Card) → Sound e ram dir → s₂ ≡ view e ram dir → Tests d p c ram dir (Ok e)
          unfolding Tests run send_talk
          passed f e sound at =
              record { sound = sound; few = u; short = not-long (length p) h; onward = rw (o, h, le-ltb 15 d.unreported u, e₁, w, e₂, f, at) }
