-- The ways of a call on one card's ID port, and that every step there keeps the ID state sound. Assumes nothing.
use borrow.Author.Rules.{rules}
use native.Mathlib.Omega.{arith}
use mathlib.Core.Path.{◌≡◌, refl}
use mathlib.Core.Bool.{Bool, true, false, cond, not, ◌&&◌}
use mathlib.Core.List.{List}
use Prim.Native.Nat.{ℕ}
use Rattle.std.specs.Prelude.{Err}
use Rattle.refusal.specs.declared.Refusal.{Refusal}
use Rattle.refusal.specs.declared.Refusal.TheVariants.{StateUnsound, ArgumentOutside}
use Rattle.refusal.specs.Number.{number_of}
use Rattle.bits.proofs.Tests.{both}
use Rattle.port_rules.specs.declared.IdState.{IdState}
use Rattle.port_rules.specs.Card.{id_write, id_bit, id_after_read}
use Rattle.port_rules.specs.Sound.{id_sound}
use Rattle.port_rules.proofs.Keep.{every_step_keeps_soundness_lem}
use Rattle.card_rules.specs.declared.Card.{Card}
use Rattle.card_rules.specs.View.{view, Sound, Stands, sound_card}
use Rattle.card_rules.specs.Sound.{select_sound}
use Rattle.card_rules.proofs.Sides.{registers_of}
use Rattle.card_rules.specs.Event as event
use Rattle.card_rules.specs.Calls.{judged, tested, Does}
use Rattle.card_rules.proofs.Judged.{refused-as}
use Rattle.port_rules.specs.Gathered.{is_port, digit_of}
use Rattle.abi.specs.declared.ids.CardBit.{CardBit}
use Rattle.abi.specs.Ids.{Seated, bit_of}

module _ (s ok : Bool) (i : IdState) (c : Card) (ram dir : List ℕ) where
  pub refuses : (why : Refusal) (code : ℕ) → code ≡ number_of why → Err why ≡ tested s ok ArgumentOutside → Seated (judged s ok 12) i c ram dir (record { card = c; code = code })
  unfolding Does
  refuses why code n e =
      let p = refused-as s ok ArgumentOutside 11 why refl e in
      rw (p.1, n, p.2) (record { code = refl; does = (refl, refl, refl) })

  pub goes : (r : Card) → s ≡ true → ok ≡ true → Stands r ram dir (event.seat i (view c ram dir)) → Seated (judged s ok 12) i c ram dir (record { card = r; code = 0 })
  unfolding judged Does
  goes r e f t = rw (e, f) (record { code = refl; does = t })

no_bit : (s ok : Bool) (why : Refusal) (x : CardBit) → Err why ≡ tested s ok ArgumentOutside
    → record { bit = 0; code = number_of why } ≡ cond s (cond ok x (record { bit = 0; code = 12 })) (record { bit = 0; code = 1 })
unfolding tested
no_bit true true why x e = absurd (search rules)
no_bit true false why x e = let f : why ≡ ArgumentOutside = search rules in rw f refl
no_bit false ok why x e = let f : why ≡ StateUnsound = search rules in rw f refl

module _ (c : Card) (ram dir : List ℕ) (port : ℕ) where
  pub bit_refused : (why : Refusal) (code : ℕ) → code ≡ number_of why → Err why ≡ tested (sound_card c ram dir) (is_port port) ArgumentOutside → record { bit = 0; code = code } ≡ bit_of c ram dir port
  unfolding bit_of
  bit_refused why code n e = rw n (no_bit (sound_card c ram dir) (is_port port) why _ e)

  pub bit_told : (bit : ℕ) → sound_card c ram dir ≡ true → is_port port ≡ true → bit ≡ id_bit c.id (digit_of port) → record { bit = bit; code = 0 } ≡ bit_of c ram dir port
  unfolding bit_of
  bit_told bit e f h = rw (e, f, h) refl

-- the ID state of a sound card is sound
pub identified : (c : Card) (ram dir : List ℕ) → Sound c ram dir → id_sound c.id ≡ true
unfolding view
identified c ram dir s = (both (id_sound c.id) (not c.id.due && select_sound c.select) (registers_of (view c ram dir) s.calm)).0

module _ (i : IdState) (port byte : ℕ) (j : IdState) where
  pub write-sound : j ≡ id_write i (digit_of port) byte → id_sound i ≡ true → id_sound j ≡ true
  write-sound e s = rw e (every_step_keeps_soundness_lem.writes i (digit_of port) byte (omega arith) s)

  pub hear_sound : j ≡ id_after_read i (digit_of port) byte → id_sound i ≡ true → id_sound j ≡ true
  hear_sound e s = rw e (every_step_keeps_soundness_lem.reads i (digit_of port) byte s)
