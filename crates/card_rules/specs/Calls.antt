-- The public calls: which refusal comes or which answer, and what becomes of card and memory. Assumes nothing.
use Rattle.std.specs.Prelude.{◌≡◌, Bool, cond, List, ◌++◌, ℕ, zero, suc, length, drop, Result, Ok, Err, ⊤}
use Rattle.refusal.specs.declared.Refusal.{Refusal}
use Rattle.refusal.specs.declared.Refusal.TheVariants.{StateUnsound}
use Rattle.refusal.specs.Number.{number_of}
-- which refusal comes
unfoldable pub use Rattle.card_rules.specs.Tests.{judged}
pub use Rattle.card_rules.specs.Tests.{is_word, is_byte, off_wire, on_wire}
use Rattle.card_rules.specs.declared.Card.{Card}
use Rattle.card_rules.specs.Adapter.{Adapter}
use Rattle.card_rules.specs.View.{Stands}

-- what a call answers: a refusal's number, that it is done, or a value
pub data Reply : Type 0 where
  refused : ℕ → Reply
  done : Reply
  value : ℕ → Reply

abbrev pub reply_of : {T : Type 0} → (T → Reply) → Result T Refusal → Reply
reply_of says (Ok x) = says x
reply_of says (Err why) = refused (number_of why)

-- A read answers its value, a success how many bytes the wire was told; the other calls are done.
abbrev pub read_reply : Result ℕ Refusal → Reply
read_reply = reply_of value

abbrev pub told_reply : Result ℕ Refusal → Reply
told_reply = reply_of value

abbrev pub done_reply : Result ⊤ Refusal → Reply
done_reply = reply_of (λ _. done)

-- What a call's tests answer: 1 of an unsound state, then the call's own refusal.
unfoldable pub tested : Bool → Bool → Refusal → Result ⊤ Refusal
tested sound ok own = cond sound (cond ok (Ok tt) (Err own)) (Err StateUnsound)

-- a refusal, or the answer of the step
unfoldable pub replying : ℕ → Reply → Reply
replying zero w = w
replying (suc n) w = refused (suc n)

-- A refusal changes nothing; otherwise the card is the step's, and sound.
unfoldable pub Does : ℕ → Card → Card → List ℕ → List ℕ → List ℕ → List ℕ → Adapter → Type 0
Does zero c r ram dir ram' dir' a = Stands r ram' dir' a
Does (suc n) c r ram dir ram' dir' a = (r ≡ c) × (ram' ≡ ram) × (dir' ≡ dir)

pub record Call (number : ℕ) (reply wanted : Reply) (c r : Card) (ram dir ram' dir' : List ℕ) (a : Adapter) : Type 0 where
  pub answer : reply ≡ replying number wanted
  pub does : Does number c r ram dir ram' dir' a

-- The area that a success tells the wire's bytes in: they stand at its front, and no other byte changes.
unfoldable pub Area : ℕ → List ℕ → List ℕ → List ℕ → Type 0
Area zero told out out' = out' ≡ told ++ drop (length told) out
Area (suc n) told out out' = out' ≡ out
