-- What the contracts say of a run, and of a part of one. Assumes nothing.
use Rattle.std.specs.Prelude.{◌≡◌, Some, List, ◌++◌, ℕ, ◌≤◌, ◌+◌, length, take, drop}
use Rattle.card_rules.specs.declared.Card.{Card}
use Rattle.card_rules.specs.Adapter.{Adapter}
use Rattle.card_rules.specs.View.{Sound, Stands}
use Rattle.driver_rules.specs.Talk.{Ran, bytes_read, after_reads}
use Rattle.driver_rules.specs.declared.Served.{Served}
use Rattle.driver_rules.specs.Items.{Serving, words_in}
use Rattle.driver_rules.specs.Areas.{in_look, in_frame}

-- The card is sound, and the areas are large enough.
pub record Ready (c : Card) (ram dir l f : List ℕ) : Type 0 where
  pub sound : Sound c ram dir
  pub look : 256 ≤ length l
  pub frame : 1514 ≤ length f

-- n bytes were read into the front of an area
pub record Read (n : ℕ) (s : Adapter) (r : Card) (ram dir area₀ area : List ℕ) : Type 0 where
  pub stands : Stands r ram dir (after_reads (words_in n) s)
  pub laid : area ≡ take n (bytes_read (words_in n) s) ++ drop n area₀

-- The run R has come to its end in r.
pub record Ended (left : ℕ) (R : Ran Serving) (r : Served) (s : Adapter) (l₀ f₀ l f : List ℕ) : Type 0 where
  pub answer : r.answer ≡ Some R.answer.answer
  pub driver : r.driver ≡ R.answer.driver
  pub count : length R.made + r.left ≡ left
  pub adapter : s ≡ R.adapter
  pub look : l ≡ in_look R.answer.bytes l₀
  pub frame : f ≡ in_frame R.answer.bytes f₀

-- .. and hands up no bytes, whatever the areas
abbrev pub Tells : ℕ → Ran Serving → Served → Adapter → Type 0
Tells left R r s = (l f : List ℕ) → Ended left R r s l f l f
