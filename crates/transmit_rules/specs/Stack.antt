-- The TX status stack as a list, oldest first. Assumes nothing.
use Rattle.std.specs.Prelude.{◌≡◌, List, [], ◌∷◌, ◌++◌, Bool, true, false, ℕ, ◌≤◌, ◌<◌, take}
use Rattle.transmit_rules.specs.declared.Statuses.{Statuses}

-- entries and their count, which are lent apart, as a stack
abbrev pub both : List ℕ → ℕ → Statuses
both entries count = record { entries = entries; count = count }

-- the first `count` entries
abbrev pub stack : Statuses → List ℕ
stack s = take s.count s.entries

-- no more statuses than entries
abbrev pub Few : Statuses → Type 0
Few s = s.count ≤ 31

-- an entry is free
abbrev pub Room : Statuses → Type 0
Room s = s.count < 31

-- the stack is l
pub record Stacks (s : Statuses) (l : List ℕ) : Type 0 where
  pub lists : stack s ≡ l
  pub few : Few s

-- The oldest is read first; empty reads 00h.
unfoldable pub top : List ℕ → ℕ
top [] = 0
top (x ∷ xs) = x

-- TX Complete stands while the status stack isn't empty.
unfoldable pub some : List ℕ → Bool
some [] = false
some (x ∷ xs) = true

-- One more status is the newest.
abbrev pub added : ℕ → List ℕ → List ℕ
added v l = l ++ (v ∷ [])

-- A pop takes the oldest; it does nothing on an empty stack.
unfoldable pub rest : List ℕ → List ℕ
rest [] = []
rest (x ∷ xs) = xs
