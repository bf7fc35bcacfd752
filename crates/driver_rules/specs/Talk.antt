-- A driver call as a tree of accesses, and the run of one. Assumes nothing.
use Rattle.std.specs.Prelude.{List, [], ◌∷◌, ◌++◌, map, ℕ, zero, suc, ◌+◌, ◌*◌, ◌/◌, ◌%◌, get_or, drop, replicate}
use Rattle.card_rules.specs.Adapter.{Adapter}
use Rattle.card_rules.specs.Access.{Access, ReadWord, ReadByte, WriteWord, WriteByte, access}
use Rattle.driver_rules.specs.Registers.{data_port, command_port}

-- A call is done with its answer, or asks for an access and goes on with the value read.
pub data Talk (A : Type 0) : Type 0 where
  done : A → Talk A
  ask : Access → (ℕ → Talk A) → Talk A

-- What a run gives: the answer, the accesses made, and the adapter they leave.
pub record Ran (A : Type 0) : Type 0 where
  pub answer : A
  pub made : List Access
  pub adapter : Adapter

-- the accesses m made before the run R
abbrev pub extended : {A : Type 0} → List Access → Ran A → Ran A
extended m R = record { answer = R.answer; made = m ++ R.made; adapter = R.adapter }

-- The accesses are taken in order as register steps.
unfoldable pub run : {A : Type 0} → Talk A → Adapter → Ran A
run (done x) a = record { answer = x; made = []; adapter = a }
run (ask x next) a = extended (x ∷ []) (run (next (access x a).value) (access x a).adapter)

-- ---- accesses by name

abbrev pub read_word : {A : Type 0} → ℕ → (ℕ → Talk A) → Talk A
read_word o next = ask (ReadWord o) next

abbrev pub read_byte : {A : Type 0} → ℕ → (ℕ → Talk A) → Talk A
read_byte o next = ask (ReadByte o) next

abbrev pub write_word : {A : Type 0} → ℕ → ℕ → Talk A → Talk A
write_word o v next = ask (WriteWord o v) (λ _. next)

abbrev pub write_byte : {A : Type 0} → ℕ → ℕ → Talk A → Talk A
write_byte o v next = ask (WriteByte o v) (λ _. next)

-- a command with its argument
abbrev pub order : {A : Type 0} → ℕ → ℕ → Talk A → Talk A
order c x next = write_word command_port (c + x) next

-- w words are read from the data port: their bytes, low byte first
unfoldable pub read_words : {A : Type 0} → ℕ → (List ℕ → Talk A) → Talk A
read_words zero next = next []
read_words (suc w) next = read_word data_port (λ v. read_words w (λ bytes. next (v % 256 ∷ (v / 256 ∷ bytes))))

-- words are written to the data port, in order
unfoldable pub write_words : {A : Type 0} → List ℕ → Talk A → Talk A
write_words [] next = next
write_words (v ∷ vs) next = write_word data_port v (write_words vs next)

-- the first m words of some bytes, low byte first; zeros past their end
unfoldable pub words_of : ℕ → List ℕ → List ℕ
words_of zero bytes = []
words_of (suc m) bytes = (get_or bytes 0 0 + 256 * get_or bytes 1 0) ∷ words_of m (drop 2 bytes)

-- ---- what accesses leave, and reads of the data port give: for the parts of a call

unfoldable pub after : List Access → Adapter → Adapter
after [] a = a
after (x ∷ xs) a = after xs (access x a).adapter

abbrev pub after_reads : ℕ → Adapter → Adapter
after_reads w a = after (replicate w (ReadWord data_port)) a

abbrev pub after_writes : List ℕ → Adapter → Adapter
after_writes vs a = after (map (WriteWord data_port) vs) a

unfoldable pub bytes_read : ℕ → Adapter → List ℕ
bytes_read zero a = []
bytes_read (suc w) a =
    (access (ReadWord data_port) a).value % 256 ∷ ((access (ReadWord data_port) a).value / 256 ∷ bytes_read w (access (ReadWord data_port) a).adapter)
