-- Request 2: a least threshold moves no RX Early. The rule with it beside the rule before it, over runs. Assumes nothing.
use Rattle.std.specs.Prelude.{◌≡◌, Bool, true, false, ◌&&◌, List, ◌%◌, eqb}
use Rattle.card_rules.specs.Adapter.{Adapter}
use Rattle.card_rules.specs.Status.{status_word}
use Rattle.card_rules.specs.Line.{interrupt_line}
use Rattle.card_rules.specs.Command.{early_threshold}
use Rattle.card_rules.specs.Access.{Access, ReadWord, ReadByte, WriteWord, WriteByte, access}
use Rattle.runs.specs.Run.{Bench, sound_bench, with_adapter, Event, Earlier, said, permitted, since}
use Rattle.runs.specs.AsGiven.{threshold_at, given_access, given_said, given_since}

-- The card that holds the larger of 8 and this card's threshold, and differs from it in that register alone.
abbrev pub raised : Adapter → Adapter
raised a = threshold_at (early_threshold a.rx.receiver.threshold) a

abbrev pub raised_bench : Bench → Bench
raised_bench b = with_adapter (raised b.adapter) b

-- a read of that register, at an active card: the word at 06h of window 5, or its low byte (the high byte is the same)
unfoldable pub reads_early : Access → Adapter → Bool
reads_early (ReadWord o) a = eqb o 0x06 && (a.id.active && eqb a.select.window 5)
reads_early (ReadByte o) a = eqb o 0x06 && (a.id.active && eqb a.select.window 5)
reads_early (WriteWord o v) a = false
reads_early (WriteByte o v) a = false

-- A moment of two runs: x by the rule, y by the rule before.
pub record Alike (x y : Bench) : Type 0 where
  -- they differ in that register alone
  pub register : x ≡ raised_bench y
  -- so the Status words are the same, and the interrupt line
  pub status : status_word x.adapter ≡ status_word y.adapter
  pub line : interrupt_line x.adapter ≡ interrupt_line y.adapter
  -- whatever comes next is answered the same: an event, a call of the driver, an access of the host, taken or refused 12
  pub answers : (e : Event) → said e x ≡ given_said e y
  pub permits : (z : Access) → permitted z x.adapter ≡ permitted z y.adapter
  pub values : (z : Access) → reads_early z y.adapter ≡ false → (access z x.adapter).value ≡ (given_access z y.adapter).value
  -- but for that register, which reads the larger of 8 and what it read; and its low byte, that of the word
  pub reads_back : y.adapter.id.active ≡ true → y.adapter.select.window ≡ 5 →
      ((access (ReadWord 0x06) x.adapter).value ≡ early_threshold (given_access (ReadWord 0x06) y.adapter).value)
      × ((access (ReadByte 0x06) x.adapter).value ≡ early_threshold (given_access (ReadWord 0x06) y.adapter).value % 256)

-- At every moment of every run: from one sound card; and from two that differ in that register alone, the one with what was given, the other, which is sound, with the larger of 8 and it.
pub record RxEarlyComesAsBefore : Type 0 where
  pub of_one_card : (b : Bench) → sound_bench b ≡ true → (hs : List Earlier) → Alike (since hs b) (given_since hs b)
  pub of_two_cards : (b : Bench) → sound_bench (raised_bench b) ≡ true → (hs : List Earlier) → Alike (since hs (raised_bench b)) (given_since hs b)
