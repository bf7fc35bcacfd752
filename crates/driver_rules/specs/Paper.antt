-- The paper's number and values for each case of each answer. Assumes nothing.
use Rattle.std.specs.Prelude.{cond, ℕ, eqb, Result, Ok, Err, ⊤}
use Rattle.refusal.specs.declared.Refusal.{Refusal}
use Rattle.refusal.specs.Number.{number_of}
use Rattle.driver_rules.specs.declared.Item.{Item}
use Rattle.driver_rules.specs.declared.Item.TheVariants as serving

pub data Paper : Type 0 where
  opened : Paper
  ticket : ℕ → Paper
  -- service tells the accesses used, as its last value
  report : ℕ → ℕ → ℕ → Paper
  status_alone : ℕ → ℕ → Paper
  frame : ℕ → ℕ → Paper
  idle : ℕ → Paper
  short : ℕ → Paper
  -- every other refusal tells its number alone
  refused : ℕ → Paper

abbrev pub open_paper : Result ⊤ Refusal → Paper
open_paper (Ok _) = opened
open_paper (Err why) = refused (number_of why)

abbrev pub send_paper : Result ℕ Refusal → Paper
send_paper (Ok n) = ticket n
send_paper (Err why) = refused (number_of why)

abbrev pub service_paper : Result Item Refusal → ℕ → Paper
service_paper (Ok (serving.Reported t s)) used = report t s used
service_paper (Ok (serving.Status s)) used = status_alone s used
service_paper (Ok (serving.Frame n)) used = frame n used
service_paper (Ok serving.Idle) used = idle used
service_paper (Err why) used = cond (eqb (number_of why) 6) (short used) (refused (number_of why))
