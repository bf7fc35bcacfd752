-- What services need, on an opened card: worked examples. Assumes nothing.
use Rattle.std.specs.Prelude.{true, false, ◌∷◌, ℕ, suc, ◌+◌, replicate}
use Rattle.card_rules.specs.Adapter.{Adapter}
use Rattle.card_rules.specs.Access.{ReadWord, WriteWord}
use Rattle.card_rules.specs.Event.{success}
use Rattle.driver_rules.specs.Registers.{data_port, command_port, read_zero}
use Rattle.driver_rules.specs.Talk.{after}
use Rattle.driver_examples.specs.Ready.{on, ready, frame}
use Rattle.driver_examples.specs.Service.{sent, stored}
use Rattle.fits.specs.When.{Needs, Short, Enough}

-- It needs one more than n: n is short, and one more is enough.
pub record Past (n : ℕ) (a : Adapter) : Type 0 where
  pub needs : Needs a (suc n)
  pub is_short_is : Short n a
  pub is_enough : Enough (suc n) a

-- The host hides Adapter Failure and reads a word past a damaged frame of 60 bytes: a receive failure stands, and discards do nothing.
abbrev pub hidden : Adapter
hidden = after (WriteWord command_port (read_zero + 0xFC) ∷ replicate 31 (ReadWord data_port)) (frame 52 false ready)

pub record WhatServicesNeed : Type 0 where
  -- window 0: the Status read
  pub unfit : Past 0 on
  -- nothing pending
  pub nothing : Past 1 ready
  -- a status stands: with 4 it is not begun
  pub report : Past 4 (success sent.adapter)
  -- good frames of 60 and of 1,514 bytes
  pub good_60 : Past 32 (frame 52 true ready)
  pub good_1514 : Past 759 stored
  -- a damaged frame, then nothing
  pub damaged : Past 4 (frame 52 false ready)
  -- no budget is enough
  pub endless : (budget : ℕ) → Short budget hidden
