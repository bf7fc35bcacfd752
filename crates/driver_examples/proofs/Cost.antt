-- What a good frame costs: the words are read one by one, and the rest is one access each. Assumes nothing.
use Prim.Native.Nat.{◌+◌}
use mathlib.Core.Path.{refl}
use native.Mathlib.Omega.{arith}
use lib.ListN.{length-append, length-replicate}
use borrow.Author.Tests.{le-ltb}
use Rattle.driver_rules.specs.Registers.{length_in}
use Rattle.driver_rules.specs.Talk.{run}
use Rattle.driver_rules.proofs.Runs.{reads_law}
use Rattle.driver_rules.specs.Items.{words_in, fetch_talk}
use Rattle.driver_rules.specs.Service.{look_talk}
use Rattle.driver_examples.specs.Service.{WhatAGoodFrameCosts}

pub frame-cost : WhatAGoodFrameCosts
unfolding run look_talk fetch_talk
frame-cost =
    record {
      of_any =
          λ left d s s₁ s₂ v rx e₁ e₂ fit none some good enough.
          rw (e₁, fit, none, some, e₂, good, le-ltb left (words_in (length_in rx) + 1) enough, reads_law)
          (simp (length-append, length-replicate) (omega arith));
      of_60 = refl;
      of_1514 = refl;
    }
