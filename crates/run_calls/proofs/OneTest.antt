-- The card's half is its test, told and shown; the driver's half is the same on both sides. Assumes nothing.
use Rattle.bits.proofs.Tests.{both, join}
use Rattle.card_rules.specs.Sound.{sound}
use Rattle.card_rules.specs.View.{view, sound_card}
use Rattle.card_rules.proofs.Checked.{card-shown}
use Rattle.driver_rules.specs.Driver.{driver_sound}
use Rattle.run_calls.specs.Takes.{Good}
use Rattle.run_calls.specs.OneTest.{TheOneTestOfSoundness}
use Rattle.run_calls.proofs.Good.{driver_of_lem, sound_of}

pub one_test : TheOneTestOfSoundness
one_test s l m = (
  λ e.
      let g : Good s = record { ram_long = l; dir_long = m; sound = e } in
      ((sound_of s g).held, join (sound (view s.card s.ram s.dir)) (driver_sound s.driver) (sound_of s g).calm (driver_of_lem s g)),
  λ h.
      let b = both (sound (view s.card s.ram s.dir)) (driver_sound s.driver) h.1 in
      join (sound_card s.card s.ram s.dir) (driver_sound s.driver) (card-shown s.card s.ram s.dir (record { held = h.0; calm = b.0 })) b.1,
)
