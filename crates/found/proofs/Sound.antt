-- Every access keeps the soundness of all cards, since it steps each by one step that keeps it.
-- Assumes nothing.
use Prim.Native.Nat.{ℕ, ◌<◌}
use mathlib.Core.Path.{◌≡◌, refl}
use mathlib.Core.Bool.{Bool, true, false, ◌&&◌, false≢true}
use mathlib.Core.List.{List, [], ◌∷◌, map}
use Rattle.port_rules.specs.declared.IdState.{IdState}
use Rattle.port_rules.specs.Card.{id_write, id_after_read}
use Rattle.port_rules.specs.Sound.{id_sound}
use Rattle.port_rules.proofs.Keep.{every_step_keeps_soundness_lem}
use Rattle.port_rules.specs.Port.{Access, write, read, value, after, Talk, done, ask, run, port_write, port_bit, port_read}
use Rattle.port_rules.specs.Calls.{all_sound}
use Rattle.found.specs.Theorems.{EveryAccessKeepsSoundness}

each : (f : IdState → IdState) → ((s : IdState) → id_sound s ≡ true → id_sound (f s) ≡ true) → (cs : List IdState) → all_sound cs ≡ true → all_sound (map f cs) ≡ true
unfolding all_sound
each f h [] e = refl
each f h (s ∷ cs) e = go (id_sound s) refl e (each f h cs)
  where
    go : (b : Bool) → id_sound s ≡ b → b && all_sound cs ≡ true → (all_sound cs ≡ true → all_sound (map f cs) ≡ true) → id_sound (f s) && all_sound (map f cs) ≡ true
    go true q e rest = rw (h s q, rest e)
    go false q e rest = absurd (false≢true e)

accesses : (p : ℕ) (a : Access) (cs : List IdState) → p < 16 → all_sound cs ≡ true → all_sound (after p a cs) ≡ true
unfolding after port_write port_read
accesses p (write x) cs h e = each (λ s. id_write s p x) (λ s q. every_step_keeps_soundness_lem.writes s p x h q) cs e
accesses p read cs h e = each (λ s. id_after_read s p (port_bit p cs)) (λ s q. every_step_keeps_soundness_lem.reads s p (port_bit p cs) q) cs e

talks : (p : ℕ) (t : Talk (List ℕ)) (cs : List IdState) → p < 16 → all_sound cs ≡ true → all_sound (run p t cs).cards ≡ true
unfolding run
talks p (done a) cs h e = e
talks p (ask a k) cs h e = talks p (k (value p a cs)) (after p a cs) h (accesses p a cs h e)

pub keeps : EveryAccessKeepsSoundness
keeps = record { accesses = accesses; talks = talks }
