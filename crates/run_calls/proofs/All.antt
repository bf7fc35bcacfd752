-- Each call takes its event's step, and so do any calls one after the other. Assumes nothing.
use mathlib.Core.Path.{refl, ap, ◌∙◌}
use mathlib.Core.List.{List, ◌++◌}
use Rattle.driver_rules.specs.Driver.{never_opened}
use Rattle.driver_rules.specs.Calls.{sound_state}
use Rattle.runs.specs.Run.{Event, after, sayings, Earlier, since, before, Said}
use Rattle.run_calls.specs.Takes.{State, Good, Called, Calls, CalledBefore, CallsBefore, Takes, TakesBefore, TheCallsTakeTheSteps}
use Rattle.run_calls.specs.Takes as takes
use Rattle.run_calls.proofs.Good.{fine, good_of, Stepping, Before}
use Rattle.run_calls.proofs.Card.{wire-starts, wire_brings, wire-ends, collides, succeeds, reads_word, reads_byte, writes-word, writes_byte, seats_written, seats_read}
use Rattle.run_calls.proofs.Driver.{open_steps, send_steps, service_steps}

pub one : (s s' : State) (e : Event) (says : List Said) → Good s → Called s e s' says → Stepping e s s' says
one s s' e says g (takes.wire_start_call first eight r ram dir h) = wire-starts s g first eight r ram dir h
one s s' e says g (takes.wire_byte_call v r ram dir h) = wire_brings s g v r ram dir h
one s s' e says g (takes.wire_end_call check alignment r ram dir h) = wire-ends s g check alignment r ram dir h
one s s' e says g (takes.success out out' r ram dir h area) = succeeds s g out out' r ram dir h area
one s s' e says g (takes.collisions r ram dir h) = collides s g r ram dir h
one s s' e says g (takes.«open» w₀ w₁ w₂ r ram dir h) = open_steps s g w₀ w₁ w₂ (sound_state s.card s.ram s.dir s.driver) r ram dir g.sound h
one s s' e says g (takes.send packet r ram dir h) = send_steps s g packet (sound_state s.card s.ram s.dir s.driver) r ram dir g.sound h
one s s' e says g (takes.service budget x x' r ram dir h) = service_steps s g budget x x' (sound_state s.card s.ram s.dir s.driver) r ram dir g.sound h

any : (es : List Event) (s s' : State) (says : List Said) → Good s → Calls s es s' says → Takes es s s' says
unfolding after sayings
any es s s' says g (takes.none u) = record { leaves = refl; answers = refl; good = g }
any es s s'' says g (takes.then u s' v e rest first more c cs) =
    let p = one s s' e first g c in
    let q = any rest s' s'' more p.good cs in
    record {
      leaves = q.leaves ∙ ap (after rest) p.leaves;
      answers = λ i. p.answers i ++ (q.answers ∙ ap (sayings rest) p.leaves) i;
      good = q.good;
    }

one-before : (s s' : State) (h : Earlier) → Good s → CalledBefore s h s' → Before h s s'
unfolding before
one-before s s' h g (takes.read_word o r k) = reads_word s g o r k
one-before s s' h g (takes.read_byte o r k) = reads_byte s g o r k
one-before s s' h g (takes.write_word o v r ram dir k) = writes-word s g o v r ram dir k
one-before s s' h g (takes.write_byte o v r ram dir k) = writes_byte s g o v r ram dir k
one-before s s' h g (takes.seat_written p small byte r k) = seats_written s g p small byte r k
one-before s s' h g (takes.seat_read p small bus r k) = seats_read s g p small bus r k
one-before s s' h g (takes.later e t says c) = let q = one s s' e says g c in record { leaves = q.leaves; good = q.good }

any-before : (hs : List Earlier) (s s' : State) → Good s → CallsBefore s hs s' → TakesBefore hs s s'
unfolding since
any-before hs s s' g (takes.none_before u) = record { leaves = refl; good = g }
any-before hs s s'' g (takes.then_before u s' v h rest c cs) =
    let p = one-before s s' h g c in
    let q = any-before rest s' s'' p.good cs in
    record { leaves = q.leaves ∙ ap (since rest) p.leaves; good = q.good }

pub take_the_steps : TheCallsTakeTheSteps
take_the_steps =
    record {
      at_power_on_is = λ words ram dir c l m k.
          let p = k ram dir l m in
          ((λ i. record { adapter = p.shows i; driver = never_opened }), good_of c ram dir never_opened (fine c ram dir p.sound) refl);
      any_calls = any;
      any_calls_before = any-before;
    }
