-- The calls take the steps, and the steps carry the sends. Assumes nothing.
use mathlib.Core.Path.{ap, sym, ◌∙◌, subst⁻¹}
use mathlib.Core.List.{◌++◌, map}
use Rattle.transmit_rules.specs.Leave as leave
use Rattle.sends_carried.specs.Packets.{packets, Clear, gone, on_wire}
use Rattle.sends_carried.proofs.Carried.{carried}
use Rattle.run_calls.specs.Takes.{seen}
use Rattle.run_calls.proofs.All.{take_the_steps}
use Rattle.over_calls.specs.Sends.{SendsOverCalls}

pub sends_over_calls_lem : SendsOverCalls
sends_over_calls_lem es s t says g clear bytes calls =
    let p = take_the_steps.any_calls es s t says g calls in
    let c = carried es (seen s) bytes clear in
    record {
      in_order = c.in_order ∙ ap (λ b. map (λ x. x.packet) (gone es (seen s)) ++ packets b) (sym p.leaves);
      on_wire_is = ap on_wire p.answers ∙ c.on_wire_is;
      byte_for_byte = λ none all. (λ i. on_wire (p.answers i) ++ map leave.told (packets (p.leaves i))) ∙ c.byte_for_byte none all;
      good = p.good;
      clear = subst⁻¹ Clear p.leaves c.clear;
    }
