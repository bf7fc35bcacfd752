-- The receive side with one part changed: all the rest is as it was. Assumes nothing.
use Rattle.std.specs.Prelude.{ℕ, Bool, List}
use Rattle.receive_rules.specs.declared.Receiver.{Receiver}
use Rattle.receive_rules.specs.Frame.{Frame, Rx}

abbrev pub with_on : Bool → Receiver → Receiver
with_on v r = record { on = v; failed = r.failed; early = r.early; told = r.told; threshold = r.threshold; read = r.read; wire = r.wire }

abbrev pub with_failed : Bool → Receiver → Receiver
with_failed v r = record { on = r.on; failed = v; early = r.early; told = r.told; threshold = r.threshold; read = r.read; wire = r.wire }

abbrev pub with_early : Bool → Bool → Receiver → Receiver
with_early v t r = record { on = r.on; failed = r.failed; early = v; told = t; threshold = r.threshold; read = r.read; wire = r.wire }

abbrev pub with_threshold : ℕ → Receiver → Receiver
with_threshold v r = record { on = r.on; failed = r.failed; early = r.early; told = r.told; threshold = v; read = r.read; wire = r.wire }

abbrev pub with_read : ℕ → Receiver → Receiver
with_read v r = record { on = r.on; failed = r.failed; early = r.early; told = r.told; threshold = r.threshold; read = v; wire = r.wire }

abbrev pub with_wire : ℕ → Receiver → Receiver
with_wire v r = record { on = r.on; failed = r.failed; early = r.early; told = r.told; threshold = r.threshold; read = r.read; wire = v }

abbrev pub with_receiver : Receiver → Rx → Rx
with_receiver r x = record { receiver = r; frames = x.frames }

abbrev pub with_frames : List Frame → Rx → Rx
with_frames fs x = record { receiver = x.receiver; frames = fs }
