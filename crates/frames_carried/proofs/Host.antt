-- By the law of a frame read whole. Assumes nothing.
use mathlib.Core.Path.{refl}
use Rattle.frames_carried.specs.Host.{HostReadsBringTheFrame}
use Rattle.frames_carried.proofs.Service.{all_read}

pub host_reads_lem : HostReadsBringTheFrame
host_reads_lem f newer a r =
    (all_read a f newer
    (record { frames = r.stored; failed = r.no_failure; read = r.none_read; active = r.active; window = r.window; wire = refl; split = refl })
    r.ended r.bytes).0
