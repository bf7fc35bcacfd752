-- The sizes that C is told are those of the layouts by which the structs are proved. Assumes nothing.
use mathlib.Core.Path.{◌≡◌, refl}
use prog.Memory.{size}
use Rattle.card_rules.proofs.Card.TheLaws as card_laws
use Rattle.port_rules.proofs.Bus.TheLaws as bus_laws
use Rattle.driver_rules.proofs.Driver.TheLaws as driver_laws
use Rattle.abi.specs.Sizes as says

pub card-laid-out : says.card ≡ size card_laws.mir
card-laid-out = refl

pub driver-laid-out : says.driver ≡ size driver_laws.mir
driver-laid-out = refl

pub bus-laid-out : says.bus ≡ size bus_laws.mir
bus-laid-out = refl
