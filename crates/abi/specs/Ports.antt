-- Several cards on one ID port: some result x meets the contract of the public call, and r is x in numbers. That contract determines x. Assumes nothing.
use Rattle.std.specs.Prelude.{◌≡◌, ℕ}
use Rattle.port_rules.specs.declared.Bus.{Bus}
use Rattle.port_rules.specs.declared.AfterSearch.{AfterSearch}
use Rattle.port_rules.specs.declared.After.{After}
use Rattle.port_rules.specs.PortContracts as contract
use Rattle.codes.specs.declared.ports.BusFound.{BusFound}
use Rattle.codes.specs.declared.ports.BusDone.{BusDone}
use Rattle.codes.specs.Codes.{coded_found, coded_activated}

abbrev pub Finds : Bus → ℕ → BusFound → Type 0
Finds b port r = (x : AfterSearch) × ((r ≡ coded_found x) × contract.FindCards b port x)

abbrev pub Activates : Bus → ℕ → ℕ → ℕ → BusDone → Type 0
Activates b port tag base r = (x : After ℕ) × ((r ≡ coded_activated x) × contract.ActivateCard b port tag base x)
