-- Cites the law. Assumes nothing.
use Rattle.hex_text.proofs.Back.{round_trips}
use Rattle.hex_text.proofs.round_trip.what_is_printed_is_read_back.Goals as goal

pub returns : goal.returns
returns c = round_trips
