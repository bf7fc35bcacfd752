-- `catalogue_text::card_lines` is safe and ends: each whole field lies in the file. The measure is what is left of it.
use Rattle.std.proofs.Common.{length, ◌-◌}
use Rattle.catalogue_text.proofs.card_lines.Given as goal

abbrev pub decreases-loop-field : goal.decreases-loop-field
decreases-loop-field l = length l.file - l.at
