-- `Text::put_places` ends, since the number of places falls.
use Rattle.hex_text.proofs.printing.Text.+put_places.Given as goal

abbrev pub decreases-put_places : goal.decreases-put_places
decreases-put_places l = l.k
