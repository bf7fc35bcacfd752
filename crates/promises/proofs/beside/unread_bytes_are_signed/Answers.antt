-- `beside::unread_bytes_are_signed` meets its contract, by the law `signed`. Assumes nothing.
use Rattle.fits.proofs.Signed.{signed}
use Rattle.promises.proofs.beside.unread_bytes_are_signed.Goals as goal

pub returns : goal.returns
returns c = signed
