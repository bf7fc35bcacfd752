-- What is handed up after a service is the frame's bytes: they lie at the front of the area that their count names. Assumes nothing.
use mathlib.Core.Path.{◌≡◌, refl}
use mathlib.Core.List.{List, ◌++◌}
use Prim.Native.Nat.{ℕ}
use native.Mathlib.Omega.{arith}
use lib.ListN.{length, length-append}
use lib.Seq.{take_at}
use borrow.Author.Tests.{le-leb}
use Rattle.bits.proofs.Tests.{by_test}
use Rattle.driver_rules.specs.Areas.{is_short, in_look, in_frame}
use Rattle.driver_rules.specs.HandUp.{front, handed}

lay_front : (bytes rest : List ℕ) → front (length bytes) (bytes ++ rest) ≡ bytes
lay_front bytes rest =
    rw (le-leb (length bytes) (length (bytes ++ rest)) (simp length-append (omega arith)), take_at bytes rest (length bytes) refl)

pub handed_as : (bytes look frame : List ℕ) → handed (in_look bytes look) (in_frame bytes frame) (length bytes) ≡ bytes
unfolding in_look in_frame
handed_as bytes look frame =
    by_test (is_short (length bytes)) (λ e. rw e (lay_front bytes _)) (λ e. rw e (lay_front bytes _))
