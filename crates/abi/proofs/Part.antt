-- Area and length tell the part that is handed up: it is the front of its area, so that its length gives its bytes. Assumes nothing.
use mathlib.Core.Path.{◌≡◌, refl}
use mathlib.Core.Bool.{true, false}
use mathlib.Core.List.{List}
use Prim.Native.Nat.{ℕ}
use lib.ListN.{length, take}
use lib.Seq.{length-take-le}
use lib.Dec.{leb}
use borrow.Author.Tests.{leb-true}
use denote.Ref.{Bor}
use Rattle.bits.proofs.Tests.{by_test}
use Rattle.driver_rules.specs.Areas.{is_short}
use Rattle.driver_rules.specs.HandUp as up
use Rattle.codes.specs.declared.drivers.HandedUp.{HandedUp}
use Rattle.codes.specs.Codes.{coded_part}
use Rattle.abi.specs.Drivers.{HandsUp}

front-taken : (n : ℕ) (bytes : List ℕ) → up.front n bytes ≡ take (length (up.front n bytes)) bytes
front-taken n bytes =
    by_test (leb n (length bytes)) (λ e. rw (e, length-take-le n bytes (leb-true n (length bytes) e)) refl) (λ e. rw e refl)

module _ (look frame x : Bor (List ℕ)) (n : ℕ) (m : up.HandsUp look frame n x) where
  in_look_lem : is_short n ≡ true → HandsUp look frame n (coded_part n (length x.now))
  in_look_lem s =
      let e : x.now ≡ up.front n look.now = rw s at m.0 in
      record { part = x; meets = m; told = refl; bytes = rw (s, e) (front-taken n look.now); place = rw s (rw s at m.1) }

  in_frame_lem : is_short n ≡ false → HandsUp look frame n (coded_part n (length x.now))
  in_frame_lem s =
      let e : x.now ≡ up.front n frame.now = rw s at m.0 in
      record { part = x; meets = m; told = refl; bytes = rw (s, e) (front-taken n frame.now); place = rw s (rw s at m.1) }

  pub lies : (r : HandedUp) → r ≡ coded_part n (length x.now) → HandsUp look frame n r
  lies r e = rw e (by_test (is_short n) in_look_lem in_frame_lem)
