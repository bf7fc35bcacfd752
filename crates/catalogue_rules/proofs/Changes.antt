-- What a change answers and leaves, and a refusal before it that comes or does not.
-- Assumes nothing.
use Prim.Native.Nat.{ℕ}
use mathlib.Core.Path.{◌≡◌, sym, ap, ◌∙◌}
use mathlib.Core.Bool.{Bool, true, false}
use mathlib.Core.List.{List}
use native.Mathlib.Omega.{arith}
use lib.ListN.{length}
use Rattle.std.specs.Prelude.{Result, Ok, Err}
use Rattle.refusal.specs.declared.Refusal.{Refusal}
use Rattle.catalogue_rules.specs.Field.{Field}
use Rattle.catalogue_rules.specs.Reading.{Reading, catalogue, refused, judged}
use Rattle.catalogue_rules.specs.Edit.{Change, bytes, no, or_else, on_catalogue}
use Rattle.catalogue_rules.specs.Put.{put_at, answer_of, area_after}
use Rattle.catalogue_rules.specs.PutContracts.{Writes}
use Rattle.catalogue_rules.proofs.Chain.{put_front}

pub or_else_lem : (t : Bool) (why : Refusal) (rest : Change) → t ≡ true → or_else t why rest ≡ no why
or_else_lem t why rest e = rw e

pub or_on : (t : Bool) (why : Refusal) (rest : Change) → t ≡ false → or_else t why rest ≡ rest
or_on t why rest e = rw e

-- A file that is not read is refused, whatever the change.
pub unread : (change : List Field → Change) (r : Reading) (why : Refusal) → Err why ≡ judged r → on_catalogue r change ≡ no why
unread change (catalogue fs) why e = let z : ◌≡◌ {A = ℕ} 0 1 = cc in absurd (omega arith)
unread change (refused other) why e = let q : other ≡ why = cc in ap no q

-- Once the change is known.
pub settle : {change known : Change} {answer : Result ℕ Refusal} (area : List ℕ) {after : List ℕ} → change ≡ known → answer ≡ answer_of known → after ≡ area_after known area
    → Writes change answer area after
settle area e p q = (p ∙ ap answer_of (sym e), q ∙ ap (λ (c : Change). area_after c area) (sym e))

pub refusing : (change : Change) (why : Refusal) → change ≡ no why → (area : List ℕ) → Writes change (Err why) area area
refusing change why e area = (ap answer_of (sym e), ap (λ (c : Change). area_after c area) (sym e))

pub writing : (change : Change) (file : List ℕ) → change ≡ bytes file → (area after : List ℕ) (r : ℕ) → r ≡ length file → after ≡ put_at area 0 file → Writes change (Ok r) area after
writing change file e area after r n p = settle area e (ap Ok n) (p ∙ put_front area file)
