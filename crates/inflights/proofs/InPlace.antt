-- A step as the pair of what is returned and the window that is left: what `Stored` says of the two is one equation.
--     to_stored, from_stored     a pair is the step s, and its two parts are those of s: each from the other
use mathlib.Core.Path.{◌≡◌, ap}
use Rattle.units.specs.Refusals.{Check}
use Rattle.inflights.specs.InPlace.{Stored}
use Rattle.inflights.specs.declared.Inflights.{Inflights}

abbrev pub step_with : Inflights → Check → Check × Inflights
step_with w c = (c, w)

pub to_stored : (r s : Check × Inflights) → r ≡ s → Stored r.0 r.1 s
to_stored r s e = (ap (λ (z : Check × Inflights). z.0) e, ap (λ (z : Check × Inflights). z.1) e)

pub from_stored : (w : Inflights) (c : Check) (s : Check × Inflights) → Stored c w s → step_with w c ≡ s
from_stored w c s e = λ i. step_with (e.1 i) (e.0 i)
