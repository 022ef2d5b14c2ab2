-- The calls in place. A reader must know: they store the window that the call by value answers, or leave the window as it was and return the refusal.
use Rattle.std.specs.Prelude.{◌≡◌, Ok, Err}
use Rattle.inflights.specs.declared.Inflights.{Inflights}
use Rattle.units.specs.Refusals.{Answer, Check, fine}

-- What is returned, and the window that an answer leaves of w. 01, "Where each language form goes": thin calls "store back what the by-value core returns".
abbrev pub step_of : Inflights → Answer Inflights → Check × Inflights
step_of w (Ok v) = (fine, v)
step_of w (Err n) = (Err n, w)

-- What is returned, r, and the window v that is left, are the step's: the promise of the calls of `in_place`. 01: "the window's state is changed in place".
abbrev pub Stored : Check → Inflights → Check × Inflights → Type 0
Stored r v s = (r ≡ s.0) × (v ≡ s.1)
