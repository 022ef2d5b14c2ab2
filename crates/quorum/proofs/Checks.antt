-- Refusal 12: its test within the limit and over it, and what a check of it that was passed tells.
use Prim.Native.Nat.{ℕ, ◌≤◌, ◌<◌}
use mathlib.Core.Path.{◌≡◌, sym, ap, ◌∙◌}
use mathlib.Core.Bool.{true, and-eq-true_iff}
use mathlib.Core.Logic.{⊎_elim}
use mathlib.Core.List.{List}
use lib.Dec.{leb}
use lib.ListN.{length, take}
use mir.Val.{Val}
use denote.Laws.{Is}
use borrow.Author.Tests.{leb-true, le-leb, lt-leb}
use Rattle.std.specs.Prelude.{Err}
use Rattle.units.specs.Refusals.{both_checks, unless, Answer, Check, fine}
use Rattle.units.specs.declared.refusal.Refusal.TheVariants as refusal
use Rattle.units.proofs.Checks.{holds, both_fine, same_unless}
use Rattle.units.proofs.Numbers.{below_or_not}
use Rattle.quorum.specs.Limits.{voter_limit, row_limit}
use Rattle.quorum.specs.Ids.{distinct, few_distinct, fine_if, check_of}
use Rattle.quorum.specs.Rows.{ids_of, plain_check}
use Rattle.quorum.specs.Voters.{voters_of, voters_check, set_of}
use Rattle.quorum.specs.Joint.{config_check}
use Rattle.quorum.specs.declared.majority.Voters.{Voters}
use Rattle.quorum.specs.declared.rows.Rows.{Rows}
use Rattle.quorum.specs.declared.joint.JointConfig.{JointConfig}
use Rattle.quorum.proofs.Front.{Front, front}
use Rattle.quorum.proofs.Sizes.{row_ids_length, row_values_length}
use Rattle.quorum.specs.contracts.rows.Rows as Ro
use Rattle.quorum.proofs.Padded.{take-padded}

-- Over the limit the ids don't matter; within it they alone do.
module _ (count limit : ℕ) (ids : List ℕ) where
  pub over_limit : limit < count → fine_if (few_distinct count limit ids) ≡ Err refusal.BrokenSet
  over_limit h = rw (lt-leb count limit h)

  pub in_limit : count ≤ limit → fine_if (few_distinct count limit ids) ≡ fine_if (distinct ids)
  in_limit h = rw (le-leb count limit h)

  -- A check that was passed: a count within the limit, and each id once.
  module _ (passed : fine_if (few_distinct count limit ids) ≡ fine) where
    pub within : count ≤ limit
    within = leb-true count limit ((and-eq-true_iff (leb count limit) (distinct ids)).0 (holds _ _ passed)).0

    pub each_once : distinct ids ≡ true
    each_once = ((and-eq-true_iff (leb count limit) (distinct ids)).0 (holds _ _ passed)).1

-- The check of an array that is as long as the limit.
pub checked_by : (ids : List ℕ) (count : ℕ) {limit : ℕ} → length ids ≡ limit → check_of ids count ≡ fine_if (few_distinct count limit (take count ids))
checked_by ids count sized = ap (λ (limit : ℕ). fine_if (few_distinct count limit (take count ids))) sized

-- Lists that are the same within the limit are checked alike.
pub same_check : (count limit : ℕ) (ids others : List ℕ) → (count ≤ limit → ids ≡ others) → fine_if (few_distinct count limit ids) ≡ fine_if (few_distinct count limit others)
same_check count limit ids others same =
    ⊎_elim (λ h. over_limit count limit ids h ∙ sym (over_limit count limit others h)) (λ h. ap (λ (xs : List ℕ). fine_if (few_distinct count limit xs)) (same h)) (below_or_not limit count)

-- After a check k: rows that are checked alike, and what is said alike where all is fine, are answered alike.
pub answered_alike : {A : Type 0} (k : Check) {rows others : Check} {x y : Answer A} → rows ≡ others → (both_checks k others ≡ fine → x ≡ y) → unless (both_checks k rows) x ≡ unless (both_checks k others) y
answered_alike k {others = others} {x = x} alike same = ap (λ (r : Check). unless (both_checks k r) x) alike ∙ same_unless (both_checks k others) same

pub voters_within : (v : Voters) → voters_check v ≡ fine → v.count ≤ voter_limit
voters_within v e = within v.count voter_limit (voters_of v) e

-- of both halves
pub incoming_within : (c : JointConfig) → config_check c ≡ fine → c.incoming.count ≤ voter_limit
incoming_within c e = voters_within c.incoming ((both_fine (voters_check c.incoming) (voters_check c.outgoing)).0 e).0

pub outgoing_within : (c : JointConfig) → config_check c ≡ fine → c.outgoing.count ≤ voter_limit
outgoing_within c e = voters_within c.outgoing ((both_fine (voters_check c.incoming) (voters_check c.outgoing)).0 e).1

-- A question over gathered rows r whose check is passed: k is the check of its voters, and the rows are owned.
pub record Passed (k : Check) (r : Rows) : Type 0 where
  pub fine : both_checks k (plain_check r) ≡ fine
  pub words : List Val
  pub owned : Is Ro.the_row r words

pub passes : {k told : Check} {r : Rows} {vs : List Val} → told ≡ both_checks k (plain_check r) → told ≡ fine → Is Ro.the_row r vs → Passed k r
passes {vs = vs} made fine owned = record { fine = sym made ∙ fine; words = vs; owned = owned }

module _ {k : Check} {r : Rows} (p : Passed k r) where
  pub voters_fine : k ≡ fine
  voters_fine = ((both_fine k (plain_check r)).0 p.fine).0

  few : r.count ≤ row_limit
  few = within r.count row_limit (ids_of r) ((both_fine k (plain_check r)).0 p.fine).1

  -- the rows' arrays hold what they count
  pub ids_front : Front r.ids r.count
  ids_front = front r.ids r.count (row_ids_length r p.owned) few

  pub values_front : Front r.values r.count
  values_front = front r.values r.count (row_values_length r p.owned) few

-- A set of ids is checked as the ids are.
pub set_check_lem : (ids : List ℕ) → voters_check (set_of ids) ≡ fine_if (few_distinct (length ids) voter_limit ids)
set_check_lem ids = same_check (length ids) voter_limit (voters_of (set_of ids)) ids (take-padded voter_limit ids)
