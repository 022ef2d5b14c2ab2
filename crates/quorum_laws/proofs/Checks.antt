-- Refusal 12: there is no other number to refuse by, and an answer refuses exactly if its check does.
use mathlib.Core.Path.{◌≡◌, refl, sym, ap, ◌∙◌}
use mathlib.Core.Bool.{true}
use mathlib.Core.List.{List, map}
use mathlib.Core.Logic.{◌↔◌}
use lib.ListN.{length}
use Rattle.std.specs.Prelude.{Ok, Err}
use Rattle.units.specs.Refusals.{both_checks, unless, Check, fine}
use Rattle.units.specs.declared.refusal.Refusal.{Refusal}
use Rattle.units.specs.declared.refusal.Refusal.TheVariants as refusal
use Rattle.units.proofs.Checks.{refused_not_fine, Refuses, rule_refuses, both_refuse, handed_over}
use Rattle.quorum.proofs.Checks.{each_once}
use Rattle.quorum.specs.Ids.{distinct, few_distinct}
use Rattle.quorum.specs.Limits.{voter_limit, row_limit}
use Rattle.quorum.specs.Voters.{voters_of, voters_check}
use Rattle.quorum.specs.Rows.{id_of, rows_check}
use Rattle.quorum.specs.Joint.{config_check}
use Rattle.quorum.specs.declared.majority.Voters.{Voters}
use Rattle.quorum.specs.declared.joint.JointConfig.{JointConfig}
use Rattle.quorum.specs.declared.rows.Peer.{Peer}

-- Voters and rows that were checked: each id once.
pub distinct_voters : (v : Voters) → voters_check v ≡ fine → distinct (voters_of v) ≡ true
distinct_voters v = each_once v.count voter_limit (voters_of v)

pub distinct_rows : (peers : List Peer) → rows_check peers ≡ fine → distinct (map id_of peers) ≡ true
distinct_rows peers = each_once (length peers) row_limit (map id_of peers)

-- A check that knows no other number than 12.
abbrev pub OnlyTwelve : Check → Type 0
OnlyTwelve = Refuses (λ n. n ≡ refusal.BrokenSet)

pub voters_twelve : (v : Voters) → OnlyTwelve (voters_check v)
voters_twelve v = rule_refuses _ (few_distinct v.count voter_limit (voters_of v)) refl

pub config_twelve : (c : JointConfig) → OnlyTwelve (config_check c)
config_twelve c = both_refuse _ (voters_check c.incoming) (voters_twelve c.incoming) (voters_twelve c.outgoing)

-- The check of a set, or of a configuration, and then of the rows: what every quorum question asks first.
pub with_rows_twelve : (k : Check) (peers : List Peer) → OnlyTwelve k → OnlyTwelve (both_checks k (rows_check peers))
with_rows_twelve k peers h = both_refuse _ k h (rule_refuses _ (few_distinct (length peers) row_limit (map id_of peers)) refl)

-- A check that refuses by no number is fine.
pub else_fine : (k : Check) → Refuses (λ n. ⊥) k → k ≡ fine
else_fine (Ok _) h = refl
else_fine (Err n) h = absurd (h n refl)

-- An answer by such a check refuses exactly if the check is not fine, and then by 12. Said once, for every type of answer.
module _ {A : Type 0} (said : A) where
  hands_on : (k : Check) → OnlyTwelve k → ¬ (k ≡ fine) → unless k (Ok said) ≡ Err refusal.BrokenSet
  hands_on (Ok _) twelve broken = absurd (broken refl)
  hands_on (Err m) twelve broken = ap Err (twelve m refl)

  pub refused_by_twelve : (k : Check) → OnlyTwelve k → (n : Refusal) → (unless k (Ok said) ≡ Err n) ↔ ((¬ (k ≡ fine)) × (n ≡ refusal.BrokenSet))
  refused_by_twelve k twelve n = (
    (λ e. let handed = handed_over k said e in (refused_not_fine handed, twelve n handed)),
    (λ e. hands_on k twelve e.0 ∙ ap Err (sym e.1)),
  )
