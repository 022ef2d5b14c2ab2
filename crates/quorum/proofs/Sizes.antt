-- How long a struct's arrays are, from what owning the struct tells (`c.good`); and so that a count within the limit names the front of one.
use Prim.Native.Nat.{ℕ, ◌≤◌}
use mathlib.Core.Path.{◌≡◌, ◌∙◌, sym}
use mathlib.Core.List.{List, map}
use mir.Val.{Val}
use lib.ListN.{length, length-map}
use denote.RattleType.{RattleType}
use denote.Array.{Array}
use denote.Laws.{Is}
use denote.Struct.Laws as LL
use Rattle.quorum.specs.Limits.{voter_limit, row_limit, id_limit}
use Rattle.quorum.specs.declared.majority.Voters.{Voters}
use Rattle.quorum.specs.declared.rows.Rows.{Rows}
use Rattle.quorum.specs.declared.joint.Ids.{Ids}
use Rattle.quorum.specs.declared.joint.JointConfig.{JointConfig}
use Rattle.quorum.proofs.Front.{Front, front}
use Rattle.quorum.specs.contracts.majority.Voters as Vo
use Rattle.quorum.proofs.majority.Voters.TheLaws as Vo'
use Rattle.quorum.specs.contracts.joint.Ids as Id
use Rattle.quorum.proofs.joint.Ids.TheLaws as Id'
use Rattle.quorum.specs.contracts.joint.JointConfig as Jo
use Rattle.quorum.proofs.joint.JointConfig.TheLaws as Jo'
use Rattle.quorum.specs.contracts.rows.Rows as Ro
use Rattle.quorum.proofs.rows.Rows.TheLaws as Ro'

-- The array of a struct's field, whose elements the struct has by `into`, is as long as its type says.
pub field_length : (R : RattleType) {A : Type 0} (into : A → R.Denot) (words : List A) {n : ℕ} {vs : List Val} → Is (Array R n) (map into words) vs → length words ≡ n
field_length R into words is = sym (length-map words into) ∙ is.1.0.1

module _ (v : Voters) {vs : List Val} (owned : Is Vo.the_row v vs) where
  pub voters_length : length v.ids ≡ voter_limit
  voters_length = (LL.owed Vo.the_type Vo'.the_laws v vs owned).0.1.0.1

  pub voters_front : v.count ≤ voter_limit → Front v.ids v.count
  voters_front = front v.ids v.count voters_length

-- of both halves
module _ (c : JointConfig) {vs : List Val} (owned : Is Jo.the_row c vs) where
  pub incoming_front : c.incoming.count ≤ voter_limit → Front c.incoming.ids c.incoming.count
  incoming_front = voters_front c.incoming (LL.owed Jo.the_type Jo'.the_laws c vs owned).0

  pub outgoing_front : c.outgoing.count ≤ voter_limit → Front c.outgoing.ids c.outgoing.count
  outgoing_front = voters_front c.outgoing (LL.owed Jo.the_type Jo'.the_laws c vs owned).1.0

module _ (r : Rows) {vs : List Val} (owned : Is Ro.the_row r vs) where
  pub row_ids_length : length r.ids ≡ row_limit
  row_ids_length = (LL.owed Ro.the_type Ro'.the_laws r vs owned).0.1.0.1

  pub row_values_length : length r.values ≡ row_limit
  row_values_length = (LL.owed Ro.the_type Ro'.the_laws r vs owned).1.0.1.0.1

pub listed_length : (s : Ids) {vs : List Val} → Is Id.the_row s vs → length s.ids ≡ id_limit
listed_length s {vs} owned = (LL.owed Id.the_type Id'.the_laws s vs owned).0.1.0.1
