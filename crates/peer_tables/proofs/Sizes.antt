-- A table's array has a place for each row up to the limit, by what owning the table tells.
use mathlib.Core.Path.{◌≡◌}
use mathlib.Core.List.{List}
use mir.Val.{Val}
use lib.ListN.{length}
use denote.Laws.{Is}
use denote.Struct.Laws as LL
use Rattle.quorum.specs.Limits.{row_limit}
use Rattle.peer_tables.specs.declared.Table.{Table}
use Rattle.peer_tables.specs.contracts.Table as Ta
use Rattle.peer_tables.proofs.Table.TheLaws as Ta'

pub peers_length : (t : Table) {vs : List Val} → Is Ta.the_row t vs → length t.peers ≡ row_limit
peers_length t {vs} owned = (LL.owed Ta.the_type Ta'.the_laws t vs owned).0.1.0.1
