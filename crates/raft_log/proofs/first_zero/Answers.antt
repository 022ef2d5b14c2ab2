-- `first_zero` meets its contract: the library's search over the range is the one search.
use Rattle.std.proofs.Common.{◌∙◌, rules, tests, arith}
use Rattle.std.proofs.lemmas.Iterator.{first_from_Range}
use Rattle.raft_log.specs.Words.{store_term, zero_at}
use Rattle.raft_log.proofs.Searching.{first_in_range}
use Rattle.raft_log.proofs.first_zero.Goals as goal

pub returns : goal.returns
returns c =
    c.unwrap_or.ensures
    ∙ first_in_range (zero_at (store_term c.args.store.now)) _ _
    (first_from_Range _ _ _ _ _ _ c.find.ensures.ran
    (λ x q k. grind (arith, tests))
    (λ x q k. (search rules, grind (arith, tests))))
