-- The library's `position` finds what the promise names; `unwrap_or` says the length where it finds none.
use Rattle.std.proofs.Common.{◌≡◌, ℕ, Option, eqb, position, length, ap, ◌∙◌, rules}
use Rattle.std.specs.Option.{unwrap_or}
use Rattle.std.proofs.lemmas.Iterator.{YieldsList-from_slice}
use Rattle.std.proofs.lemmas.Iterator.Search.{position_from_yields_List}
use borrow.Author.Tests.{tests}
use Rattle.quorum.proofs.IdLaws.{position_or_length}
use Rattle.quorum.proofs.ids.position.Goals as goal

pub returns : goal.returns
returns c =
    let found : c.position.result ≡ position (λ x. eqb x c.args.id) c.args.ids.now =
    position_from_yields_List (λ x. eqb x c.args.id) _ _ _ c.position.ensures.ran (YieldsList-from_slice c.args.ids.now cc) (λ x b q k. search (rules, tests)) in
    c.unwrap_or.ensures ∙ ap (λ (o : Option ℕ). unwrap_or o (length c.args.ids.now)) found ∙ position_or_length c.args.id c.args.ids.now
