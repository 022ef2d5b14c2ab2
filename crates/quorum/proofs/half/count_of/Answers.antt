-- What is counted is the library's count of all the words, which is ours.
use Rattle.std.proofs.Common.{◌≡◌, ℕ, ◌+◌, cond, eqb, Bool, true, false, List, refl, sym, ap, ◌∙◌, arith}
use Rattle.std.proofs.Math.Seq.{take_all}
use Rattle.std.specs.List.{count_by}
use Rattle.std.proofs.lemmas.List.Recursion.{is_count_by}
use Rattle.rules.specs.Count.{one_more_if, count}
use Rattle.quorum.proofs.half.count_of.Goals as goal

step : (b : Bool) (n : ℕ) → one_more_if b n ≡ cond b (1 + n) n
step true n = omega arith
step false n = refl

counted : (p : ℕ → Bool) (xs : List ℕ) → count p xs ≡ count_by p xs
unfolding count
counted p xs = is_count_by (count p) p refl (λ x ys. step (p x) (count p ys)) xs

pub returns : goal.returns
returns c =
    let words = c.args.words.now in
    c.loop-w.invariant ∙ ap (count_by (eqb c.args.word)) (take_all c.loop-w.w-index words (omega arith)) ∙ sym (counted (eqb c.args.word) words)
