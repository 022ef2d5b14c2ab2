-- Log indices and terms. A reader must know: an index or a term is its number and nothing else; the two types only keep one from being handed for the other.
use Rattle.std.specs.Prelude.{ℕ, ◌^◌, ◌-◌}
use Rattle.units.specs.declared.Index.{Index}
use Rattle.units.specs.declared.Term.{Term}

-- u64::MAX, the largest number of 64 bits. 01, Majority: "An empty set gives (u64::MAX, true)"; `has_next_entries_since`: "For s = u64::MAX we answer no (added)."
abbrev pub word_max : ℕ
word_max = 2 ^ 64 - 1

-- 01, "State and stores": "Indices go up to u64::MAX - 1." `Index::LIMIT` of the source.
abbrev pub index_limit : ℕ
index_limit = 2 ^ 64 - 2

-- THE PROMISE of `Index::new`: the index that a number stands for. 01, "State and stores": "An index can't be handed where a term is wanted: the two are separate types."
abbrev pub index_of : ℕ → Index
index_of n = record { 0 = n }

-- THE PROMISE of `Term::new`: the term that a number stands for. 01, "State and stores": "the two are separate types".
abbrev pub as_term : ℕ → Term
as_term n = record { 0 = n }
