-- The longest line of a list, in numbers. A reader must know: 512 goes here and into `LINE` of the source, and nowhere else.
use Rattle.std.specs.Prelude.{ℕ}

-- Our own limit: no document names one, and no line of the lists is as long.
abbrev pub longest_line : ℕ
longest_line = 512
