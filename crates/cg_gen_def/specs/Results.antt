-- What the functions of the generated source give on the cell of its heap, and at which cost (docs/LANGUAGE.md, "Generator").
use Rattle.std.specs.Prelude.{ℕ, zero, suc, ◌+◌, ◌-◌, ◌*◌, ◌%◌, ◌^◌}
use Rattle.cg_value.specs.Values.{Val, more, none, number, parts}

-- the number that the last of so many functions leaves in the cell
abbrev pub number_after : ℕ → ℕ
number_after zero = 0
number_after (suc before) = (number_after before * 3 + (before + 1)) % 2 ^ 32

-- the cell after the last of so many, and what evaluation of that function costs
abbrev pub cell_after : ℕ → Val
cell_after n = parts (more (number (number_after n)) (more (number 0) none))

abbrev pub cost_of : ℕ → ℕ
cost_of n = 12 * n - 2
