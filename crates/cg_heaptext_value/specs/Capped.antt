-- Values as they are given: a number of any size as at most 2^64 - 1.
use Rattle.std.specs.Prelude.{map}
use Rattle.cg_heaptext_def.specs.Small.{capped_number}
use Rattle.cg_value.specs.Values.{Val, number, nothing, function, chosen, parts, elements, answers, gone, Vals, none, more}

-- a value in which each number, of words and of elements, is given so
abbrev mutual
  pub capped_value : Val → Val
  capped_value (number n) = number (capped_number n)
  capped_value nothing = nothing
  capped_value (function f ts) = function f ts
  capped_value (chosen x v) = chosen x (capped_value v)
  capped_value (parts vs) = parts (capped_values vs)
  capped_value (elements ns) = elements (map capped_number ns)
  capped_value (answers bs) = answers bs
  capped_value gone = gone

  pub capped_values : Vals → Vals
  capped_values none = none
  capped_values (more v vs) = more (capped_value v) (capped_values vs)
