-- What is asked of values, at values of any form.
use Rattle.std.specs.Prelude.{ℕ, zero, suc, Bool, true, false, List, [], Option, Some, None, get_or, slice_set}
use Rattle.std.specs.Str.{bytes_eq}
use Rattle.cg_value.specs.declared.value.Value.{Value}
use Rattle.cg_value.specs.Values.{Val, number, chosen, parts, elements, answers, gone, none, more, to_vals, val_list, value_of}

-- a value; gone, where there is none
abbrev pub maybe_value : Option Value → Val
maybe_value (Some v) = value_of v
maybe_value None = gone

-- a field by its position; of what is no record, or has no such field, that it is gone
unfoldable pub field : Val → ℕ → Val
field (parts vs) i = get_or (val_list vs) i gone
field _ i = gone

-- any value without a field: a record in which it is gone, and what is no record as it is
unfoldable pub without : Val → ℕ → Val
without (parts vs) i = parts (to_vals (slice_set (val_list vs) i gone))
without v i = v

-- a record with another value for a field; of what is no record, that it is gone
unfoldable pub with_field : Val → ℕ → Val → Val
with_field (parts vs) i w = parts (to_vals (slice_set (val_list vs) i w))
with_field _ i w = gone

abbrev pub pair : Val → Val → Val
pair v w = parts (more v (more w none))

-- an alternative's payload, and whether it is of this name
unfoldable pub payload_in : Val → Val
payload_in (chosen x v) = v
payload_in _ = gone

unfoldable pub has_name : List ℕ → Val → Bool
has_name n (chosen x v) = bytes_eq n x
has_name n _ = false

unfoldable pub number_in : Val → ℕ
number_in (number n) = n
number_in _ = zero

unfoldable pub is_true : Val → Bool
is_true (number (suc n)) = true
is_true _ = false

unfoldable pub elements_in : Val → List ℕ
elements_in (elements ns) = ns
elements_in _ = []

-- an array with another number for an element
unfoldable pub with_element : Val → ℕ → ℕ → Val
with_element (elements ns) i n = elements (slice_set ns i n)
with_element _ i n = gone

unfoldable pub answers_in : Val → List Bool
answers_in (answers bs) = bs
answers_in _ = []
