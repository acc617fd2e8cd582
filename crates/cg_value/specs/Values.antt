-- Values as plain trees, with no memory in them, and what a value of the program stands for.
use Rattle.std.specs.Prelude.{ℕ, Bool, List, [], ◌∷◌, map}
use Rattle.cg_base.specs.declared.fun.Fun.{Fun}
use Rattle.cg_base.specs.Types.{Tau, type_of}
use Rattle.cg_value.specs.declared.value.Value.{Value, fold-Value}
use Rattle.cg_value.specs.declared.value.Value.TheOpen as open'
use Rattle.cg_value.specs.declared.value.Value.TheOpen.{Value-F}

mutual
  -- a value (the paper's values; docs/LANGUAGE.md, "Values")
  pub data Val : Type 0 where
    number : ℕ → Val  -- a word, or a Bool as 0 or 1
    nothing : Val  -- unit
    function : Fun → List Tau → Val  -- a function, at its type arguments
    chosen : List ℕ → Val → Val  -- an alternative of this name, with its payload
    parts : Vals → Val  -- a record, in the order of its fields
    elements : List ℕ → Val  -- an array
    answers : List Bool → Val  -- what an allocator will still answer
    gone : Val  -- a field that is taken

  -- a list of values
  pub data Vals : Type 0 where
    none : Vals
    more : Val → Vals → Vals

-- the tree's own list, made of a list, and back
unfoldable pub to_vals : List Val → Vals
to_vals [] = none
to_vals (v ∷ vs) = more v (to_vals vs)

unfoldable pub val_list : Vals → List Val
val_list none = []
val_list (more v vs) = v ∷ val_list vs

-- one layer, with what its children stand for
abbrev pub layer : Value-F Val → Val
layer (open'.Num n) = number n
layer open'.Unit = nothing
layer (open'.Fun f types) = function f (map type_of types)
layer (open'.Variant name v) = chosen name v.value
layer (open'.Fields vs) = parts (to_vals vs)
layer (open'.Array ns) = elements ns
layer (open'.Answers bs) = answers bs
layer open'.Gone = gone

-- the value that a value of the program stands for
abbrev pub value_of : Value → Val
value_of = fold-Value Val layer
