-- Lists of keys with one key more.
use Rattle.std.specs.Prelude.{Bool, ◌&&◌, nat_eq, List, [], ◌∷◌, ◌++◌, if◌then◌else◌}
use Rattle.std.specs.List.{list_any}
use Rattle.cg_inst.specs.declared.keys.Key.{Key}
use Rattle.cg_inst.specs.Lists.{same_function}

-- two keys are one
abbrev pub same_key : Key → Key → Bool
same_key j k = same_function j.fun k.fun && nat_eq j.types k.types

-- keys with one more, if it isn't there
abbrev pub with_key : List Key → Key → List Key
with_key keys k = if list_any (same_key k) keys then keys else keys ++ k ∷ []
