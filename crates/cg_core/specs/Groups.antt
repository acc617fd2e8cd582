-- The forms of terms in groups, by which functions go down them.
use Rattle.std.specs.Prelude.{Bool, true, false}
use Rattle.cg_core.specs.Terms.{Note, Shape, var, unit, bool, lit, fun, con, case_of, esac, struct, member, take_field, put}

-- a term without parts
abbrev pub is_leaf : Shape Note → Bool
is_leaf (var i) = true
is_leaf unit = true
is_leaf (bool b) = true
is_leaf (lit n) = true
is_leaf (fun f args) = true
is_leaf _ = false

-- a term of variants or of records
abbrev pub is_data : Shape Note → Bool
is_data (con x e) = true
is_data (case_of e at p a b) = true
is_data (esac at e) = true
is_data (struct fs) = true
is_data (member e at) = true
is_data (take_field e at p q k) = true
is_data (put e at x) = true
is_data _ = false
