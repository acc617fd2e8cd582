-- The names of built-ins by their parts: what stands behind a prefix.
use Rattle.std.specs.Prelude.{ℕ, List, [], ◌∷◌, ◌++◌, codes}
use Rattle.cg_base.specs.declared.kind.Word.{Word}
use Rattle.cg_base.specs.declared.kind.Word.TheVariants.{U8, U16, U32, U64}
use Rattle.cg_cmachine_def.specs.BuiltIns.{BuiltIn, new_alone, free, create, free_array, length_of, get, put}

-- names, and what they mean
abbrev pub Named : Type 0
Named = List (List ℕ × BuiltIn)

-- the same names behind a prefix
abbrev pub prefixed : List ℕ → Named → Named
prefixed x [] = []
prefixed x (e ∷ es) = (x ++ e.0, e.1) ∷ prefixed x es

-- what is done to an array as a whole
abbrev pub whole_actions : Word → Named
whole_actions w = (codes "create", create w) ∷ (codes "free", free_array w) ∷ (codes "length", length_of w) ∷ []

-- and to an element
abbrev pub element_actions : Word → Named
element_actions w = (codes "get", get w) ∷ (codes "put", put w) ∷ []

abbrev pub actions : Word → Named
actions w = whole_actions w ++ element_actions w

-- behind "cg_w"
abbrev pub narrow_names : Named
narrow_names = prefixed (codes "8_") (actions U8) ++ prefixed (codes "16_") (actions U16)

abbrev pub wide_names : Named
wide_names = prefixed (codes "32_") (actions U32) ++ prefixed (codes "64_") (actions U64)

-- all names, without "cg_"
abbrev pub short_names : Named
short_names = (codes "new", new_alone) ∷ (codes "free", free) ∷ prefixed (codes "w") (narrow_names ++ wide_names)
