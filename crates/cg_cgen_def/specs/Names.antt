-- Names of C that lowering makes: a letter and a number each (docs/LANGUAGE.md, "The C of instances").
use Rattle.std.specs.Prelude.{ℕ, List, [], ◌∷◌, decimal}
use Rattle.cg_ctree.specs.declared.tree.CDecl.{CDecl}
use Rattle.cg_ctree.specs.declared.tree.CTy.{CTy}

-- a C name: a letter and a number
abbrev pub name : ℕ → ℕ → List ℕ
name letter k = letter ∷ decimal k

-- m0, m1 and so on, the fields of a record
abbrev pub field_name : ℕ → List ℕ
field_name i = name 109 i

-- t, the tag of a variant, and a0, a1 and so on, its payloads
abbrev pub tag_name : List ℕ
tag_name = 116 ∷ []

abbrev pub payload_name : ℕ → List ℕ
payload_name i = name 97 i

-- s<k>, a struct
abbrev pub struct_name : ℕ → List ℕ
struct_name k = name 115 k

abbrev pub declared : CTy → List ℕ → CDecl
declared t x = record { ty = t; name = x }

-- f<k>, the function of the instance at a place, and d<j>, that which calls the functions of an arrow type by their places
abbrev pub function_name : ℕ → List ℕ
function_name k = name 102 k

abbrev pub dispatch_name : ℕ → List ℕ
dispatch_name j = name 100 j
