-- The machine that reads the heads of functions, one symbol at a time (docs/LANGUAGE.md, "The C text", `decl`).
use Rattle.std.specs.Prelude.{ℕ, Bool, true, false, List, [], ◌∷◌, ◌++◌, Option, Some, None}
use Rattle.cg_ctree.specs.declared.tree.CBody.{CBody}
use Rattle.cg_ctree.specs.declared.tree.CDecl.{CDecl}
use Rattle.cg_ctree.specs.declared.tree.CFun.{CFun}
use Rattle.cg_ctree.specs.declared.tree.CTy.{CTy}
use Rattle.cg_cread_parts.specs.Declarations.{declaration_step, declaration_end, declaration_parts, declaration_struct, declaration_is_open}
use Rattle.cg_cread_parts.specs.Symbols.{Symbol, opening, closing, comma}
use Rattle.cg_cread_parts.specs.declared.declaration.Declaration.{Declaration}
use Rattle.cg_cread_parts.specs.declared.declaration.Declaration.TheVariants.{Wanted}
use Rattle.cg_cread_parts.specs.declared.head.Signature.{Signature}
use Rattle.cg_cread_parts.specs.declared.head.Head.{Head}
use Rattle.cg_cread_parts.specs.declared.head.Head.TheVariants.{InName, InParam, Closed, Stuck}

-- a head without parameters ("The C text", `decl`)
abbrev pub bare : CTy → List ℕ → Signature
bare t x = record { ty = t; name = x; params = [] }

-- a head with a parameter more ("The C text", `decl`)
abbrev pub with_param : Signature → CDecl → Signature
with_param s d = record s { params = s.params ++ d ∷ [] }

-- the function of a head ("The C text", `decl`)
abbrev pub function : Signature → Option CBody → CFun
function s b = record { ty = s.ty; name = s.name; params = s.params; body = b }

-- behind the `(` ("The C text", `decl`)
abbrev pub opened : Option (CTy × List ℕ) → Head
opened None = Stuck
opened (Some p) = InParam (bare p.0 p.1) Wanted

-- in the type and the name ("The C text", `decl`)
abbrev pub on_name : Declaration → Symbol → Head
on_name m opening = opened (declaration_parts m)
on_name m y = InName (declaration_step m y)

-- behind the comma of a parameter ("The C text", `decl`)
abbrev pub parted : Signature → Option CDecl → Head
parted s None = Stuck
parted s (Some d) = InParam (with_param s d) Wanted

-- behind the `)` ("The C text", `decl`)
abbrev pub closed : Signature → Option CDecl → Head
closed s None = Stuck
closed s (Some d) = Closed (with_param s d)

-- in a parameter ("The C text", `decl`)
abbrev pub on_param : Signature → Declaration → Symbol → Head
on_param s m comma = parted s (declaration_end m)
on_param s m closing = closed s (declaration_end m)
on_param s m y = InParam s (declaration_step m y)

-- one symbol more of a head, without the `{` or `;` behind it ("The C text", `decl`)
abbrev pub head_step : Head → Symbol → Head
head_step (InName m) y = on_name m y
head_step (InParam s m) y = on_param s m y
head_step (Closed s) y = Stuck
head_step Stuck y = Stuck

-- the head behind which a `{` or `;` may stand, where it may ("The C text", `decl`)
abbrev pub head_end : Head → Option Signature
head_end (Closed s) = Some s
head_end m = None

-- whether a head is whole ("The C text", `decl`)
abbrev pub head_is_whole : Head → Bool
head_is_whole (Closed s) = true
head_is_whole m = false

-- the struct whose members may be declared there, where one is named ("The C text", `decl`)
abbrev pub head_struct : Head → Option (List ℕ)
head_struct (InName m) = declaration_struct m
head_struct m = None

-- whether a head may still come of it ("The C text", `decl`)
abbrev pub head_is_open : Head → Bool
head_is_open (InName m) = declaration_is_open m
head_is_open (InParam s m) = declaration_is_open m
head_is_open (Closed s) = true
head_is_open Stuck = false
