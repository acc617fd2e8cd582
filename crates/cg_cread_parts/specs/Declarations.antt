-- The machine that reads declarations, alone and in rows, one symbol at a time (docs/LANGUAGE.md, "The C text", `decl`).
use Rattle.std.specs.Prelude.{ℕ, Bool, true, false, List, [], ◌∷◌, ◌++◌, Option, Some, None}
use Rattle.cg_ctree.specs.declared.tree.CDecl.{CDecl}
use Rattle.cg_ctree.specs.declared.tree.COp.TheVariants as op
use Rattle.cg_ctree.specs.declared.tree.CTy.{CTy}
use Rattle.cg_ctree.specs.declared.tree.CTy.TheVariants as ty
use Rattle.cg_cread_parts.specs.Symbols.{Symbol, named, typed, keyed, semicolon, operation}
use Rattle.cg_cread_parts.specs.declared.declaration.Declaration.{Declaration}
use Rattle.cg_cread_parts.specs.declared.declaration.Declaration.TheVariants.{Wanted, StructRead, Typed, Named, Stuck}
use Rattle.cg_cread_parts.specs.declared.declaration.Row.{Row}
use Rattle.cg_cread_parts.specs.declared.symbol.Keyword.TheVariants.{Struct}

-- before a declaration ("The C text", `ty`)
abbrev pub on_wanted : Symbol → Declaration
on_wanted (typed w) = Typed (ty.Word w)
on_wanted (keyed Struct) = StructRead
on_wanted y = Stuck

-- behind `struct` ("The C text", `ty`)
abbrev pub on_struct : Symbol → Declaration
on_struct (named x) = Typed (ty.Struct x)
on_struct y = Stuck

-- the type that a star makes of a type, where it makes one ("The C text", `ty`)
abbrev pub starred : CTy → Declaration
starred (ty.Struct x) = Typed (ty.Pointer x)
starred t = Stuck

-- a declaration ("The C text", `decl`)
abbrev pub decl_of : CTy → List ℕ → CDecl
decl_of t x = record { ty = t; name = x }

-- behind a type ("The C text", `ty`)
abbrev pub on_typed : CTy → Symbol → Declaration
on_typed t (named x) = Named t x
on_typed t (operation op.Mul) = starred t
on_typed t y = Stuck

-- one symbol more of a declaration, without what follows it ("The C text", `decl`)
abbrev pub declaration_step : Declaration → Symbol → Declaration
declaration_step Wanted y = on_wanted y
declaration_step StructRead y = on_struct y
declaration_step (Typed t) y = on_typed t y
declaration_step (Named t x) y = Stuck
declaration_step Stuck y = Stuck

-- the declaration that ends there, where one does ("The C text", `decl`)
abbrev pub declaration_end : Declaration → Option CDecl
declaration_end (Named t x) = Some (decl_of t x)
declaration_end m = None

-- its type and its name, where it ends there ("The C text", `decl`)
abbrev pub declaration_parts : Declaration → Option (CTy × List ℕ)
declaration_parts (Named t x) = Some (t, x)
declaration_parts m = None

-- the struct whose members may be declared there, where one is named ("The C text", `decl`)
abbrev pub type_struct : CTy → Option (List ℕ)
type_struct (ty.Struct x) = Some x
type_struct t = None

abbrev pub declaration_struct : Declaration → Option (List ℕ)
declaration_struct (Typed t) = type_struct t
declaration_struct m = None

-- whether a declaration may still come of it ("The C text", `decl`)
abbrev pub declaration_is_open : Declaration → Bool
declaration_is_open Stuck = false
declaration_is_open m = true

-- ---- rows

-- declarations, and where in the next one the machine stands ("The C text", `decl`)
abbrev pub row : List CDecl → Declaration → Row
row ds m = record { before = ds; at = m }

-- behind the `;` of a declaration ("The C text", `decl`)
abbrev pub declared : List CDecl → Option CDecl → Row
declared ds None = row ds Stuck
declared ds (Some d) = row (ds ++ d ∷ []) Wanted

-- one symbol more of a row, where the machine stands in this declaration ("The C text", `decl`)
abbrev pub on_row : List CDecl → Declaration → Symbol → Row
on_row ds m semicolon = declared ds (declaration_end m)
on_row ds m y = row ds (declaration_step m y)

abbrev pub row_step : Row → Symbol → Row
row_step r y = on_row r.before r.at y

-- whether nothing of a declaration is begun ("The C text", `decl`)
abbrev pub is_whole : Declaration → Bool
is_whole Wanted = true
is_whole m = false

abbrev pub row_is_whole : Row → Bool
row_is_whole r = is_whole r.at

-- whether a row may still come of it ("The C text", `decl`)
abbrev pub row_is_open : Row → Bool
row_is_open r = declaration_is_open r.at
