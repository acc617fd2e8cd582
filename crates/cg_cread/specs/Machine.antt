-- The machine that reads a file, one token at a time, as a reader (docs/LANGUAGE.md, "The C text", `file`).
use Rattle.std.specs.Prelude.{ℕ, Bool, true, false, List, [], ◌∷◌, ◌++◌, Option, Some, None, if◌then◌else◌}
use Rattle.cg_base.specs.Reader.{Reader}
use Rattle.cg_ctree.specs.declared.tree.CDecl.{CDecl}
use Rattle.cg_ctree.specs.declared.tree.CStruct.{CStruct}
use Rattle.cg_ctree.specs.Tokens.{Lexeme}
use Rattle.cg_ctree.specs.Trees.{Function, Program}
use Rattle.cg_cread.specs.Bodies as bodies
use Rattle.cg_cread.specs.Bodies.{Body, with_body, body_step, body_end, body_is_closed, body_is_open}
use Rattle.cg_cread_parts.specs.Declarations.{declaration_step, row, row_step, row_is_whole, row_is_open}
use Rattle.cg_cread_parts.specs.Heads.{head_step, head_end, head_struct, head_is_whole, head_is_open}
use Rattle.cg_cread_parts.specs.Symbols.{Symbol, symbol_of, begin, end, semicolon, first_include, second_include}
use Rattle.cg_cread_parts.specs.declared.declaration.Declaration.TheVariants.{Wanted}
use Rattle.cg_cread_parts.specs.declared.declaration.Row.{Row}
use Rattle.cg_cread_parts.specs.declared.head.Signature.{Signature}
use Rattle.cg_cread_parts.specs.declared.head.Head.{Head}
use Rattle.cg_cread_parts.specs.declared.head.Head.TheVariants.{InName}

-- where in a file the machine stands: at its beginning, behind the first include line, behind the second one, or, with the structs
-- and functions before, behind one of these, in a function's head or a struct's name, in the members of a struct, behind their `}`,
-- or in a function's body; or where nothing goes on ("The C text", `file`)
pub data State : Type 0 where
  Start : State
  First : State
  Second : State
  Between : Program → State
  InHead : Program → Head → State
  InMembers : Program → List ℕ → Row → State
  MembersClosed : Program → CStruct → State
  InBody : Program → Body → State
  Failed : State

-- the program of nothing, and a program with a struct or a function more ("The C text", `file`)
abbrev pub nothing : Program
nothing = record { structs = []; functions = [] }

abbrev pub with_struct : Program → CStruct → Program
with_struct p s = record { structs = p.structs ++ s ∷ []; functions = p.functions }

abbrev pub with_function : Program → Function → Program
with_function p f = record { structs = p.structs; functions = p.functions ++ f ∷ [] }

-- at the beginning ("The C text", `file`)
abbrev pub on_start : Symbol → State
on_start first_include = First
on_start y = Failed

-- behind the first include line, on a later line ("The C text", `file`)
abbrev pub on_first : Symbol → State
on_first second_include = Second
on_first y = Failed

-- before a struct or a function ("The C text", `file`)
abbrev pub on_item : Program → Symbol → State
on_item p y = InHead p (InName (declaration_step Wanted y))

-- at the `{` of a function, and at that of a struct ("The C text", `file`)
abbrev pub defined : Program → Option Signature → State
defined p None = Failed
defined p (Some s) = InBody p (bodies.Locals s (row [] Wanted))

abbrev pub members : Program → Option (List ℕ) → State
members p None = Failed
members p (Some x) = InMembers p x (row [] Wanted)

-- at the `;` of a function without a body ("The C text", `file`)
abbrev pub declared : Program → Option Signature → State
declared p None = Failed
declared p (Some s) = Between (with_function p (with_body s None))

-- at the `{` of a function or of a struct ("The C text", `file`)
abbrev pub on_begin : Program → Head → State
on_begin p m = if head_is_whole m then defined p (head_end m) else members p (head_struct m)

-- in a function's head, or in a struct's name ("The C text", `file`)
abbrev pub on_head : Program → Head → Symbol → State
on_head p m begin = on_begin p m
on_head p m semicolon = declared p (head_end m)
on_head p m y = InHead p (head_step m y)

-- a struct of these members, of which there is one at least ("The C text", `file`)
abbrev pub structured : Program → List ℕ → List CDecl → State
structured p x [] = Failed
structured p x (d ∷ ds) = MembersClosed p (record { name = x; members = d ∷ ds })

-- at the `}` of a struct ("The C text", `file`)
abbrev pub on_members_end : Program → List ℕ → Row → State
on_members_end p x r = if row_is_whole r then structured p x r.before else Failed

-- in the members of a struct ("The C text", `file`)
abbrev pub on_members : Program → List ℕ → Row → Symbol → State
on_members p x r end = on_members_end p x r
on_members p x r y = InMembers p x (row_step r y)

-- behind the members of a struct ("The C text", `file`)
abbrev pub on_struct : Program → CStruct → Symbol → State
on_struct p s semicolon = Between (with_struct p s)
on_struct p s y = Failed

-- at the `}` of a function ("The C text", `file`)
abbrev pub closed : Program → Option Function → State
closed p None = Failed
closed p (Some f) = Between (with_function p f)

-- in a function's body, or behind it ("The C text", `file`)
abbrev pub in_body : Program → Body → State
in_body p m = if body_is_closed m then closed p (body_end m) else InBody p m

-- one symbol more, on a later line than the one before or not ("The C text", `file`)
abbrev pub at : State → Symbol → Bool → State
at Start y later = on_start y
at First y later = if later then on_first y else Failed
at Second y later = if later then on_item nothing y else Failed
at (Between p) y later = on_item p y
at (InHead p m) y later = on_head p m y
at (InMembers p x r) y later = on_members p x r y
at (MembersClosed p s) y later = on_struct p s y
at (InBody p m) y later = in_body p (body_step m y)
at Failed y later = Failed

-- one token more ("The C text", `file`)
abbrev pub step : State → Lexeme → State
step s t = at s (symbol_of t.token) t.later

-- whether a program may still come of it ("The C text", `file`)
abbrev pub is_open : State → Bool
is_open (InHead p m) = head_is_open m
is_open (InMembers p x r) = row_is_open r
is_open (InBody p m) = body_is_open m
is_open Failed = false
is_open s = true

-- the program that ends there, where one does ("The C text", `file`)
abbrev pub finish : State → Option Program
finish Second = Some nothing
finish (Between p) = Some p
finish s = None

-- all of it, as a reader ("The C text", `file`)
abbrev pub reader : Reader State Lexeme Program
reader = record { begin = Start; step = step; is_open = is_open; finish = finish }
