-- What a written type is as a type of the kernel: synonyms expanded, fields taken, what is observed banged (docs/LANGUAGE.md,
-- "Synonyms"). Where names are at fault the type means nothing.
use Rattle.std.specs.Prelude.{ℕ, zero, suc, ◌+◌, Bool, true, false, ◌||◌, nat_le, List, [], ◌∷◌, ◌++◌, map, length, codes, Option, Some, None, if◌then◌else◌, decimal}
use Rattle.std.specs.Str.{bytes_eq}
use Rattle.cg_base.specs.declared.kind.Sigil.TheVariants.{W, U}
use Rattle.cg_base.specs.Types.{Tau, var, unit, arrow, abs, variant, fields, Parts, end, part, Piece, to_taus, to_parts}
use Rattle.cg_core.specs.declared.at.At.{At}
use Rattle.cg_kinds.specs.Kinds.{bang, subst}
use Rattle.cg_surface.specs.Written.{Written, Writtens, WrittenFields, WrittenAlts}
use Rattle.cg_surface.specs.Written as types
use Rattle.cg_surface.specs.Programs.{Entry}
use Rattle.cg_resolve_def.specs.Declared.{is_among, is_variable, looked_up, plain_types, Declared, type_named}

-- the position of a name, that of its first place in the list; and the position behind them all, where it isn't there
abbrev pub position_of : List (List ℕ) → List ℕ → ℕ
position_of [] n = 0
position_of (m ∷ names) n = if bytes_eq n m then 0 else position_of names n + 1

-- the name of the component at this position of a tuple, counted from 0
abbrev pub component : ℕ → List ℕ
component i = codes "p" ++ decimal (i + 1)

-- fields with one more that are taken
abbrev pub taken_parts : List (List ℕ) → Parts → Parts
taken_parts names end = end
taken_parts names (part n t taken ps) = part n t (taken || is_among names n) (taken_parts names ps)

abbrev pub all_taken : Parts → Parts
all_taken end = end
all_taken (part n t taken ps) = part n t true (all_taken ps)

-- what is taken of a type, where it is a record
abbrev pub take_of : (Parts → Parts) → Tau → Tau
take_of taken (fields ps sigil) = fields (taken ps) sigil
take_of taken t = t

-- ---- alternatives are kept in the byte order of their names

abbrev pub bytes_le : List ℕ → List ℕ → Bool
bytes_le [] n = true
bytes_le (b ∷ m) [] = false
bytes_le (b ∷ m) (c ∷ n) = if nat_le b c then (if nat_le c b then bytes_le m n else true) else false

abbrev pub inserted : Piece → List Piece → List Piece
inserted p [] = p ∷ []
inserted p (q ∷ qs) = if bytes_le p.name q.name then p ∷ q ∷ qs else q ∷ inserted p qs

abbrev pub in_order : List Piece → List Piece
in_order [] = []
in_order (p ∷ ps) = inserted p (in_order ps)

-- how many types there are
abbrev pub types_length : Writtens → ℕ
types_length types.no_types = 0
types_length (types.and_type ts t) = types_length ts + 1

-- ---- types

-- what is known of the types of a program: of each name, whether it is a synonym, and then what it is for, with its parameters by
-- position
abbrev pub Bodies : Type 0
Bodies = List ℕ → Option Tau

-- a name with these arguments, where this is its plain type and this its body
abbrev pub applied_as : List ℕ → List Tau → Option Tau → Option Tau → Tau
applied_as n args (Some t) body = t
applied_as n args None (Some body) = subst args body
applied_as n args None None = abs n (to_taus args) W

module _ (bodies : Bodies) (vars : List (List ℕ)) where
  -- a name with these arguments
  abbrev pub applied : List ℕ → List Tau → Tau
  applied n args = applied_as n args (looked_up plain_types n) (bodies n)

  abbrev mutual
    pub expanded : Written → Tau
    expanded (types.named p n args) = if is_variable n then var (position_of vars n) else applied n (expanded_all args [])
    expanded (types.nothing p) = unit
    expanded (types.tuple p ts) = fields (to_parts (components ts [])) U
    expanded (types.paren p t) = expanded t
    expanded (types.arrow p a b) = arrow (expanded a) (expanded b)
    expanded (types.fields p boxed fs) = fields (to_parts (expanded_fields fs [])) (if boxed then W else U)
    expanded (types.variant p choices) = variant (to_parts (in_order (expanded_alts choices [])))
    expanded (types.bang p t) = bang (expanded t)
    expanded (types.take_some p t ns) = take_of (taken_parts (map (λ n. n.name) ns)) (expanded t)
    expanded (types.take_all p t q) = take_of all_taken (expanded t)

    -- the items of a list, before those behind it
    pub expanded_all : Writtens → List Tau → List Tau
    expanded_all types.no_types behind = behind
    expanded_all (types.and_type ts t) behind = expanded_all ts (expanded t ∷ behind)

    pub components : Writtens → List Piece → List Piece
    components types.no_types behind = behind
    components (types.and_type ts t) behind = components ts (record { name = component (types_length ts); ty = expanded t; taken = false } ∷ behind)

    pub expanded_fields : WrittenFields → List Piece → List Piece
    expanded_fields types.no_fields behind = behind
    expanded_fields (types.and_field fs at t) behind = expanded_fields fs (record { name = at.name; ty = expanded t; taken = false } ∷ behind)

    pub expanded_alts : WrittenAlts → List Piece → List Piece
    expanded_alts types.no_alts behind = behind
    expanded_alts (types.and_plain choices at) behind = expanded_alts choices (record { name = at.name; ty = unit; taken = false } ∷ behind)
    expanded_alts (types.and_alt choices at t) behind = expanded_alts choices (record { name = at.name; ty = expanded t; taken = false } ∷ behind)

-- the body of a synonym over those that are known
abbrev pub body_among : Bodies → List At → Option Written → Option Tau
body_among known params None = None
body_among known params (Some t) = Some (expanded known (map (λ at. at.name) params) t)

abbrev pub body_of : Bodies → Option Declared → Option Tau
body_of known None = None
body_of known (Some d) = body_among known d.params d.body

-- What the synonyms are for, up to so many synonyms within one another. Where no synonym mentions itself, as many as there are items
-- are enough.
unfoldable pub bodies_to : List Entry → ℕ → Bodies
bodies_to entries zero n = None
bodies_to entries (suc k) n = body_of (bodies_to entries k) (type_named entries n)

abbrev pub bodies : List Entry → Bodies
bodies entries = bodies_to entries (length entries)

-- what a written type is, among the type variables of these names
abbrev pub type_in : List Entry → List (List ℕ) → Written → Tau
type_in entries vars t = expanded (bodies entries) vars t
