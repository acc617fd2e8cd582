-- What an expression is as a term of the kernel (docs/LANGUAGE.md, "Desugaring"). A scope lists the entries of the context, the innermost
-- first: a variable's name, or none for an entry that no name stands for. Where names are at fault the term means nothing.
use Rattle.std.specs.Prelude.{ℕ, ◌+◌, Bool, false, List, [], ◌∷◌, length, Option, Some, None, if◌then◌else◌}
use Rattle.std.specs.Str.{bytes_eq}
use Rattle.cg_base.specs.declared.fun.Fun.{Fun}
use Rattle.cg_base.specs.declared.fun.Fun.TheVariants.{User, Lib as OfLib}
use Rattle.cg_base.specs.declared.fun.Lib.TheVariants.{New}
use Rattle.cg_base.specs.declared.place.Place.{Place}
use Rattle.cg_base.specs.Types as kernel
use Rattle.cg_core.specs.declared.at.At.{At}
use Rattle.cg_core.specs.declared.term.Seen.{Seen}
use Rattle.cg_core.specs.Terms.{Tree, term, var, unit, bool, lit, fun, op, app, lets, let_bang, if_else, con, case_of, esac, struct, member, take_field, put, cast, annot, none, more, Named, end, field, Arg}
use Rattle.cg_surface.specs.Written.{Written, Writtens}
use Rattle.cg_surface.specs.Written as types
use Rattle.cg_surface.specs.Patterns.{Pattern, Patterns, FieldPatterns}
use Rattle.cg_surface.specs.Patterns as patterns
use Rattle.cg_surface.specs.Exprs.{Expr, Exprs, FieldExprs, Binds, Alts}
use Rattle.cg_surface.specs.Exprs as exprs
use Rattle.cg_surface.specs.Programs.{Entry}
use Rattle.cg_resolve_def.specs.Declared.{looked_up, OfLibrary, library, OfProgram, function_named}
use Rattle.cg_resolve_def.specs.Expand.{Bodies, component, expanded}
pub use Rattle.cg_resolve_def.specs.Takes.{exprs_length as list_length}

abbrev pub Scope : Type 0
Scope = List (Option (List ℕ))

abbrev pub Term : Type 0
Term = Tree Place

-- what a term is made of by what it is put in
abbrev pub Rest : Type 0
Rest = Scope → Term

-- whether an entry has this name
abbrev pub has_name : List ℕ → Option (List ℕ) → Bool
has_name n None = false
has_name n (Some m) = bytes_eq n m

-- the position of a variable: the innermost entry of its name, counted from the outermost
abbrev pub variable : Scope → List ℕ → Option ℕ
variable [] n = None
variable (e ∷ outer) n = if has_name n e then Some (length outer) else variable outer n

abbrev pub or_zero : Option ℕ → ℕ
or_zero None = 0
or_zero (Some i) = i

-- observed variables
abbrev pub positions : Scope → List At → List Seen
positions scope [] = []
positions scope (at ∷ ats) = record { var = or_zero (variable scope at.name); place = at.place } ∷ positions scope ats

-- ---- patterns

-- the name that a pattern is without its parentheses, where it is one; and its place without them
abbrev pub its_name : Pattern → Option (List ℕ)
its_name (patterns.name p n) = Some n
its_name (patterns.paren p x) = its_name x
its_name x = None

abbrev pub inner_place : Pattern → Place
inner_place (patterns.paren p x) = inner_place x
inner_place x = patterns.place_of x

-- the last remainder of a record that was taken apart has this name; it stands outside the last value
abbrev pub named_remainder : List ℕ → Scope → Scope
named_remainder n [] = []
named_remainder n (v ∷ []) = v ∷ []
named_remainder n (v ∷ r ∷ outer) = v ∷ Some n ∷ outer

-- A component that isn't a name is bound later, from its position: what is still to be bound, inside what was bound before it.
abbrev pub Later : Type 0
Later = Scope → Rest → Term

abbrev pub nothing_later : Later
nothing_later scope rest = rest scope

-- A term, bound to a pattern at a place, round the rest.
abbrev mutual
  pub bound_to : Place → Pattern → Term → Scope → Rest → Term
  bound_to q (patterns.name p n) e scope rest = term q (lets p e (rest (Some n ∷ scope)))
  bound_to q (patterns.any p) e scope rest = term q (lets p e (rest (None ∷ scope)))
  bound_to q (patterns.unit p) e scope rest = term q (lets p (term p (annot e (record { place = p; ty = kernel.unit }))) (rest (None ∷ scope)))
  bound_to q (patterns.paren p x) e scope rest = bound_to q x e scope rest
  bound_to q (patterns.tuple p xs) e scope rest = components_taken p xs e scope (λ i e' scope' later. later scope' rest)
  bound_to q (patterns.fields p fs) e scope rest = fields_taken p fs e scope (λ e' scope' later. later scope' rest)
  bound_to q (patterns.take p n fs) e scope rest = fields_taken p fs e scope (λ e' scope' later. later (named_remainder n scope') rest)

  -- All fields are taken first, from left to right: what is left of the term, the scope and what is bound later go on.
  pub fields_taken : Place → FieldPatterns → Term → Scope → (Term → Scope → Later → Term) → Term
  fields_taken p patterns.no_fields e scope go = go e scope nothing_later
  fields_taken p (patterns.and_field fs at x) e scope go =
      fields_taken p fs e scope
      (λ e' scope' later. term p (take_field e' at p (inner_place x) (go (term p (var (length scope'))) (its_name x ∷ None ∷ scope') (behind later x (length scope' + 1)))))

  -- the same of a tuple, with the number of the next component
  pub components_taken : Place → Patterns → Term → Scope → (ℕ → Term → Scope → Later → Term) → Term
  components_taken p patterns.no_patterns e scope go = go 0 e scope nothing_later
  components_taken p (patterns.and_pattern xs x) e scope go =
      components_taken p xs e scope
      (λ i e' scope' later. term p (take_field e' (record { place = inner_place x; name = component i }) p (inner_place x)
      (go (i + 1) (term p (var (length scope'))) (its_name x ∷ None ∷ scope') (behind later x (length scope' + 1)))))

  -- behind what is bound later, a component at its position; one that is a name is bound already
  pub behind : Later → Pattern → ℕ → Later
  behind later (patterns.name p n) i scope rest = later scope rest
  behind later (patterns.any p) i scope rest = later scope (λ scope'. term p (lets p (term p (var i)) (rest (None ∷ scope'))))
  behind later (patterns.unit p) i scope rest = later scope (λ scope'. term p (lets p (term p (annot (term p (var i)) (record { place = p; ty = kernel.unit }))) (rest (None ∷ scope'))))
  behind later (patterns.paren p x) i scope rest = behind later x i scope rest
  behind later (patterns.tuple p xs) i scope rest = later scope (λ scope'. components_taken p xs (term p (var i)) scope' (λ j e' scope'' later'. later' scope'' rest))
  behind later (patterns.fields p fs) i scope rest = later scope (λ scope'. fields_taken p fs (term p (var i)) scope' (λ e' scope'' later'. later' scope'' rest))
  behind later (patterns.take p n fs) i scope rest = later scope (λ scope'. fields_taken p fs (term p (var i)) scope' (λ e' scope'' later'. later' (named_remainder n scope'') rest))

-- a pattern, bound at its own place
abbrev pub bind : Pattern → Term → Scope → Rest → Term
bind x e scope rest = bound_to (inner_place x) x e scope rest

-- ---- expressions

-- the place of an expression's first token
abbrev pub first_place : Expr → Place
first_place (exprs.binary p o a b) = first_place a
first_place e = exprs.place_of e

-- a term that is bound to an entry of its own while variables are observed in it: that entry is the pattern where it is a name
abbrev pub seen_bound : Option (List ℕ) → Pattern → Place → Scope → Rest → Term
seen_bound (Some n) x q scope rest = rest (Some n ∷ scope)
seen_bound None x q scope rest = bind x (term q (var (length scope))) (None ∷ scope) rest

-- a binding of a `let` that stands at the first place, where the expression's first token stands at the second
abbrev pub let_bound : Place → Place → Pattern → Term → List At → Scope → Rest → Term
let_bound p q x e [] scope rest = bind x e scope rest
let_bound p q x e (at ∷ ats) scope rest = term p (let_bang (positions scope (at ∷ ats)) (inner_place x) e (seen_bound (its_name x) x q scope rest))

-- what is made of a term and its scope, with an entry of its own where variables are observed in it: a condition, or a subject
abbrev pub observed : Place → Place → Term → List At → Scope → (Term → Scope → Term) → Term
observed p q e [] scope go = go e scope
observed p q e (s ∷ ss) scope go = term p (let_bang (positions scope (s ∷ ss)) q e (go (term q (var (length scope))) (None ∷ scope)))

-- the body of an alternative, whose payload is the next entry
abbrev pub payload_bound : Option (List ℕ) → Pattern → Scope → Rest → Term
payload_bound (Some n) x scope rest = rest (Some n ∷ scope)
payload_bound None x scope rest = bind x (term (inner_place x) (var (length scope))) (None ∷ scope) rest

-- a last alternative: with a constructor the payload is bound at its name, else the subject at the pattern
abbrev pub last_bound : Place → Option (List ℕ) → Pattern → Term → Scope → Rest → Term
last_bound p (Some n) x subject scope rest = bound_to p x (term p (esac (record { place = p; name = n }) subject)) scope rest
last_bound p None x subject scope rest = bind x subject scope rest

-- a function: one of the library, or else one of the program, or none that matters
abbrev pub user_function : Option OfProgram → Fun
user_function (Some f) = User f.position
user_function None = OfLib New

abbrev pub function_of : Option OfLibrary → Option OfProgram → Fun
function_of (Some f) user = OfLib f.lib
function_of None user = user_function user

-- the name of a constructor, which each alternative but the last has
abbrev pub or_empty : Option (List ℕ) → List ℕ
or_empty None = []
or_empty (Some n) = n

module _ (entries : List Entry) (known : Bodies) (vars : List (List ℕ)) where
  -- a written type, at its place
  abbrev pub written : Written → Arg
  written t = record { place = types.place_of t; ty = expanded known vars t }

  abbrev pub all_written : Writtens → List Arg → List Arg
  all_written types.no_types args = args
  all_written (types.and_type ts t) args = all_written ts (written t ∷ args)

  -- what a name stands for: a variable, a function of the library, or one of the program
  abbrev pub mention : Place → List ℕ → Writtens → Option ℕ → Term
  mention p n ts (Some i) = term p (var i)
  mention p n ts None = term p (fun (function_of (looked_up library n) (function_named entries n)) (all_written ts []))

  abbrev mutual
    pub term_of : Scope → Expr → Term
    term_of scope (exprs.name p n ts) = mention p n ts (variable scope n)
    term_of scope (exprs.number p v) = term p (lit v)
    term_of scope (exprs.bool p b) = term p (bool b)
    term_of scope (exprs.unit p) = term p unit
    term_of scope (exprs.paren p a) = term_of scope a
    term_of scope (exprs.sig p a t) = term p (annot (term_of scope a) (written t))
    term_of scope (exprs.tuple p es) = term p (struct (components_of scope es end))
    term_of scope (exprs.fields p fs) = term p (struct (fields_of scope fs end))
    term_of scope (exprs.con p n) = term p (con n (term p unit))
    term_of scope (exprs.con_of p n a) = term p (con n (term_of scope a))
    term_of scope (exprs.app p f a) = term p (app (term_of scope f) (term_of scope a))
    term_of scope (exprs.member p a at) = term p (member (term_of scope a) at)
    term_of scope (exprs.put p a fs) = puts p scope (term_of scope a) fs
    term_of scope (exprs.unary p o a) = term p (op o (more (term_of scope a) none))
    term_of scope (exprs.upcast p a) = term p (cast (term_of scope a))
    term_of scope (exprs.binary p o a b) = term p (op o (more (term_of scope a) (more (term_of scope b) none)))
    term_of scope (exprs.lets p bs b) = bindings p bs scope (λ scope'. term_of scope' b)
    term_of scope (exprs.if_else p c seen a b) =
        observed p (first_place c) (term_of scope c) seen scope (λ e scope'. term p (if_else e (term_of scope' a) (term_of scope' b)))
    term_of scope (exprs.match_of p e seen choices) =
        observed p (first_place e) (term_of scope e) seen scope (λ subject scope'. alternatives choices subject scope')

    -- components with their names, and fields, before those behind them
    pub components_of : Scope → Exprs → Named Place → Named Place
    components_of scope exprs.no_exprs behind_it = behind_it
    components_of scope (exprs.and_expr es e) behind_it = components_of scope es (field (component (list_length es)) (term_of scope e) behind_it)

    pub fields_of : Scope → FieldExprs → Named Place → Named Place
    fields_of scope exprs.no_fields behind_it = behind_it
    fields_of scope (exprs.and_field fs at e) behind_it = fields_of scope fs (field at.name (term_of scope e) behind_it)

    -- puts, the first innermost
    pub puts : Place → Scope → Term → FieldExprs → Term
    puts p scope e exprs.no_fields = e
    puts p scope e (exprs.and_field fs at a) = term p (put (puts p scope e fs) at (term_of scope a))

    -- bindings, each round those behind it
    pub bindings : Place → Binds → Scope → Rest → Term
    bindings p exprs.no_binds scope rest = rest scope
    bindings p (exprs.and_bind bs x e seen) scope rest = bindings p bs scope (λ scope'. let_bound p (first_place e) x (term_of scope' e) seen scope' rest)

    -- alternatives: each but the last is a case, of which the next is the rest
    pub alternatives : Alts → Term → Scope → Term
    alternatives exprs.no_alts subject scope = subject
    alternatives (exprs.and_alt choices p head x b) subject scope =
        cases choices subject scope (λ subject' scope'. last_bound p head x subject' scope' (λ scope''. term_of scope'' b))

    pub cases : Alts → Term → Scope → (Term → Scope → Term) → Term
    cases exprs.no_alts subject scope go = go subject scope
    cases (exprs.and_alt choices p head x b) subject scope go =
        cases choices subject scope
        (λ subject' scope'. term p (case_of subject' (record { place = p; name = or_empty head }) (inner_place x)
        (payload_bound (its_name x) x scope' (λ scope''. term_of scope'' b)) (go (term p (var (length scope'))) (None ∷ scope'))))

  -- the body of a definition: a parameter that is a name is the variable itself
  abbrev pub body_term : Pattern → Expr → Term
  body_term x b = payload_bound (its_name x) x [] (λ scope. term_of scope b)
