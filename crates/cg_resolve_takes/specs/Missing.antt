-- Fields that are taken where they aren't, told by heads alone.
use Rattle.std.specs.Prelude.{ℕ, Bool, false, List, [], ◌∷◌, ◌++◌, Option, Some, None, is_some, if◌then◌else◌}
use Rattle.std.specs.List.{flat_map}
use Rattle.cg_base.specs.declared.place.Place.{Place}
use Rattle.cg_core.specs.declared.at.At.{At}
use Rattle.cg_surface.specs.Written.{Written, Writtens, WrittenFields, WrittenAlts}
use Rattle.cg_surface.specs.Written as types
use Rattle.cg_surface.specs.Exprs.{Expr, Exprs, FieldExprs, Binds, Alts}
use Rattle.cg_surface.specs.Exprs as exprs
use Rattle.cg_surface.specs.Programs.{Entry, synonym, abstract, signature, define}
use Rattle.cg_resolve_takes.specs.Heads.{Heads, shape_of}

-- whether a type with these fields has one of this name
abbrev pub has_field : Option (List ℕ → Bool) → List ℕ → Bool
has_field None n = false
has_field (Some test) n = test n

-- the place of a name that is none of its fields
abbrev pub if_absent : Option (List ℕ → Bool) → At → List Place
if_absent shape at = if has_field shape at.name then [] else at.place ∷ []

-- the place of the word `take` before `..` where it is no record
abbrev pub if_no_record : Option (List ℕ → Bool) → Place → List Place
if_no_record shape p = if is_some shape then [] else p ∷ []

module _ (heads : Heads) where
  -- the places of a type, in reading order
  abbrev mutual
    pub absent : Written → List Place
    absent (types.named p n args) = absent_all args
    absent (types.nothing p) = []
    absent (types.tuple p ts) = absent_all ts
    absent (types.paren p t) = absent t
    absent (types.arrow p a b) = absent a ++ absent b
    absent (types.fields p boxed fs) = absent_fields fs
    absent (types.variant p choices) = absent_alts choices
    absent (types.bang p t) = absent t
    absent (types.take_some p t ns) = absent t ++ flat_map (if_absent (shape_of heads t)) ns
    absent (types.take_all p t q) = absent t ++ if_no_record (shape_of heads t) q

    pub absent_all : Writtens → List Place
    absent_all types.no_types = []
    absent_all (types.and_type ts t) = absent_all ts ++ absent t

    pub absent_fields : WrittenFields → List Place
    absent_fields types.no_fields = []
    absent_fields (types.and_field fs at t) = absent_fields fs ++ absent t

    pub absent_alts : WrittenAlts → List Place
    absent_alts types.no_alts = []
    absent_alts (types.and_plain choices at) = absent_alts choices
    absent_alts (types.and_alt choices at t) = absent_alts choices ++ absent t

  -- those of an expression
  abbrev mutual
    pub absent_in : Expr → List Place
    absent_in (exprs.name p n ts) = absent_all ts
    absent_in (exprs.number p v) = []
    absent_in (exprs.bool p b) = []
    absent_in (exprs.unit p) = []
    absent_in (exprs.paren p a) = absent_in a
    absent_in (exprs.sig p a t) = absent_in a ++ absent t
    absent_in (exprs.tuple p es) = absent_exprs es
    absent_in (exprs.fields p fs) = absent_values fs
    absent_in (exprs.con p n) = []
    absent_in (exprs.con_of p n a) = absent_in a
    absent_in (exprs.app p f a) = absent_in f ++ absent_in a
    absent_in (exprs.member p a at) = absent_in a
    absent_in (exprs.put p a fs) = absent_in a ++ absent_values fs
    absent_in (exprs.unary p o a) = absent_in a
    absent_in (exprs.upcast p a) = absent_in a
    absent_in (exprs.binary p o a b) = absent_in a ++ absent_in b
    absent_in (exprs.lets p bs b) = absent_binds bs ++ absent_in b
    absent_in (exprs.if_else p c seen a b) = absent_in c ++ (absent_in a ++ absent_in b)
    absent_in (exprs.match_of p e seen choices) = absent_in e ++ absent_choices choices

    pub absent_exprs : Exprs → List Place
    absent_exprs exprs.no_exprs = []
    absent_exprs (exprs.and_expr es e) = absent_exprs es ++ absent_in e

    pub absent_values : FieldExprs → List Place
    absent_values exprs.no_fields = []
    absent_values (exprs.and_field fs at e) = absent_values fs ++ absent_in e

    pub absent_binds : Binds → List Place
    absent_binds exprs.no_binds = []
    absent_binds (exprs.and_bind bs x e seen) = absent_binds bs ++ absent_in e

    pub absent_choices : Alts → List Place
    absent_choices exprs.no_alts = []
    absent_choices (exprs.and_alt choices p con x b) = absent_choices choices ++ absent_in b

  -- those of an item
  abbrev pub absent_item : Entry → List Place
  absent_item (synonym at params body) = absent body
  absent_item (abstract at params) = []
  absent_item (signature at vars places ty) = absent ty
  absent_item (define at param body) = absent_in body
