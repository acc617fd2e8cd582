-- The size of the largest type that is written in expressions and items, put together of the sizes in their parts.
use Rattle.std.specs.Prelude.{ℕ, max, List, [], ◌∷◌}
use Rattle.cg_surface.specs.Exprs.{Expr, Exprs, FieldExprs, Binds, Alts}
use Rattle.cg_surface.specs.Exprs as exprs
use Rattle.cg_surface.specs.Programs.{Entry, synonym, abstract, signature, define}
use Rattle.cg_resolve_def.specs.Expand.{Bodies}
use Rattle.cg_resolve_written.specs.Sizes.{greatest, greatest_of}

module _ (known : Bodies) where
  abbrev mutual
    pub greatest_in : Expr → ℕ
    greatest_in (exprs.name p n ts) = greatest_of known ts
    greatest_in (exprs.number p v) = 0
    greatest_in (exprs.bool p b) = 0
    greatest_in (exprs.unit p) = 0
    greatest_in (exprs.paren p a) = greatest_in a
    greatest_in (exprs.sig p a t) = max (greatest_in a) (greatest known t)
    greatest_in (exprs.tuple p es) = greatest_list es
    greatest_in (exprs.fields p fs) = greatest_values fs
    greatest_in (exprs.con p n) = 0
    greatest_in (exprs.con_of p n a) = greatest_in a
    greatest_in (exprs.app p f a) = max (greatest_in f) (greatest_in a)
    greatest_in (exprs.member p a at) = greatest_in a
    greatest_in (exprs.put p a fs) = max (greatest_in a) (greatest_values fs)
    greatest_in (exprs.unary p o a) = greatest_in a
    greatest_in (exprs.upcast p a) = greatest_in a
    greatest_in (exprs.binary p o a b) = max (greatest_in a) (greatest_in b)
    greatest_in (exprs.lets p bs b) = max (greatest_binds bs) (greatest_in b)
    greatest_in (exprs.if_else p c seen a b) = max (greatest_in c) (max (greatest_in a) (greatest_in b))
    greatest_in (exprs.match_of p e seen choices) = max (greatest_in e) (greatest_alts choices)

    pub greatest_list : Exprs → ℕ
    greatest_list exprs.no_exprs = 0
    greatest_list (exprs.and_expr es e) = max (greatest_list es) (greatest_in e)

    pub greatest_values : FieldExprs → ℕ
    greatest_values exprs.no_fields = 0
    greatest_values (exprs.and_field fs at e) = max (greatest_values fs) (greatest_in e)

    pub greatest_binds : Binds → ℕ
    greatest_binds exprs.no_binds = 0
    greatest_binds (exprs.and_bind bs x e seen) = max (greatest_binds bs) (greatest_in e)

    pub greatest_alts : Alts → ℕ
    greatest_alts exprs.no_alts = 0
    greatest_alts (exprs.and_alt choices p con x b) = max (greatest_alts choices) (greatest_in b)

  abbrev pub greatest_entry : Entry → ℕ
  greatest_entry (synonym at params body) = greatest known body
  greatest_entry (abstract at params) = 0
  greatest_entry (signature at vars places ty) = greatest known ty
  greatest_entry (define at param body) = greatest_in body

  abbrev pub greatest_part : List Entry → ℕ
  greatest_part [] = 0
  greatest_part (e ∷ later) = max (greatest_entry e) (greatest_part later)
