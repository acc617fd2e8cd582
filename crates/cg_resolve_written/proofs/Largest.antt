-- The largest type that a program writes is the greatest of the sizes of its types.
use Rattle.std.proofs.Common.{◌≡◌, ℕ, max, List, [], ◌∷◌, ◌++◌, map, refl, ap, ◌∙◌, arith}
use Rattle.std.proofs.lemmas.List.{map-append}
use Rattle.cg_surface.specs.Exprs.{Expr, Exprs, FieldExprs, Binds, Alts}
use Rattle.cg_surface.specs.Exprs as exprs
use Rattle.cg_surface.specs.Programs.{Entry, synonym, abstract, signature, define}
use Rattle.cg_surface.specs.Written.{Written, Writtens}
use Rattle.cg_surface.specs.Written as types
use Rattle.cg_resolve_def.specs.Declared.{function_named}
use Rattle.cg_resolve_def.specs.Expand.{Bodies}
use Rattle.cg_resolve_def.specs.Faults.{names_of, var_names, vars_named}
use Rattle.cg_resolve_def.specs.Takes.{Alone, largest_from, listed, types_in, types_in_alts, types_in_binds, types_in_fields, types_in_list, with_vars, written_from, written_in}
use Rattle.cg_resolve_written.specs.Measures.{greatest_alts, greatest_binds, greatest_entry, greatest_in, greatest_list, greatest_part, greatest_values}
use Rattle.cg_resolve_written.specs.Sizes.{greatest, greatest_of}
use Rattle.cg_resolve_written.proofs.Nodes.{largest-greatest}

module _ (known : Bodies) where
  largest-append : (ts us : List Alone) → largest_from known (ts ++ us) ≡ max (largest_from known ts) (largest_from known us)
  largest-append [] us = omega arith
  largest-append (t ∷ ts) us = let later = largest-append ts us in omega arith

  module _ (vars : List (List ℕ)) where
    abbrev top : List Written → ℕ
    top ts = largest_from known (map (with_vars vars) ts)

    top-append : (ts us : List Written) → top (ts ++ us) ≡ max (top ts) (top us)
    top-append ts us = ap (largest_from known) (map-append (with_vars vars) ts us) ∙ largest-append (map (with_vars vars) ts) (map (with_vars vars) us)

    top_push : (ts : List Written) (t : Written) → top (ts ++ t ∷ []) ≡ max (top ts) (greatest known t)
    top_push ts t = let both = top-append ts (t ∷ []) in omega (arith, largest-greatest known vars t)

    top_listed : (ts : Writtens) → top (listed ts) ≡ greatest_of known ts
    top_listed types.no_types = refl
    top_listed (types.and_type ts t) = omega (arith, top_push (listed ts) t, top_listed ts)

    mutual
      top_in : (e : Expr) → top (types_in e) ≡ greatest_in known e
      top_in (exprs.name p n ts) = top_listed ts
      top_in (exprs.number p v) = refl
      top_in (exprs.bool p b) = refl
      top_in (exprs.unit p) = refl
      top_in (exprs.paren p a) = top_in a
      top_in (exprs.sig p a t) = omega (arith, top_push (types_in a) t, top_in a)
      top_in (exprs.tuple p es) = top_list es
      top_in (exprs.fields p fs) = top_values fs
      top_in (exprs.con p n) = refl
      top_in (exprs.con_of p n a) = top_in a
      top_in (exprs.app p f a) = omega (arith, top-append (types_in f) (types_in a), top_in f, top_in a)
      top_in (exprs.member p a at) = top_in a
      top_in (exprs.put p a fs) = omega (arith, top-append (types_in a) (types_in_fields fs), top_in a, top_values fs)
      top_in (exprs.unary p o a) = top_in a
      top_in (exprs.upcast p a) = top_in a
      top_in (exprs.binary p o a b) = omega (arith, top-append (types_in a) (types_in b), top_in a, top_in b)
      top_in (exprs.lets p bs b) = omega (arith, top-append (types_in_binds bs) (types_in b), top_binds bs, top_in b)
      top_in (exprs.if_else p c seen a b) =
          omega (arith, top-append (types_in c ++ types_in a) (types_in b), top-append (types_in c) (types_in a), top_in c, top_in a, top_in b)
      top_in (exprs.match_of p e seen choices) = omega (arith, top-append (types_in e) (types_in_alts choices), top_in e, top_alts choices)

      top_list : (es : Exprs) → top (types_in_list es) ≡ greatest_list known es
      top_list exprs.no_exprs = refl
      top_list (exprs.and_expr es e) = omega (arith, top-append (types_in_list es) (types_in e), top_list es, top_in e)

      top_values : (fs : FieldExprs) → top (types_in_fields fs) ≡ greatest_values known fs
      top_values exprs.no_fields = refl
      top_values (exprs.and_field fs at e) = omega (arith, top-append (types_in_fields fs) (types_in e), top_values fs, top_in e)

      top_binds : (bs : Binds) → top (types_in_binds bs) ≡ greatest_binds known bs
      top_binds exprs.no_binds = refl
      top_binds (exprs.and_bind bs x e seen) = omega (arith, top-append (types_in_binds bs) (types_in e), top_binds bs, top_in e)

      top_alts : (choices : Alts) → top (types_in_alts choices) ≡ greatest_alts known choices
      top_alts exprs.no_alts = refl
      top_alts (exprs.and_alt choices p con x b) = omega (arith, top-append (types_in_alts choices) (types_in b), top_alts choices, top_in b)

  largest_entry : (entries : List Entry) (e : Entry) → largest_from known (written_in entries e) ≡ greatest_entry known e
  largest_entry entries (synonym at params body) = omega (arith, largest-greatest known (names_of params) body)
  largest_entry entries (abstract at params) = refl
  largest_entry entries (signature at vars places ty) = omega (arith, largest-greatest known (var_names vars) ty)
  largest_entry entries (define at param body) = top_in (vars_named (function_named entries at.name)) body

  pub largest_part : (entries es : List Entry) → largest_from known (written_from entries es) ≡ greatest_part known es
  largest_part entries [] = refl
  largest_part entries (e ∷ es) = omega (arith, largest-append (written_in entries e) (written_from entries es), largest_entry entries e, largest_part entries es)
