-- What an expression mentions depends on the names in scope, and not on their order.
use Rattle.std.proofs.Common.{◌≡◌, ℕ, List, [], ◌∷◌, ◌++◌, ap, ◌∙◌, refl, if◌then◌else◌}
use Rattle.cg_surface.specs.Exprs.{Expr, Exprs, FieldExprs, Binds, Alts}
use Rattle.cg_surface.specs.Exprs as exprs
use Rattle.cg_resolve_def.specs.Faults.{bound, all_bound}
use Rattle.cg_resolve_def.specs.Mentions.{expr_mentions, list_mentions, values_mentions, binds_mentions, match_mentions}
use Rattle.cg_resolve_names.specs.Scopes.{SameNames}
use Rattle.cg_resolve_names.proofs.Same.{more_behind}

-- two lists of names, each pair alike
both : (a a' b b' : List (List ℕ)) → a ≡ a' → b ≡ b' → a ++ b ≡ a' ++ b'
both a a' b b' e f = ap (λ l. l ++ b) e ∙ ap (λ l. a' ++ l) f

mutual
  pub expr_same : (names others : List (List ℕ)) → SameNames names others → (e : Expr) → expr_mentions names e ≡ expr_mentions others e
  expr_same names others same (exprs.name p n ts) = ap (λ b. if b then [] else n ∷ []) (same n)
  expr_same names others same (exprs.number p v) = refl
  expr_same names others same (exprs.bool p b) = refl
  expr_same names others same (exprs.unit p) = refl
  expr_same names others same (exprs.paren p a) = expr_same names others same a
  expr_same names others same (exprs.sig p a t) = expr_same names others same a
  expr_same names others same (exprs.tuple p es) = list_same names others same es
  expr_same names others same (exprs.fields p fs) = values_same names others same fs
  expr_same names others same (exprs.con p n) = refl
  expr_same names others same (exprs.con_of p n a) = expr_same names others same a
  expr_same names others same (exprs.app p f a) = both _ _ _ _ (expr_same names others same f) (expr_same names others same a)
  expr_same names others same (exprs.member p a at) = expr_same names others same a
  expr_same names others same (exprs.put p a fs) = both _ _ _ _ (expr_same names others same a) (values_same names others same fs)
  expr_same names others same (exprs.unary p o a) = expr_same names others same a
  expr_same names others same (exprs.upcast p a) = expr_same names others same a
  expr_same names others same (exprs.binary p o a b) = both _ _ _ _ (expr_same names others same a) (expr_same names others same b)
  expr_same names others same (exprs.lets p bs b) =
      both _ _ _ _ (binds_same names others same bs) (expr_same (all_bound bs ++ names) (all_bound bs ++ others) (more_behind (all_bound bs) names others same) b)
  expr_same names others same (exprs.if_else p c seen a b) = both _ _ _ _ (both _ _ _ _ (expr_same names others same c) (expr_same names others same a)) (expr_same names others same b)
  expr_same names others same (exprs.match_of p e seen choices) = both _ _ _ _ (expr_same names others same e) (match_same names others same choices)

  list_same : (names others : List (List ℕ)) → SameNames names others → (es : Exprs) → list_mentions names es ≡ list_mentions others es
  list_same names others same exprs.no_exprs = refl
  list_same names others same (exprs.and_expr es e) = both _ _ _ _ (list_same names others same es) (expr_same names others same e)

  values_same : (names others : List (List ℕ)) → SameNames names others → (fs : FieldExprs) → values_mentions names fs ≡ values_mentions others fs
  values_same names others same exprs.no_fields = refl
  values_same names others same (exprs.and_field fs at e) = both _ _ _ _ (values_same names others same fs) (expr_same names others same e)

  binds_same : (names others : List (List ℕ)) → SameNames names others → (bs : Binds) → binds_mentions names bs ≡ binds_mentions others bs
  binds_same names others same exprs.no_binds = refl
  binds_same names others same (exprs.and_bind bs x e seen) =
      both _ _ _ _ (binds_same names others same bs) (expr_same (all_bound bs ++ names) (all_bound bs ++ others) (more_behind (all_bound bs) names others same) e)

  match_same : (names others : List (List ℕ)) → SameNames names others → (choices : Alts) → match_mentions names choices ≡ match_mentions others choices
  match_same names others same exprs.no_alts = refl
  match_same names others same (exprs.and_alt choices p con x b) =
      both _ _ _ _ (match_same names others same choices) (expr_same (bound x ++ names) (bound x ++ others) (more_behind (bound x) names others same) b)
