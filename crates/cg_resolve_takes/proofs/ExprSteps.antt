-- The first place in lists of expressions.
use Rattle.std.proofs.Common.{◌≡◌, List, [], ◌∷◌, ◌++◌, map, sym, ◌∙◌, append_assoc, append-nil}
use Rattle.std.proofs.lemmas.List.Folds.{flat_map-map}
use Rattle.std.specs.List.{flat_map}
use Rattle.cg_surface.specs.declared.expr.SExpr.{SExpr, the_lemmas}
use Rattle.cg_surface.specs.declared.expr.FExpr.{FExpr}
use Rattle.cg_surface.specs.declared.expr.Bind.{Bind}
use Rattle.cg_surface.specs.declared.expr.Alt.{Alt}
use Rattle.cg_surface.specs.Exprs.{Expr, Exprs, FieldExprs, Binds, Alts, OneField, OneBind, OneAlt, expr_of, field_of, bind_of, alt_of, to_exprs, to_fields, to_binds, to_alts, exprs_behind, fields_behind, binds_behind, alts_behind}
use Rattle.cg_surface.specs.Exprs as exprs
use Rattle.cg_resolve_takes.specs.Heads.{Heads}
use Rattle.cg_resolve_takes.specs.Missing.{absent_in, absent_exprs, absent_values, absent_binds, absent_choices}
use Rattle.cg_resolve_takes.proofs.SaySteps.{loop_end}

module _ (heads : Heads) where
  exprs_split : (before : Exprs) (es : List Expr) → absent_exprs heads (exprs_behind before es) ≡ absent_exprs heads before ++ flat_map (absent_in heads) es
  exprs_split before [] = sym (append-nil (absent_exprs heads before))
  exprs_split before (e ∷ es) = exprs_split (exprs.and_expr before e) es ∙ append_assoc (absent_exprs heads before) (absent_in heads e) (flat_map (absent_in heads) es)

  pub absent_list : (es : List SExpr) → absent_exprs heads (to_exprs (map expr_of es)) ≡ flat_map (λ e. absent_in heads (expr_of e)) es
  unfolding to_exprs
  absent_list es = exprs_split exprs.no_exprs (map expr_of es) ∙ flat_map-map (absent_in heads) expr_of es

  fields_split : (before : FieldExprs) (fs : List OneField) → absent_values heads (fields_behind before fs) ≡ absent_values heads before ++ flat_map (λ f. absent_in heads f.value) fs
  fields_split before [] = sym (append-nil (absent_values heads before))
  fields_split before (f ∷ fs) = fields_split (exprs.and_field before f.at f.value) fs ∙ append_assoc (absent_values heads before) (absent_in heads f.value) (flat_map (λ f. absent_in heads f.value) fs)

  pub absent_fields_of : (fs : List FExpr) → absent_values heads (to_fields (map field_of fs)) ≡ flat_map (λ f. absent_in heads (field_of f).value) fs
  unfolding to_fields
  absent_fields_of fs = fields_split exprs.no_fields (map field_of fs) ∙ flat_map-map (λ f. absent_in heads f.value) field_of fs

  binds_split : (before : Binds) (bs : List OneBind) → absent_binds heads (binds_behind before bs) ≡ absent_binds heads before ++ flat_map (λ b. absent_in heads b.value) bs
  binds_split before [] = sym (append-nil (absent_binds heads before))
  binds_split before (b ∷ bs) = binds_split (exprs.and_bind before b.pattern b.value b.seen) bs ∙ append_assoc (absent_binds heads before) (absent_in heads b.value) (flat_map (λ b. absent_in heads b.value) bs)

  pub absent_binds_of : (bs : List Bind) → absent_binds heads (to_binds (map bind_of bs)) ≡ flat_map (λ b. absent_in heads (bind_of b).value) bs
  unfolding to_binds
  absent_binds_of bs = binds_split exprs.no_binds (map bind_of bs) ∙ flat_map-map (λ b. absent_in heads b.value) bind_of bs

  alts_split : (before : Alts) (choices : List OneAlt) → absent_choices heads (alts_behind before choices) ≡ absent_choices heads before ++ flat_map (λ a. absent_in heads a.body) choices
  alts_split before [] = sym (append-nil (absent_choices heads before))
  alts_split before (a ∷ choices) = alts_split (exprs.and_alt before a.place a.con a.pattern a.body) choices ∙ append_assoc (absent_choices heads before) (absent_in heads a.body) (flat_map (λ a. absent_in heads a.body) choices)

  pub absent_alts_of : (choices : List Alt) → absent_choices heads (to_alts (map alt_of choices)) ≡ flat_map (λ a. absent_in heads (alt_of a).body) choices
  unfolding to_alts
  absent_alts_of choices = alts_split exprs.no_alts (map alt_of choices) ∙ flat_map-map (λ a. absent_in heads a.body) alt_of choices

pub ruleset expr_steps = (absent_list, absent_fields_of, absent_binds_of, absent_alts_of, loop_end, the_lemmas)
