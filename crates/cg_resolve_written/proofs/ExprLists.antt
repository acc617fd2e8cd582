-- Lists of expressions of the code, an item further, and how many items they have.
use Rattle.std.proofs.Common.{◌≡◌, ℕ, ◌+◌, ◌<◌, List, [], ◌∷◌, length, map, take, get_or, refl, ap, ◌∙◌, arith}
use Rattle.std.proofs.lemmas.List.{map-append, take_more, length-map}
use Rattle.cg_surface.proofs.Views.{value_is, bind_is, alternative_is, exprs_none, values_none, choices_none}
use Rattle.cg_surface.specs.declared.expr.SExpr.{SExpr}
use Rattle.cg_surface.specs.declared.expr.SForm.{the_lemmas}
use Rattle.cg_surface.specs.declared.expr.FExpr.{FExpr}
use Rattle.cg_surface.specs.declared.expr.Bind.{Bind}
use Rattle.cg_surface.specs.declared.expr.Alt.{Alt}
use Rattle.cg_surface.specs.Patterns.{pattern_of}
use Rattle.cg_surface.specs.Exprs.{Expr, Exprs, FieldExprs, OneAlt, OneBind, OneField, expr_of, alt_of, bind_of, field_of, no_exprs, and_expr, no_fields, and_field, and_bind, and_alt, exprs_behind, fields_behind, to_exprs, to_fields, to_binds, to_alts, exprs_push, fields_push, binds_push, alts_push, binds_none}
use Rattle.cg_resolve_def.specs.Takes.{exprs_length, values_length}

exprs_more : (before : Exprs) (es : List Expr) → exprs_length (exprs_behind before es) ≡ exprs_length before + length es
exprs_more before [] = omega arith
exprs_more before (e ∷ es) = exprs_more (and_expr before e) es ∙ omega arith

values_more : (before : FieldExprs) (fs : List OneField) → values_length (fields_behind before fs) ≡ values_length before + length fs
values_more before [] = omega arith
values_more before (f ∷ fs) = values_more (and_field before f.at f.value) fs ∙ omega arith

pub exprs_counted : (es : List SExpr) → exprs_length (to_exprs (map expr_of es)) ≡ length es
unfolding to_exprs
exprs_counted es = exprs_more no_exprs (map expr_of es) ∙ omega (arith, length-map es expr_of)

pub values_counted : (fs : List FExpr) → values_length (to_fields (map field_of fs)) ≡ length fs
unfolding to_fields
values_counted fs = values_more no_fields (map field_of fs) ∙ omega (arith, length-map fs field_of)

-- each says first that the item is itself, so that `grind` finds it where the item is read
pub exprs_at : (es : List SExpr) (i : ℕ) (d : SExpr) → i < length es → (get_or es i d ≡ get_or es i d)
    × (to_exprs (map expr_of (take (i + 1) es)) ≡ and_expr (to_exprs (map expr_of (take i es))) (expr_of (get_or es i d)))
exprs_at es i d lt = (
  refl,
  ap (λ l. to_exprs (map expr_of l)) (take_more es i d lt) ∙ ap to_exprs (map-append expr_of (take i es) (get_or es i d ∷ [])) ∙ exprs_push (map expr_of (take i es)) (expr_of (get_or es i d)),
)

pub values_at : (fs : List FExpr) (i : ℕ) (d : FExpr) → i < length fs → (get_or fs i d ≡ get_or fs i d)
    × (to_fields (map field_of (take (i + 1) fs)) ≡ and_field (to_fields (map field_of (take i fs))) (get_or fs i d).at (expr_of (get_or fs i d).value))
values_at fs i d lt = (
  refl,
  ap (λ l. to_fields (map field_of l)) (take_more fs i d lt) ∙ ap to_fields (map-append field_of (take i fs) (get_or fs i d ∷ [])) ∙ fields_push (map field_of (take i fs)) (field_of (get_or fs i d))
      ∙ ap (λ (f : OneField). and_field (to_fields (map field_of (take i fs))) f.at f.value) (value_is (get_or fs i d)),
)

pub binds_at : (bs : List Bind) (i : ℕ) (d : Bind) → i < length bs → (get_or bs i d ≡ get_or bs i d)
    × (to_binds (map bind_of (take (i + 1) bs)) ≡ and_bind (to_binds (map bind_of (take i bs))) (pattern_of (get_or bs i d).pat) (expr_of (get_or bs i d).value) (get_or bs i d).seen)
binds_at bs i d lt = (
  refl,
  ap (λ l. to_binds (map bind_of l)) (take_more bs i d lt) ∙ ap to_binds (map-append bind_of (take i bs) (get_or bs i d ∷ [])) ∙ binds_push (map bind_of (take i bs)) (bind_of (get_or bs i d))
      ∙ ap (λ (b : OneBind). and_bind (to_binds (map bind_of (take i bs))) b.pattern b.value b.seen) (bind_is (get_or bs i d)),
)

pub alts_at : (choices : List Alt) (i : ℕ) (d : Alt) → i < length choices → (get_or choices i d ≡ get_or choices i d)
    × (to_alts (map alt_of (take (i + 1) choices))
    ≡ and_alt (to_alts (map alt_of (take i choices))) (get_or choices i d).place (get_or choices i d).con (pattern_of (get_or choices i d).pat) (expr_of (get_or choices i d).body))
alts_at choices i d lt = (
  refl,
  ap (λ l. to_alts (map alt_of l)) (take_more choices i d lt) ∙ ap to_alts (map-append alt_of (take i choices) (get_or choices i d ∷ [])) ∙ alts_push (map alt_of (take i choices)) (alt_of (get_or choices i d))
      ∙ ap (λ (a : OneAlt). and_alt (to_alts (map alt_of (take i choices))) a.place a.con a.pattern a.body) (alternative_is (get_or choices i d)),
)

pub ruleset expr_lists = (exprs_counted, values_counted, exprs_at, values_at, binds_at, alts_at, exprs_none, values_none, binds_none, choices_none, the_lemmas)
