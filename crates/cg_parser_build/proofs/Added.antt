-- Lists of the code with an item more, and the place of an expression.
use Rattle.std.proofs.Common.{◌≡◌, ℕ, List, [], ◌∷◌, ◌++◌, map, Option, Some, None, Box, Global, refl, ap, ◌∙◌}
use Rattle.std.proofs.lemmas.List.{map-append}
use Rattle.cg_base.specs.declared.place.Place.{Place}
use Rattle.cg_core.specs.declared.at.At.{At}
use Rattle.cg_surface.specs.declared.pattern.Pat.{Pat}
use Rattle.cg_surface.specs.declared.expr.SExpr.{SExpr, roll-SExpr, fold_out-SExpr}
use Rattle.cg_surface.specs.declared.expr.SForm.{SForm, Con, fold-SForm, fold_out-SForm, the_lemmas}
use Rattle.cg_surface.specs.declared.expr.SForm.TheOpen as open'
use Rattle.cg_surface.specs.declared.expr.SForm.TheOpen.{SForm-F}
use Rattle.cg_surface.specs.declared.expr.FExpr.{FExpr}
use Rattle.cg_surface.specs.declared.expr.Bind.{Bind}
use Rattle.cg_surface.specs.declared.expr.Alt.{Alt}
use Rattle.cg_surface.specs.Written.{types_none}
use Rattle.cg_surface.specs.Patterns.{pattern_of}
use Rattle.cg_surface.specs.Exprs.{Expr, OneAlt, OneBind, OneField, layer, alt_layer, bind_layer, field_layer, expr_layer, expr_of, alt_of, bind_of, field_of, and_expr, and_field, and_bind, and_alt, to_exprs, to_fields, to_binds, to_alts, exprs_push, fields_push, binds_push, alts_push, binds_none, place_of, con_of}
use Rattle.cg_surface.proofs.Views.{alternative_is as alt_is, bind_is, value_is as field_is, exprs_none, values_none as fields_none, choices_none as alts_none}
use Rattle.cg_parser_types.proofs.Added.{types_added as args_added}

pub exprs_added : (es : List SExpr) (e : SExpr) → to_exprs (map expr_of (es ++ e ∷ [])) ≡ and_expr (to_exprs (map expr_of es)) (expr_of e)
exprs_added es e = ap to_exprs (map-append expr_of es (e ∷ [])) ∙ exprs_push (map expr_of es) (expr_of e)

pub fields_added : (gs : List FExpr) (at : At) (e : SExpr) → to_fields (map field_of (gs ++ record { at = at; value = e } ∷ [])) ≡ and_field (to_fields (map field_of gs)) at (expr_of e)
fields_added gs at e =
    let g : FExpr = record { at = at; value = e } in
    ap to_fields (map-append field_of gs (g ∷ [])) ∙ fields_push (map field_of gs) (field_of g) ∙ ap (λ (f : OneField). and_field (to_fields (map field_of gs)) f.at f.value) (field_is g)

pub binds_added : (bs : List Bind) (x : Pat) (e : SExpr) (seen : List At)
    → to_binds (map bind_of (bs ++ record { pat = x; value = e; seen = seen } ∷ [])) ≡ and_bind (to_binds (map bind_of bs)) (pattern_of x) (expr_of e) seen
binds_added bs x e seen =
    let b : Bind = record { pat = x; value = e; seen = seen } in
    ap to_binds (map-append bind_of bs (b ∷ []))
    ∙ binds_push (map bind_of bs) (bind_of b)
    ∙ ap (λ (o : OneBind). and_bind (to_binds (map bind_of bs)) o.pattern o.value o.seen) (bind_is b)

pub alts_added : (choices : List Alt) (p : Place) (con : Option (List ℕ)) (x : Pat) (e : SExpr)
    → to_alts (map alt_of (choices ++ record { place = p; con = con; pat = x; body = e } ∷ [])) ≡ and_alt (to_alts (map alt_of choices)) p con (pattern_of x) (expr_of e)
alts_added choices p con x e =
    let a : Alt = record { place = p; con = con; pat = x; body = e } in
    ap to_alts (map-append alt_of choices (a ∷ []))
    ∙ alts_push (map alt_of choices) (alt_of a)
    ∙ ap (λ (o : OneAlt). and_alt (to_alts (map alt_of choices)) o.place o.con o.pattern o.body) (alt_is a)

-- what grind needs of lists
pub ruleset added = (args_added, exprs_added, fields_added, binds_added, alts_added, types_none, exprs_none, fields_none, binds_none, alts_none)

-- a form stands at the place that it is given
form_of : SForm → Place → Expr
form_of = fold-SForm (Place → Expr) OneAlt OneBind OneField Expr layer alt_layer bind_layer field_layer expr_layer

layer_at : (l : SForm-F (Place → Expr) OneAlt OneBind OneField Expr) (p : Place) → place_of (layer l p) ≡ p
layer_at (open'.Name n ts) p = refl
layer_at (open'.Number v) p = refl
layer_at (open'.Bool b) p = refl
layer_at open'.Unit p = refl
layer_at (open'.Paren e) p = refl
layer_at (open'.Sig e t) p = refl
layer_at (open'.Tuple es) p = refl
layer_at (open'.Fields gs) p = refl
layer_at (open'.Con n None) p = refl
layer_at (open'.Con n (Some e)) p = refl
layer_at (open'.App f e) p = refl
layer_at (open'.Member e at) p = refl
layer_at (open'.Put e gs) p = refl
layer_at (open'.Unary o e) p = refl
layer_at (open'.Upcast e) p = refl
layer_at (open'.Binary o a b) p = refl
layer_at (open'.Let bs e) p = refl
layer_at (open'.If c seen a b) p = refl
layer_at (open'.Match e seen choices) p = refl

form_at : (f : SForm) (p : Place) → place_of (form_of f p) ≡ p
unfolding form_of
form_at f p = ap (λ g. place_of (g p)) (fold_out-SForm (Place → Expr) OneAlt OneBind OneField Expr layer alt_layer bind_layer field_layer expr_layer f) ∙ layer_at _ p

pub place_at : (e : SExpr) → place_of (expr_of e) ≡ e.place
unfolding form_of
place_at e = ap place_of (fold_out-SExpr (Place → Expr) OneAlt OneBind OneField Expr layer alt_layer bind_layer field_layer expr_layer e) ∙ form_at e.form e.place

-- a constructor with what it holds
con_is : (n : List ℕ) (b : Box SExpr Global) → form_of (Con n (Some b)) ≡ (λ p. con_of p n (expr_of b.value))
unfolding form_of
con_is n b = search the_lemmas

expr_is : (p : Place) (f : SForm) → expr_of (roll-SExpr (record { place = p; form = f })) ≡ form_of f p
unfolding form_of
expr_is p f = search the_lemmas

pub con_with : (p : Place) (n : List ℕ) (b : Box SExpr Global) → expr_of (roll-SExpr (record { place = p; form = Con n (Some b) })) ≡ con_of p n (expr_of b.value)
con_with p n b = expr_is p (Con n (Some b)) ∙ ap (λ f. f p) (con_is n b)
