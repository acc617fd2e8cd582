-- What one layer of the code's trees stands for, and the place of a type.
use Rattle.std.proofs.Common.{◌≡◌, [], Option, Some, None, refl, sym, ap, ◌∙◌}
use Rattle.std.specs.Option.{option_map}
use Rattle.cg_base.specs.declared.place.Place.{Place}
use Rattle.cg_core.specs.declared.at.At.{At}
use Rattle.cg_surface.specs.declared.expr.Alt.{Alt, fold_out-Alt}
use Rattle.cg_surface.specs.declared.expr.Bind.{Bind, fold_out-Bind}
use Rattle.cg_surface.specs.declared.expr.FExpr.{FExpr, fold_out-FExpr}
use Rattle.cg_surface.specs.declared.pattern.FPat.{FPat, fold_out-FPat}
use Rattle.cg_surface.specs.declared.written.SAlt.{SAlt, out-SAlt, roll-SAlt, roll-out-SAlt, fold-roll-SAlt}
use Rattle.cg_surface.specs.declared.written.SPart.{SPart, fold_out-SPart}
use Rattle.cg_surface.specs.declared.written.STy.{STy, fold_out-STy}
use Rattle.cg_surface.specs.declared.written.STyForm.{STyForm, fold-STyForm, fold_out-STyForm}
use Rattle.cg_surface.specs.declared.written.STyForm.TheOpen as open'
use Rattle.cg_surface.specs.declared.written.STyForm.TheOpen.{STyForm-F}
use Rattle.cg_surface.specs.Written.{Written}
use Rattle.cg_surface.specs.Written as types
use Rattle.cg_surface.specs.Patterns as patterns
use Rattle.cg_surface.specs.Exprs as exprs

-- ---- fields, alternatives and bindings

pub pattern_field_is : (f : FPat) → patterns.field_of f ≡ record { at = f.at; pattern = patterns.pattern_of f.pat }
pattern_field_is f = fold_out-FPat (Place → patterns.Pattern) patterns.OneField patterns.Pattern patterns.layer patterns.field_layer patterns.pattern_layer f

pub type_field_is : (f : SPart) → types.field_of f ≡ record { at = f.at; ty = types.written_of f.ty }
type_field_is f = fold_out-SPart (Place → Written) types.OneAlt types.OneField Written types.layer types.alt_layer types.field_layer types.type_layer f

pub type_alt_is : (a : SAlt) → types.alt_of a ≡ record { at = (out-SAlt a).at; ty = option_map types.written_of (out-SAlt a).ty }
type_alt_is a = ap types.alt_of (sym (roll-out-SAlt a)) ∙ rolled (out-SAlt a).at (out-SAlt a).ty
  where
    rolled : (at : At) (t : Option STy) → types.alt_of (roll-SAlt (record { at = at; ty = t })) ≡ record { at = at; ty = option_map types.written_of t }
    rolled at None = fold-roll-SAlt (Place → Written) types.OneAlt types.OneField Written types.layer types.alt_layer types.field_layer types.type_layer (record { at = at; ty = None })
    rolled at (Some t) = fold-roll-SAlt (Place → Written) types.OneAlt types.OneField Written types.layer types.alt_layer types.field_layer types.type_layer (record { at = at; ty = Some t })

pub value_is : (f : FExpr) → exprs.field_of f ≡ record { at = f.at; value = exprs.expr_of f.value }
value_is f = fold_out-FExpr (Place → exprs.Expr) exprs.OneAlt exprs.OneBind exprs.OneField exprs.Expr exprs.layer exprs.alt_layer exprs.bind_layer exprs.field_layer exprs.expr_layer f

pub bind_is : (b : Bind) → exprs.bind_of b ≡ record { pattern = patterns.pattern_of b.pat; value = exprs.expr_of b.value; seen = b.seen }
bind_is b = fold_out-Bind (Place → exprs.Expr) exprs.OneAlt exprs.OneBind exprs.OneField exprs.Expr exprs.layer exprs.alt_layer exprs.bind_layer exprs.field_layer exprs.expr_layer b

pub alternative_is : (a : Alt) → exprs.alt_of a ≡ record { place = a.place; con = a.con; pattern = patterns.pattern_of a.pat; body = exprs.expr_of a.body }
alternative_is a = fold_out-Alt (Place → exprs.Expr) exprs.OneAlt exprs.OneBind exprs.OneField exprs.Expr exprs.layer exprs.alt_layer exprs.bind_layer exprs.field_layer exprs.expr_layer a

-- ---- lists without items

pub exprs_none : exprs.to_exprs [] ≡ exprs.no_exprs
unfolding exprs.to_exprs
exprs_none = refl

pub values_none : exprs.to_fields [] ≡ exprs.no_fields
unfolding exprs.to_fields
values_none = refl

pub choices_none : exprs.to_alts [] ≡ exprs.no_alts
unfolding exprs.to_alts
choices_none = refl

-- ---- the place of a type: a form stands at the place that it is given

form_of : STyForm → Place → Written
form_of = fold-STyForm (Place → Written) types.OneAlt types.OneField Written types.layer types.alt_layer types.field_layer types.type_layer

pub layer_at : (l : STyForm-F (Place → Written) types.OneAlt types.OneField Written) (p : Place) → types.place_of (types.layer l p) ≡ p
layer_at (open'.Name n ts) p = refl
layer_at open'.Unit p = refl
layer_at (open'.Tuple ts) p = refl
layer_at (open'.Paren t) p = refl
layer_at (open'.Arrow a b) p = refl
layer_at (open'.Fields gs boxed) p = refl
layer_at (open'.Variant choices) p = refl
layer_at (open'.Bang t) p = refl
layer_at (open'.TakeSome t ns) p = refl
layer_at (open'.TakeAll t q) p = refl

form_at : (f : STyForm) (p : Place) → types.place_of (form_of f p) ≡ p
unfolding form_of
form_at f p = ap (λ g. types.place_of (g p)) (fold_out-STyForm (Place → Written) types.OneAlt types.OneField Written types.layer types.alt_layer types.field_layer types.type_layer f) ∙ layer_at _ p

pub place_at : (t : STy) → types.place_of (types.written_of t) ≡ t.place
unfolding form_of
place_at t = ap types.place_of (fold_out-STy (Place → Written) types.OneAlt types.OneField Written types.layer types.alt_layer types.field_layer types.type_layer t) ∙ form_at t.form t.place
