-- The largest types of lists of expressions and items: an item further, and no item's is larger than that of the whole list.
use Rattle.std.proofs.Common.{◌≡◌, ℕ, zero, suc, ◌+◌, ◌<◌, ◌≤◌, max, List, [], ◌∷◌, ◌++◌, length, map, take, get_or, refl, ap, ◌∙◌, arith}
use Rattle.std.proofs.lemmas.List.{map-append, take_more}
use Rattle.cg_surface.specs.declared.expr.SExpr.{SExpr}
use Rattle.cg_surface.specs.declared.expr.SForm.{the_lemmas}
use Rattle.cg_surface.specs.declared.expr.FExpr.{FExpr}
use Rattle.cg_surface.specs.declared.expr.Bind.{Bind}
use Rattle.cg_surface.specs.declared.expr.Alt.{Alt}
use Rattle.cg_surface.specs.declared.program.Item.{Item}
use Rattle.cg_surface.specs.Exprs.{Expr, Exprs, FieldExprs, Binds, Alts, OneAlt, OneBind, OneField, expr_of, alt_of, bind_of, field_of, no_exprs, and_expr, no_fields, and_field, no_binds, and_bind, no_alts, and_alt, exprs_behind, fields_behind, binds_behind, alts_behind, to_exprs, to_fields, to_binds, to_alts, binds_none}
use Rattle.cg_surface.specs.Programs.{Entry, entry_of}
use Rattle.cg_surface.specs.Written.{types_none}
use Rattle.cg_resolve_def.specs.Expand.{Bodies}
use Rattle.cg_resolve_written.specs.Measures.{greatest_in, greatest_list, greatest_values, greatest_binds, greatest_alts, greatest_entry, greatest_part}
use Rattle.cg_resolve_written.proofs.ExprLists.{exprs_at, values_at, binds_at, alts_at}
use Rattle.cg_surface.proofs.Views.{value_is, bind_is, alternative_is, exprs_none, values_none, choices_none}
use Rattle.cg_resolve_expand.proofs.TypeLists.{types_at}
use Rattle.cg_resolve_written.proofs.SizeSteps.{type_within}

module _ (known : Bodies) where
  exprs_le : (before : Exprs) (es : List Expr) → greatest_list known before ≤ greatest_list known (exprs_behind before es)
  exprs_le before [] = omega arith
  exprs_le before (e ∷ es) = omega (arith, exprs_le (and_expr before e) es)

  in_exprs : (before : Exprs) (es : List SExpr) (i : ℕ) (d : SExpr) → i < length es → greatest_in known (expr_of (get_or es i d)) ≤ greatest_list known (exprs_behind before (map expr_of es))
  in_exprs before [] i d lt = absurd (omega arith)
  in_exprs before (e ∷ es) zero d lt = omega (arith, exprs_le (and_expr before (expr_of e)) (map expr_of es))
  in_exprs before (e ∷ es) (suc i) d lt = in_exprs (and_expr before (expr_of e)) es i d (omega arith)

  values_le : (before : FieldExprs) (fs : List OneField) → greatest_values known before ≤ greatest_values known (fields_behind before fs)
  values_le before [] = omega arith
  values_le before (f ∷ fs) = omega (arith, values_le (and_field before f.at f.value) fs)

  in_values : (before : FieldExprs) (fs : List FExpr) (i : ℕ) (d : FExpr) → i < length fs → greatest_in known (expr_of (get_or fs i d).value) ≤ greatest_values known (fields_behind before (map field_of fs))
  in_values before [] i d lt = absurd (omega arith)
  in_values before (f ∷ fs) zero d lt =
      let g : OneField = field_of f in
      omega (arith, values_le (and_field before g.at g.value) (map field_of fs), ap (λ (h : OneField). greatest_in known h.value) (value_is f))
  in_values before (f ∷ fs) (suc i) d lt = in_values (and_field before (field_of f).at (field_of f).value) fs i d (omega arith)

  binds_le : (before : Binds) (bs : List OneBind) → greatest_binds known before ≤ greatest_binds known (binds_behind before bs)
  binds_le before [] = omega arith
  binds_le before (b ∷ bs) = omega (arith, binds_le (and_bind before b.pattern b.value b.seen) bs)

  in_binds : (before : Binds) (bs : List Bind) (i : ℕ) (d : Bind) → i < length bs → greatest_in known (expr_of (get_or bs i d).value) ≤ greatest_binds known (binds_behind before (map bind_of bs))
  in_binds before [] i d lt = absurd (omega arith)
  in_binds before (b ∷ bs) zero d lt =
      let g : OneBind = bind_of b in
      omega (arith, binds_le (and_bind before g.pattern g.value g.seen) (map bind_of bs), ap (λ (h : OneBind). greatest_in known h.value) (bind_is b))
  in_binds before (b ∷ bs) (suc i) d lt = in_binds (and_bind before (bind_of b).pattern (bind_of b).value (bind_of b).seen) bs i d (omega arith)

  alts_le : (before : Alts) (choices : List OneAlt) → greatest_alts known before ≤ greatest_alts known (alts_behind before choices)
  alts_le before [] = omega arith
  alts_le before (a ∷ choices) = omega (arith, alts_le (and_alt before a.place a.con a.pattern a.body) choices)

  in_alts : (before : Alts) (choices : List Alt) (i : ℕ) (d : Alt) → i < length choices → greatest_in known (expr_of (get_or choices i d).body) ≤ greatest_alts known (alts_behind before (map alt_of choices))
  in_alts before [] i d lt = absurd (omega arith)
  in_alts before (a ∷ choices) zero d lt =
      let g : OneAlt = alt_of a in
      omega (arith, alts_le (and_alt before g.place g.con g.pattern g.body) (map alt_of choices), ap (λ (h : OneAlt). greatest_in known h.body) (alternative_is a))
  in_alts before (a ∷ choices) (suc i) d lt = in_alts (and_alt before (alt_of a).place (alt_of a).con (alt_of a).pattern (alt_of a).body) choices i d (omega arith)

  -- each says first that the item is itself, so that `grind` finds it where the item is read
  pub expr_within : (es : List SExpr) (i : ℕ) (d : SExpr) → i < length es → (get_or es i d ≡ get_or es i d) × (greatest_in known (expr_of (get_or es i d)) ≤ greatest_list known (to_exprs (map expr_of es)))
  unfolding to_exprs
  expr_within es i d lt = (refl, in_exprs no_exprs es i d lt)

  pub value_within : (fs : List FExpr) (i : ℕ) (d : FExpr) → i < length fs → (get_or fs i d ≡ get_or fs i d) × (greatest_in known (expr_of (get_or fs i d).value) ≤ greatest_values known (to_fields (map field_of fs)))
  unfolding to_fields
  value_within fs i d lt = (refl, in_values no_fields fs i d lt)

  pub bind_within : (bs : List Bind) (i : ℕ) (d : Bind) → i < length bs → (get_or bs i d ≡ get_or bs i d) × (greatest_in known (expr_of (get_or bs i d).value) ≤ greatest_binds known (to_binds (map bind_of bs)))
  unfolding to_binds
  bind_within bs i d lt = (refl, in_binds no_binds bs i d lt)

  pub alt_within : (choices : List Alt) (i : ℕ) (d : Alt) → i < length choices → (get_or choices i d ≡ get_or choices i d) × (greatest_in known (expr_of (get_or choices i d).body) ≤ greatest_alts known (to_alts (map alt_of choices)))
  unfolding to_alts
  alt_within choices i d lt = (refl, in_alts no_alts choices i d lt)

  -- items
  greatest_behind : (front : List Entry) (e : Entry) → greatest_part known (front ++ e ∷ []) ≡ max (greatest_part known front) (greatest_entry known e)
  greatest_behind [] e = omega arith
  greatest_behind (f ∷ front) e = let later = greatest_behind front e in omega arith

  pub entry_at : (items : List Item) (i : ℕ) (d : Item) → i < length items → (get_or items i d ≡ get_or items i d)
      × (greatest_part known (map entry_of (take (i + 1) items)) ≡ max (greatest_part known (map entry_of (take i items))) (greatest_entry known (entry_of (get_or items i d))))
  entry_at items i d lt = (
    refl,
    ap (λ l. greatest_part known (map entry_of l)) (take_more items i d lt) ∙ ap (greatest_part known) (map-append entry_of (take i items) (get_or items i d ∷ []))
        ∙ greatest_behind (map entry_of (take i items)) (entry_of (get_or items i d)),
  )

  in_entries : (items : List Item) (i : ℕ) (d : Item) → i < length items → greatest_entry known (entry_of (get_or items i d)) ≤ greatest_part known (map entry_of items)
  in_entries [] i d lt = absurd (omega arith)
  in_entries (e ∷ items) zero d lt = omega arith
  in_entries (e ∷ items) (suc i) d lt = omega (arith, in_entries items i d (omega arith))

  pub entry_within : (items : List Item) (i : ℕ) (d : Item) → i < length items → (get_or items i d ≡ get_or items i d) × (greatest_entry known (entry_of (get_or items i d)) ≤ greatest_part known (map entry_of items))
  entry_within items i d lt = (refl, in_entries items i d lt)

pub ruleset measure_steps = (types_at, type_within, types_none, exprs_at, values_at, binds_at, alts_at, expr_within, value_within, bind_within, alt_within, entry_at, entry_within, exprs_none, values_none, binds_none, choices_none, the_lemmas)
