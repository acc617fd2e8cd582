-- Binders, one layer and one step at a time.
use Rattle.std.proofs.Common.{◌≡◌, ℕ, zero, suc, ◌+◌, ◌<◌, List, ◌∷◌, length, Option, Some, None, Result, refl, map, drop, get_or, drop-cons, add-one, sym, ap, ◌∙◌, subst, arith}
use Rattle.cg_base.specs.declared.place.Place.{Place}
use Rattle.cg_core.specs.declared.at.At.{At}
use Rattle.cg_core.specs.declared.term.Term.{the_lemmas as term_lemmas}
use Rattle.cg_core.specs.Terms.{term, var, let_bang, take_field}
use Rattle.cg_core.specs.declared.term.Seen.{Seen}
use Rattle.cg_surface.specs.declared.pattern.Pat.{the_lemmas as pattern_lemmas}
use Rattle.cg_surface.specs.Patterns.{Pattern, OneField, pattern_of, field_of, layer, field_layer, pattern_layer}
use Rattle.cg_surface.specs.Patterns.{to_patterns, to_fields}
use Rattle.cg_surface.specs.Patterns as patterns
use Rattle.cg_surface.specs.declared.pattern.PatForm as PatForm
use Rattle.cg_base.specs.declared.items.Items.{Items}
use Rattle.cg_base.specs.declared.name.Name.{Name}
use Rattle.std.proofs.Math.Path.{fun_ext}
use Rattle.cg_surface.specs.declared.pattern.Pat.{Pat}
use Rattle.cg_surface.specs.declared.pattern.FPat.{FPat, fold_out-FPat}
use Rattle.cg_resolve_def.specs.Expand.{component}
use Rattle.cg_resolve_def.specs.Terms.{Term, Rest, its_name, inner_place, bound_to, positions}
use Rattle.cg_resolve_sites.specs.declared.frames.Site.{Site}
use Rattle.cg_resolve_sites.specs.Sites.{scope_in, Fits, Moved, IsTooDeep, Binds}
use Rattle.cg_resolve_sites.specs.declared.fault.TermFault.{TermFault}
use Rattle.cg_resolve_sites.specs.Stands.{under, HasRoom, parts_under}
use Rattle.cg_resolve_sites.proofs.PatternSteps.{some_parts, patterns_under, fields_under}
use Rattle.cg_resolve_sites.proofs.SiteLaws.{moved_none, moved_step, deep_step}
use Rattle.cg_resolve_sites.proofs.ScopeSteps.{scope_push, scope_long}
use Rattle.cg_resolve_binders.specs.Parts.{numbered, taken_from, one_taken, later_bound, all_later, tuple_bound, parts_bound, remainder_bound, seen_made}
use Rattle.cg_resolve_binders.proofs.PartLaws.{tuple_is, fields_are, remainder_is}

pub ruleset binder_steps = (scope_push, scope_long, term_lemmas, pattern_lemmas)

pub drop_next : {X : Type 0} (xs : List X) (i : ℕ) (d : X) → i < length xs → d ≡ get_or xs i d → drop i xs ≡ d ∷ drop (i + 1) xs
drop_next xs i d within is = rw (add-one) (drop-cons xs i d within ∙ ap (λ y. y ∷ drop (suc i) xs) (sym is))

-- what is taken has the place and the name of its pattern
pub taken_moved : (a b : Site) (after : Rest → Term) (p : Place) (e : Term) (at : At) (x : Pattern) (v : Place) (n : Option (List ℕ)) → v ≡ inner_place x → n ≡ its_name x
    → Moved a (λ rest. term p (take_field e at p v (rest (n ∷ None ∷ scope_in a)))) b after → Moved a (one_taken p e at x (scope_in a)) b after
taken_moved a b after p e at x v n place name moved =
    subst (λ w. Moved a (λ rest. term p (take_field e at p w (rest (its_name x ∷ None ∷ scope_in a)))) b after) place
    (subst (λ m. Moved a (λ rest. term p (take_field e at p v (rest (m ∷ None ∷ scope_in a)))) b after) name moved)

-- a variable has room where any term has
pub variable_room : (under : Option ℕ) (level : ℕ) → HasRoom under level 1
variable_room None level = tt
variable_room (Some k) level = λ room. room

-- what is bound to parts has room where there are some
pub parts_room : (n level depth : ℕ) → HasRoom (parts_under n) level depth → 0 < n → HasRoom (Some 1) level depth
parts_room zero level depth room some = absurd (omega arith)
parts_room (suc n) level depth room some = subst (λ u. HasRoom u level depth) (some_parts n) room

-- ---- one field more

module _ (a b c : Site) (made : Rest → Term) (p : Place) (e : Term) (at : At) (x : Pattern) (ys fs : List OneField) (is : ys ≡ record { at = at; pattern = x } ∷ fs) (so_far : Moved a made b (taken_from p ys e (scope_in b))) where
  unrolled : Moved a made b (taken_from p (record { at = at; pattern = x } ∷ fs) e (scope_in b))
  unrolled = subst (λ l. Moved a made b (taken_from p l e (scope_in b))) is so_far

  pub taken_turn : (w : Term) → w ≡ term p (var (length b.scope.items)) → Moved b (one_taken p e at x (scope_in b)) c (λ rest. rest (scope_in c))
      → Moved a made c (taken_from p fs w (scope_in c))
  taken_turn w var_is one =
      subst (λ t. Moved a made c (taken_from p fs t (scope_in c))) (ap (λ n. term p (var n)) (scope_long b.scope.items) ∙ sym var_is)
      (moved_step a b c made (one_taken p e at x (scope_in b)) (λ scope rest. taken_from p fs (term p (var (length (scope_in b)))) scope rest) unrolled one)

  pub taken_deep : IsTooDeep b (one_taken p e at x (scope_in b)) → IsTooDeep a made
  taken_deep deep = deep_step a b c made (one_taken p e at x (scope_in b)) (λ scope rest. taken_from p fs (term p (var (length (scope_in b)))) scope rest) unrolled deep

-- the fields from one on
pub fields_next : (items : List FPat) (i : ℕ) (d : FPat) (at : At) → i < length items → d ≡ get_or items i d → at ≡ d.at
    → map field_of (drop i items) ≡ record { at = at; pattern = pattern_of d.pat } ∷ map field_of (drop (i + 1) items)
fields_next items i d at within is same =
    ap (map field_of) (drop_next items i d within is)
    ∙ ap (λ f. f ∷ map field_of (drop (i + 1) items)) (fold_out-FPat _ _ _ layer field_layer pattern_layer d ∙ ap (λ n. record { at = n; pattern = pattern_of d.pat }) (sym same))

-- the components from one on
pub components_next : (items : List Pat) (i k : ℕ) (d : Pat) (place : Place) (name : List ℕ) → i < length items → d ≡ get_or items i d → place ≡ inner_place (pattern_of d) → name ≡ component k
    → numbered k (map pattern_of (drop i items)) ≡ record { at = record { place = place; name = name }; pattern = pattern_of d } ∷ numbered (k + 1) (map pattern_of (drop (i + 1) items))
components_next items i k d place name within is at_place named =
    ap (λ l. numbered k (map pattern_of l)) (drop_next items i d within is)
    ∙ ap (λ p. record { at = record { place = p; name = component k }; pattern = pattern_of d } ∷ numbered (k + 1) (map pattern_of (drop (i + 1) items))) (sym at_place)
    ∙ ap (λ n. record { at = record { place = place; name = n }; pattern = pattern_of d } ∷ numbered (k + 1) (map pattern_of (drop (i + 1) items))) (sym named)

-- ---- one component more

module _ (a b c : Site) (made : Rest → Term) (i : ℕ) (x : Pattern) (ys xs : List Pattern) (is : ys ≡ x ∷ xs) (so_far : Moved a made b (all_later ys i (scope_in b))) where
  later_unrolled : Moved a made b (all_later (x ∷ xs) i (scope_in b))
  later_unrolled = subst (λ l. Moved a made b (all_later l i (scope_in b))) is so_far

  pub later_turn : Moved b (later_bound (its_name x) x (inner_place x) i (scope_in b)) c (λ rest. rest (scope_in c)) → Moved a made c (all_later xs (i + 2) (scope_in c))
  later_turn one = moved_step a b c made (later_bound (its_name x) x (inner_place x) i (scope_in b)) (λ scope rest. all_later xs (i + 2) scope rest) later_unrolled one

  pub later_deep : IsTooDeep b (later_bound (its_name x) x (inner_place x) i (scope_in b)) → IsTooDeep a made
  later_deep deep = deep_step a b c made (later_bound (its_name x) x (inner_place x) i (scope_in b)) (λ scope rest. all_later xs (i + 2) scope rest) later_unrolled deep

-- ---- one component at its position

pub later_some : (a : Site) (x : Pattern) (q : Place) (i : ℕ) (n : List ℕ) → Some n ≡ its_name x → Fits a → Moved a (later_bound (its_name x) x q i (scope_in a)) a (λ rest. rest (scope_in a))
later_some a x q i n is fits = subst (λ o. Moved a (later_bound o x q i (scope_in a)) a (λ rest. rest (scope_in a))) is (moved_none a (λ rest. rest (scope_in a)) fits)

pub later_none : (a b : Site) (x : Pattern) (q : Place) (i : ℕ) (v : Place) (t : Term) (r : Result Unit TermFault) → None ≡ its_name x → v ≡ inner_place x → t ≡ term q (var i)
    → Binds a (bound_to v x t (scope_in a)) r b → Binds a (later_bound (its_name x) x q i (scope_in a)) r b
later_none a b x q i v t r is place value binds =
    subst (λ o. Binds a (later_bound o x q i (scope_in a)) r b) is
    (subst (λ w. Binds a (bound_to w x (term q (var i)) (scope_in a)) r b) place
    (subst (λ y. Binds a (bound_to v x y (scope_in a)) r b) value binds))

-- the patterns of fields from one on
pub parts_next : (items : List FPat) (i : ℕ) (d : FPat) → i < length items → d ≡ get_or items i d
    → map (λ f. f.pattern) (map field_of (drop i items)) ≡ pattern_of d.pat ∷ map (λ f. f.pattern) (map field_of (drop (i + 1) items))
parts_next items i d within is = ap (map (λ f. f.pattern)) (fields_next items i d d.at within is refl)

pub items_next : (items : List Pat) (i : ℕ) (d : Pat) → i < length items → d ≡ get_or items i d
    → map pattern_of (drop i items) ≡ pattern_of d ∷ map pattern_of (drop (i + 1) items)
items_next items i d within is = ap (map pattern_of) (drop_next items i d within is)

-- ---- patterns with parts, one layer

tuple_pattern : (x : Pat) (items : Items Pat) → x.form ≡ PatForm.Tuple items → pattern_of x ≡ patterns.tuple x.place (to_patterns (map pattern_of items))
tuple_pattern x items is = grind (arith, pattern_lemmas)

fields_pattern : (x : Pat) (items : Items FPat) → x.form ≡ PatForm.Fields items → pattern_of x ≡ patterns.fields x.place (to_fields (map field_of items))
fields_pattern x items is = grind (arith, pattern_lemmas)

take_pattern : (x : Pat) (n : Name) (items : Items FPat) → x.form ≡ PatForm.Take n items → pattern_of x ≡ patterns.take x.place n (to_fields (map field_of items))
take_pattern x n items is = grind (arith, pattern_lemmas)

pub tuple_room : (x : Pat) (items : Items Pat) (level depth : ℕ) → x.form ≡ PatForm.Tuple items → HasRoom (under (pattern_of x)) level depth → 0 < length items → HasRoom (Some 1) level depth
tuple_room x items level depth is room =
    parts_room (length items) level depth (subst (λ o. HasRoom o level depth) (ap under (tuple_pattern x items is) ∙ patterns_under pattern_of items) room)

pub fields_room : (x : Pat) (items : Items FPat) (level depth : ℕ) → x.form ≡ PatForm.Fields items → HasRoom (under (pattern_of x)) level depth → 0 < length items → HasRoom (Some 1) level depth
fields_room x items level depth is room =
    parts_room (length items) level depth (subst (λ o. HasRoom o level depth) (ap under (fields_pattern x items is) ∙ fields_under field_of items) room)

pub take_room : (x : Pat) (n : Name) (items : Items FPat) (level depth : ℕ) → x.form ≡ PatForm.Take n items → HasRoom (under (pattern_of x)) level depth → 0 < length items → HasRoom (Some 1) level depth
take_room x n items level depth is room =
    parts_room (length items) level depth (subst (λ o. HasRoom o level depth) (ap under (take_pattern x n items is) ∙ fields_under field_of items) room)

pub tuple_binds : (a b : Site) (q : Place) (x : Pat) (items : Items Pat) (e : Term) (r : Result Unit TermFault) → x.form ≡ PatForm.Tuple items
    → Binds a (tuple_bound x.place (map pattern_of items) e (scope_in a)) r b → Binds a (bound_to q (pattern_of x) e (scope_in a)) r b
tuple_binds a b q x items e r is binds =
    subst (λ made. Binds a made r b)
    (fun_ext (λ rest. sym (tuple_is q x.place (map pattern_of items) e (scope_in a) rest)) ∙ ap (λ y. bound_to q y e (scope_in a)) (sym (tuple_pattern x items is)))
    binds

pub fields_binds : (a b : Site) (q : Place) (x : Pat) (items : Items FPat) (e : Term) (r : Result Unit TermFault) → x.form ≡ PatForm.Fields items
    → Binds a (parts_bound x.place (map field_of items) e (scope_in a)) r b → Binds a (bound_to q (pattern_of x) e (scope_in a)) r b
fields_binds a b q x items e r is binds =
    subst (λ made. Binds a made r b)
    (fun_ext (λ rest. sym (fields_are q x.place (map field_of items) e (scope_in a) rest)) ∙ ap (λ y. bound_to q y e (scope_in a)) (sym (fields_pattern x items is)))
    binds

pub take_binds : (a b : Site) (q : Place) (x : Pat) (n : Name) (items : Items FPat) (e : Term) (r : Result Unit TermFault) → x.form ≡ PatForm.Take n items
    → Binds a (remainder_bound x.place n (map field_of items) e (scope_in a)) r b → Binds a (bound_to q (pattern_of x) e (scope_in a)) r b
take_binds a b q x n items e r is binds =
    subst (λ made. Binds a made r b)
    (fun_ext (λ rest. sym (remainder_is q x.place n (map field_of items) e (scope_in a) rest)) ∙ ap (λ y. bound_to q y e (scope_in a)) (sym (take_pattern x n items is)))
    binds

-- ---- a term that is observed

pub seen_moved : (a b : Site) (after : Rest → Term) (p : Place) (seen : List At) (l : List Seen) (q : Place) (e : Term) (entry : Option (List ℕ)) → l ≡ positions (scope_in a) seen
    → Moved a (λ rest. term p (let_bang l q e (rest (entry ∷ scope_in a)))) b after → Moved a (seen_made p seen q e entry (scope_in a)) b after
seen_moved a b after p seen l q e entry is moved = subst (λ m. Moved a (λ rest. term p (let_bang m q e (rest (entry ∷ scope_in a)))) b after) is moved
