-- Fields that are taken where they aren't: told by heads, they are those of the program.
use Rattle.std.proofs.Common.{◌≡◌, ℕ, cond, List, [], ◌∷◌, ◌++◌, map, Some, refl, sym, ap, ◌∙◌, append_assoc, append-nil}
use Rattle.std.proofs.lemmas.List.Concat.{flat_map-append, flat_map_single}
use Rattle.std.specs.List.{flat_map}
use Rattle.cg_base.specs.declared.place.Place.{Place}
use Rattle.cg_base.specs.Types.{Tau, var, seen, unit, word, bool, arrow, abs, variant, fields}
use Rattle.cg_core.specs.declared.at.At.{At}
use Rattle.cg_core_def.specs.Lawful.{part_names}
use Rattle.cg_surface.specs.Written.{Written, Writtens, WrittenFields, WrittenAlts}
use Rattle.cg_surface.specs.Written as types
use Rattle.cg_surface.specs.Exprs.{Expr, Exprs, FieldExprs, Binds, Alts}
use Rattle.cg_surface.specs.Exprs as exprs
use Rattle.cg_surface.specs.Programs.{Entry, synonym, abstract, signature, define}
use Rattle.cg_resolve_def.specs.Declared.{is_among}
use Rattle.cg_resolve_def.specs.Expand.{Bodies, expanded}
use Rattle.cg_resolve_def.specs.Takes.{not_there, some_missing, all_missing, take_faults, takes_faults, fields_takes, alts_takes, listed, types_in, types_in_list, types_in_fields, types_in_binds, types_in_alts, Alone, with_vars, written_in, written_from, missing_from}
use Rattle.cg_resolve_takes.specs.Heads.{fields_in, shape_of, top, tops}
use Rattle.cg_resolve_takes.specs.Missing.{if_absent, if_no_record, absent, absent_all, absent_fields, absent_alts, absent_in, absent_exprs, absent_values, absent_binds, absent_choices, absent_item}
use Rattle.cg_resolve_takes.proofs.Same.{shape_is}
use Rattle.cg_resolve_takes.proofs.Tops.{head_is}

-- ---- at a take

names_absent : (names : List (List ℕ)) (ats : List At) → not_there ats names ≡ flat_map (if_absent (Some (is_among names))) ats
names_absent names [] = refl
names_absent names (at ∷ ats) = ap (λ l. cond (is_among names at.name) [] (at.place ∷ []) ++ l) (names_absent names ats)

-- where it is no record, each name is absent
pub some_absent : (ats : List At) (t : Tau) → some_missing ats t ≡ flat_map (if_absent (fields_in (top t))) ats
some_absent ats (var n) = sym (flat_map_single (λ at. at.place) ats)
some_absent ats (seen n) = sym (flat_map_single (λ at. at.place) ats)
some_absent ats unit = sym (flat_map_single (λ at. at.place) ats)
some_absent ats (word w) = sym (flat_map_single (λ at. at.place) ats)
some_absent ats bool = sym (flat_map_single (λ at. at.place) ats)
some_absent ats (arrow a b) = sym (flat_map_single (λ at. at.place) ats)
some_absent ats (abs n ts sigil) = sym (flat_map_single (λ at. at.place) ats)
some_absent ats (variant ps) = sym (flat_map_single (λ at. at.place) ats)
some_absent ats (fields ps sigil) = names_absent (part_names ps) ats

pub all_absent : (p : Place) (t : Tau) → all_missing p t ≡ if_no_record (fields_in (top t)) p
all_absent p (var n) = refl
all_absent p (seen n) = refl
all_absent p unit = refl
all_absent p (word w) = refl
all_absent p bool = refl
all_absent p (arrow a b) = refl
all_absent p (abs n ts sigil) = refl
all_absent p (variant ps) = refl
all_absent p (fields ps sigil) = refl

-- ---- types

both : {A : Type 0} (xs ys zs ws : List A) → xs ≡ zs → ys ≡ ws → xs ++ ys ≡ zs ++ ws
both xs ys zs ws p q = ap (λ l. l ++ ys) p ∙ ap (λ l. zs ++ l) q

module _ (known : Bodies) (vars : List (List ℕ)) where
  -- the fields that a written type has in the kernel
  shape_top : (t : Written) → fields_in (top (expanded known vars t)) ≡ shape_of (tops known) t
  shape_top t = ap fields_in (sym (head_is known vars t)) ∙ shape_is (tops known) vars t

  mutual
    pub absent_is : (t : Written) → take_faults known vars t ≡ absent (tops known) t
    absent_is (types.named p n args) = absent_all_is args
    absent_is (types.nothing p) = refl
    absent_is (types.tuple p ts) = absent_all_is ts
    absent_is (types.paren p t) = absent_is t
    absent_is (types.arrow p a b) = both _ _ _ _ (absent_is a) (absent_is b)
    absent_is (types.fields p boxed fs) = absent_fields_is fs
    absent_is (types.variant p choices) = absent_alts_is choices
    absent_is (types.bang p t) = absent_is t
    absent_is (types.take_some p t ns) = both _ _ _ _ (absent_is t) (some_absent ns (expanded known vars t) ∙ ap (λ s. flat_map (if_absent s) ns) (shape_top t))
    absent_is (types.take_all p t q) = both _ _ _ _ (absent_is t) (all_absent q (expanded known vars t) ∙ ap (λ s. if_no_record s q) (shape_top t))

    absent_all_is : (ts : Writtens) → takes_faults known vars ts ≡ absent_all (tops known) ts
    absent_all_is types.no_types = refl
    absent_all_is (types.and_type ts t) = both _ _ _ _ (absent_all_is ts) (absent_is t)

    absent_fields_is : (fs : WrittenFields) → fields_takes known vars fs ≡ absent_fields (tops known) fs
    absent_fields_is types.no_fields = refl
    absent_fields_is (types.and_field fs at t) = both _ _ _ _ (absent_fields_is fs) (absent_is t)

    absent_alts_is : (choices : WrittenAlts) → alts_takes known vars choices ≡ absent_alts (tops known) choices
    absent_alts_is types.no_alts = refl
    absent_alts_is (types.and_plain choices at) = absent_alts_is choices
    absent_alts_is (types.and_alt choices at t) = both _ _ _ _ (absent_alts_is choices) (absent_is t)

-- ---- expressions and items

missing_append : (known : Bodies) (xs ys : List Alone) → missing_from known (xs ++ ys) ≡ missing_from known xs ++ missing_from known ys
missing_append known [] ys = refl
missing_append known (x ∷ xs) ys = ap (λ l. take_faults known x.vars x.ty ++ l) (missing_append known xs ys) ∙ sym (append_assoc (take_faults known x.vars x.ty) (missing_from known xs) (missing_from known ys))

module _ (known : Bodies) (vars : List (List ℕ)) where
  alone_is : (ts : List Written) → missing_from known (map (with_vars vars) ts) ≡ flat_map (absent (tops known)) ts
  alone_is [] = refl
  alone_is (t ∷ ts) = both _ _ _ _ (absent_is known vars t) (alone_is ts)

module _ (known : Bodies) where
  abbrev of_types : List Written → List Place
  of_types ts = flat_map (absent (tops known)) ts

  -- of one list behind another, and of one type
  joined : (xs ys : List Written) (ps qs : List Place) → of_types xs ≡ ps → of_types ys ≡ qs → of_types (xs ++ ys) ≡ ps ++ qs
  joined xs ys ps qs p q = flat_map-append (absent (tops known)) xs ys ∙ both _ _ _ _ p q

  alone : (t : Written) → of_types (t ∷ []) ≡ absent (tops known) t
  alone t = append-nil (absent (tops known) t)

  of_listed : (ts : Writtens) → of_types (listed ts) ≡ absent_all (tops known) ts
  of_listed types.no_types = refl
  of_listed (types.and_type ts t) = joined (listed ts) (t ∷ []) _ _ (of_listed ts) (alone t)

  mutual
    pub in_expr : (e : Expr) → of_types (types_in e) ≡ absent_in (tops known) e
    in_expr (exprs.name p n ts) = of_listed ts
    in_expr (exprs.number p v) = refl
    in_expr (exprs.bool p b) = refl
    in_expr (exprs.unit p) = refl
    in_expr (exprs.paren p a) = in_expr a
    in_expr (exprs.sig p a t) = joined (types_in a) (t ∷ []) _ _ (in_expr a) (alone t)
    in_expr (exprs.tuple p es) = in_exprs es
    in_expr (exprs.fields p fs) = in_values fs
    in_expr (exprs.con p n) = refl
    in_expr (exprs.con_of p n a) = in_expr a
    in_expr (exprs.app p f a) = joined (types_in f) (types_in a) _ _ (in_expr f) (in_expr a)
    in_expr (exprs.member p a at) = in_expr a
    in_expr (exprs.put p a fs) = joined (types_in a) (types_in_fields fs) _ _ (in_expr a) (in_values fs)
    in_expr (exprs.unary p o a) = in_expr a
    in_expr (exprs.upcast p a) = in_expr a
    in_expr (exprs.binary p o a b) = joined (types_in a) (types_in b) _ _ (in_expr a) (in_expr b)
    in_expr (exprs.lets p bs b) = joined (types_in_binds bs) (types_in b) _ _ (in_binds bs) (in_expr b)
    in_expr (exprs.if_else p c observed a b) =
        ap of_types (append_assoc (types_in c) (types_in a) (types_in b))
        ∙ joined (types_in c) (types_in a ++ types_in b) _ _ (in_expr c) (joined (types_in a) (types_in b) _ _ (in_expr a) (in_expr b))
    in_expr (exprs.match_of p e observed choices) = joined (types_in e) (types_in_alts choices) _ _ (in_expr e) (in_choices choices)

    in_exprs : (es : Exprs) → of_types (types_in_list es) ≡ absent_exprs (tops known) es
    in_exprs exprs.no_exprs = refl
    in_exprs (exprs.and_expr es e) = joined (types_in_list es) (types_in e) _ _ (in_exprs es) (in_expr e)

    in_values : (fs : FieldExprs) → of_types (types_in_fields fs) ≡ absent_values (tops known) fs
    in_values exprs.no_fields = refl
    in_values (exprs.and_field fs at e) = joined (types_in_fields fs) (types_in e) _ _ (in_values fs) (in_expr e)

    in_binds : (bs : Binds) → of_types (types_in_binds bs) ≡ absent_binds (tops known) bs
    in_binds exprs.no_binds = refl
    in_binds (exprs.and_bind bs x e observed) = joined (types_in_binds bs) (types_in e) _ _ (in_binds bs) (in_expr e)

    in_choices : (choices : Alts) → of_types (types_in_alts choices) ≡ absent_choices (tops known) choices
    in_choices exprs.no_alts = refl
    in_choices (exprs.and_alt choices p con x b) = joined (types_in_alts choices) (types_in b) _ _ (in_choices choices) (in_expr b)

  in_item : (entries : List Entry) (e : Entry) → missing_from known (written_in entries e) ≡ absent_item (tops known) e
  in_item entries (synonym at params body) = append-nil _ ∙ absent_is known _ body
  in_item entries (abstract at params) = refl
  in_item entries (signature at vars places ty) = append-nil _ ∙ absent_is known _ ty
  in_item entries (define at param body) = alone_is known _ (types_in body) ∙ in_expr body

  pub missing_is : (entries items : List Entry) → missing_from known (written_from entries items) ≡ flat_map (absent_item (tops known)) items
  missing_is entries [] = refl
  missing_is entries (e ∷ items) = missing_append known (written_in entries e) (written_from entries items) ∙ both _ _ _ _ (in_item entries e) (missing_is entries items)
