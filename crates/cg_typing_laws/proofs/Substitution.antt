-- What is derived with type variables is derived with type arguments in their place, at each form.
use Rattle.std.proofs.Common.{◌≡◌, ℕ, Bool, true, false, not, IsTrue, Option, Some, None, List, [], refl, sym, ap, ◌∙◌, subst as at}
use Rattle.std.specs.Option.{option_map}
use Rattle.std.proofs.lemmas.List.{length-map}
use Rattle.cg_base.specs.declared.kind.Kinds.{Kinds}
use Rattle.cg_base.specs.declared.kind.Sigil.TheVariants.{U}
use Rattle.cg_base.specs.Types as types
use Rattle.cg_base.specs.Types.{Tau, word, arrow, Piece, fields}
use Rattle.cg_core.specs.declared.derivation.Mark.{Mark}
use Rattle.cg_core.specs.Derivations.{Derivation, Derivations}
use Rattle.cg_core.specs.Kernels.{Function}
use Rattle.cg_core.specs.Terms.{Tree, term, Shape, var, unit, bool, lit, fun, op, app, lets, let_bang, if_else, con, case_of, esac, struct, member, take_field, put, cast, annot, none, more, Named, end, field, Note}
use Rattle.cg_kinds.specs.Kinds.{kinds, subst, subst_parts, is_word, subst_piece}
use Rattle.cg_typing.specs.Contexts.{Context, push, second, drops, shares}
use Rattle.cg_typing.specs.Functions.{asked_by, takes_as_many}
use Rattle.cg_typing.specs.Operators.{Sort, arithmetic, equality, order, logic, sort_of, takes, gives, along, operand}
use Rattle.cg_typing.specs.Parts.{widens, field_in, alternative_in, held, is_there, is_left, is_last, is_read_only, may_be_put_over, is_bool, with_part}
use Rattle.cg_typing.specs.Rules.{Meets, InRange, second_branch, type_at, is_literal, is_literal_shape, parts_made, record_made, Derives, DerivesShape, DerivesFields}
use Rattle.cg_typing.specs.Trees.{later_parts, first_marks, later_marks, marks_of}
use Rattle.cg_typing_laws.specs.Laws.{AreInstance, SubstitutionKeepsDerivations}
use Rattle.cg_typing.specs.Subst.{subst_arg, subst_direction, subst_context, subst_core, subst_shape, subst_fields}
use Rattle.cg_typing_laws.proofs.Contexts.{look_subst, first_subst, second_subst, push_subst, splits_kept, drops_kept, drops_but_kept}
use Rattle.cg_typing_laws.proofs.Functions.{arguments_kept, fun_type_subst}
use Rattle.cg_typing_laws.proofs.Named.{field_kept, alternative_kept, with_field, with_alternative, written_kept, last_kept, held_kept, left_kept, there_kept, left_is_there}
use Rattle.cg_typing_laws.proofs.Types.{or_kept, word_kept, arrays_kept, kinds_kept}

-- ---- directions and tests

module _ (given : List Tau) where
  meets_kept : (direction : Option Tau) (t : Tau) → Meets direction t → Meets (subst_direction given direction) (subst given t)
  meets_kept None t h = tt
  meets_kept (Some wanted) t h = ap (subst given) h

  branch_kept : (direction : Option Tau) (t : Tau) → subst_direction given (second_branch direction t) ≡ second_branch (subst_direction given direction) (subst given t)
  branch_kept None t = refl
  branch_kept (Some wanted) t = refl

  along_kept : (direction : Option Tau) (t : Tau) → subst_direction given (along direction t) ≡ along (subst_direction given direction) (subst given t)
  along_kept None t = refl
  along_kept (Some wanted) t = refl

  operand_kept : (sort : Sort) (direction : Option Tau) (guide : Bool) (t : Tau)
      → subst_direction given (operand sort direction guide t) ≡ operand sort (subst_direction given direction) guide (subst given t)
  unfolding subst
  operand_kept logic direction guide t = refl
  operand_kept arithmetic direction true t = along_kept direction t
  operand_kept equality direction true t = refl
  operand_kept order direction true t = refl
  operand_kept arithmetic direction false t = refl
  operand_kept equality direction false t = refl
  operand_kept order direction false t = refl

  bool_kept : (t : Tau) → IsTrue (is_bool t) → IsTrue (is_bool (subst given t))
  unfolding subst
  bool_kept types.bool h = refl
  bool_kept _ h = absurd (cc)

  takes_kept : (sort : Sort) (t : Tau) → IsTrue (takes sort t) → IsTrue (takes sort (subst given t))
  takes_kept arithmetic t h = word_kept given t h
  takes_kept equality t h = or_kept (is_word t) (is_bool t) _ _ (word_kept given t) (bool_kept t) h
  takes_kept order t h = word_kept given t h
  takes_kept logic t h = bool_kept t h

  gives_kept : (sort : Sort) (t : Tau) → subst given (gives sort t) ≡ gives sort (subst given t)
  unfolding subst
  gives_kept arithmetic t = refl
  gives_kept equality t = refl
  gives_kept order t = refl
  gives_kept logic t = refl

  range_kept : (value : Option ℕ) (t : Tau) → InRange value t → InRange value (subst given t)
  unfolding subst
  range_kept (Some value) (word w) h = h
  range_kept None t h = absurd h
  range_kept (Some value) (types.var n) h = absurd h
  range_kept (Some value) (types.seen n) h = absurd h
  range_kept (Some value) types.unit h = absurd h
  range_kept (Some value) types.bool h = absurd h
  range_kept (Some value) (types.arrow t u) h = absurd h
  range_kept (Some value) (types.abs n ts z) h = absurd h
  range_kept (Some value) (types.variant ps) h = absurd h
  range_kept (Some value) (types.fields ps z) h = absurd h

  widens_kept : (t u : Tau) → IsTrue (widens t u) → IsTrue (widens (subst given t) (subst given u))
  unfolding subst
  widens_kept (word v) (word w) h = h
  widens_kept _ _ h = absurd (cc)

  literal_kept : (c : Tree Note) → is_literal (subst_core given c) ≡ is_literal c
  literal_kept (term a shape) = go shape
    where
      go : (s : Shape Note) → is_literal_shape (subst_shape given s) ≡ is_literal_shape s
      go (lit v) = refl
      go (var j) = refl
      go unit = refl
      go (bool v) = refl
      go (fun f args) = refl
      go (op o ts) = refl
      go (app f x) = refl
      go (lets v e k) = refl
      go (let_bang os v e k) = refl
      go (if_else c x y) = refl
      go (con name e) = refl
      go (case_of e a v x y) = refl
      go (esac a e) = refl
      go (struct fs) = refl
      go (member e a) = refl
      go (take_field e a v w k) = refl
      go (put e a x) = refl
      go (cast e) = refl
      go (annot e t) = refl

  type_kept : (c : Tree Note) → type_at (subst_core given c) ≡ subst given (type_at c)
  type_kept (term a shape) = refl

  parts_made_kept : (fs : Named Note) → parts_made (subst_fields given fs) ≡ subst_parts given (parts_made fs)
  unfolding subst
  parts_made_kept end = refl
  parts_made_kept (field name (term a shape) fs) = ap (types.part name (subst given a.ty) false) (parts_made_kept fs)

  record_kept : (fs : Named Note) → record_made (subst_fields given fs) ≡ subst given (record_made fs)
  unfolding subst
  record_kept fs = ap (λ ps. fields ps U) (parts_made_kept fs)

-- ---- parts by name

module _ (given : List Tau) (n : List ℕ) (t : Tau) where
  field_left : IsTrue (is_left (field_in n t)) → IsTrue (is_left (field_in n (subst given t)))
  field_left h = at (λ o. IsTrue (is_left o)) (sym (field_kept given n t (left_is_there _ h))) (left_kept given (field_in n t) h)

  field_there : IsTrue (is_there (field_in n t)) → IsTrue (is_there (field_in n (subst given t)))
  field_there h = at (λ o. IsTrue (is_there o)) (sym (field_kept given n t h)) (there_kept given (field_in n t) h)

  field_held : IsTrue (is_there (field_in n t)) → held (field_in n (subst given t)) ≡ subst given (held (field_in n t))
  field_held h = ap held (field_kept given n t h) ∙ held_kept given (field_in n t) h

  alternative_left : IsTrue (is_left (alternative_in n t)) → IsTrue (is_left (alternative_in n (subst given t)))
  alternative_left h = at (λ o. IsTrue (is_left o)) (sym (alternative_kept given n t (left_is_there _ h))) (left_kept given (alternative_in n t) h)

  alternative_held : IsTrue (is_left (alternative_in n t)) → held (alternative_in n (subst given t)) ≡ subst given (held (alternative_in n t))
  alternative_held h = ap held (alternative_kept given n t (left_is_there _ h)) ∙ held_kept given (alternative_in n t) (left_is_there _ h)

-- ---- the rows

module _ (functions : List Function) (vars vars' : List Kinds) (given : List Tau) (instance' : AreInstance vars' given vars) where
  over_kept : (o : Option Piece) → IsTrue (may_be_put_over vars o) → IsTrue (may_be_put_over vars' (option_map (subst_piece given) o))
  over_kept (Some p) h = or_kept p.taken (drops vars p.ty) p.taken (drops vars' (subst given p.ty)) (λ x. x) (kinds_kept vars vars' given instance' p.ty).drop h
  over_kept None h = absurd (cc)

  abbrev D : Context → Derivation → Option Tau → Tree Note → Type 0
  D g d direction c = Derives functions vars g d direction c

  -- the same derivation, with the arguments in the place of the variables
  abbrev After : Context → Derivation → Option Tau → Tree Note → Type 0
  After g d direction c = Derives functions vars' (subst_context given g) d (subst_direction given direction) (subst_core given c)

  -- a part, in a context and a direction that are what is left of the node's
  part_after : (c : Tree Note) (d : Derivation) (g h : Context) (x y : Option Tau) → h ≡ subst_context given g → y ≡ subst_direction given x → After g d x c → Derives functions vars' h d y (subst_core given c)
  part_after c d g h x y e f k = at (λ h. Derives functions vars' h d y (subst_core given c)) (sym e) (at (λ y. Derives functions vars' (subst_context given g) d y (subst_core given c)) (sym f) k)

  -- one entry more
  pushed : (m : List Mark) (g : Context) (t u : Tau) → u ≡ subst given t → push (second m (subst_context given g)) (Some u) ≡ subst_context given (push (second m g) (Some t))
  pushed m g t u e = ap (λ h. push h (Some u)) (second_subst given m g) ∙ ap (λ u. push (subst_context given (second m g)) (Some u)) e ∙ push_subst given (second m g) (Some t)

  pushed_twice : (m : List Mark) (g : Context) (t u v w : Tau) → u ≡ subst given t → w ≡ subst given v
      → push (push (second m (subst_context given g)) (Some u)) (Some w) ≡ subst_context given (push (push (second m g) (Some t)) (Some v))
  pushed_twice m g t u v w e f =
      ap (λ h. push h (Some w)) (pushed m g t u e) ∙ ap (λ w. push (subst_context given (push (second m g) (Some t))) (Some w)) f
      ∙ push_subst given (push (second m g) (Some t)) (Some v)

  -- the direction of an operand
  operand_after : (sort : Sort) (direction : Option Tau) (guide guide' : Bool) (c : Tree Note) → guide' ≡ guide
      → operand sort (subst_direction given direction) guide' (type_at (subst_core given c)) ≡ subst_direction given (operand sort direction guide (type_at c))
  operand_after sort direction guide guide' c e =
      ap (λ b. operand sort (subst_direction given direction) b (type_at (subst_core given c))) e
      ∙ ap (operand sort (subst_direction given direction) guide) (type_kept given c) ∙ sym (operand_kept given sort direction guide (type_at c))

  -- tests of a part's type
  tested : (P : Tau → Type 0) (c : Tree Note) → P (subst given (type_at c)) → P (type_at (subst_core given c))
  tested P c h = at P (sym (type_kept given c)) h

  mutual
    unfolding subst

    pub kept : (c : Tree Note) (g : Context) (d : Derivation) (direction : Option Tau) → D g d direction c → After g d direction c
    kept (term a shape) g d direction h = kept_shape shape g d direction a.ty h

    kept_shape : (shape : Shape Note) (g : Context) (d : Derivation) (direction : Option Tau) (t : Tau) → DerivesShape functions vars g d direction t shape
        → DerivesShape functions vars' (subst_context given g) d (subst_direction given direction) (subst given t) (subst_shape given shape)
    kept_shape (var i) g d direction t h = record {
      tree = h.tree;
      present = look_subst given g i ∙ ap (subst_direction given) h.present;
      others = drops_but_kept vars vars' given instance' i g h.others;
      meets = meets_kept given direction t h.meets;
    }
    kept_shape unit g d direction t h = record {
      tree = h.tree;
      is = ap (subst given) h.is;
      others = drops_kept vars vars' given instance' g h.others;
      meets = meets_kept given direction t h.meets;
    }
    kept_shape (bool b) g d direction t h = record {
      tree = h.tree;
      is = ap (subst given) h.is;
      others = drops_kept vars vars' given instance' g h.others;
      meets = meets_kept given direction t h.meets;
    }
    kept_shape (lit value) g d direction t h = record {
      tree = h.tree;
      checked = ap (subst_direction given) h.checked;
      is_a_word = word_kept given t h.is_a_word;
      in_range = range_kept given value t h.in_range;
      others = drops_kept vars vars' given instance' g h.others;
    }
    kept_shape (fun f args) g d direction t h = record {
      tree = h.tree;
      many = at (λ n. IsTrue (takes_as_many functions f n)) (sym (length-map args (subst_arg given))) h.many;
      arguments = arguments_kept vars vars' given instance' (asked_by functions f) args h.arguments;
      is = fun_type_subst given functions vars f args t h.arguments h.is;
      others = drops_kept vars vars' given instance' g h.others;
      meets = meets_kept given direction t h.meets;
    }
    kept_shape (op o none) g d direction t h = absurd h
    kept_shape (op o (more x none)) g d direction t h = record {
      tree = h.tree;
      counted = h.counted;
      operand = part_after x _ g _ _ _ refl (operand_after (sort_of o) direction true true x refl) (kept x _ _ _ h.operand);
      takes = tested (λ u. IsTrue (takes (sort_of o) u)) x (takes_kept given (sort_of o) (type_at x) h.takes);
      is = ap (subst given) h.is ∙ tested (λ u. subst given (gives (sort_of o) (type_at x)) ≡ gives (sort_of o) u) x (gives_kept given (sort_of o) (type_at x));
      meets = meets_kept given direction t h.meets;
    }
    kept_shape (op o (more l (more r none))) g d direction t h = record {
      tree = h.tree;
      counted = h.counted;
      splits = splits_kept vars vars' given instance' [] (marks_of d) g h.splits;
      left = part_after l _ _ _ _ _ (first_subst given (marks_of d) g) (operand_after (sort_of o) direction (not (is_literal l)) _ l (ap not (literal_kept given l))) (kept l _ _ _ h.left);
      right = part_after r _ _ _ _ _ (second_subst given (marks_of d) g) (operand_after (sort_of o) direction (is_literal l) _ r (literal_kept given l)) (kept r _ _ _ h.right);
      alike = type_kept given l ∙ ap (subst given) h.alike ∙ sym (type_kept given r);
      takes = tested (λ u. IsTrue (takes (sort_of o) u)) l (takes_kept given (sort_of o) (type_at l) h.takes);
      is = ap (subst given) h.is ∙ tested (λ u. subst given (gives (sort_of o) (type_at l)) ≡ gives (sort_of o) u) l (gives_kept given (sort_of o) (type_at l));
      meets = meets_kept given direction t h.meets;
    }
    kept_shape (op o (more l (more r (more x ts)))) g d direction t h = absurd h
    kept_shape (app f x) g d direction t h = record {
      tree = h.tree;
      splits = splits_kept vars vars' given instance' [] (marks_of d) g h.splits;
      function = part_after f _ _ _ None _ (first_subst given (marks_of d) g) refl (kept f _ _ _ h.function);
      argument = part_after x _ _ _ (Some (type_at x)) _ (second_subst given (marks_of d) g) (ap Some (type_kept given x)) (kept x _ _ _ h.argument);
      is_arrow = type_kept given f ∙ ap (subst given) h.is_arrow ∙ ap (λ u. arrow u (subst given t)) (sym (type_kept given x));
      meets = meets_kept given direction t h.meets;
    }
    kept_shape (lets v e k) g d direction t h = record {
      tree = h.tree;
      splits = splits_kept vars vars' given instance' [] (marks_of d) g h.splits;
      value = part_after e _ _ _ None _ (first_subst given (marks_of d) g) refl (kept e _ _ _ h.value);
      body = part_after k _ _ _ _ _ (pushed (marks_of d) g (type_at e) _ (type_kept given e)) refl (kept k _ _ _ h.body);
      is = ap (subst given) h.is ∙ sym (type_kept given k);
    }
    kept_shape (let_bang os v e k) g d direction t h = record {
      tree = h.tree;
      splits = splits_kept vars vars' given instance' os (marks_of d) g h.splits;
      value = part_after e _ _ _ None _ (first_subst given (marks_of d) g) refl (kept e _ _ _ h.value);
      escapes = tested (λ u. IsTrue (kinds vars' u).escape) e ((kinds_kept vars vars' given instance' (type_at e)).escape h.escapes);
      body = part_after k _ _ _ _ _ (pushed (marks_of d) g (type_at e) _ (type_kept given e)) refl (kept k _ _ _ h.body);
      is = ap (subst given) h.is ∙ sym (type_kept given k);
    }
    kept_shape (if_else c x y) g d direction t h = record {
      tree = h.tree;
      splits = splits_kept vars vars' given instance' [] (marks_of d) g h.splits;
      condition = part_after c _ _ _ (Some types.bool) _ (first_subst given (marks_of d) g) refl (kept c _ _ _ h.condition);
      first = part_after x _ _ _ _ _ (second_subst given (marks_of d) g) refl (kept x _ _ _ h.first);
      second = part_after y _ _ _ _ _ (second_subst given (marks_of d) g)
          (ap (second_branch (subst_direction given direction)) (type_kept given x) ∙ sym (branch_kept given direction (type_at x))) (kept y _ _ _ h.second);
      is = ap (subst given) h.is ∙ sym (type_kept given x);
      alike = type_kept given y ∙ ap (subst given) h.alike ∙ sym (type_kept given x);
    }
    kept_shape (con n e) g d direction t h = record {
      tree = h.tree;
      checked = ap (subst_direction given) h.checked;
      left = alternative_left given n t h.left;
      payload = part_after e _ g _ (Some (held (alternative_in n t))) _ refl (ap Some (alternative_held given n t h.left)) (kept e _ _ _ h.payload);
    }
    kept_shape (case_of e a v x y) g d direction t h = record {
      tree = h.tree;
      splits = splits_kept vars vars' given instance' [] (marks_of d) g h.splits;
      subject = part_after e _ _ _ None _ (first_subst given (marks_of d) g) refl (kept e _ _ _ h.subject);
      left = tested (λ u. IsTrue (is_left (alternative_in a.name u))) e (alternative_left given a.name (type_at e) h.left);
      first = part_after x _ _ _ _ _
          (pushed (marks_of d) g (held (alternative_in a.name (type_at e))) _
          (tested (λ u. held (alternative_in a.name u) ≡ subst given (held (alternative_in a.name (type_at e)))) e (alternative_held given a.name (type_at e) h.left))) refl (kept x _ _ _ h.first);
      second = part_after y _ _ _ _ _
          (pushed (marks_of d) g (with_part a.name true (type_at e)) _
          (tested (λ u. with_part a.name true u ≡ subst given (with_part a.name true (type_at e))) e (with_alternative given a.name true (type_at e) (left_is_there _ h.left))))
          (ap (second_branch (subst_direction given direction)) (type_kept given x) ∙ sym (branch_kept given direction (type_at x))) (kept y _ _ _ h.second);
      is = ap (subst given) h.is ∙ sym (type_kept given x);
      alike = type_kept given y ∙ ap (subst given) h.alike ∙ sym (type_kept given x);
    }
    kept_shape (esac a e) g d direction t h = record {
      tree = h.tree;
      subject = part_after e _ g _ None _ refl refl (kept e _ _ _ h.subject);
      left = tested (λ u. IsTrue (is_left (alternative_in a.name u))) e (alternative_left given a.name (type_at e) h.left);
      last = tested (λ u. IsTrue (is_last a.name u)) e (last_kept given a.name (type_at e) h.last);
      is = ap (subst given) h.is
          ∙ sym (tested (λ u. held (alternative_in a.name u) ≡ subst given (held (alternative_in a.name (type_at e)))) e (alternative_held given a.name (type_at e) h.left));
      meets = meets_kept given direction t h.meets;
    }
    kept_shape (struct fs) g d direction t h = record {
      tree = h.tree;
      fields = kept_fields fs _ _ _ direction h.fields;
      is = ap (subst given) h.is ∙ sym (record_kept given fs);
      meets = meets_kept given direction t h.meets;
    }
    kept_shape (member e a) g d direction t h = record {
      tree = h.tree;
      whole = part_after e _ g _ None _ refl refl (kept e _ _ _ h.whole);
      left = tested (λ u. IsTrue (is_left (field_in a.name u))) e (field_left given a.name (type_at e) h.left);
      shared = tested (λ u. IsTrue (shares vars' u)) e ((kinds_kept vars vars' given instance' (type_at e)).share h.shared);
      is = ap (subst given) h.is
          ∙ sym (tested (λ u. held (field_in a.name u) ≡ subst given (held (field_in a.name (type_at e)))) e (field_held given a.name (type_at e) (left_is_there _ h.left)));
      meets = meets_kept given direction t h.meets;
    }
    kept_shape (take_field e a v w k) g d direction t h = record {
      tree = h.tree;
      splits = splits_kept vars vars' given instance' [] (marks_of d) g h.splits;
      whole = part_after e _ _ _ None _ (first_subst given (marks_of d) g) refl (kept e _ _ _ h.whole);
      left = tested (λ u. IsTrue (is_left (field_in a.name u))) e (field_left given a.name (type_at e) h.left);
      written = tested (λ u. is_read_only u ≡ false) e (written_kept given a.name (type_at e) (left_is_there _ h.left) h.written);
      body = part_after k _ _ _ _ _
          (pushed_twice (marks_of d) g (with_part a.name true (type_at e)) _ (held (field_in a.name (type_at e))) _
          (tested (λ u. with_part a.name true u ≡ subst given (with_part a.name true (type_at e))) e (with_field given a.name true (type_at e) (left_is_there _ h.left)))
          (tested (λ u. held (field_in a.name u) ≡ subst given (held (field_in a.name (type_at e)))) e (field_held given a.name (type_at e) (left_is_there _ h.left)))) refl (kept k _ _ _ h.body);
      is = ap (subst given) h.is ∙ sym (type_kept given k);
    }
    kept_shape (put e a x) g d direction t h = record {
      tree = h.tree;
      splits = splits_kept vars vars' given instance' [] (marks_of d) g h.splits;
      whole = part_after e _ _ _ None _ (first_subst given (marks_of d) g) refl (kept e _ _ _ h.whole);
      there = tested (λ u. IsTrue (is_there (field_in a.name u))) e (field_there given a.name (type_at e) h.there);
      written = tested (λ u. is_read_only u ≡ false) e (written_kept given a.name (type_at e) h.there h.written);
      over = tested (λ u. IsTrue (may_be_put_over vars' (field_in a.name u))) e
          (at (λ o. IsTrue (may_be_put_over vars' o)) (sym (field_kept given a.name (type_at e) h.there)) (over_kept (field_in a.name (type_at e)) h.over));
      value = part_after x _ _ _ (Some (held (field_in a.name (type_at e)))) _ (second_subst given (marks_of d) g)
          (ap Some (tested (λ u. held (field_in a.name u) ≡ subst given (held (field_in a.name (type_at e)))) e (field_held given a.name (type_at e) h.there))) (kept x _ _ _ h.value);
      is = ap (subst given) h.is ∙ sym (tested (λ u. with_part a.name false u ≡ subst given (with_part a.name false (type_at e))) e (with_field given a.name false (type_at e) h.there));
      meets = meets_kept given direction t h.meets;
    }
    kept_shape (cast e) g d direction t h = record {
      tree = h.tree;
      checked = ap (subst_direction given) h.checked;
      operand = part_after e _ g _ None _ refl refl (kept e _ _ _ h.operand);
      widens = tested (λ u. IsTrue (widens u (subst given t))) e (widens_kept given (type_at e) t h.widens);
    }
    kept_shape (annot e a) g d direction t h = record {
      tree = h.tree;
      arrays = arrays_kept vars vars' given instance' a.ty h.arrays;
      value = part_after e _ g _ (Some a.ty) _ refl refl (kept e _ _ _ h.value);
      is = ap (subst given) h.is;
      meets = meets_kept given direction t h.meets;
    }

    kept_fields : (fs : Named Note) (g : Context) (strings : List (List Mark)) (ds : Derivations) (direction : Option Tau) → DerivesFields functions vars g strings ds direction fs
        → DerivesFields functions vars' (subst_context given g) strings ds (subst_direction given direction) (subst_fields given fs)
    kept_fields end g strings ds direction h = absurd h
    kept_fields (field n e end) g strings ds direction h = record {
      ended = h.ended;
      parts = h.parts;
      value = part_after e _ g _ _ _ refl (ap (along (subst_direction given direction)) (type_kept given e) ∙ sym (along_kept given direction (type_at e))) (kept e _ _ _ h.value);
    }
    kept_fields (field n e (field m x fs)) g strings ds direction h = record {
      marked = h.marked;
      parts = h.parts;
      splits = splits_kept vars vars' given instance' [] (first_marks strings) g h.splits;
      value = part_after e _ _ _ _ _ (first_subst given (first_marks strings) g)
          (ap (along (subst_direction given direction)) (type_kept given e) ∙ sym (along_kept given direction (type_at e))) (kept e _ _ _ h.value);
      later = at (λ g. DerivesFields functions vars' g (later_marks strings) (later_parts ds) (subst_direction given direction) (subst_fields given (field m x fs)))
          (sym (second_subst given (first_marks strings) g)) (kept_fields (field m x fs) _ _ _ direction h.later);
    }

-- what is derived with type variables is derived with such arguments in their place, by the same derivation
pub substitution : SubstitutionKeepsDerivations
substitution functions vars vars' given instance' g d direction c h = kept functions vars vars' given instance' c g d direction h
