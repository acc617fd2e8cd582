-- The pass at a form is one step after another.
use Rattle.std.proofs.Common.{◌≡◌, ℕ, Bool, true, false, ◌&&◌, not, cond, List, [], ◌∷◌, Option, Some, None, Ok, Err, refl, ap, ◌∙◌}
use Rattle.cg_base.specs.declared.kind.Kinds.{Kinds}
use Rattle.cg_base.specs.declared.limit.Limit.TheVariants.{Ty}
use Rattle.cg_base.specs.declared.place.Place.{Place}
use Rattle.cg_base.specs.declared.kind.Sigil.TheVariants.{U}
use Rattle.cg_base.specs.Types.{Tau, unit as unit_type, bool as bool_type, fields}
use Rattle.cg_cert.specs.declared.cert.CertNode.{CertNode}
use Rattle.cg_cert.specs.declared.fault.CertFault.{CertFault}
use Rattle.cg_cert.specs.declared.fault.CertFault.TheVariants.{C1, C2, C3, Limit, Memory}
use Rattle.cg_certcheck_ends.specs.Leaves.{leaf_by}
use Rattle.cg_certcheck.specs.Forms.{operands_by, operands_left, operands_right, con_from, cast_from, form_by}
use Rattle.cg_certcheck.specs.Operators.{unary_by}
use Rattle.cg_check_pieces.proofs.Steps.{again, same_steps}
use Rattle.cg_check_pieces.specs.Directions.{is_by_right, may_be_made_of}
use Rattle.cg_check_pieces.specs.View.{shape_at}
use Rattle.cg_certcheck_nodes.specs.Nodes.{esac_node, member_node, take_node, put_node}
use Rattle.cg_certcheck_context.specs.Steps.{Split, Strings, found, is_none, leaf_reached, leaf_tested, split_reached, record_reached, literal_reached}
use Rattle.cg_certcheck_gots.specs.Held.{literal_judged, alternative_held, last_held, member_held, taken_held, put_held}
use Rattle.cg_certcheck_context.specs.View.{Agrees}
use Rattle.cg_core.specs.declared.at.At.{At}
use Rattle.cg_core.specs.declared.derivation.Mark.{Mark}
use Rattle.cg_core.specs.declared.derivation.Node.{Node}
use Rattle.cg_core.specs.declared.derivation.Node.TheVariants as nodes
use Rattle.cg_core.specs.declared.op.Op.{Op}
use Rattle.cg_core.specs.declared.term.Seen.{Seen}
use Rattle.cg_core.specs.Kernels.{Function}
use Rattle.cg_core.specs.Terms.{Tree, term, Shape, var, unit, bool, lit, fun, op, app, lets, let_bang, if_else, con, case_of, esac, struct, member, take_field, put, cast, annot, none, more, Named, Note, Arg}
use Rattle.cg_core.specs.Derivations.{derivation}
use Rattle.cg_faults.specs.Events.{field_directions}
use Rattle.cg_faults.specs.Plain.{mentioned}
use Rattle.cg_kinds.specs.Kinds.{is_word, or_unit}
use Rattle.cg_certcheck_def.specs.Events.{strings_at, marks_next, no_strings, one_string, field_strings, meets, value_of, is_number, is_alternative, alternative_held as alternative_held_of, is_record, is_cast}
use Rattle.cg_certcheck_def.specs.Pass.{Out, Way, Cursor, Got, bind, row, test, step, reach, made, operated, operated_both, unary, binary, reach_literal, literal, leaf_at, split_at, wanted, check, check_shape, check_fields}
use Rattle.cg_certcheck_def.specs.Tests.{same_node, is_present, drops_all, drops_but}
use Rattle.cg_typing.specs.Contexts.{Context, look, push, shares, first, second}
use Rattle.cg_typing.specs.Functions.{asked_by, are_good_arguments}
use Rattle.cg_typing.specs.Operators.{Sort, arithmetic, equality, order, logic, sort_of, takes}
use Rattle.cg_typing.specs.Parts.{alternative_in, field_in, held, is_last, is_left, is_read_only, is_small_enough, is_there, may_be_put_over, with_part}
use Rattle.cg_typing.specs.Rules.{is_literal, note_at}
use Rattle.cg_typing.specs.Trees.{first_marks, leaf, one}

-- a row over what is behind it, and two rows of a node
row_after : {A B : Type 0} (n : ℕ) (b : Bool) (x : Out A) (k : A → Out B) → bind (row n b x) k ≡ row n b (bind x k)
row_after n true x k = refl
row_after n false x k = refl

rows : {A : Type 0} (n : ℕ) (a b : Bool) (x : Out A) → row n a (row n b x) ≡ row n (a && b) x
rows n true b x = refl
rows n false b x = refl

row_then : {A B : Type 0} (n : ℕ) (b : Bool) (x : A) (k : A → Out B) → bind (row n b (Ok x)) k ≡ row n b (k x)
row_then n true x k = refl
row_then n false x k = refl

-- a node is reached
leaf_then : {A : Type 0} (at : Cursor) (node : Node) (k : Cursor → Out A) → bind (leaf_reached at node) k ≡ reach at node (no_strings at.nodes) (k (step at))
unfolding found leaf_reached
leaf_then at node k = go at.nodes
  where
    there : (d : CertNode) (ns : List CertNode) (b : Bool) (ms : List (List Mark)) (s : Cursor)
        → bind (bind (row at.next b (Ok ms)) (λ strings. row at.next (is_none strings) (Ok s))) k ≡ row at.next (b && no_strings (record { node = d.node; marks = ms } ∷ ns)) (k s)
    there d ns true [] s = refl
    there d ns true (m ∷ ms) s = refl
    there d ns false ms s = refl

    go : (ns : List CertNode) → bind (leaf_reached (record { nodes = ns; next = at.next }) node) k ≡ reach (record { nodes = ns; next = at.next }) node (no_strings ns) (k (step (record { nodes = ns; next = at.next })))
    go [] = refl
    go (d ∷ ns) = there d ns (same_node d.node node) d.marks (step (record { nodes = d ∷ ns; next = at.next }))

module _ (functions : List Function) (vars : List Kinds) where
  split_then : {A : Type 0} (os : List Seen) (g : Context) (node : Node) (at : Cursor) (k : List Mark → Cursor → Out A)
      → bind (split_reached vars os g node at) (λ s. k s.marks s.at) ≡ split_at functions vars os g node at (λ m. k m (step at))
  unfolding found split_reached
  split_then os g node at k = go at.nodes
    where
      there : (b : Bool) (ms : List (List Mark)) (s : Cursor)
          → bind {A = Split} (bind (row at.next b (Ok ms)) (λ strings. row at.next (one_string vars os strings g) (Ok (record { marks = first_marks strings; at = s })))) (λ s. k s.marks s.at)
          ≡ row at.next (b && one_string vars os ms g) (k (first_marks ms) s)
      there true ms s = row_then {A = Split} at.next (one_string vars os ms g) (record { marks = first_marks ms; at = s }) (λ s. k s.marks s.at)
      there false ms s = refl

      go : (ns : List CertNode) → bind (split_reached vars os g node (record { nodes = ns; next = at.next })) (λ s. k s.marks s.at)
          ≡ split_at functions vars os g node (record { nodes = ns; next = at.next }) (λ m. k m (step (record { nodes = ns; next = at.next })))
      go [] = refl
      go (d ∷ ns) = there (same_node d.node node) d.marks (step (record { nodes = d ∷ ns; next = at.next }))

  record_then : {A : Type 0} (fs : Named Place) (g : Context) (at : Cursor) (k : List (List Mark) → Cursor → Out A)
      → bind (record_reached vars fs g at) (λ s. k s.marks s.at) ≡ reach at nodes.Struct (field_strings vars fs (strings_at at.nodes) g) (k (strings_at at.nodes) (step at))
  unfolding found record_reached
  record_then fs g at k = go at.nodes
    where
      there : (b : Bool) (ms : List (List Mark)) (s : Cursor)
          → bind {A = Strings} (bind (row at.next b (Ok ms)) (λ strings. row at.next (field_strings vars fs strings g) (Ok (record { marks = strings; at = s })))) (λ s. k s.marks s.at)
          ≡ row at.next (b && field_strings vars fs ms g) (k ms s)
      there true ms s = row_then {A = Strings} at.next (field_strings vars fs ms g) (record { marks = ms; at = s }) (λ s. k s.marks s.at)
      there false ms s = refl

      go : (ns : List CertNode) → bind (record_reached vars fs g (record { nodes = ns; next = at.next })) (λ s. k s.marks s.at)
          ≡ reach (record { nodes = ns; next = at.next }) nodes.Struct (field_strings vars fs (strings_at ns) g) (k (strings_at ns) (step (record { nodes = ns; next = at.next })))
      go [] = refl
      go (d ∷ ns) = there (same_node d.node nodes.Struct) d.marks (step (record { nodes = d ∷ ns; next = at.next }))

  -- leaves
  leaf_is : (g : Context) (d : Option Tau) (place : Place) (t : Tau) (shape : Shape Note) (node : Node) (holds : Bool) (at : Cursor)
      → leaf_by d place t shape node holds at ≡ leaf_at functions vars g d place t shape node holds at
  unfolding leaf_tested
  leaf_is g d place t shape node holds at =
      again (leaf_reached at node) (λ behind. row at.next (holds && meets d t) (Ok behind)) _
      ∙ leaf_then at node _
      ∙ ap (λ (x : Out Got). reach at node (no_strings at.nodes) x) (row_then at.next (holds && meets d t) (step at) _)

  literal_then : {A : Type 0} (g : Context) (at : Cursor) (k : Cursor → Out A) → bind (literal_reached vars g at) k ≡ reach_literal functions vars g at (k (step at))
  unfolding literal_reached
  literal_then g at k =
      again (leaf_reached at nodes.Lit) (λ behind. row at.next (drops_all vars g) (Ok behind)) k
      ∙ leaf_then at nodes.Lit _
      ∙ ap (reach at nodes.Lit (no_strings at.nodes)) (row_then at.next (drops_all vars g) (step at) k)

  judged_then : (place : Place) (value : Option ℕ) (t : Tau) (at : Cursor) (k : Got → Out Got)
      → bind (literal_judged place value t at.next (step at)) k ≡ literal functions vars place value t at k
  unfolding literal_judged
  judged_then place value t at k = go (is_number value (Some t)) (is_small_enough t)
    where
      go : (b c : Bool) → bind (row at.next b (test (Limit Ty) c (Ok (made place t (lit value) (leaf nodes.Lit) (step at))))) k
          ≡ row at.next b (test (Limit Ty) c (k (made place t (lit value) (leaf nodes.Lit) (step at))))
      go true true = refl
      go true false = refl
      go false c = refl

  -- operators
  module _ (n : ℕ) where
    guide_then : (test : Tau → Bool) (x : Out Got) (k : Got → Out Got) → bind (bind x (λ u. row n (test u.ty) (Ok u))) k ≡ bind x (λ u. row n (test u.ty) (k u))
    guide_then test x k = again x (λ u. row n (test u.ty) (Ok u)) k ∙ same_steps x _ _ (λ u. row_then n (test u.ty) u k)

    truth_then : (d : Option Tau) (k : Tau → Out Got) → bind (row n (meets d bool_type) (Ok bool_type)) k ≡ row n (meets d bool_type) (k bool_type)
    truth_then d k = row_then n (meets d bool_type) bool_type k

  module _ (d : Option Tau) (at : Cursor) (place : Place) (o : Op) where
    compared : (test : Tau → Bool) (x : Out Got)
        → bind (bind x (λ u. row at.next (test u.ty) (Ok u))) (λ u. bind (row at.next (meets d bool_type) (Ok bool_type)) (λ t. Ok (operated o place t u)))
        ≡ bind x (λ u. row at.next (test u.ty && meets d bool_type) (Ok (operated o place bool_type u)))
    compared test x =
        guide_then at.next test x (λ u. bind (row at.next (meets d bool_type) (Ok bool_type)) (λ t. Ok (operated o place t u)))
        ∙ same_steps x _ _ (λ u. ap (λ (y : Out Got). row at.next (test u.ty) y) (truth_then at.next d (λ t. Ok (operated o place t u)))
        ∙ rows at.next (test u.ty) (meets d bool_type) (Ok (operated o place bool_type u)))

  unary_is : (sort : Sort) (d : Option Tau) (at : Cursor) (place : Place) (o : Op) (x : Way)
      → unary_by sort o d at.next place (λ way. x (step at) way) ≡ unary sort o d place at x
  unary_is logic d at place o x = same_steps (x (step at) (Some bool_type)) _ _ (λ u. truth_then at.next d (λ t. Ok (operated o place t u)))
  unary_is arithmetic (Some t) at place o x = row_after at.next (is_word t) (x (step at) (Some t)) (λ u. Ok (operated o place t u))
  unary_is arithmetic None at place o x = guide_then at.next is_word (x (step at) None) (λ u. Ok (operated o place u.ty u))
  unary_is equality d at place o x = compared d at place o (takes equality) (x (step at) None)
  unary_is order d at place o x = compared d at place o (takes order) (x (step at) None)

  module _ (m : List Mark) (g : Context) (d : Option Tau) (at : Cursor) (place : Place) (o : Op) (l r : Tree Place) where
    abbrev Left : Way
    Left from way = check functions vars (first m g) way from l

    abbrev Right : Way
    Right from way = check functions vars (second m g) way from r

    abbrev Both : Bool → Sort → Option Tau → Out Got
    Both b sort d = binary functions vars m sort o d place b (note_at l) (value_of l) (first m g) at Left Right

    -- of both, with a truth value
    truth : (x y : Got) → bind (row at.next (meets d bool_type) (Ok bool_type)) (λ t. Ok (operated_both m o place t x y y.at))
        ≡ row at.next (meets d bool_type) (Ok (operated_both m o place bool_type x y y.at))
    truth x y = truth_then at.next d (λ t. Ok (operated_both m o place t x y y.at))

    left_first : (test : Tau → Bool)
        → bind (bind (Left (step at) None) (λ u. row at.next (test u.ty) (Ok u)))
        (λ x. bind (Right x.at (Some x.ty)) (λ y. bind (row at.next (meets d bool_type) (Ok bool_type)) (λ t. Ok (operated_both m o place t x y y.at))))
        ≡ bind (Left (step at) None) (λ x. row at.next (test x.ty) (bind (Right x.at (Some x.ty)) (λ y. row at.next (meets d bool_type) (Ok (operated_both m o place bool_type x y y.at)))))
    left_first test =
        guide_then at.next test (Left (step at) None) _
        ∙ same_steps (Left (step at) None) _ _ (λ x. ap (λ (z : Out Got). row at.next (test x.ty) z) (same_steps (Right x.at (Some x.ty)) _ _ (λ y. truth x y)))

    -- the literal, and what it ends in
    literal_first : (test : Tau → Bool) (ends last : Got → Got → Out Got) → ((x y : Got) → ends x y ≡ last x y)
        → bind (literal_reached vars (first m g) (step at)) (λ behind. bind (bind (Right behind None) (λ u. row at.next (test u.ty) (Ok u)))
        (λ y. bind (literal_judged (note_at l) (value_of l) y.ty (step at).next behind) (λ x. ends x y)))
        ≡ reach_literal functions vars (first m g) (step at) (bind (Right (step (step at)) None) (λ y. row at.next (test y.ty)
        (literal functions vars (note_at l) (value_of l) y.ty (step at) (λ x. last x y))))
    literal_first test ends last same =
        literal_then (first m g) (step at) _
        ∙ ap (λ (z : Out Got). reach_literal functions vars (first m g) (step at) z)
        (guide_then at.next test (Right (step (step at)) None) _
        ∙ same_steps (Right (step (step at)) None) _ _ (λ y. ap (λ (z : Out Got). row at.next (test y.ty) z)
        (same_steps (literal_judged (note_at l) (value_of l) y.ty (step at).next (step (step at))) _ _ (λ x. same x y)
        ∙ judged_then (note_at l) (value_of l) y.ty (step at) (λ x. last x y))))

    right_is : (sort : Sort) → is_by_right sort d true ≡ true → operands_right functions vars sort m g d at.next (step at) place o l r ≡ Both true sort d
    right_is logic h = absurd (cc)
    right_is equality h = literal_first (takes equality) (λ x y. bind (row at.next (meets d bool_type) (Ok bool_type)) (λ t. Ok (operated_both m o place t x y y.at))) (λ x y. row at.next (meets d bool_type) (Ok (operated_both m o place bool_type x y y.at))) (λ x y. truth x y)
    right_is order h = literal_first (takes order) (λ x y. bind (row at.next (meets d bool_type) (Ok bool_type)) (λ t. Ok (operated_both m o place t x y y.at))) (λ x y. row at.next (meets d bool_type) (Ok (operated_both m o place bool_type x y y.at))) (λ x y. truth x y)
    right_is arithmetic h = go d h
      where
        go : (d : Option Tau) → is_by_right arithmetic d true ≡ true → operands_right functions vars arithmetic m g d at.next (step at) place o l r ≡ Both true arithmetic d
        go (Some t) h = absurd (cc)
        go None h = literal_first is_word (λ x y. Ok (operated_both m o place y.ty x y y.at)) (λ x y. Ok (operated_both m o place y.ty x y y.at)) (λ x y. refl)

    left_is : (sort : Sort) (b : Bool) → is_by_right sort d b ≡ false → operands_left functions vars sort m g d at.next (step at) place o l r ≡ Both b sort d
    left_is logic b h = same_steps (Left (step at) (Some bool_type)) _ _ (λ x. same_steps (Right x.at (Some bool_type)) _ _ (λ y. truth x y))
    left_is equality true h = absurd (cc)
    left_is equality false h = left_first (takes equality)
    left_is order true h = absurd (cc)
    left_is order false h = left_first (takes order)
    left_is arithmetic b h = go d b h
      where
        go : (d : Option Tau) (b : Bool) → is_by_right arithmetic d b ≡ false → operands_left functions vars arithmetic m g d at.next (step at) place o l r ≡ Both b arithmetic d
        go (Some t) b h = row_after at.next (is_word t) (Left (step at) (Some t)) (λ x. bind (Right x.at (Some t)) (λ y. Ok (operated_both m o place t x y y.at)))
        go None true h = absurd (cc)
        go None false h = guide_then at.next is_word (Left (step at) None) (λ x. bind (Right x.at (Some x.ty)) (λ y. Ok (operated_both m o place x.ty x y y.at)))

    never : (sort : Sort) (d : Option Tau) → is_by_right sort d false ≡ true → ⊥
    never logic d h = absurd (cc)
    never equality d h = absurd (cc)
    never order d h = absurd (cc)
    never arithmetic (Some t) h = absurd (cc)
    never arithmetic None h = absurd (cc)

    operands_is : (sort : Sort) → operands_by functions vars sort m g d at.next (step at) place o l r ≡ Both (is_literal l) sort d
    operands_is sort = go (is_literal l) (is_by_right sort d (is_literal l)) refl
      where
        go : (b c : Bool) → is_by_right sort d b ≡ c
            → cond c (operands_right functions vars sort m g d at.next (step at) place o l r) (operands_left functions vars sort m g d at.next (step at) place o l r) ≡ Both b sort d
        go true true h = right_is sort h
        go false true h = absurd (never sort d h)
        go b false h = left_is sort b h

  -- the forms
  module _ (g : Context) (d : Option Tau) (at : Cursor) (place : Place) where
    abbrev Is : Shape Place → Type 0
    Is shape = form_by functions vars g d at place shape ≡ check_shape functions vars g d at place shape

    op_one_is : (o : Op) (x : Tree Place) → Is (op o (more x none))
    op_one_is o x =
        leaf_then at nodes.Op _
        ∙ ap (λ (y : Out Got). reach at nodes.Op (no_strings at.nodes) y) (unary_is (sort_of o) d at place o (λ from way. check functions vars g way from x))

    op_two_is : (o : Op) (l r : Tree Place) → Is (op o (more l (more r none)))
    op_two_is o l r =
        split_then [] g nodes.Op at (λ m s. operands_by functions vars (sort_of o) m g d at.next s place o l r)
        ∙ ap (λ (y : Out Got). reach at nodes.Op (one_string vars [] (strings_at at.nodes) g) y) (operands_is (marks_next at.nodes) g d at place o l r (sort_of o))

    app_is : (f x : Tree Place) → Is (app f x)
    app_is f x = split_then [] g nodes.App at _

    let_is : (binder : Place) (e k : Tree Place) → Is (lets binder e k)
    let_is binder e k = split_then [] g nodes.Let at _

    let_bang_is : (os : List Seen) (binder : Place) (e k : Tree Place) → Is (let_bang os binder e k)
    let_bang_is os binder e k = split_then os g nodes.LetBang at _

    if_is : (c x y : Tree Place) → Is (if_else c x y)
    if_is c x y = split_then [] g nodes.If at _

    con_is : (name : List ℕ) (e : Tree Place) → Is (con name e)
    unfolding alternative_held
    con_is name e = leaf_then at nodes.Con _ ∙ ap (λ (y : Out Got). reach at nodes.Con (no_strings at.nodes) y) (go d)
      where
        go : (d : Option Tau) → con_from functions vars g d at.next (step at) place name e
            ≡ row at.next (is_alternative name d)
            (bind (check functions vars g (Some (alternative_held_of name d)) (step at) e) (λ u. Ok (made place (wanted d unit_type) (con name u.core) (one nodes.Con u.tree) u.at)))
        go None = refl
        go (Some t) = row_then at.next (is_left (alternative_in name t)) (held (alternative_in name t)) _

    case_is : (e : Tree Place) (alternative : At) (binder : Place) (x y : Tree Place) → Is (case_of e alternative binder x y)
    unfolding alternative_held
    case_is e alternative binder x y =
        split_then [] g nodes.Case at _
        ∙ ap (λ (z : Out Got). reach at nodes.Case (one_string vars [] (strings_at at.nodes) g) z)
        (same_steps (check functions vars (first (marks_next at.nodes) g) None (step at) e) _ _
        (λ u. row_then at.next (is_left (alternative_in alternative.name u.ty)) (held (alternative_in alternative.name u.ty)) _))

    esac_is : (alternative : At) (e : Tree Place) → Is (esac alternative e)
    unfolding last_held
    esac_is alternative e =
        leaf_then at nodes.Esac _
        ∙ ap (λ (z : Out Got). reach at nodes.Esac (no_strings at.nodes) z)
        (same_steps (check functions vars g None (step at) e) _ _ (λ u.
        row_then at.next (is_left (alternative_in alternative.name u.ty) && (is_last alternative.name u.ty && meets d (held (alternative_in alternative.name u.ty))))
        (held (alternative_in alternative.name u.ty)) (λ h. Ok (esac_node place h alternative u))))

    struct_is : (fs : Named Place) → Is (struct fs)
    struct_is fs =
        record_then fs g at (λ strings s. row at.next (may_be_made_of d fs) (bind (check_fields functions vars g (field_directions d) strings s fs) (λ u.
        Ok (made place (wanted d (fields u.parts U)) (struct u.cores) (derivation nodes.Struct strings u.trees) u.at))))
        ∙ ap (λ (z : Out Got). reach at nodes.Struct (field_strings vars fs (strings_at at.nodes) g) z) (go d)
      where
        go : (d : Option Tau)
            → row at.next (may_be_made_of d fs) (bind (check_fields functions vars g (field_directions d) (strings_at at.nodes) (step at) fs) (λ u.
            Ok (made place (wanted d (fields u.parts U)) (struct u.cores) (derivation nodes.Struct (strings_at at.nodes) u.trees) u.at)))
            ≡ row at.next (is_record d fs) (bind (check_fields functions vars g (field_directions d) (strings_at at.nodes) (step at) fs) (λ u.
            Ok (made place (wanted d (fields u.parts U)) (struct u.cores) (derivation nodes.Struct (strings_at at.nodes) u.trees) u.at)))
        go None = refl
        go (Some t) = refl

    member_is : (e : Tree Place) (name : At) → Is (member e name)
    unfolding member_held
    member_is e name =
        leaf_then at nodes.Member _
        ∙ ap (λ (z : Out Got). reach at nodes.Member (no_strings at.nodes) z)
        (same_steps (check functions vars g None (step at) e) _ _ (λ u.
        row_then at.next (is_left (field_in name.name u.ty) && (shares vars u.ty && meets d (held (field_in name.name u.ty)))) (held (field_in name.name u.ty))
        (λ h. Ok (member_node place h name u))))

    take_is : (e : Tree Place) (name : At) (rest binder : Place) (k : Tree Place) → Is (take_field e name rest binder k)
    unfolding taken_held
    take_is e name rest binder k =
        split_then [] g nodes.Take at _
        ∙ ap (λ (z : Out Got). reach at nodes.Take (one_string vars [] (strings_at at.nodes) g) z)
        (same_steps (check functions vars (first (marks_next at.nodes) g) None (step at) e) _ _ (λ u.
        row_then at.next (is_left (field_in name.name u.ty) && not (is_read_only u.ty)) (held (field_in name.name u.ty))
        (λ h. bind (check functions vars (push (push (second (marks_next at.nodes) g) (Some (with_part name.name true u.ty))) (Some h)) d u.at k) (λ v.
        Ok (take_node (marks_next at.nodes) place name rest binder u v)))))

    put_is : (e : Tree Place) (name : At) (x : Tree Place) → Is (put e name x)
    unfolding put_held
    put_is e name x =
        split_then [] g nodes.Put at _
        ∙ ap (λ (z : Out Got). reach at nodes.Put (one_string vars [] (strings_at at.nodes) g) z)
        (same_steps (check functions vars (first (marks_next at.nodes) g) None (step at) e) _ _ (λ u.
        row_then at.next (is_there (field_in name.name u.ty) && (not (is_read_only u.ty) && may_be_put_over vars (field_in name.name u.ty))) (held (field_in name.name u.ty))
        (λ h. bind (check functions vars (second (marks_next at.nodes) g) (Some h) u.at x) (λ v. row at.next (meets d (with_part name.name false u.ty))
        (Ok (put_node (marks_next at.nodes) place (with_part name.name false u.ty) name u v))))))

    cast_is : (e : Tree Place) → Is (cast e)
    cast_is e = leaf_then at nodes.Cast _ ∙ ap (λ (z : Out Got). reach at nodes.Cast (no_strings at.nodes) z) (go d)
      where
        go : (d : Option Tau) → cast_from functions vars g d at.next (step at) place e
            ≡ row at.next (is_present d) (bind (check functions vars g None (step at) e) (λ u.
            row at.next (is_cast d u.ty) (Ok (made place (wanted d unit_type) (cast u.core) (one nodes.Cast u.tree) u.at))))
        go None = refl
        go (Some t) = refl

    annot_is : (e : Tree Place) (a : Arg) → Is (annot e a)
    annot_is e a = leaf_then at nodes.Annot _

    form_is : (shape : Shape Place) → Is shape
    form_is (var i) = leaf_is g d place (or_unit (look g i)) (var i) nodes.Var (is_present (look g i) && drops_but vars i g) at
    form_is unit = leaf_is g d place unit_type unit nodes.Unit (drops_all vars g) at
    form_is (bool b) = leaf_is g d place bool_type (bool b) nodes.Bool (drops_all vars g) at
    form_is (lit value) = leaf_then at nodes.Lit _
    form_is (fun f args) =
        leaf_is g d place (mentioned functions f args) (fun f args) nodes.Fun (drops_all vars g && are_good_arguments vars (asked_by functions f) args) at
    form_is (op o none) = refl
    form_is (op o (more x none)) = op_one_is o x
    form_is (op o (more l (more r none))) = op_two_is o l r
    form_is (op o (more l (more r (more t ts)))) = refl
    form_is (app f x) = app_is f x
    form_is (lets binder e k) = let_is binder e k
    form_is (let_bang os binder e k) = let_bang_is os binder e k
    form_is (if_else c x y) = if_is c x y
    form_is (con name e) = con_is name e
    form_is (case_of e alternative binder x y) = case_is e alternative binder x y
    form_is (esac alternative e) = esac_is alternative e
    form_is (struct fs) = struct_is fs
    form_is (member e name) = member_is e name
    form_is (take_field e name rest binder k) = take_is e name rest binder k
    form_is (put e name x) = put_is e name x
    form_is (cast e) = cast_is e
    form_is (annot e a) = annot_is e a

  -- a term: its form, and the size of its type
  pub check_is : (g : Context) (d : Option Tau) (at : Cursor) (t : Tree Place)
      → bind (form_by functions vars g d at (note_at t) (shape_at t)) (λ u. test (Limit Ty) (is_small_enough u.ty) (Ok u)) ≡ check functions vars g d at t
  check_is g d at (term place shape) = ap (λ x. bind x (λ u. test (Limit Ty) (is_small_enough u.ty) (Ok u))) (form_is g d at place shape)

-- the operand that is checked first
module _ (functions : List Function) (vars : List Kinds) (sort : Sort) (m : List Mark) (g : Context) (d : Option Tau) (n : ℕ) (at : Cursor) (place : Place) (o : Op) (l r : Tree Place) where
  abbrev Chosen : Bool → Out Got
  Chosen b = cond b (operands_right functions vars sort m g d n at place o l r) (operands_left functions vars sort m g d n at place o l r)

  pub by_right_then : is_by_right sort d (is_literal l) ≡ true → operands_by functions vars sort m g d n at place o l r ≡ operands_right functions vars sort m g d n at place o l r
  by_right_then h = ap Chosen h

  pub by_left_else : is_by_right sort d (is_literal l) ≡ false → operands_by functions vars sort m g d n at place o l r ≡ operands_left functions vars sort m g d n at place o l r
  by_left_else h = ap Chosen h

-- a fault goes on
pub goes_on : {X Y A B : Type 0} (view : X → A) (view2 : Y → B) (e : CertFault) (x : Out A) (f : A → Out B) → Agrees view (Err e) x → Agrees view2 (Err e) (bind x f)
goes_on view view2 (C1 at) x f h = ap (λ o. bind o f) h
goes_on view view2 (C2 n) x f h = ap (λ o. bind o f) h
goes_on view view2 (C3 n) x f h = ap (λ o. bind o f) h
goes_on view view2 (Limit limit) x f h = ap (λ o. bind o f) h
goes_on view view2 Memory x f h = tt
