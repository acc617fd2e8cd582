-- A node gives over the copies what it gives over the source, and that fits its type, where its parts and calls do: one lemma a form.
use Rattle.std.proofs.Common.{◌≡◌, ℕ, IsTrue, Option, Some, None, List, [], ◌∷◌, ◌++◌, map, sym, ap, ◌∙◌, subst as at}
use Rattle.std.proofs.lemmas.List.{append-nil}
use Rattle.std.specs.List.{list_all}
use Rattle.std.specs.Prelude.{if◌then◌else◌}
use Rattle.cg_base.specs.declared.fun.Fun.{Fun}
use Rattle.cg_base.specs.declared.kind.Kinds.{Kinds}
use Rattle.cg_base.specs.declared.kind.Sigil.TheVariants.{U}
use Rattle.cg_base.specs.Types as types
use Rattle.cg_base.specs.Types.{Tau, arrow, fields, Parts}
use Rattle.cg_core.specs.declared.derivation.Mark.{Mark}
use Rattle.cg_core.specs.declared.term.Seen.{Seen as Observer}
use Rattle.cg_core.specs.Derivations.{Derivation, Derivations}
use Rattle.cg_core.specs.Kernels.{Function}
use Rattle.cg_core.specs.Terms.{Arg, Note, Tree, term, Shape, var, unit, bool, lit, fun, op, app, lets, let_bang, if_else, con, case_of, esac, struct, member, take_field, put, cast, annot, none, more, Named, end, field as named}
use Rattle.cg_eval_def.specs.Evaluation.{Outcome, spent, stuck, gives, bind, Context, Table, Run, all_of, apply, node_shape}
use Rattle.cg_eval_operations.specs.Operators.{operated, operated_both}
use Rattle.cg_eval_operations.specs.Positions.{position}
use Rattle.cg_kinds.specs.Kinds.{subst}
use Rattle.cg_typing.specs.Contexts.{Context as Entries, push, first, second, Splits}
use Rattle.cg_typing.specs.Functions.{arg_types, are_good_arguments, asked_by, fun_type}
use Rattle.cg_typing.specs.Instances.{Instance, as_arguments, is_closed, nodes_of, nodes_of_fields}
use Rattle.cg_typing.specs.Operators.{along}
use Rattle.cg_typing.specs.Parts.{field_in, widens}
use Rattle.cg_typing.specs.Rules.{Derives, DerivesShape, DerivesFields, type_at}
use Rattle.cg_typing.specs.Subst.{subst_arg, subst_core, subst_fields, subst_note, subst_shape}
use Rattle.cg_typing.specs.Trees.{first_marks, later_marks, later_parts, marks_of, nth, strings_of, sub, the_parts}
use Rattle.cg_typing_laws.specs.Laws.{AreInstance}
use Rattle.cg_typing_laws.proofs.Named.{left_is_there}
use Rattle.cg_value.specs.Fits.{World, fits}
use Rattle.cg_value.specs.Forms.{field, has_name, is_true, payload_in, with_field, without}
use Rattle.cg_value.specs.Values.{Val, function, parts, to_vals}
use Rattle.cg_mono_laws.specs.Laws.{IsFitting, is_listed}
use Rattle.cg_eval_laws.proofs.Checked.{has_checked_type}
use Rattle.cg_eval_laws.proofs.FitContexts.{FitContext, first_fits, second_fits, pushed_fits}
use Rattle.cg_eval_laws.proofs.FitOperators.{operated_fits, operated_both_fit}
use Rattle.cg_eval_laws.proofs.FitParts.{con_fits, last_fits, member_fits, others_fit, payload_fits, put_fits, without_fits}
use Rattle.cg_eval_laws.proofs.Mentions.{mention_type}
use Rattle.cg_eval_laws.proofs.Nodes.{Begins, all_made, cast_fits, fields_made, literal_fits, nothing_fits, one_more, truth_fits}
use Rattle.cg_inst.proofs.Names.{by_cases, either_way}
use Rattle.cg_mono_laws.proofs.Heard.{AreHeard, heard_below, heard_function, heard_left, heard_right}
use Rattle.cg_mono_laws.proofs.Listed.{is_in_found}
use Rattle.cg_mono_laws.proofs.Outcomes.{AreAlike, bind_alike, gives_alike, gives_same, pay_alike}
use Rattle.cg_mono_laws.proofs.Types.{field_stays, mention_stays, operand_stays}

module _ (functions : List Function) (list : List Instance) (world : World) where
  -- Evaluation of parts is alike: of a core that is derived, at closed type arguments that are an instance of its type variables, where all that
  -- it mentions at them is in the list, on values that fit its context.
  abbrev pub AlikeRuns : Run → Run → Type 0
  AlikeRuns source copies =
      (vars : List Kinds) (given : List Tau) → AreInstance [] given vars → IsTrue (list_all is_closed given)
      → (g : Entries) (vs : List Val) → FitContext world given g vs
      → (d : Derivation) (direction : Option Tau) (core : Tree Note) → Derives functions vars g d direction core → AreHeard list (nodes_of (subst_core given core))
      → (left : ℕ)
      → AreAlike world (subst given (type_at core)) (source core (record { types = given; values = vs }) left) (copies (subst_core given core) (record { types = []; values = vs }) left)

  -- functions at type arguments that are in the list fit their types
  abbrev pub MentionsFit : Type 0
  MentionsFit = (f : Fun) (types : List Tau) (t : Tau) → IsTrue (is_listed list f types) → fun_type functions f (as_arguments types) ≡ Some t → IsTrue (fits world t (function f types))

  -- calls are alike
  abbrev pub AlikeCalls : Table → Table → Run → Run → Type 0
  AlikeCalls one other source copies =
      (a b : Tau) (f v : Val) (left : ℕ) → IsTrue (fits world (arrow a b) f) → IsTrue (fits world a v) → AreAlike world b (apply one source f v left) (apply other copies f v left)

  module _ (one other : Table) (mentions : MentionsFit) (source copies : Run) (runs : AlikeRuns source copies) (calls : AlikeCalls one other source copies)
      (vars : List Kinds) (given : List Tau) (fine : AreInstance [] given vars) (closed : IsTrue (list_all is_closed given)) where
    -- two outcomes that are alike, and a value that fits, at a type with the type arguments in the place of type variables
    abbrev A : Tau → Outcome → Outcome → Type 0
    A t o p = AreAlike world (subst given t) o p

    abbrev V : Tau → Val → Type 0
    V t v = IsTrue (fits world (subst given t) v)

    -- a context over the source, and over the copies
    abbrev C : List Val → Context
    C vs = record { types = given; values = vs }

    abbrev N : List Val → Context
    N vs = record { types = []; values = vs }

    -- the copy of a core; a core that is derived; and one whose copy mentions instances of the list alone
    abbrev S : Tree Note → Tree Note
    S c = subst_core given c

    abbrev D : Entries → Derivation → Option Tau → Tree Note → Type 0
    D g d direction core = Derives functions vars g d direction core

    abbrev H : Tree Note → Type 0
    H c = AreHeard list (nodes_of (S c))

    abbrev Fit : Entries → List Val → Type 0
    Fit g vs = FitContext world given g vs

    -- what is heard of a node with two parts, and of one with three
    abbrev H2 : Tree Note → Tree Note → Type 0
    H2 x y = AreHeard list (nodes_of (S x) ++ nodes_of (S y))

    abbrev H3 : Tree Note → Tree Note → Tree Note → Type 0
    H3 x y z = AreHeard list ((nodes_of (S x) ++ nodes_of (S y)) ++ nodes_of (S z))

    -- its parts one by one
    one_of_two : (x y : Tree Note) → H2 x y → H x
    one_of_two x y h = heard_left list (nodes_of (S x)) (nodes_of (S y)) h

    two_of_two : (x y : Tree Note) → H2 x y → H y
    two_of_two x y h = heard_right list (nodes_of (S x)) (nodes_of (S y)) h

    one_of_three : (x y z : Tree Note) → H3 x y z → H x
    one_of_three x y z h = one_of_two x y (heard_left list (nodes_of (S x) ++ nodes_of (S y)) (nodes_of (S z)) h)

    two_of_three : (x y z : Tree Note) → H3 x y z → H y
    two_of_three x y z h = two_of_two x y (heard_left list (nodes_of (S x) ++ nodes_of (S y)) (nodes_of (S z)) h)

    three_of_three : (x y z : Tree Note) → H3 x y z → H z
    three_of_three x y z h = heard_right list (nodes_of (S x) ++ nodes_of (S y)) (nodes_of (S z)) h

    -- those of an operator
    one_operand : (x : Tree Note) → AreHeard list (nodes_of (S x) ++ []) → H x
    one_operand x h = heard_left list (nodes_of (S x)) [] h

    two_operands : (x y : Tree Note) → AreHeard list (nodes_of (S x) ++ (nodes_of (S y) ++ [])) → H2 x y
    two_operands x y h = at (AreHeard list) (ap (λ ns. nodes_of (S x) ++ ns) (append-nil (nodes_of (S y)))) h

    -- a part, and then the rest
    first_then : (u : Tau) (e : Tree Note) (g : Entries) (vs : List Val) → Fit g vs → (d : Derivation) (direction : Option Tau) → D g d direction e → H e → (left : ℕ)
        → (rest rest' : Val → ℕ → Outcome) → ((v : Val) (k : ℕ) → V (type_at e) v → A u (rest v k) (rest' v k)) → A u (bind (source e (C vs) left) rest) (bind (copies (S e) (N vs) left) rest')
    first_then u e g vs fit d direction h r left rest rest' k =
        bind_alike world (subst given (type_at e)) (subst given u) (source e (C vs) left) (copies (S e) (N vs) left) rest rest' (runs vars given fine closed g vs fit d direction e h r left) k

    -- the two sides of a node's context
    left_side : (os : List Observer) (m : List Mark) (g : Entries) (vs : List Val) → Splits vars os m g → Fit g vs → Fit (first m g) vs
    left_side os m g vs s f = first_fits world given vars os m g vs s f

    right_side : (os : List Observer) (m : List Mark) (g : Entries) (vs : List Val) → Splits vars os m g → Fit g vs → Fit (second m g) vs
    right_side os m g vs s f = second_fits world given vars os m g vs s f

    -- a last part, whose type is the node's
    last_part : (t : Tau) (k : Tree Note) (g : Entries) (vs : List Val) → Fit g vs → (d : Derivation) (direction : Option Tau) → D g d direction k → H k → t ≡ type_at k → (left : ℕ)
        → A t (source k (C vs) left) (copies (S k) (N vs) left)
    last_part t k g vs fit d direction h r e left = at (λ u. A u (source k (C vs) left) (copies (S k) (N vs) left)) (sym e) (runs vars given fine closed g vs fit d direction k h r left)

    -- a value of a type that is another's
    typed : (t u : Tau) (v : Val) → t ≡ u → V u v → V t v
    typed t u v e f = at (λ u. V u v) (sym e) f

    checked_value : (e : Tree Note) (g : Entries) (d : Derivation) (wanted : Tau) (v : Val) → D g d (Some wanted) e → V (type_at e) v → V wanted v
    checked_value e g d wanted v h f = typed wanted (type_at e) v (has_checked_type functions vars e g d wanted h) f

    -- ---- leaves

    -- a function that is mentioned: its type arguments are the same, and it is in the list
    fun_alike : (note : Note) (x : Fun) (args : List Arg) → IsTrue (are_good_arguments vars (asked_by functions x) args) → fun_type functions x args ≡ Some note.ty
        → AreHeard list (term (subst_note given note) (fun x (map (subst_arg given) args)) ∷ []) → (left : ℕ)
        → A note.ty (gives (function x (map (subst given) (arg_types args))) left) (gives (function x (map (subst []) (arg_types (map (subst_arg given) args)))) left)
    fun_alike note x args good is h left =
        let e = mention_stays given closed args in
        gives_same world (subst given note.ty) _ _ left (ap (function x) e)
        (mentions x (map (subst given) (arg_types args)) (subst given note.ty)
        (at (λ ts. IsTrue (is_listed list x ts)) e (is_in_found list _ (heard_function list (subst_note given note) x (map (subst_arg given) args) [] h)))
        (mention_type functions vars given x args note.ty good is))

    -- ---- casts and bindings

    -- a cast is no step of its own
    wider_fits : (t u : Tau) (o : Outcome) → IsTrue (widens t u) → IsFitting world (subst given t) o → IsFitting world (subst given u) o
    wider_fits t u spent w h = tt
    wider_fits t u stuck w h = tt
    wider_fits t u (gives v left) w h = cast_fits world given t u v w h

    wider_alike : (t u : Tau) (o p : Outcome) → IsTrue (widens t u) → A t o p → A u o p
    wider_alike t u o p w a = record { same = a.same; fits = wider_fits t u o w a.fits }

    -- a binding: the body has one variable more
    let_alike : (os : List Observer) (e k : Tree Note) (g : Entries) (vs : List Val) (fit : Fit g vs) (d : Derivation) (direction : Option Tau) (t : Tau)
        → Splits vars os (marks_of d) g → D (first (marks_of d) g) (sub d 0) None e → D (push (second (marks_of d) g) (Some (type_at e))) (sub d 1) direction k → t ≡ type_at k
        → H2 e k → (left : ℕ)
        → A t (bind (source e (C vs) left) (λ v rest. source k (C (vs ++ v ∷ [])) rest)) (bind (copies (S e) (N vs) left) (λ v rest. copies (S k) (N (vs ++ v ∷ [])) rest))
    let_alike os e k g vs fit d direction t s value body is r left =
        first_then t e (first (marks_of d) g) vs (left_side os (marks_of d) g vs s fit) (sub d 0) None value (one_of_two e k r) left _ _
        (λ v rest f. last_part t k _ (vs ++ v ∷ []) (pushed_fits world given (second (marks_of d) g) vs (type_at e) v (right_side os (marks_of d) g vs s fit) f) (sub d 1) direction body
        (two_of_two e k r) is rest)

    -- ---- records

    -- a record that is made, field by field
    fields_alike : (whole : Parts) (fs : Named Note) (g : Entries) (vs : List Val) (fit : Fit g vs) (strings : List (List Mark)) (ds : Derivations) (direction : Option Tau)
        → DerivesFields functions vars g strings ds direction fs → AreHeard list (nodes_of_fields (subst_fields given fs)) → (so_far : List Val) → Begins world given whole so_far fs → (left : ℕ)
        → AreAlike world (fields whole U) (all_of source fs (C vs) so_far left) (all_of copies (subst_fields given fs) (N vs) so_far left)
    unfolding all_of
    fields_alike whole end g vs fit strings ds direction h r so_far so left = absurd h
    fields_alike whole (named name e end) g vs fit strings ds direction h r so_far so left =
        pay_alike world (fields whole U) left _ _ (λ paid.
        bind_alike world (subst given (type_at e)) (fields whole U) (source e (C vs) paid) (copies (S e) (N vs) paid) _ _
        (runs vars given fine closed g vs fit (nth 0 ds) (along direction (type_at e)) e h.value (heard_left list (nodes_of (S e)) [] r) paid)
        (λ v rest f. gives_alike world (fields whole U) (parts (to_vals (so_far ++ v ∷ []))) rest (all_made world given whole (so_far ++ v ∷ []) (one_more world given whole so_far name e end v so f))))
    fields_alike whole (named name e (named later x fs)) g vs fit strings ds direction h r so_far so left =
        pay_alike world (fields whole U) left _ _ (λ paid.
        bind_alike world (subst given (type_at e)) (fields whole U) (source e (C vs) paid) (copies (S e) (N vs) paid) _ _
        (runs vars given fine closed (first (first_marks strings) g) vs (left_side [] (first_marks strings) g vs h.splits fit) (nth 0 ds) (along direction (type_at e)) e h.value
        (heard_left list (nodes_of (S e)) (nodes_of_fields (subst_fields given (named later x fs))) r) paid)
        (λ v rest f. fields_alike whole (named later x fs) (second (first_marks strings) g) vs (right_side [] (first_marks strings) g vs h.splits fit) (later_marks strings) (later_parts ds) direction
        h.later (heard_right list (nodes_of (S e)) (nodes_of_fields (subst_fields given (named later x fs))) r) (so_far ++ v ∷ []) (one_more world given whole so_far name e (named later x fs) v so f) rest))

    struct_alike : (fs : Named Note) (g : Entries) (vs : List Val) (fit : Fit g vs) (d : Derivation) (direction : Option Tau) (t : Tau)
        → DerivesShape functions vars g d direction t (struct fs) → AreHeard list (nodes_of_fields (subst_fields given fs)) → (left : ℕ)
        → A t (all_of source fs (C vs) [] left) (all_of copies (subst_fields given fs) (N vs) [] left)
    unfolding subst
    struct_alike fs g vs fit d direction t h r left =
        at (λ u. A u (all_of source fs (C vs) [] left) (all_of copies (subst_fields given fs) (N vs) [] left)) (sym h.is)
        (fields_alike (fields_made world given fs) fs g vs fit (strings_of d) (the_parts d) direction h.fields r [] (λ us k. k) left)

    -- what a take leaves and gives, at a position over the source, and at the same over the copies
    taken_alike : (t : Tau) (i j : ℕ) → j ≡ i → (k : Tree Note) (g : Entries) (vs : List Val) (v : Val) → Fit g ((vs ++ without v i ∷ []) ++ field v i ∷ [])
        → (d : Derivation) (direction : Option Tau) → D g d direction k → H k → t ≡ type_at k → (left : ℕ)
        → A t (source k (C ((vs ++ without v i ∷ []) ++ field v i ∷ [])) left) (copies (S k) (N ((vs ++ without v j ∷ []) ++ field v j ∷ [])) left)
    taken_alike t i j e k g vs v fit d direction h r is left =
        at (λ j. A t (source k (C ((vs ++ without v i ∷ []) ++ field v i ∷ [])) left) (copies (S k) (N ((vs ++ without v j ∷ []) ++ field v j ∷ [])) left)) (sym e)
        (last_part t k g ((vs ++ without v i ∷ []) ++ field v i ∷ []) fit d direction h r is left)

    -- ---- each form

    pub node_alike : (s : Shape Note) (note : Note) (g : Entries) (vs : List Val) (fit : Fit g vs) (d : Derivation) (direction : Option Tau)
        → DerivesShape functions vars g d direction note.ty s → AreHeard list (nodes_of (term (subst_note given note) (subst_shape given s))) → (left : ℕ)
        → A note.ty (node_shape one source note s (C vs) left) (node_shape other copies (subst_note given note) (subst_shape given s) (N vs) left)
    unfolding subst
    node_alike (var i) note g vs fit d direction h r left = gives_alike world (subst given note.ty) _ left (fit.each i note.ty h.present)
    node_alike unit note g vs fit d direction h r left = gives_alike world (subst given note.ty) _ left (typed note.ty types.unit _ h.is (nothing_fits world given))
    node_alike (bool b) note g vs fit d direction h r left = gives_alike world (subst given note.ty) _ left (typed note.ty types.bool _ h.is (truth_fits world given b))
    node_alike (lit value) note g vs fit d direction h r left = gives_alike world (subst given note.ty) _ left (literal_fits world given value note.ty h.is_a_word h.in_range)
    node_alike (fun x args) note g vs fit d direction h r left = fun_alike note x args h.arguments h.is r left
    node_alike (op o none) note g vs fit d direction h r left = absurd h
    node_alike (op o (more x none)) note g vs fit d direction h r left =
        first_then note.ty x g vs fit _ _ h.operand (one_operand x (heard_below list _ _ r)) left _ _ (λ v rest f.
        gives_same world (subst given note.ty) _ _ rest (ap (λ t. operated o t v) (operand_stays given _ x h.takes)) (typed note.ty _ _ h.is (operated_fits world given o (type_at x) v h.takes f)))
    node_alike (op o (more x (more y none))) note g vs fit d direction h r left =
        let both = two_operands x y (heard_below list _ _ r) in
        first_then note.ty x _ vs (left_side [] (marks_of d) g vs h.splits fit) _ _ h.left (one_of_two x y both) left _ _ (λ v rest f.
        first_then note.ty y _ vs (right_side [] (marks_of d) g vs h.splits fit) _ _ h.right (two_of_two x y both) rest _ _ (λ w last k.
        gives_same world (subst given note.ty) _ _ last (ap (λ t. operated_both o t v w) (operand_stays given _ x h.takes))
        (typed note.ty _ _ h.is (operated_both_fit world given o (type_at x) v w h.takes f (typed (type_at x) (type_at y) w h.alike k)))))
    node_alike (op o (more x (more y (more z ts)))) note g vs fit d direction h r left = absurd h
    node_alike (app e x) note g vs fit d direction h r left =
        let both = heard_below list _ _ r in
        first_then note.ty e _ vs (left_side [] (marks_of d) g vs h.splits fit) _ _ h.function (one_of_two e x both) left _ _ (λ v rest k.
        first_then note.ty x _ vs (right_side [] (marks_of d) g vs h.splits fit) _ _ h.argument (two_of_two e x both) rest _ _ (λ w last q.
        calls (subst given (type_at x)) (subst given note.ty) v w last (typed (arrow (type_at x) note.ty) (type_at e) v (sym h.is_arrow) k) q))
    node_alike (lets p e k) note g vs fit d direction h r left = let_alike [] e k g vs fit d direction note.ty h.splits h.value h.body h.is (heard_below list _ _ r) left
    node_alike (let_bang os p e k) note g vs fit d direction h r left = let_alike os e k g vs fit d direction note.ty h.splits h.value h.body h.is (heard_below list _ _ r) left
    node_alike (if_else c x y) note g vs fit d direction h r left =
        let right = right_side [] (marks_of d) g vs h.splits fit in let three = heard_below list _ _ r in
        first_then note.ty c _ vs (left_side [] (marks_of d) g vs h.splits fit) _ _ h.condition (one_of_three c x y three) left _ _ (λ v rest f.
        either_way (λ b. A note.ty (source (if b then x else y) (C vs) rest) (copies (if b then S x else S y) (N vs) rest)) (is_true v)
        (last_part note.ty x _ vs right _ _ h.first (two_of_three c x y three) h.is rest) (last_part note.ty y _ vs right _ _ h.second (three_of_three c x y three) (h.is ∙ sym h.alike) rest))
    node_alike (con n e) note g vs fit d direction h r left =
        pay_alike world (subst given note.ty) left _ _ (λ paid. first_then note.ty e g vs fit _ _ h.payload (heard_below list _ _ r) paid _ _ (λ v rest f.
        gives_alike world (subst given note.ty) _ rest (con_fits world given n note.ty v h.left (checked_value e g _ _ v h.payload f))))
    node_alike (case_of e a p x y) note g vs fit d direction h r left =
        let right = right_side [] (marks_of d) g vs h.splits fit in let three = heard_below list _ _ r in
        first_then note.ty e _ vs (left_side [] (marks_of d) g vs h.splits fit) _ _ h.subject (one_of_three e x y three) left _ _ (λ v rest f.
        by_cases (λ b. A note.ty (if b then source x (C (vs ++ payload_in v ∷ [])) rest else source y (C (vs ++ v ∷ [])) rest)
        (if b then copies (S x) (N (vs ++ payload_in v ∷ [])) rest else copies (S y) (N (vs ++ v ∷ [])) rest)) (has_name a.name v)
        (λ q. last_part note.ty x _ (vs ++ payload_in v ∷ []) (pushed_fits world given _ vs _ (payload_in v) right (payload_fits world given a.name (type_at e) v h.left f q)) _ _ h.first
        (two_of_three e x y three) h.is rest)
        (λ q. last_part note.ty y _ (vs ++ v ∷ []) (pushed_fits world given _ vs _ v right (others_fit world given a.name (type_at e) v h.left f q)) _ _ h.second
        (three_of_three e x y three) (h.is ∙ sym h.alike) rest))
    node_alike (esac a e) note g vs fit d direction h r left =
        first_then note.ty e g vs fit _ _ h.subject (heard_below list _ _ r) left _ _ (λ v rest f.
        gives_alike world (subst given note.ty) _ rest (typed note.ty _ _ h.is (last_fits world given a.name (type_at e) v h.last f)))
    node_alike (struct fs) note g vs fit d direction h r left = struct_alike fs g vs fit d direction note.ty h (heard_below list _ _ r) left
    node_alike (member e a) note g vs fit d direction h r left =
        first_then note.ty e g vs fit _ _ h.whole (heard_below list _ _ r) left _ _ (λ v rest f.
        gives_same world (subst given note.ty) _ _ rest (ap (field v) (field_stays given a.name e (left_is_there (field_in a.name (type_at e)) h.left)))
        (typed note.ty _ _ h.is (member_fits world given a.name (type_at e) v f h.left)))
    node_alike (take_field e a p q k) note g vs fit d direction h r left =
        let right = right_side [] (marks_of d) g vs h.splits fit in let both = heard_below list _ _ r in
        first_then note.ty e _ vs (left_side [] (marks_of d) g vs h.splits fit) _ _ h.whole (one_of_two e k both) left _ _ (λ v rest f.
        taken_alike note.ty (position a.name (type_at e)) (position a.name (type_at (S e))) (field_stays given a.name e (left_is_there (field_in a.name (type_at e)) h.left)) k _ vs v
        (pushed_fits world given _ _ _ _ (pushed_fits world given _ vs _ _ right (without_fits world given a.name (type_at e) v f h.left)) (member_fits world given a.name (type_at e) v f h.left))
        _ _ h.body (two_of_two e k both) h.is rest)
    node_alike (put e a x) note g vs fit d direction h r left =
        let both = heard_below list _ _ r in
        first_then note.ty e _ vs (left_side [] (marks_of d) g vs h.splits fit) _ _ h.whole (one_of_two e x both) left _ _ (λ v rest f.
        pay_alike world (subst given note.ty) rest _ _ (λ paid.
        first_then note.ty x _ vs (right_side [] (marks_of d) g vs h.splits fit) _ _ h.value (two_of_two e x both) paid _ _ (λ w last k.
        gives_same world (subst given note.ty) _ _ last (ap (λ i. with_field v i w) (field_stays given a.name e h.there))
        (typed note.ty _ _ h.is (put_fits world given a.name (type_at e) v w f h.there (checked_value x _ _ _ w h.value k))))))
    node_alike (cast e) note g vs fit d direction h r left =
        wider_alike (type_at e) note.ty _ _ h.widens (runs vars given fine closed g vs fit _ _ e h.operand (heard_below list _ _ r) left)
    node_alike (annot e a) note g vs fit d direction h r left =
        last_part note.ty e g vs fit _ _ h.value (heard_below list _ _ r) (h.is ∙ has_checked_type functions vars e g _ a.ty h.value) left
