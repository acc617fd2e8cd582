-- The checker as a pure function: one pass over a term, which answers its core, its derivation and what it does with each variable, or
-- the first fault that it meets. It makes no choice of splits and looks at no other part of the body: what a node's marks are is told
-- by what its parts touch, and what is present although no part touches it is put in where that is known.
use Rattle.std.specs.Prelude.{ℕ, suc, Bool, true, false, ◌||◌, not, cond, Option, Some, None, Result, Ok, Err, List, [], ◌∷◌, ◌++◌, length}
use Rattle.cg_base.specs.declared.kind.Kinds.{Kinds}
use Rattle.cg_base.specs.declared.kind.Sigil.TheVariants.{U}
use Rattle.cg_base.specs.declared.place.Place.{Place}
use Rattle.cg_base.specs.Types as types
use Rattle.cg_base.specs.Types.{Tau, fields, Parts, part}
use Rattle.cg_core.specs.declared.derivation.Mark.{Mark}
use Rattle.cg_core.specs.declared.derivation.Node.{Node}
use Rattle.cg_core.specs.declared.derivation.Node.TheVariants as nodes
use Rattle.cg_core.specs.declared.op.Op.{Op}
use Rattle.cg_core.specs.declared.term.Seen.{Seen}
use Rattle.cg_core.specs.Derivations as trees
use Rattle.cg_core.specs.Derivations.{Derivation, Derivations, derivation}
use Rattle.cg_core.specs.Kernels.{Function, Body}
use Rattle.cg_core.specs.Terms.{Tree, term, Shape, var, unit, bool, lit, fun, op, app, lets, let_bang, if_else, con, case_of, esac, struct, member, take_field, put, cast, annot, none, more, Named, end, field, Arg, Note}
use Rattle.cg_kinds.specs.Kinds.{kinds, is_word}
use Rattle.cg_faults.specs.declared.rule.Rule.{Rule}
use Rattle.cg_check_uses.specs.declared.entry.Use.{Use}
use Rattle.cg_faults.specs.declared.rule.Rule.TheVariants.{K1, K2, K3, K4, K5, K6, K7, T1, T2, T3, T4, T5, T6, T7, T8, T9, T10, T11, T12, T13, T14}
use Rattle.cg_faults.specs.Same.{same}
use Rattle.cg_typing.specs.Contexts.{push, drops, shares}
use Rattle.cg_typing.specs.Accepted.{kinds_of_vars}
use Rattle.cg_check_def.specs.NormalForm.{noted}
use Rattle.cg_faults.specs.Events.{Fault, field_directions, next_direction, later_directions}
use Rattle.cg_typing.specs.Functions.{Asked, these, a_cell, an_element, nothing, asked_by, next_asked, later_asked, meets_asked}
use Rattle.cg_typing.specs.Operators.{Sort, arithmetic, logic, sort_of, takes}
use Rattle.cg_typing.specs.Parts.{is_arrow, is_variant, taken_by, given_by, is_read_only, widens, field_in, alternative_in, held, is_there, is_left, may_be_put_over, with_part, is_last, has_word_arrays, in_range, is_small_enough}
use Rattle.cg_faults.specs.Plain.{plain_at, observed, mentioned, is_made_of}
use Rattle.cg_faults.specs.Rule.{Test, rule, type_limit}
use Rattle.cg_typing.specs.Rules.{note_at, is_literal, second_branch}
use Rattle.cg_check_uses.specs.Marks.{marks_of_uses, marks_seen, settled, kept_beside, kept_seen, kept_new, one_part, two_parts, three_parts}
use Rattle.cg_check_uses.specs.Uses.{no_uses, var_uses, join, mark, seen_places, mark_but, join_seen, flag_at, last, front}

-- ---- answers

-- a value, or the first fault
abbrev pub Out : Type 0 → Type 0
Out A = Result A Fault

abbrev pub bind : {A B : Type 0} → Out A → (A → Out B) → Out B
bind (Ok a) f = f a
bind (Err fault) f = Err fault

-- goes on where the test holds
abbrev pub test : {A : Type 0} → Test → Place → Bool → Out A → Out A
test tested place true k = k
test tested place false k = Err (tested, place)

abbrev pub need : {A : Type 0} → Rule → Place → Bool → Out A → Out A
need r place holds k = test (rule r) place holds k

-- T1 where a synthesised type is checked
abbrev pub meet : {A : Type 0} → Option Tau → Place → Tau → Out A → Out A
meet None place t k = k
meet (Some wanted) place t k = need T1 place (same wanted t) k

-- what a part comes to: its type, its core, its derivation where just what it touches is present, and what it does with each variable
pub record Got : Type 0 where
  pub ty : Tau
  pub core : Tree Note
  pub tree : Derivation
  pub uses : List Use

abbrev pub made : Place → Tau → Shape Note → Derivation → List Use → Got
made place t shape tree uses = record { ty = t; core = term (noted place t) shape; tree = tree; uses = uses }

-- what the fields of a record come to: their types by name, their cores, the marks between each and the later ones, their derivations,
-- and what they do
pub record GotFields : Type 0 where
  pub parts : Parts
  pub cores : Named Note
  pub strings : List (List Mark)
  pub trees : Derivations
  pub uses : List Use

-- a field in front of others
abbrev pub in_front : List ℕ → Got → Bool → GotFields → GotFields
in_front name u alone v =
    record {
      parts = part name u.ty false v.parts;
      cores = field name u.core v.cores;
      strings = cond alone [] (marks_of_uses u.uses v.uses ∷ v.strings);
      trees = trees.part u.tree v.trees;
      uses = join u.uses v.uses;
    }

abbrev pub is_end : Named Place → Bool
is_end end = true
is_end (field name e fs) = false

-- K3 at the first observer without a use behind it
abbrev pub none_bad : {A : Type 0} → Option Place → Out A → Out A
none_bad None k = k
none_bad (Some place) k = Err (rule K3, place)

-- ---- tests at nodes

-- a leaf that synthesises a type, in a context of n variables, and a number
abbrev pub leaf : ℕ → Option Tau → Place → Tau → Shape Note → Node → Out Got
leaf n direction place t shape node = meet direction place t (Ok (made place t shape (derivation node [] trees.done) (no_uses n)))

abbrev pub number : ℕ → Option Tau → Place → Option ℕ → Out Got
number n None place value = Err (rule T2, place)
number n (Some t) place value =
    need T1 place (is_word t) (need T3 place (in_range value t) (Ok (made place t (lit value) (derivation nodes.Lit [] trees.done) (no_uses n))))

-- the way in which a part is checked
abbrev pub Way : Type 0
Way = List Bool → Option Tau → Out Got

-- an operator of this type with one operand, and with two
abbrev pub operated : Op → Place → Tau → Got → Got
operated o place t u = made place t (op o (more u.core none)) (one_part nodes.Op u.tree) u.uses

abbrev pub operated_both : Op → Place → Tau → Got → Got → Got
operated_both o place t x y =
    made place t (op o (more x.core (more y.core none))) (two_parts nodes.Op (marks_of_uses x.uses y.uses) x.tree y.tree) (join x.uses y.uses)

abbrev pub unary : Sort → Op → Option Tau → Place → List Bool → Way → Out Got
unary logic o direction place before x = bind (x before (Some types.bool)) (λ u. meet direction place types.bool (Ok (operated o place types.bool u)))
unary arithmetic o (Some t) place before x = need T12 place (is_word t) (bind (x before (Some t)) (λ u. Ok (operated o place t u)))
unary arithmetic o None place before x = bind (x before None) (λ u. need T12 place (is_word u.ty) (Ok (operated o place u.ty u)))
unary sort o direction place before x =
    bind (x before None) (λ u. need T12 place (takes sort u.ty) (meet direction place types.bool (Ok (operated o place types.bool u))))

-- the guide is the right operand where the left one is a literal
abbrev pub binary : Sort → Op → Option Tau → Place → Bool → List Bool → Way → Way → Out Got
binary logic o direction place literal before l r =
    bind (l before (Some types.bool)) (λ x. bind (r (mark before x.uses) (Some types.bool)) (λ y.
    meet direction place types.bool (Ok (operated_both o place types.bool x y))))
binary arithmetic o (Some t) place literal before l r =
    need T12 place (is_word t) (bind (l before (Some t)) (λ x. bind (r (mark before x.uses) (Some t)) (λ y. Ok (operated_both o place t x y))))
binary arithmetic o None place true before l r =
    bind (r before None) (λ y. need T12 place (is_word y.ty) (bind (l before (Some y.ty)) (λ x. Ok (operated_both o place y.ty x y))))
binary arithmetic o None place false before l r =
    bind (l before None) (λ x. need T12 place (is_word x.ty) (bind (r (mark before x.uses) (Some x.ty)) (λ y. Ok (operated_both o place x.ty x y))))
binary sort o direction place true before l r =
    bind (r before None) (λ y. need T12 place (takes sort y.ty) (bind (l before (Some y.ty)) (λ x.
    meet direction place types.bool (Ok (operated_both o place types.bool x y)))))
binary sort o direction place false before l r =
    bind (l before None) (λ x. need T12 place (takes sort x.ty) (bind (r (mark before x.uses) (Some x.ty)) (λ y.
    meet direction place types.bool (Ok (operated_both o place types.bool x y)))))

module _ (functions : List Function) (vars : List Kinds) where
  abbrev pub asked_test : {A : Type 0} → Asked → Place → Tau → Out A → Out A
  asked_test (these wanted) place t k = need K1 place (meets_asked vars (these wanted) t) k
  asked_test a_cell place t k = need T13 place (meets_asked vars a_cell t) k
  asked_test an_element place t k = need T14 place (meets_asked vars an_element t) k
  asked_test nothing place t k = k

  abbrev pub arguments : {A : Type 0} → List Asked → List Arg → Out A → Out A
  arguments asked [] k = k
  arguments asked (a ∷ args) k = need T14 a.place (has_word_arrays a.ty) (asked_test (next_asked asked) a.place a.ty (arguments (later_asked asked) args k))

  -- K4 at observers
  abbrev pub observers_test : {A : Type 0} → List Tau → List Bool → List Seen → Out A → Out A
  observers_test p before [] k = k
  observers_test p before (o ∷ os) k = need K4 o.place (not (flag_at before o.var) || shares vars (plain_at p o.var)) (observers_test p before os k)

  -- behind branches
  abbrev pub branches_test : {A : Type 0} → Place → Place → List Tau → List Use → List Use → Out A → Out A
  branches_test x y [] us vs k = k
  branches_test x y (t ∷ p) [] vs k = k
  branches_test x y (t ∷ p) (u ∷ us) [] k = k
  branches_test x y (t ∷ p) (u ∷ us) (v ∷ vs) k =
      need K5 (cond u.used y x) (drops vars t || cond u.used v.used (not v.used)) (branches_test x y p us vs k)

  -- where a scope ends
  abbrev pub leave : {A : Type 0} → Place → Tau → Use → Out A → Out A
  leave binder t u k = need K3 binder (drops vars t || u.used) (cond (drops vars t) k (none_bad u.bad k))

  abbrev mutual
    -- a term in a plain context, with what was touched before, in a direction
    pub check : List Tau → List Bool → Option Tau → Tree Place → Out Got
    check p before direction (term place shape) =
        bind (check_shape p before direction place shape) (λ u. test type_limit place (is_small_enough u.ty) (Ok u))

    pub check_shape : List Tau → List Bool → Option Tau → Place → Shape Place → Out Got
    check_shape p before direction place (var i) =
        need K4 place (not (flag_at before i) || shares vars (plain_at p i))
        (meet direction place (plain_at p i) (Ok (made place (plain_at p i) (var i) (derivation nodes.Var [] trees.done) (var_uses (length p) i))))
    check_shape p before direction place unit = leaf (length p) direction place types.unit unit nodes.Unit
    check_shape p before direction place (bool b) = leaf (length p) direction place types.bool (bool b) nodes.Bool
    check_shape p before direction place (lit value) = number (length p) direction place value
    check_shape p before direction place (fun f args) =
        arguments (asked_by functions f) args (leaf (length p) direction place (mentioned functions f args) (fun f args) nodes.Fun)
    check_shape p before direction place (op o (more x none)) = unary (sort_of o) o direction place before (λ b way. check p b way x)
    check_shape p before direction place (op o (more l (more r none))) =
        binary (sort_of o) o direction place (is_literal l) before (λ b way. check p b way l) (λ b way. check p b way r)
    check_shape p before direction place (op o ts) = leaf (length p) None place types.unit (op o none) nodes.Op
    check_shape p before direction place (app f x) =
        bind (check p before None f) (λ u. need T4 (note_at f) (is_arrow u.ty)
        (bind (check p (mark before u.uses) (Some (taken_by u.ty)) x) (λ v.
        meet direction place (given_by u.ty)
        (Ok (made place (given_by u.ty) (app u.core v.core) (two_parts nodes.App (marks_of_uses u.uses v.uses) u.tree v.tree) (join u.uses v.uses))))))
    check_shape p before direction place (lets binder e k) =
        bind (check p before None e) (λ u. bind (check (push p u.ty) (push (mark before u.uses) false) direction k) (λ v.
        leave binder u.ty (last v.uses)
        (Ok (made place v.ty (lets binder u.core v.core)
        (two_parts nodes.Let (marks_of_uses u.uses (front v.uses)) u.tree (settled (kept_new (length p) (last v.uses)) v.tree))
        (join u.uses (front v.uses))))))
    check_shape p before direction place (let_bang observers binder e k) =
        let seen = seen_places (length p) observers in
        observers_test p before observers (bind (check (observed observers p) before None e) (λ u.
        need K2 (note_at e) (kinds vars u.ty).escape
        (bind (check (push p u.ty) (push (mark_but seen before u.uses) false) direction k) (λ v.
        leave binder u.ty (last v.uses)
        (Ok (made place v.ty (let_bang observers binder u.core v.core)
        (two_parts nodes.LetBang (marks_seen seen u.uses (front v.uses))
        (settled (kept_seen seen u.uses) u.tree)
        (settled (kept_seen seen (front v.uses) ++ kept_new (length p) (last v.uses)) v.tree))
        (join_seen seen u.uses (front v.uses))))))))
    check_shape p before direction place (if_else c x y) =
        bind (check p before (Some types.bool) c) (λ u. bind (check p (mark before u.uses) direction x) (λ v.
        bind (check p (mark before u.uses) (second_branch direction v.ty) y) (λ w.
        branches_test (note_at x) (note_at y) p v.uses w.uses
        (Ok (made place v.ty (if_else u.core v.core w.core)
        (three_parts nodes.If (marks_of_uses u.uses (join v.uses w.uses)) u.tree
        (settled (kept_beside v.uses w.uses) v.tree) (settled (kept_beside w.uses v.uses) w.tree))
        (join u.uses (join v.uses w.uses)))))))
    check_shape p before None place (con name e) = Err (rule T2, place)
    check_shape p before (Some t) place (con name e) =
        need T1 place (is_variant t) (need T8 place (is_left (alternative_in name t))
        (bind (check p before (Some (held (alternative_in name t))) e) (λ u. Ok (made place t (con name u.core) (one_part nodes.Con u.tree) u.uses))))
    check_shape p before direction place (case_of e at binder x y) =
        bind (check p before None e) (λ u. need T8 at.place (is_there (alternative_in at.name u.ty))
        (need T10 at.place (is_left (alternative_in at.name u.ty))
        (bind (check (push p (held (alternative_in at.name u.ty))) (push (mark before u.uses) false) direction x) (λ v.
        leave binder (held (alternative_in at.name u.ty)) (last v.uses)
        (bind (check (push p (with_part at.name true u.ty)) (push (mark before u.uses) false) (second_branch direction v.ty) y) (λ w.
        leave at.place (with_part at.name true u.ty) (last w.uses)
        (branches_test (note_at x) (note_at y) p (front v.uses) (front w.uses)
        (Ok (made place v.ty (case_of u.core at binder v.core w.core)
        (three_parts nodes.Case (marks_of_uses u.uses (join (front v.uses) (front w.uses))) u.tree
        (settled (kept_beside (front v.uses) (front w.uses) ++ kept_new (length p) (last v.uses)) v.tree)
        (settled (kept_beside (front w.uses) (front v.uses) ++ kept_new (length p) (last w.uses)) w.tree))
        (join u.uses (join (front v.uses) (front w.uses))))))))))))
    check_shape p before direction place (esac at e) =
        bind (check p before None e) (λ u. need T8 at.place (is_there (alternative_in at.name u.ty))
        (need T10 at.place (is_left (alternative_in at.name u.ty)) (need T9 at.place (is_last at.name u.ty)
        (meet direction place (held (alternative_in at.name u.ty))
        (Ok (made place (held (alternative_in at.name u.ty)) (esac at u.core) (one_part nodes.Esac u.tree) u.uses))))))
    check_shape p before None place (struct fs) =
        bind (check_fields p before [] fs) (λ u. Ok (made place (fields u.parts U) (struct u.cores) (derivation nodes.Struct u.strings u.trees) u.uses))
    check_shape p before (Some t) place (struct fs) =
        need T1 place (is_made_of t fs)
        (bind (check_fields p before (field_directions (Some t)) fs) (λ u. Ok (made place t (struct u.cores) (derivation nodes.Struct u.strings u.trees) u.uses)))
    check_shape p before direction place (member e at) =
        bind (check p before None e) (λ u. need T5 at.place (is_there (field_in at.name u.ty))
        (need T6 at.place (is_left (field_in at.name u.ty)) (need K6 at.place (shares vars u.ty)
        (meet direction place (held (field_in at.name u.ty))
        (Ok (made place (held (field_in at.name u.ty)) (member u.core at) (one_part nodes.Member u.tree) u.uses))))))
    check_shape p before direction place (take_field e at rest binder k) =
        bind (check p before None e) (λ u. need T5 at.place (is_there (field_in at.name u.ty))
        (need T7 at.place (not (is_read_only u.ty)) (need T6 at.place (is_left (field_in at.name u.ty))
        (bind (check (push (push p (with_part at.name true u.ty)) (held (field_in at.name u.ty))) (push (push (mark before u.uses) false) false) direction k) (λ v.
        leave rest (with_part at.name true u.ty) (last (front v.uses))
        (leave binder (held (field_in at.name u.ty)) (last v.uses)
        (Ok (made place v.ty (take_field u.core at rest binder v.core)
        (two_parts nodes.Take (marks_of_uses u.uses (front (front v.uses))) u.tree
        (settled (kept_new (length p) (last (front v.uses)) ++ kept_new (suc (length p)) (last v.uses)) v.tree))
        (join u.uses (front (front v.uses)))))))))))
    check_shape p before direction place (put e at x) =
        bind (check p before None e) (λ u. need T5 at.place (is_there (field_in at.name u.ty))
        (need T7 at.place (not (is_read_only u.ty)) (need K7 at.place (may_be_put_over vars (field_in at.name u.ty))
        (bind (check p (mark before u.uses) (Some (held (field_in at.name u.ty))) x) (λ v.
        meet direction place (with_part at.name false u.ty)
        (Ok (made place (with_part at.name false u.ty) (put u.core at v.core) (two_parts nodes.Put (marks_of_uses u.uses v.uses) u.tree v.tree) (join u.uses v.uses))))))))
    check_shape p before None place (cast e) = Err (rule T2, place)
    check_shape p before (Some t) place (cast e) =
        bind (check p before None e) (λ u. need T11 place (widens u.ty t) (Ok (made place t (cast u.core) (one_part nodes.Cast u.tree) u.uses)))
    check_shape p before direction place (annot e a) =
        need T14 a.place (has_word_arrays a.ty) (bind (check p before (Some a.ty) e) (λ u.
        meet direction place a.ty (Ok (made place a.ty (annot u.core a) (one_part nodes.Annot u.tree) u.uses))))

    -- fields in their order
    pub check_fields : List Tau → List Bool → List (Option Tau) → Named Place → Out GotFields
    check_fields p before directions end = Ok (record { parts = types.end; cores = end; strings = []; trees = trees.done; uses = no_uses (length p) })
    check_fields p before directions (field name e fs) =
        bind (check p before (next_direction directions) e) (λ u.
        bind (check_fields p (mark before u.uses) (later_directions directions) fs) (λ v. Ok (in_front name u (is_end fs) v)))

  -- what is kept of a body: its core, and its derivation where its argument is present
  abbrev pub kept_of : Got → Tree Note × Derivation
  kept_of u = (u.core, settled (kept_new 0 (last u.uses)) u.tree)

  -- a body in the context of its argument alone, checked against the result
  abbrev pub check_body : Tau → Tau → Option Body → Out (Option (Tree Note × Derivation))
  check_body argument result None = Ok None
  check_body argument result (Some body) =
      bind (check (argument ∷ []) (false ∷ []) (Some result) body.term) (λ u. leave body.param argument (last u.uses) (Ok (Some (kept_of u))))

-- a function: its signature's type, and then its body
abbrev pub check_function : List Function → Function → Out (Option (Tree Note × Derivation))
check_function functions f =
    need T4 f.ty.place (is_arrow f.ty.ty) (need T14 f.ty.place (has_word_arrays f.ty.ty)
    (check_body functions (kinds_of_vars f) (taken_by f.ty.ty) (given_by f.ty.ty) f.body))

-- some functions in turn
abbrev pub check_all : List Function → List Function → Out (List (Option (Tree Note × Derivation)))
check_all functions [] = Ok []
check_all functions (f ∷ fs) = bind (check_function functions f) (λ u. bind (check_all functions fs) (λ us. Ok (u ∷ us)))

-- a kernel: what is kept of each function
abbrev pub check_kernel : List Function → Out (List (Option (Tree Note × Derivation)))
check_kernel functions = check_all functions functions

-- the answer where this is the first fault, and where there is none
abbrev pub verdict : {A : Type 0} → Option Fault → A → Out A
verdict None kept = Ok kept
verdict (Some fault) kept = Err fault
