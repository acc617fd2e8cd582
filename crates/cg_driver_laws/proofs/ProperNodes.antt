-- In a context of proper types, the nodes of a lawful core that is derived have proper types.
use Rattle.std.proofs.Common.{◌≡◌, ℕ, zero, suc, true, false, Option, Some, None, List, [], ◌∷◌, refl, sym, ◌∙◌, subst as at}
use Rattle.std.proofs.lemmas.Option.{get_or_from_slice_get, slice_get_within}
use Rattle.std.specs.List.{All}
use Rattle.std.specs.Option.{option_map}
use Rattle.std.specs.Prelude.{slice_get}
use Rattle.cg_base.specs.declared.fun.Fun.{Fun}
use Rattle.cg_base.specs.declared.fun.Fun.TheVariants.{User, Lib as OfLib}
use Rattle.cg_base.specs.declared.kind.Kinds.{Kinds}
use Rattle.cg_base.specs.Types.{Tau}
use Rattle.cg_core.specs.declared.derivation.Mark.{Mark}
use Rattle.cg_core.specs.declared.derivation.Mark.TheVariants.{Gone, Left, Right, Both, Seen}
use Rattle.cg_core.specs.Derivations.{Derivation, Derivations}
use Rattle.cg_core.specs.Kernels.{Function}
use Rattle.cg_core.specs.Terms.{Arg, Note, Tree, term, Shape, var, unit, bool, lit, fun, op, app, lets, let_bang, if_else, con, case_of, esac, struct, member, take_field, put, cast, annot, none, more, Named, end, field, erased, erased_named, erased_shape}
use Rattle.cg_inst_laws.proofs.Each.{Each, each_both, each_from, each_three}
use Rattle.cg_kinds.specs.Kinds.{subst}
use Rattle.cg_core_def.specs.Lawful.{AreLawfulFields, AreSome, IsLawfulArg, IsLawfulShape, IsLawfulTerm, part_names}
use Rattle.cg_typing.specs.Contexts.{Context, first, first_side, look, push, second, second_side}
use Rattle.cg_typing.specs.Functions.{arg_types, fun_type}
use Rattle.cg_typing.specs.Instances.{nodes_of, nodes_of_fields}
use Rattle.cg_typing.specs.Operators.{along, sort_of}
use Rattle.cg_typing.specs.Parts.{alternative_in, field_in, held, with_part}
use Rattle.cg_typing.specs.Rules.{Derives, DerivesFields, DerivesShape, Meets, parts_made, record_made, second_branch, type_at}
use Rattle.cg_typing.specs.Trees.{first_marks, marks_of}
use Rattle.cg_driver_laws.proofs.Proper.{AreProperParts, IsProper, IsProperMaybe, alternative_proper, direction_proper, field_proper, given_proper, gives_proper, lawful_proper, library_proper, observed_proper, operand_proper, with_proper, word_proper}

-- ---- contexts

abbrev pub AreProperIn : Context → Type 0
AreProperIn g = Each IsProperMaybe g

look_proper : (g : Context) (i : ℕ) (t : Tau) → AreProperIn g → look g i ≡ Some t → IsProper t
look_proper [] i t h e = absurd (cc)
look_proper (entry ∷ g) zero t h e = at IsProperMaybe e h.0
look_proper (entry ∷ g) (suc i) t h e = look_proper g i t h.1 e

first_entry : (m : Mark) (entry : Option Tau) → IsProperMaybe entry → IsProperMaybe (first_side m entry)
first_entry Left entry h = h
first_entry Both entry h = h
first_entry Seen None h = tt
first_entry Seen (Some t) h = observed_proper t h
first_entry Gone entry h = tt
first_entry Right entry h = tt

second_entry : (m : Mark) (entry : Option Tau) → IsProperMaybe entry → IsProperMaybe (second_side m entry)
second_entry Right entry h = h
second_entry Both entry h = h
second_entry Seen entry h = h
second_entry Gone entry h = tt
second_entry Left entry h = tt

first_proper : (ms : List Mark) (g : Context) → AreProperIn g → AreProperIn (first ms g)
first_proper ms [] h = tt
first_proper [] (entry ∷ g) h = tt
first_proper (m ∷ ms) (entry ∷ g) h = (first_entry m entry h.0, first_proper ms g h.1)

second_proper : (ms : List Mark) (g : Context) → AreProperIn g → AreProperIn (second ms g)
second_proper ms [] h = tt
second_proper [] (entry ∷ g) h = tt
second_proper (m ∷ ms) (entry ∷ g) h = (second_entry m entry h.0, second_proper ms g h.1)

push_proper : (g : Context) (t : Tau) → AreProperIn g → IsProper t → AreProperIn (push g (Some t))
push_proper [] t h p = (p, tt)
push_proper (entry ∷ g) t h p = (h.0, push_proper g t h.1 p)

-- ---- directions

branch_proper : (direction : Option Tau) (t : Tau) → IsProperMaybe direction → IsProper t → IsProperMaybe (second_branch direction t)
branch_proper None t p q = q
branch_proper (Some wanted) t p q = p

-- where a record is checked against a type, this is the record's own: its fields are proper
abbrev AsksFields : Option Tau → Named Note → Type 0
AsksFields None fs = Unit {0}
AsksFields (Some wanted) fs = AreProperParts (parts_made fs)

asks_fields : (direction : Option Tau) (t : Tau) (fs : Named Note) → Meets direction t → t ≡ record_made fs → IsProperMaybe direction → AsksFields direction fs
asks_fields None t fs m e p = tt
asks_fields (Some wanted) t fs m e p = (at IsProper (m ∙ e) p).1

asks_field : (direction : Option Tau) (name : List ℕ) (c : Tree Note) (fs : Named Note) → AsksFields direction (field name c fs) → IsProperMaybe (along direction (type_at c))
asks_field None name c fs a = tt
asks_field (Some wanted) name c fs a = a.0

asks_later : (direction : Option Tau) (name : List ℕ) (c : Tree Note) (fs : Named Note) → AsksFields direction (field name c fs) → AsksFields direction fs
asks_later None name c fs a = tt
asks_later (Some wanted) name c fs a = a.1

-- ---- functions

-- the signatures of these functions are proper
abbrev pub HaveProper : List Function → Type 0
HaveProper functions = (i : ℕ) (f : Function) → slice_get functions i ≡ Some f → IsProper f.ty.ty

pub function_proper : (functions : List Function) → HaveProper functions → (f : Fun) (args : List Arg) → Each IsProper (arg_types args) → IsProperMaybe (fun_type functions f args)
function_proper functions signatures (User i) args h = go (slice_get functions i) refl
  where
    go : (o : Option Function) → slice_get functions i ≡ o → IsProperMaybe (option_map (λ (g : Function). subst (arg_types args) g.ty.ty) o)
    go None e = tt
    go (Some f) e = given_proper (arg_types args) h f.ty.ty (signatures i f e)
function_proper functions signatures (OfLib l) args h = library_proper (arg_types args) h l

-- lawful type arguments are proper
pub arguments_proper : (arities : List ℕ) (many : ℕ) (args : List Arg) → All (IsLawfulArg arities many) args → Each IsProper (arg_types args)
arguments_proper arities many args h = each_proper args (each_from (IsLawfulArg arities many) args (λ i a e. at (IsLawfulArg arities many) (get_or_from_slice_get args i a a e) (h i a (slice_get_within args i a e))))
  where
    each_proper : (args : List Arg) → Each (IsLawfulArg arities many) args → Each IsProper (arg_types args)
    each_proper [] h = tt
    each_proper (a ∷ args) h = (lawful_proper many a.ty h.0, each_proper args h.1)

-- ---- nodes

abbrev pub HasProper : Tree Note → Type 0
HasProper t = IsProper (type_at t)

-- a core is the first of its nodes
pub top_proper : (t : Tree Note) → Each HasProper (nodes_of t) → IsProper (type_at t)
top_proper (term note s) h = h.0

module _ (functions : List Function) (vars : List Kinds) (arities : List ℕ) (many : ℕ) (signatures : HaveProper functions) where
  some_made : (g : Context) (strings : List (List Mark)) (ds : Derivations) (direction : Option Tau) (fs : Named Note)
      → DerivesFields functions vars g strings ds direction fs → AreSome (part_names (parts_made fs))
  some_made g strings ds direction end h = absurd h
  some_made g strings ds direction (field name c fs) h = tt

  mutual
    unfolding erased

    pub nodes_proper : (c : Tree Note) (g : Context) (d : Derivation) (direction : Option Tau) (depth : ℕ) → Derives functions vars g d direction c
        → IsLawfulTerm arities many depth (erased c) → AreProperIn g → IsProperMaybe direction → Each HasProper (nodes_of c)
    nodes_proper (term note s) g d direction depth h l ps p = shape_proper note s g d direction depth h l ps p

    shape_proper : (note : Note) (s : Shape Note) (g : Context) (d : Derivation) (direction : Option Tau) (depth : ℕ) → DerivesShape functions vars g d direction note.ty s
        → IsLawfulShape arities many depth (erased_shape s) → AreProperIn g → IsProperMaybe direction → Each HasProper (nodes_of (term note s))
    shape_proper note (var i) g d direction depth h l ps p = (look_proper g i note.ty ps h.present, tt)
    shape_proper note unit g d direction depth h l ps p = (at IsProper (sym h.is) (tt {0}), tt)
    shape_proper note (bool b) g d direction depth h l ps p = (at IsProper (sym h.is) (tt {0}), tt)
    shape_proper note (lit v) g d direction depth h l ps p = (word_proper note.ty h.is_a_word, tt)
    shape_proper note (fun f args) g d direction depth h l ps p = (at IsProperMaybe h.is (function_proper functions signatures f args (arguments_proper arities many args l.1)), tt)
    shape_proper note (op o none) g d direction depth h l ps p = absurd h
    shape_proper note (op o (more x none)) g d direction depth h l ps p =
        let q = operand_proper (sort_of o) (type_at x) h.takes in
        let one = nodes_proper x _ _ _ _ h.operand l.1.0 ps (direction_proper (sort_of o) direction _ (type_at x) p q) in
        (at IsProper (sym h.is) (gives_proper (sort_of o) (type_at x) q), each_both HasProper (nodes_of x) [] one tt)
    shape_proper note (op o (more x (more y none))) g d direction depth h l ps p =
        let q = operand_proper (sort_of o) (type_at x) h.takes in
        let one = nodes_proper x _ _ _ _ h.left l.1.0 (first_proper (marks_of d) g ps) (direction_proper (sort_of o) direction _ (type_at x) p q) in
        let two = nodes_proper y _ _ _ _ h.right l.1.1.0 (second_proper (marks_of d) g ps) (direction_proper (sort_of o) direction _ (type_at y) p (at IsProper h.alike q)) in
        (at IsProper (sym h.is) (gives_proper (sort_of o) (type_at x) q), each_both HasProper (nodes_of x) _ one (each_both HasProper (nodes_of y) [] two tt))
    shape_proper note (op o (more x (more y (more z ts)))) g d direction depth h l ps p = absurd h
    shape_proper note (app f x) g d direction depth h l ps p =
        let one = nodes_proper f _ _ _ _ h.function l.0 (first_proper (marks_of d) g ps) tt in
        let a : IsProper (type_at x) × IsProper note.ty = at IsProper h.is_arrow (top_proper f one) in
        let two = nodes_proper x _ _ _ _ h.argument l.1 (second_proper (marks_of d) g ps) a.0 in
        (a.1, each_both HasProper (nodes_of f) (nodes_of x) one two)
    shape_proper note (lets place e k) g d direction depth h l ps p =
        let one = nodes_proper e _ _ _ _ h.value l.0 (first_proper (marks_of d) g ps) tt in
        let two = nodes_proper k _ _ _ _ h.body l.1 (push_proper (second (marks_of d) g) (type_at e) (second_proper (marks_of d) g ps) (top_proper e one)) p in
        (at IsProper (sym h.is) (top_proper k two), each_both HasProper (nodes_of e) (nodes_of k) one two)
    shape_proper note (let_bang seen place e k) g d direction depth h l ps p =
        let one = nodes_proper e _ _ _ _ h.value l.1 (first_proper (marks_of d) g ps) tt in
        let two = nodes_proper k _ _ _ _ h.body l.2 (push_proper (second (marks_of d) g) (type_at e) (second_proper (marks_of d) g ps) (top_proper e one)) p in
        (at IsProper (sym h.is) (top_proper k two), each_both HasProper (nodes_of e) (nodes_of k) one two)
    shape_proper note (if_else c x y) g d direction depth h l ps p =
        let one = nodes_proper c _ _ _ _ h.condition l.0 (first_proper (marks_of d) g ps) tt in
        let two = nodes_proper x _ _ _ _ h.first l.1 (second_proper (marks_of d) g ps) p in
        let three = nodes_proper y _ _ _ _ h.second l.2 (second_proper (marks_of d) g ps) (branch_proper direction (type_at x) p (top_proper x two)) in
        (at IsProper (sym h.is) (top_proper x two), each_three HasProper (nodes_of c) (nodes_of x) (nodes_of y) one two three)
    shape_proper note (con name e) g d direction depth h l ps p =
        let t : IsProper note.ty = at IsProperMaybe h.checked p in (t, nodes_proper e _ _ _ _ h.payload l ps (alternative_proper name note.ty t))
    shape_proper note (case_of e a place x y) g d direction depth h l ps p =
        let one = nodes_proper e _ _ _ _ h.subject l.0 (first_proper (marks_of d) g ps) tt in
        let t = top_proper e one in
        let two = nodes_proper x _ _ _ _ h.first l.1
        (push_proper (second (marks_of d) g) (held (alternative_in a.name (type_at e))) (second_proper (marks_of d) g ps) (alternative_proper a.name (type_at e) t)) p in
        let three = nodes_proper y _ _ _ _ h.second l.2
        (push_proper (second (marks_of d) g) (with_part a.name true (type_at e)) (second_proper (marks_of d) g ps) (with_proper a.name true (type_at e) t))
        (branch_proper direction (type_at x) p (top_proper x two)) in
        (at IsProper (sym h.is) (top_proper x two), each_three HasProper (nodes_of e) (nodes_of x) (nodes_of y) one two three)
    shape_proper note (esac a e) g d direction depth h l ps p =
        let one = nodes_proper e _ _ _ _ h.subject l ps tt in (at IsProper (sym h.is) (alternative_proper a.name (type_at e) (top_proper e one)), one)
    shape_proper note (struct fs) g d direction depth h l ps p =
        let inner = fields_proper fs g _ _ direction _ h.fields l.2 ps (asks_fields direction note.ty fs h.meets h.is p) in
        let made : IsProper (record_made fs) = (some_made g _ _ direction fs h.fields, inner.1) in
        (at IsProper (sym h.is) made, inner.0)
    shape_proper note (member e a) g d direction depth h l ps p =
        let one = nodes_proper e _ _ _ _ h.whole l ps tt in (at IsProper (sym h.is) (field_proper a.name (type_at e) (top_proper e one)), one)
    shape_proper note (take_field e a place rest k) g d direction depth h l ps p =
        let one = nodes_proper e _ _ _ _ h.whole l.0 (first_proper (marks_of d) g ps) tt in
        let t = top_proper e one in
        let two = nodes_proper k _ _ _ _ h.body l.1
        (push_proper (push (second (marks_of d) g) (Some (with_part a.name true (type_at e)))) (held (field_in a.name (type_at e)))
        (push_proper (second (marks_of d) g) (with_part a.name true (type_at e)) (second_proper (marks_of d) g ps) (with_proper a.name true (type_at e) t))
        (field_proper a.name (type_at e) t)) p in
        (at IsProper (sym h.is) (top_proper k two), each_both HasProper (nodes_of e) (nodes_of k) one two)
    shape_proper note (put e a x) g d direction depth h l ps p =
        let one = nodes_proper e _ _ _ _ h.whole l.0 (first_proper (marks_of d) g ps) tt in
        let t = top_proper e one in
        let two = nodes_proper x _ _ _ _ h.value l.1 (second_proper (marks_of d) g ps) (field_proper a.name (type_at e) t) in
        (at IsProper (sym h.is) (with_proper a.name false (type_at e) t), each_both HasProper (nodes_of e) (nodes_of x) one two)
    shape_proper note (cast e) g d direction depth h l ps p = (at IsProperMaybe h.checked p, nodes_proper e _ _ _ _ h.operand l ps tt)
    shape_proper note (annot e a) g d direction depth h l ps p =
        let t = lawful_proper many a.ty l.1 in (at IsProper (sym h.is) t, nodes_proper e _ _ _ _ h.value l.0 ps t)

    fields_proper : (fs : Named Note) (g : Context) (strings : List (List Mark)) (ds : Derivations) (direction : Option Tau) (depth : ℕ)
        → DerivesFields functions vars g strings ds direction fs → AreLawfulFields arities many depth (erased_named fs) → AreProperIn g → AsksFields direction fs
        → Each HasProper (nodes_of_fields fs) × AreProperParts (parts_made fs)
    fields_proper end g strings ds direction depth h l ps a = absurd h
    fields_proper (field name e end) g strings ds direction depth h l ps a =
        let one = nodes_proper e _ _ _ _ h.value l.0 ps (asks_field direction name e end a) in (each_both HasProper (nodes_of e) [] one tt, (top_proper e one, tt))
    fields_proper (field name e (field later x fs)) g strings ds direction depth h l ps a =
        let one = nodes_proper e _ _ _ _ h.value l.0 (first_proper (first_marks strings) g ps) (asks_field direction name e (field later x fs) a) in
        let rest = fields_proper (field later x fs) _ _ _ _ _ h.later l.1 (second_proper (first_marks strings) g ps) (asks_later direction name e (field later x fs) a) in
        (each_both HasProper (nodes_of e) _ one rest.0, (top_proper e one, rest.1))
