-- The C of a list of instances can be printed.
use Rattle.std.proofs.Common.{◌≡◌, ℕ, zero, suc, ◌+◌, ◌^◌, ◌<◌, ◌≤◌, Bool, true, false, not, cond, Option, Some, None, List, [], ◌∷◌, ◌++◌, length, get_or, map, slice_get, unwrap_or, refl, sym, ap, subst, arith, bytes_eq}
use Rattle.std.specs.List.{AllByRecursion}
use Rattle.std.specs.Option.{option_map}
use Rattle.cg_base.specs.declared.fun.Fun.{Fun}
use Rattle.cg_base.specs.declared.fun.Fun.TheVariants.{User, Lib as OfLib}
use Rattle.cg_base.specs.declared.kind.Kinds.{Kinds}
use Rattle.cg_base.specs.declared.kind.Word.TheVariants.{U8, U16, U32, U64}
use Rattle.cg_base.specs.Same.{same_type}
use Rattle.cg_base.specs.Types as types
use Rattle.cg_base.specs.Types.{Tau, Parts, part}
use Rattle.cg_cgen_def.specs.Code.{takes_two}
use Rattle.cg_core.specs.declared.derivation.Mark.{Mark}
use Rattle.cg_core.specs.Derivations.{Derivation, Derivations}
use Rattle.cg_core.specs.Kernels.{Function}
use Rattle.cg_core.specs.Terms.{Arg, Note, Tree, term, Shape, var, unit, bool, lit, fun, op, app, lets, let_bang, if_else, con, case_of, esac, struct, member, take_field, put, cast, annot, Trees, none, more, Named, end, field}
use Rattle.cg_ctree.specs.declared.tree.COpnd.TheVariants.{Path}
use Rattle.cg_ctree.specs.declared.tree.CRhs.TheVariants.{Call}
use Rattle.cg_ctree.specs.declared.tree.CStruct.{CStruct}
use Rattle.cg_ctree.specs.declared.tree.CTy.{CTy}
use Rattle.cg_ctree.specs.Spells.{ArePrintableCases, IsCName, IsPrintableBlock, IsPrintableBody, IsPrintableDecl, IsPrintableFunction, IsPrintableOpnd, IsPrintablePath, IsPrintableStmt, IsPrintableType, SomeAll}
use Rattle.cg_ctree.specs.Trees.{assign, return', switch}
use Rattle.cg_heap.specs.declared.foreign.Link.{Link}
use Rattle.cg_inst.specs.Lists.{same_instance}
use Rattle.cg_eval_operations.specs.Iterators.{is_iterator}
use Rattle.cg_eval_operations.specs.Operators.{truth}
use Rattle.cg_eval_operations.specs.Positions.{position, position_among}
use Rattle.cg_typing.specs.Contexts.{Context}
use Rattle.cg_typing.specs.Functions.{arg_types}
use Rattle.cg_typing.specs.Instances.{Entry, Instance, IsDerivedBody, IsEntry, IsDerivedMaybe, nodes_of, nodes_below, nodes_of_fields}
use Rattle.cg_typing.specs.Parts.{given_by, taken_by}
use Rattle.cg_typing.specs.Rules.{Derives, DerivesShape, DerivesFields, InRange, type_at}
use Rattle.cg_typing.specs.Trees.{strings_of, the_parts}
use Rattle.cg_update.specs.Calls.{Program}
use Rattle.cg_update.specs.Turns.{field_type, place_in}
use Rattle.cg_update.specs.Updates.{place_of, sigil_of}
use Rattle.cg_lower_def.specs.CTypes.{count, IsDeclared}
use Rattle.cg_cgen_def.specs.Bodies.{body_of, locals_from, Low}
use Rattle.cg_lower_def.specs.Functions.{Item, of_arrow, of_instance, function_maybe, function_of_item, function_of, functions_at, low_body, low_instance, low_outside, with_function}
use Rattle.cg_cgen_def.specs.Dispatches.{dispatch_body, dispatch_cases, second_path}
use Rattle.cg_lower_def.specs.Dispatch.{dispatch_of, tags_from}
use Rattle.cg_lower_def.specs.IteratorCode.{low_iterator}
use Rattle.cg_cgen_def.specs.Places.{whole_argument, Place, argument, held, local, number, path, payload, at, operand}
use Rattle.cg_lower_def.specs.LibraryCode.{low_library}
use Rattle.cg_cgen_def.specs.Names.{function_name}
use Rattle.cg_lower_def.specs.Lowered.{Whole, arrow_number, call_operands, callee, calling, injecting, joined, literal, low, low_fields, low_member, low_shape, remainder, place, typed, word_of}
use Rattle.cg_lower_def.specs.Printables.{AreShallow, LoweringIsPrintable, depth, depth_below, depth_of_fields}
use Rattle.cg_lower_def.specs.Simulated.{IsProgramOf}
use Rattle.cg_lower_laws.proofs.PrintedNames.{FitsPlace, argument_named, at_fits, dispatch_named, function_named, local_named, operand_prints, path_prints, type_prints}
use Rattle.cg_lower_laws.proofs.PrintedIterators.{iterator_prints}
use Rattle.cg_lower_laws.proofs.PrintedLibrary.{library_prints}
use Rattle.cg_lower_laws.proofs.PrintedNodes.{leaf_prints, PrintLows, PrintsLow, all_append, assign_prints, block_prints, call_prints, case_prints, cast_prints, if_prints, inject_prints, joined_prints, member_prints, operator_prints, put_prints, remainder_fits, set_prints, struct_prints}
use Rattle.cg_lower_laws.proofs.Typings.{all_back, all_front}

-- ---- the numbers of a core

-- the numbers that C writes for a core fit: those of literals, and of alternatives
abbrev mutual
  Fits : Tree Note → Type 0
  Fits (term note shape) = FitsShape note.ty shape

  FitsShape : Tau → Shape Note → Type 0
  FitsShape t (lit n) = literal n < 2 ^ 64
  FitsShape t (op o ts) = AllFit ts
  FitsShape t (app f x) = Fits f × Fits x
  FitsShape t (lets binder e k) = Fits e × Fits k
  FitsShape t (let_bang observers binder e k) = Fits e × Fits k
  FitsShape t (if_else c x y) = Fits c × Fits x × Fits y
  FitsShape t (con name e) = Fits e × (place_in name t < 2 ^ 64)
  FitsShape t (case_of e at binder x y) = Fits e × Fits x × Fits y × (place_in at.name (type_at e) < 2 ^ 64)
  FitsShape t (esac at e) = Fits e
  FitsShape t (struct fs) = FieldsFit fs
  FitsShape t (member e at) = Fits e
  FitsShape t (take_field e at rest binder k) = Fits e × Fits k
  FitsShape t (put e at x) = Fits e × Fits x
  FitsShape t (cast e) = Fits e
  FitsShape t (annot e a) = Fits e
  FitsShape t leaf = Unit {0}

  AllFit : Trees Note → Type 0
  AllFit none = Unit {0}
  AllFit (more t ts) = Fits t × AllFit ts

  FieldsFit : Named Note → Type 0
  FieldsFit end = Unit {0}
  FieldsFit (field name t fs) = Fits t × FieldsFit fs

-- a literal that is in range of a word
literal_fits : (value : Option ℕ) (t : Tau) → InRange value t → literal value < 2 ^ 64
literal_fits None t h = omega arith
literal_fits (Some n) (types.word U8) h = omega arith
literal_fits (Some n) (types.word U16) h = omega arith
literal_fits (Some n) (types.word U32) h = omega arith
literal_fits (Some n) (types.word U64) h = h
literal_fits (Some n) (types.var i) h = absurd h
literal_fits (Some n) (types.seen i) h = absurd h
literal_fits (Some n) types.unit h = absurd h
literal_fits (Some n) types.bool h = absurd h
literal_fits (Some n) (types.arrow a b) h = absurd h
literal_fits (Some n) (types.abs x ts sigil) h = absurd h
literal_fits (Some n) (types.variant ps) h = absurd h
literal_fits (Some n) (types.fields ps sigil) h = absurd h

-- a name is found among the parts, or at their end
position_within : (x : List ℕ) (ps : Parts) → position_among x ps ≤ count ps
unfolding position_among count
position_within x types.end = omega arith
position_within x (part y t taken ps) = by_test (bytes_eq x y) (position_within x ps)
  where
    by_test : (b : Bool) → position_among x ps ≤ count ps → cond b zero (suc (position_among x ps)) ≤ suc (count ps)
    by_test true h = omega arith
    by_test false h = omega arith

module _ (numbered : Tau → ℕ) (ss : List CStruct) where
  -- an alternative of a type whose struct is declared
  alternative_fits : (x : List ℕ) (t : Tau) → IsDeclared numbered ss t → place_in x t < 2 ^ 64
  unfolding IsDeclared position_among
  alternative_fits x (types.variant ps) h = let few = h.1 in omega (arith, few, position_within x ps)
  alternative_fits x (types.var i) h = omega arith
  alternative_fits x (types.seen i) h = omega arith
  alternative_fits x types.unit h = omega arith
  alternative_fits x types.bool h = omega arith
  alternative_fits x (types.word w) h = omega arith
  alternative_fits x (types.arrow a b) h = omega arith
  alternative_fits x (types.abs y ts sigil) h = omega arith
  alternative_fits x (types.fields ps sigil) h = omega arith

  -- the structs of a node's type are declared
  abbrev IsNode : Tree Note → Type 0
  IsNode t = IsDeclared numbered ss (type_at t)

  -- a core stands first among its nodes
  itself_declared : (core : Tree Note) → AllByRecursion IsNode (nodes_of core) → IsNode core
  itself_declared (term note shape) h = h.0

  module _ (functions : List Function) (vars : List Kinds) where
    -- the numbers of a core that is derived, with the structs of its nodes declared, fit
    mutual
      fits : (g : Context) (d : Derivation) (direction : Option Tau) (core : Tree Note) → Derives functions vars g d direction core → AllByRecursion IsNode (nodes_of core) → Fits core
      fits g d direction (term note shape) h n = fits_shape g d direction note.ty shape h n.0 n.1

      fits_shape : (g : Context) (d : Derivation) (direction : Option Tau) (t : Tau) (shape : Shape Note) → DerivesShape functions vars g d direction t shape → IsDeclared numbered ss t → AllByRecursion IsNode (nodes_below shape) → FitsShape t shape
      fits_shape g d direction t (var i) h own n = tt
      fits_shape g d direction t unit h own n = tt
      fits_shape g d direction t (bool b) h own n = tt
      fits_shape g d direction t (lit value) h own n = literal_fits value t h.in_range
      fits_shape g d direction t (fun f args) h own n = tt
      fits_shape g d direction t (op o none) h own n = tt
      fits_shape g d direction t (op o (more a none)) h own n = (fits _ _ _ a h.operand (all_front IsNode (nodes_of a) [] n), tt)
      fits_shape g d direction t (op o (more a (more b none))) h own n = (
        fits _ _ _ a h.left (all_front IsNode (nodes_of a) (nodes_of b ++ []) n),
        (fits _ _ _ b h.right (all_front IsNode (nodes_of b) [] (all_back IsNode (nodes_of a) (nodes_of b ++ []) n)), tt),
      )
      fits_shape g d direction t (op o (more a (more b (more c ts)))) h own n = absurd h
      fits_shape g d direction t (app f x) h own n =
          (fits _ _ _ f h.function (all_front IsNode (nodes_of f) (nodes_of x) n), fits _ _ _ x h.argument (all_back IsNode (nodes_of f) (nodes_of x) n))
      fits_shape g d direction t (lets binder e k) h own n =
          (fits _ _ _ e h.value (all_front IsNode (nodes_of e) (nodes_of k) n), fits _ _ _ k h.body (all_back IsNode (nodes_of e) (nodes_of k) n))
      fits_shape g d direction t (let_bang observers binder e k) h own n =
          (fits _ _ _ e h.value (all_front IsNode (nodes_of e) (nodes_of k) n), fits _ _ _ k h.body (all_back IsNode (nodes_of e) (nodes_of k) n))
      fits_shape g d direction t (if_else c x y) h own n =
          let m = all_front IsNode (nodes_of c ++ nodes_of x) (nodes_of y) n in (
            fits _ _ _ c h.condition (all_front IsNode (nodes_of c) (nodes_of x) m),
            fits _ _ _ x h.first (all_back IsNode (nodes_of c) (nodes_of x) m),
            fits _ _ _ y h.second (all_back IsNode (nodes_of c ++ nodes_of x) (nodes_of y) n),
          )
      fits_shape g d direction t (con name e) h own n = (fits _ _ _ e h.payload n, alternative_fits name t own)
      fits_shape g d direction t (case_of e at' binder x y) h own n =
          let m = all_front IsNode (nodes_of e ++ nodes_of x) (nodes_of y) n in
          let p = all_front IsNode (nodes_of e) (nodes_of x) m in (
            fits _ _ _ e h.subject p,
            fits _ _ _ x h.first (all_back IsNode (nodes_of e) (nodes_of x) m),
            fits _ _ _ y h.second (all_back IsNode (nodes_of e ++ nodes_of x) (nodes_of y) n),
            alternative_fits at'.name (type_at e) (itself_declared e p),
          )
      fits_shape g d direction t (esac at' e) h own n = fits _ _ _ e h.subject n
      fits_shape g d direction t (struct fs) h own n = fields_fit g (strings_of d) (the_parts d) direction fs h.fields n
      fits_shape g d direction t (member e at') h own n = fits _ _ _ e h.whole n
      fits_shape g d direction t (take_field e at' rest binder k) h own n =
          (fits _ _ _ e h.whole (all_front IsNode (nodes_of e) (nodes_of k) n), fits _ _ _ k h.body (all_back IsNode (nodes_of e) (nodes_of k) n))
      fits_shape g d direction t (put e at' x) h own n =
          (fits _ _ _ e h.whole (all_front IsNode (nodes_of e) (nodes_of x) n), fits _ _ _ x h.value (all_back IsNode (nodes_of e) (nodes_of x) n))
      fits_shape g d direction t (cast e) h own n = fits _ _ _ e h.operand n
      fits_shape g d direction t (annot e a) h own n = fits _ _ _ e h.value n

      fields_fit : (g : Context) (strings : List (List Mark)) (ds : Derivations) (direction : Option Tau) (fs : Named Note)
          → DerivesFields functions vars g strings ds direction fs → AllByRecursion IsNode (nodes_of_fields fs) → FieldsFit fs
      fields_fit g strings ds direction end h n = tt
      fields_fit g strings ds direction (field name e end) h n = (fits _ _ _ e h.value (all_front IsNode (nodes_of e) [] n), tt)
      fields_fit g strings ds direction (field name e (field later x fs)) h n = (
        fits _ _ _ e h.value (all_front IsNode (nodes_of e) (nodes_of_fields (field later x fs)) n),
        fields_fit _ _ _ direction (field later x fs) h.later (all_back IsNode (nodes_of e) (nodes_of_fields (field later x fs)) n),
      )

-- ---- terms

-- a variable is kept at a place that fits
get_fits : (os : List Place) (i : ℕ) → AllByRecursion FitsPlace os → FitsPlace (get_or os i (number 0))
get_fits [] i h = omega arith
get_fits (v ∷ os) zero h = h.0
get_fits (v ∷ os) (suc i) h = get_fits os i h.1

truth_fits : (b : Bool) → truth b < 2 ^ 64
truth_fits true = omega arith
truth_fits false = omega arith

-- an instance stands within the list
place_within : (x : Instance) (list : List Instance) → unwrap_or (place_of x list) 0 ≤ length list
unfolding place_of
place_within x [] = omega arith
place_within x (y ∷ ys) = by_test (same_instance x y) (place_of x ys) (place_within x ys)
  where
    by_test : (b : Bool) (o : Option ℕ) → unwrap_or o 0 ≤ length ys → unwrap_or (cond b (Some zero) (option_map suc o)) 0 ≤ suc (length ys)
    by_test true o h = omega arith
    by_test false None h = omega arith
    by_test false (Some n) h = omega arith

module _ (whole : Whole) (few : length whole.list ≤ 2 ^ 32) where
  -- what is called has a name, and an operand at least
  callee_named : (f : Tree Note) → IsCName (callee whole f)
  callee_named (term note (fun f args)) = function_named (place whole f args)
  callee_named (term note shape) = dispatch_named (arrow_number whole.arrows note.ty)

  operands_called : (f : Tree Note) (v x : Place) → FitsPlace v → FitsPlace x → SomeAll IsPrintableOpnd (map operand (call_operands whole f v x))
  operands_called (term note (fun f args)) v x hv hx = (operand_prints x hx, tt)
  operands_called (term note shape) v x hv hx = (operand_prints v hv, (operand_prints x hx, tt))

  -- the place of an instance fits, as there are few
  place_fits : (f : Fun) (args : List Arg) → place whole f args < 2 ^ 64
  place_fits f args = omega (arith, few, place_within (record { fun = f; types = arg_types args }) whole.list)

  -- a place more
  pushed : (os : List Place) (v : Place) → AllByRecursion FitsPlace os → FitsPlace v → AllByRecursion FitsPlace (os ++ v ∷ [])
  pushed os v all h = all_append FitsPlace os (v ∷ []) all (h, tt)

  -- a core can be printed in a room for as many statements as it is deep
  mutual
    unfolding low low_shape low_fields

    prints : (core : Tree Note) (room k : ℕ) (os : List Place) → Fits core → depth core ≤ room → AllByRecursion FitsPlace os → PrintsLow room (low whole k os core)
    prints (term note shape) zero k os f d all = absurd (omega arith)
    prints (term note shape) (suc room) k os f d all = prints_shape note.ty shape room k os f (omega arith) all

    prints_shape : (t : Tau) (shape : Shape Note) (room k : ℕ) (os : List Place) → FitsShape t shape → depth_below shape ≤ room → AllByRecursion FitsPlace os
        → PrintsLow (suc room) (low_shape whole k os t shape)
    prints_shape t (var i) room k os f d all = leaf_prints (suc room) _ (get_fits os i all)
    prints_shape t unit room k os f d all = leaf_prints (suc room) _ (omega arith)
    prints_shape t (bool b) room k os f d all = leaf_prints (suc room) _ (truth_fits b)
    prints_shape t (lit n) room k os f d all = leaf_prints (suc room) _ f
    prints_shape t (fun g args) room k os f d all = leaf_prints (suc room) _ (place_fits g args)
    prints_shape t (op o none) room k os f d all = leaf_prints (suc room) _ (omega arith)
    prints_shape t (op o (more a none)) room k os f d all =
        let p = prints a (suc room) k os f.0 (omega arith) all in
        operator_prints room (not (takes_two o)) k (typed whole t) o (word_of (type_at a)) (low whole k os a) _ _ (type_prints whole.numbered t) p p.value p.value
    prints_shape t (op o (more a (more b none))) room k os f d all =
        let e = low whole k os a in
        let x = low whole (k + length e.locals) os b in
        let pe = prints a (suc room) k os f.0 (omega arith) all in
        let px = prints b (suc room) (k + length e.locals) os f.1.0 (omega arith) all in
        operator_prints room (takes_two o) k (typed whole t) o (word_of (type_at a)) (joined e x) _ _ (type_prints whole.numbered t) (joined_prints (suc room) e x pe px) pe.value px.value
    prints_shape t (op o (more a (more b (more c ts)))) room k os f d all = leaf_prints (suc room) _ (omega arith)
    prints_shape t (app g x) room k os f d all =
        let e = low whole k os g in
        let a = low whole (k + length e.locals) os x in
        let pe = prints g (suc room) k os f.0 (omega arith) all in
        let pa = prints x (suc room) (k + length e.locals) os f.1 (omega arith) all in
        let both = joined_prints (suc room) e a pe pa in
        set_prints (suc room) k (typed whole t) (joined e a) (calling (callee whole g) (call_operands whole g e.value a.value)) (type_prints whole.numbered t) both.locals both.code
        (λ to. call_prints (suc room) (callee whole g) (call_operands whole g e.value a.value) to (callee_named g) (operands_called g e.value a.value pe.value pa.value))
    prints_shape t (lets binder e b) room k os f d all =
        let x = low whole k os e in
        let px = prints e (suc room) k os f.0 (omega arith) all in
        joined_prints (suc room) x _ px (prints b (suc room) (k + length x.locals) (os ++ x.value ∷ []) f.1 (omega arith) (pushed os x.value all px.value))
    prints_shape t (let_bang observers binder e b) room k os f d all =
        let x = low whole k os e in
        let px = prints e (suc room) k os f.0 (omega arith) all in
        joined_prints (suc room) x _ px (prints b (suc room) (k + length x.locals) (os ++ x.value ∷ []) f.1 (omega arith) (pushed os x.value all px.value))
    prints_shape t (if_else c x y) room k os f d all =
        let e = low whole k os c in
        let a = low whole (suc (k + length e.locals)) os x in
        if_prints room k (typed whole t) e a _ (type_prints whole.numbered t) (prints c (suc room) k os f.0 (omega arith) all)
        (prints x room (suc (k + length e.locals)) os f.1 (omega arith) all) (prints y room (suc (k + length e.locals) + length a.locals) os f.2 (omega arith) all)
    prints_shape t (con x e) room k os f d all =
        let p = low whole k os e in
        let pp = prints e (suc room) k os f.0 (omega arith) all in
        set_prints (suc room) k (typed whole t) p (injecting (place_in x t) p.value) (type_prints whole.numbered t) pp.locals pp.code
        (λ to. inject_prints (suc room) (place_in x t) p.value to f.1 pp.value)
    prints_shape t (case_of s at' binder x y) room k os f d all =
        let e = low whole k os s in
        let i = place_in at'.name (type_at s) in
        let a = low whole (suc (suc (k + length e.locals))) (os ++ at (payload i) e.value ∷ []) x in
        let pe = prints s (suc room) k os f.0 (omega arith) all in
        case_prints room k (typed whole t) i e a _ (type_prints whole.numbered t) f.3 pe
        (prints x room (suc (suc (k + length e.locals))) (os ++ at (payload i) e.value ∷ []) f.1 (omega arith) (pushed os (at (payload i) e.value) all (at_fits (payload i) e.value pe.value)))
        (prints y room (suc (suc (k + length e.locals)) + length a.locals) (os ++ e.value ∷ []) f.2 (omega arith) (pushed os e.value all pe.value))
    prints_shape t (esac at' s) room k os f d all =
        let p = prints s (suc room) k os f (omega arith) all in
        record { value = at_fits (payload (place_in at'.name (type_at s))) (low whole k os s).value p.value; locals = p.locals; code = p.code }
    prints_shape t (struct fs) room k os f d all = struct_prints (suc room) k (typed whole t) (low_fields whole k os fs) (type_prints whole.numbered t) (prints_fields fs (suc room) k os f (omega arith) all)
    prints_shape t (member r at') room k os f d all =
        member_prints (suc room) k (sigil_of (type_at r)) (typed whole (type_at r)) (typed whole t) (position at'.name (type_at r)) (low whole k os r)
        (type_prints whole.numbered (type_at r)) (type_prints whole.numbered t) (prints r (suc room) k os f (omega arith) all)
    prints_shape t (take_field r at' rest binder b) room k os f d all =
        let e = low whole k os r in
        let i = position at'.name (type_at r) in
        let u = typed whole (type_at r) in
        let v = low_member k (sigil_of (type_at r)) u (typed whole (field_type (type_at r) i)) i e in
        let kept = remainder k (sigil_of (type_at r)) u e in
        let pe = prints r (suc room) k os f.0 (omega arith) all in
        let pv = member_prints (suc room) k (sigil_of (type_at r)) u (typed whole (field_type (type_at r) i)) i e (type_prints whole.numbered (type_at r)) (type_prints whole.numbered (field_type (type_at r) i)) pe in
        joined_prints (suc room) v _ pv
        (prints b (suc room) (k + length v.locals) (os ++ kept ∷ v.value ∷ []) f.1 (omega arith)
        (all_append FitsPlace os (kept ∷ v.value ∷ []) all (remainder_fits (suc room) k (sigil_of (type_at r)) u e (type_prints whole.numbered (type_at r)) pe, (pv.value, tt))))
    prints_shape t (put r at' x) room k os f d all =
        let e = low whole k os r in
        put_prints (suc room) k (sigil_of (type_at r)) (typed whole (type_at r)) (position at'.name (type_at r)) e _ (type_prints whole.numbered (type_at r))
        (prints r (suc room) k os f.0 (omega arith) all) (prints x (suc room) (k + length e.locals) os f.1 (omega arith) all)
    prints_shape t (cast e) room k os f d all = cast_prints (suc room) k (word_of t) (low whole k os e) (prints e (suc room) k os f (omega arith) all)
    prints_shape t (annot e a) room k os f d all = prints e (suc room) k os f (omega arith) all

    prints_fields : (fs : Named Note) (room k : ℕ) (os : List Place) → FieldsFit fs → depth_of_fields fs ≤ room → AllByRecursion FitsPlace os → PrintLows room (low_fields whole k os fs)
    prints_fields end room k os f d all = record { values = tt; locals = tt; code = tt }
    prints_fields (field name e fs) room k os f d all =
        let a = low whole k os e in
        let ls = low_fields whole (k + length a.locals) os fs in
        let pa = prints e room k os f.0 (omega arith) all in
        let ps = prints_fields fs room (k + length a.locals) os f.1 (omega arith) all in
        record {
          values = (pa.value, ps.values);
          locals = all_append IsPrintableType a.locals ls.locals pa.locals ps.locals;
          code = all_append (IsPrintableStmt room) a.code ls.code pa.code ps.code;
        }

-- ---- functions

-- locals can be declared
locals_print : (k : ℕ) (ts : List CTy) → AllByRecursion IsPrintableType ts → AllByRecursion IsPrintableDecl (locals_from k ts)
locals_print k [] h = tt
locals_print k (t ∷ ts) h = ((h.0, local_named k), locals_print (suc k) ts h.1)

-- how many statements may be open inside a statement of a body
abbrev most : ℕ
most = 4095

-- what a body returns
return_prints : (room : ℕ) (v : Place) → FitsPlace v → IsPrintableStmt room (return' (operand v))
unfolding IsPrintableStmt
return_prints room v h = operand_prints v h

-- a body, of a lowered term that can be printed
body_prints : (a : Low) → PrintsLow most a → IsPrintableBody (Some (body_of a))
body_prints a p = (
  locals_print 0 a.locals p.locals,
  block_prints most (a.code ++ return' (operand a.value) ∷ []) (all_append (IsPrintableStmt most) a.code _ p.code (return_prints most a.value p.value, tt)),
)

-- ---- the functions of arrow types

-- the places of instances fit
tags_fit : (i : ℕ) (t : Tau) (es : List Entry) → i + length es ≤ 2 ^ 64 → AllByRecursion (λ k. k < 2 ^ 64) (tags_from i t es)
tags_fit i t [] h = tt
tags_fit i t (e ∷ es) h = by_test (same_type e.ty t) (tags_fit (suc i) t es (omega arith))
  where
    by_test : (b : Bool) → AllByRecursion (λ k. k < 2 ^ 64) (tags_from (suc i) t es) → AllByRecursion (λ k. k < 2 ^ 64) (cond b (i ∷ tags_from (suc i) t es) (tags_from (suc i) t es))
    by_test true rest = (omega arith, rest)
    by_test false rest = rest

-- the argument of such a function
second_prints : IsPrintablePath second_path
second_prints = (argument_named 1, tt)

-- a case for each
cases_print : (ks : List ℕ) → AllByRecursion (λ k. k < 2 ^ 64) ks → ArePrintableCases most (dispatch_cases ks)
unfolding ArePrintableCases
cases_print [] h = tt
cases_print (k ∷ ks) h = (
  h.0,
  block_prints 4094 (assign (path (local 0) []) (Call (function_name k) (Path second_path ∷ [])) ∷ return' (operand (held (local 0) [])) ∷ []) (
    assign_prints 4094 (path (local 0) []) (Call (function_name k) (Path second_path ∷ [])) (path_prints (local 0) []) (function_named k, (second_prints, tt)),
    (return_prints 4094 (held (local 0) []) tt, tt),
  ),
  cases_print ks h.1,
)

-- a body has a switch with a case at least, or no statement
dispatch_body_prints : (whole : Whole) (t : Tau) (ks : List ℕ) → AllByRecursion (λ k. k < 2 ^ 64) ks → IsPrintableBody (Some (dispatch_body (typed whole (given_by t)) ks))
unfolding IsPrintableStmt IsPrintableBlock
dispatch_body_prints whole t [] h = (tt, tt)
dispatch_body_prints whole t (k ∷ ks) h = (
  ((type_prints whole.numbered (given_by t), local_named 0), tt),
  block_prints most (switch (Path (path argument [])) (dispatch_cases (k ∷ ks)) ∷ []) ((path_prints argument [], cases_print (k ∷ ks) h), tt),
)

-- the function of an arrow type
dispatch_prints : (whole : Whole) (entries : List Entry) (j : ℕ) (t : Tau) → length entries ≤ 2 ^ 64 → IsPrintableFunction (dispatch_of whole entries j t)
dispatch_prints whole entries j t few = (
  type_prints whole.numbered (given_by t),
  dispatch_named j,
  ((tt, argument_named 0), ((type_prints whole.numbered (taken_by t), argument_named 1), tt)),
  dispatch_body_prints whole t (tags_from 0 t entries) (tags_fit 0 t entries (omega (arith, few))),
)

module _ (p : Program) (whole : Whole) (ss : List CStruct) (links : List Link) (order : List Item) (is : IsProgramOf p whole ss links order) (shallow : AreShallow p.entries) where
  -- there are few instances
  few : length whole.list ≤ 2 ^ 32
  few = let e = ap length is.same_list in let h = is.few in omega (arith, e, h)

  -- what stands for an instance without a body
  outside_prints : (f : Fun) (x : Instance) → IsPrintableBody (option_map body_of (low_outside whole f x))
  outside_prints (User i) x = tt
  outside_prints (OfLib lib) x = by_test (is_iterator lib)
    where
      by_test : (b : Bool) → IsPrintableBody (option_map body_of (cond b (Some (low_iterator whole lib x.types)) (Some (low_library whole lib x.types))))
      by_test true = body_prints (low_iterator whole lib x.types) (iterator_prints whole 4092 lib x.types)
      by_test false = body_prints (low_library whole lib x.types) (library_prints whole 4094 lib x.types)

  -- the body of the instance at a place
  instance_prints : (k : ℕ) (x : Instance) (e : Entry) → slice_get p.list k ≡ Some x → slice_get p.entries k ≡ Some e → IsPrintableBody (option_map body_of (low_instance whole x e.body))
  instance_prints k x e hx he = by_body e.body refl
    where
      entry : IsEntry p.functions p.list x e
      entry = is.instances.each k x e hx he

      core_prints : (core : Tree Note) → e.body ≡ Some core → IsDerivedBody p.functions entry.argument entry.result core → IsPrintableBody (Some (body_of (low_body whole core)))
      core_prints core eb d =
          body_prints (low_body whole core)
          (prints whole few core most 0 (whole_argument ∷ [])
          (fits whole.numbered ss p.functions [] _ d.tree _ core d.derives ((is.ready k x e hx he).nodes core eb))
          (let h = shallow k e core he eb in omega (arith, h)) (tt, tt))

      by_body : (o : Option (Tree Note)) → e.body ≡ o → IsPrintableBody (option_map body_of (low_instance whole x o))
      by_body None eb = outside_prints x.fun x
      by_body (Some core) eb = core_prints core eb (subst (IsDerivedMaybe p.functions entry.argument entry.result) eb entry.derived)

  -- the function of the instance at a place
  function_prints : (k : ℕ) (x : Instance) (e : Entry) → slice_get p.list k ≡ Some x → slice_get p.entries k ≡ Some e → IsPrintableFunction (function_of whole k x e)
  function_prints k x e hx he = (
    type_prints whole.numbered (given_by e.ty),
    function_named k,
    ((type_prints whole.numbered (taken_by e.ty), argument_named 0), tt),
    instance_prints k x e hx he,
  )

  -- the functions of some items
  functions_print : (items : List Item) → AllByRecursion IsPrintableFunction (functions_at (function_of_item whole p.entries) items)
  functions_print [] = tt
  functions_print (of_instance k ∷ items) = by_place (slice_get whole.list k) (slice_get p.entries k) (ap (λ l. slice_get l k) (sym is.same_list)) refl (functions_print items)
    where
      by_place : (x : Option Instance) (e : Option Entry) → slice_get p.list k ≡ x → slice_get p.entries k ≡ e → AllByRecursion IsPrintableFunction (functions_at (function_of_item whole p.entries) items)
          → AllByRecursion IsPrintableFunction (with_function (function_maybe whole k x e) (functions_at (function_of_item whole p.entries) items))
      by_place None e hx he rest = rest
      by_place (Some x) None hx he rest = rest
      by_place (Some x) (Some e) hx he rest = (function_prints k x e hx he, rest)
  functions_print (of_arrow j ∷ items) = by_arrow (slice_get whole.arrows j) (functions_print items)
    where
      entries_few : length p.entries ≤ 2 ^ 64
      entries_few = omega (arith, is.instances.as_many, is.few)

      by_arrow : (t : Option Tau) → AllByRecursion IsPrintableFunction (functions_at (function_of_item whole p.entries) items)
          → AllByRecursion IsPrintableFunction (with_function (option_map (dispatch_of whole p.entries j) t) (functions_at (function_of_item whole p.entries) items))
      by_arrow None rest = rest
      by_arrow (Some t) rest = (dispatch_prints whole p.entries j t entries_few, rest)

pub lowering_is_printable : LoweringIsPrintable
lowering_is_printable p whole ss links order is structs shallow = (structs, functions_print p whole ss links order is shallow order)
