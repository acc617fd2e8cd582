-- Calls give over the copies what they give over the source, and that fits, where evaluation of bodies does.
use Rattle.std.proofs.Common.{◌≡◌, ℕ, ◌&&◌, cond, IsTrue, Option, Some, None, List, [], ◌∷◌, length, map, refl, sym, ap, ◌∙◌, subst as at}
use Rattle.std.proofs.lemmas.Bool.{and_from, and_parts}
use Rattle.std.proofs.lemmas.Option.{slice_get-map}
use Rattle.std.specs.List.{list_all}
use Rattle.std.specs.Option.{option_map}
use Rattle.std.specs.Prelude.{if◌then◌else◌, slice_get}
use Rattle.cg_base.specs.declared.fun.Fun.{Fun}
use Rattle.cg_base.specs.declared.fun.Fun.TheVariants.{User, Lib as OfLib}
use Rattle.cg_base.specs.declared.fun.Lib.{Lib}
use Rattle.cg_base.specs.declared.kind.Kinds.{Kinds}
use Rattle.cg_base.specs.Types.{Tau, arrow}
use Rattle.cg_core.specs.Derivations.{Derivation}
use Rattle.cg_core.specs.Kernels.{Function, Body as Written}
use Rattle.cg_core.specs.Terms.{Note, Tree}
use Rattle.cg_eval_def.specs.Evaluation.{Outcome, stuck, gives, pay_for, Table, Run, apply_fun, call, enter, iterated, only}
use Rattle.cg_eval_def.specs.Foreigns.{cost_at, is_empty, is_instance, is_taken, table_over, value_at}
use Rattle.cg_eval_operations.specs.Iterators.{asked, indices, is_iterator}
use Rattle.cg_inst.specs.Lists.{Cores}
use Rattle.cg_inst_laws.specs.Laws.{entry_of, place_in}
use Rattle.cg_kinds.specs.Kinds.{subst}
use Rattle.cg_lib_value.specs.Library.{library_cost, library_value}
use Rattle.cg_typing.specs.Accepted.{kinds_of_vars}
use Rattle.cg_typing.specs.Functions.{are_good_arguments, asked_by_user, fun_type}
use Rattle.cg_typing.specs.Instances.{Instance, IsGood, as_arguments, is_closed, nodes_of}
use Rattle.cg_typing.specs.Kept.{IsKeptMaybe}
use Rattle.cg_typing.specs.Library.{library_type}
use Rattle.cg_typing.specs.Parts.{given_by, taken_by}
use Rattle.cg_typing.specs.Subst.{subst_core}
use Rattle.cg_typing.proofs.Lists.{types_back}
use Rattle.cg_typing_laws.specs.Laws.{AreInstance}
use Rattle.cg_typing_laws.proofs.Instances.{checked_arguments}
use Rattle.cg_value.specs.Fits.{World, fits}
use Rattle.cg_value.specs.Foreign.{Foreign, IsLawful, first_order, is_plain_type}
use Rattle.cg_value.specs.Forms.{field}
use Rattle.cg_value.specs.Values.{Val, function}
use Rattle.cg_mono_laws.specs.Laws.{body_in, copies_table, is_listed, world_over}
use Rattle.cg_base.proofs.Counts.{no_steps as never}
use Rattle.cg_eval_laws.proofs.Calls.{AreTyped, arrows_from, arrows_to, some_is, subst_arrow, value_arrow}
use Rattle.cg_eval_laws.proofs.Checked.{has_checked_type}
use Rattle.cg_eval_laws.proofs.FirstOrder.{plain_fits, plain_stays}
use Rattle.cg_eval_laws.proofs.FitContexts.{only_fits}
use Rattle.cg_eval_laws.proofs.FitLibrary.{library_fits}
use Rattle.cg_eval_laws.proofs.Iterators.{is_turn, iterators_iterate, no_turn}
use Rattle.cg_eval_laws.proofs.Mentions.{IsValueOf, value_made, value_parts}
use Rattle.cg_inst.proofs.Names.{by_cases}
use Rattle.cg_inst_laws.proofs.Bodies.{user_there}
use Rattle.cg_mono_laws.proofs.Heard.{AreHeard}
use Rattle.cg_mono_laws.proofs.Listed.{found_at_place}
use Rattle.cg_mono_laws.proofs.Nodes.{AlikeCalls, AlikeRuns, MentionsFit}
use Rattle.cg_mono_laws.proofs.Outcomes.{AreAlike, cost_alike, stuck_alike, turns_alike}

-- each instance of a list is one of its function, and all that its core mentions at its types is in the list
pub record AreFine (functions : List Function) (core : Cores) (list : List Instance) : Type 0 where
  pub good : (f : Fun) (types : List Tau) → IsTrue (is_listed list f types) → IsGood functions (record { fun = f; types = types })
  pub heard : (i : ℕ) (types : List Tau) (c : Tree Note) → IsTrue (is_listed list (User i) types) → core i ≡ Some c → AreHeard list (nodes_of (subst_core types c))

module _ (x : Foreign) (functions : List Function) (core : Cores) (list : List Instance) where
  abbrev pub W : World
  W = world_over x functions list

  -- calls over the source, and over the copies of the list
  abbrev pub T : Table
  T = table_over x functions core

  abbrev pub K : Table
  K = copies_table x functions list (map (entry_of functions core) list)

  abbrev F : Tau → Val → Type 0
  F t v = IsTrue (fits W t v)

  abbrev A : Tau → Outcome → Outcome → Type 0
  A t o p = AreAlike W t o p

  -- the body of an instance of the list is its function's with its types put in
  body_at : (i : ℕ) (types : List Tau) → IsTrue (is_listed list (User i) types)
      → body_in (slice_get (map (entry_of functions core) list) (place_in list (record { fun = User i; types = types }))) ≡ option_map (subst_core types) (core i)
  body_at i types h =
      ap body_in (slice_get-map (entry_of functions core) list (place_in list (record { fun = User i; types = types }))
      ∙ ap (option_map (entry_of functions core)) (found_at_place list (record { fun = User i; types = types }) h))

  -- ---- functions as values

  -- what fits an arrow is a function of this type, and in the list
  function_parts : (f : Fun) (types : List Tau) (a b : Tau) → F (arrow a b) (function f types) → IsValueOf functions f types (arrow a b)
  unfolding fits
  function_parts f types a b h = value_parts functions f types (arrow a b) (and_parts (is_instance functions f types (arrow a b)) _ h).0

  function_listed : (f : Fun) (types : List Tau) (a b : Tau) → F (arrow a b) (function f types) → IsTrue (is_listed list f types)
  unfolding fits
  function_listed f types a b h = (and_parts (is_instance functions f types (arrow a b)) _ h).1

  -- an instance of the list fits an arrow that is its type
  pub listed_fits : (f : Fun) (types : List Tau) (a b : Tau) → IsGood functions (record { fun = f; types = types }) → IsTrue (is_listed list f types)
      → fun_type functions f (as_arguments types) ≡ Some (arrow a b) → F (arrow a b) (function f types)
  unfolding fits
  listed_fits f types a b g h e =
      and_from (is_instance functions f types (arrow a b)) _ (value_made functions f types (arrow a b) (record { many = g.many; closed = g.closed; good = g.good; is = e })) h

  -- ---- a function without a body

  module _ (lawful : IsLawful x) where
    -- what a function that a table knows gives, on what it takes
    known_fits : (f : Function) (given : List Tau) (a b : Tau) (v : Val) → f.ty.ty ≡ arrow a b → IsTrue (is_taken x (Some f) v) → F (subst given b) (value_at x (Some f) v)
    known_fits f given a b v is t =
        let p = and_parts (is_empty f.vars && x.knows f.at.name f.ty.ty) _ t in
        let there : IsTrue (x.knows f.at.name (arrow a b)) = at (λ t. IsTrue (x.knows f.at.name t)) is (and_parts (is_empty f.vars) _ p.0).1 in
        let takes : IsTrue (fits (first_order x) a v) = at (λ t. IsTrue (fits (first_order x) (taken_by t) v)) is p.1 in
        let plain = (and_parts (is_plain_type x.owns a) _ (lawful.known_type f.at.name (arrow a b) there)).1 in
        at (λ t. F t (x.value f.at.name v)) (sym (plain_stays x.owns given b plain))
        (plain_fits x.owns W (first_order x) refl b (x.value f.at.name v) plain ∙ lawful.value_fits f.at.name a b v there takes)

    -- the table says the same on both sides
    abstract_alike : (f g : Run) (i : ℕ) (o : Function) (given : List Tau) (a b : Tau) (v : Val) (left : ℕ) → slice_get functions i ≡ Some o → o.ty.ty ≡ arrow a b
        → A (subst given b) (enter T f i v left None) (enter K g i v left None)
    abstract_alike f g i o given a b v left e is =
        by_cases (λ q. A (subst given b) (cond q (pay_for (cost_at x (slice_get functions i) v) left (λ rest. gives (value_at x (slice_get functions i) v) rest)) stuck)
        (cond q (pay_for (cost_at x (slice_get functions i) v) left (λ rest. gives (value_at x (slice_get functions i) v) rest)) stuck))
        (is_taken x (slice_get functions i) v)
        (λ q. cost_alike W (subst given b) (cost_at x (slice_get functions i) v) left (value_at x (slice_get functions i) v)
        (at (λ o. IsTrue (is_taken x o v) → F (subst given b) (value_at x o v)) (sym e) (known_fits o given a b v is) q))
        (λ q. stuck_alike W (subst given b))

  module _ (tree : ℕ → Option Derivation) (typed : AreTyped functions core tree) (fine : AreFine functions core list) where
    -- ---- what a body mentions fits

    pub mentions_fit : MentionsFit functions list W
    mentions_fit f types t h e =
        let a = value_arrow functions core tree typed f types t e in
        at (λ t. F t (function f types)) (sym a.is) (listed_fits f types a.from a.to (fine.good f types h) h (e ∙ ap Some a.is))

    -- ---- a function with a body

    module _ (lawful : IsLawful x) (f g : Run) (runs : AlikeRuns functions list W f g) where
      -- a function whose core is this, if there is one
      bodies_alike : (i : ℕ) (kinds : List Kinds) (given : List Tau) (a b : Tau) (v : Val) (left : ℕ) (body : Option Written) (c : Option (Tree Note)) (d : Option Derivation)
          → IsKeptMaybe functions kinds a b body c d → core i ≡ c → IsTrue (is_listed list (User i) given) → A (subst given b) (enter T f i v left None) (enter K g i v left None)
          → AreInstance [] given kinds → IsTrue (list_all is_closed given) → F (subst given a) v
          → A (subst given b) (enter T f i v left (option_map (λ c. record { term = c; types = given }) c))
          (enter K g i v left (option_map (λ c. record { term = c; types = [] }) (option_map (subst_core given) c)))
      bodies_alike i kinds given a b v left None None None k e l none are shut h = none
      bodies_alike i kinds given a b v left None None (Some d) k e l none are shut h = absurd k
      bodies_alike i kinds given a b v left None (Some c) d k e l none are shut h = absurd k
      bodies_alike i kinds given a b v left (Some body) None d k e l none are shut h = absurd k
      bodies_alike i kinds given a b v left (Some body) (Some c) None k e l none are shut h = absurd k
      bodies_alike i kinds given a b v left (Some body) (Some c) (Some d) k e l none are shut h =
          at (λ t. A (subst given t) (f c (only given v) left) (g (subst_core given c) (only [] v) left)) (sym (has_checked_type functions kinds c (Some a ∷ []) d b k.derives))
          (runs kinds given are shut (Some a ∷ []) (v ∷ []) (only_fits W given a v h) d (Some b) c k.derives (fine.heard i given c l e) left)

      -- the function of a value that fits an arrow
      function_alike : (i : ℕ) (types : List Tau) (a b : Tau) (v : Val) (left : ℕ) (o : Function) → slice_get functions i ≡ Some o → IsValueOf functions (User i) types (arrow a b)
          → IsTrue (is_listed list (User i) types) → F a v → A b (enter T f i v left (T.body i types)) (enter K g i v left (K.body i types))
      function_alike i types a b v left o e p l h =
          let k = typed.kept i o e in
          let whole : arrow (subst types k.argument) (subst types k.result) ≡ arrow a b =
          sym (subst_arrow types k.argument k.result) ∙ ap (subst types) (sym k.is_arrow) ∙ ap (λ ts. subst ts o.ty.ty) (sym (types_back types))
          ∙ some_is _ (arrow a b) (sym (ap (option_map (λ (g : Function). subst (map (λ a. a.ty) (as_arguments types)) g.ty.ty)) e) ∙ p.is) in
          let here : F (subst types k.argument) v = at (λ t. F t v) (sym (arrows_from _ _ _ _ whole)) h in
          at (λ t. A t (enter T f i v left (T.body i types)) (enter K g i v left (K.body i types))) (arrows_to _ _ _ _ whole)
          (at (λ c. A (subst types k.result) (enter T f i v left (T.body i types)) (enter K g i v left (option_map (λ c. record { term = c; types = [] }) c))) (sym (body_at i types l))
          (bodies_alike i (kinds_of_vars o) types k.argument k.result v left o.body (core i) (tree i) k.kept refl l
          (abstract_alike lawful f g i o types k.argument k.result v left e k.is_arrow)
          (at (λ ts. AreInstance [] ts (kinds_of_vars o)) (types_back types)
          (checked_arguments [] o (as_arguments types) (at (λ o. IsTrue (are_good_arguments [] (asked_by_user o) (as_arguments types))) e p.good))) p.closed here))

      user_alike : (i : ℕ) (types : List Tau) (a b : Tau) (v : Val) (left : ℕ) → F (arrow a b) (function (User i) types) → F a v
          → A b (enter T f i v left (T.body i types)) (enter K g i v left (K.body i types))
      user_alike i types a b v left h q =
          let p = function_parts (User i) types a b h in let u = user_there functions i (length types) p.many in
          function_alike i types a b v left u.function u.there p (function_listed (User i) types a b h) q

      -- ---- a function of the library

      library_is : (lib : Lib) (types : List Tau) (a b : Tau) → fun_type functions (OfLib lib) (as_arguments types) ≡ Some (arrow a b) → library_type lib types ≡ arrow a b
      library_is lib types a b h = ap (library_type lib) (sym (types_back types)) ∙ some_is _ (arrow a b) h

      -- what an iterator calls
      turn_alike : (a b : Tau) (y v : Val) (left : ℕ) → IsTrue (is_turn (arrow a b)) → F (arrow a b) y → F a v → A b (call T f y v left) (call K g y v left)
      unfolding fits
      turn_alike a b (function (User i) types) v left t h q = user_alike i types a b v left h q
      turn_alike a b (function (OfLib lib) types) v left t h q =
          let p = function_parts (OfLib lib) types a b h in never (sym (no_turn lib types) ∙ ap is_turn (library_is lib types a b p.is) ∙ t)
      turn_alike a b _ v left t h q = never h

      -- the turns of an iterator, whose function stands in its argument
      iterated_alike : (lib : Lib) (types : List Tau) (a b : Tau) (v : Val) (left : ℕ) → IsTrue (is_iterator lib) → IsValueOf functions (OfLib lib) types (arrow a b)
          → F (taken_by (library_type lib types)) v → A (given_by (library_type lib types)) (iterated T f lib v left) (iterated K g lib v left)
      iterated_alike lib types a b v left i p h =
          let k = iterators_iterate W lib types v i p.many p.good h in
          turns_alike W _ _ lib (field v 5) k.limit k.over k.takes k.result k.carry (given_by (library_type lib types)) k.keeps
          (λ i a s rest fit. turn_alike k.takes k.result (field v 3) (asked lib (field v 5) i a s) rest k.asks k.function fit) (indices lib v) k.below (field v 0) (field v 4) left k.begins k.handed

      -- it has no body on either side
      library_alike : (lib : Lib) (types : List Tau) (a b : Tau) (v : Val) (left : ℕ) → F (arrow a b) (function (OfLib lib) types) → F a v
          → A b (apply_fun T f (OfLib lib) types v left) (apply_fun K g (OfLib lib) types v left)
      library_alike lib types a b v left h q =
          let p = function_parts (OfLib lib) types a b h in let e = library_is lib types a b p.is in
          let takes : F (taken_by (library_type lib types)) v = at (λ t. F (taken_by t) v) (sym e) q in
          at (λ t. A (given_by t) (apply_fun T f (OfLib lib) types v left) (apply_fun K g (OfLib lib) types v left)) e
          (by_cases (λ c. A (given_by (library_type lib types))
          (if c then iterated T f lib v left else pay_for (library_cost lib v) left (λ rest. gives (library_value lib types v) rest))
          (if c then iterated K g lib v left else pay_for (library_cost lib v) left (λ rest. gives (library_value lib types v) rest)))
          (is_iterator lib)
          (λ c. iterated_alike lib types a b v left c p takes)
          (λ c. cost_alike W (given_by (library_type lib types)) (library_cost lib v) left (library_value lib types v) (library_fits W lib types v c p.many p.good takes)))

      -- any call of what fits an arrow
      pub calls_alike : AlikeCalls functions list W T K f g
      unfolding fits
      calls_alike a b (function (User i) types) v left h q = user_alike i types a b v left h q
      calls_alike a b (function (OfLib lib) types) v left h q = library_alike lib types a b v left h q
      calls_alike a b _ v left h q = never h
