-- Calls are sound over evaluation of bodies that is: of a function of a source by its body or by the table, and of the library.
use Rattle.std.proofs.Common.{◌≡◌, ℕ, Bool, cond, IsTrue, Option, Some, None, List, [], ◌∷◌, length, refl, sym, ap, ◌∙◌, subst as at}
use Rattle.std.proofs.lemmas.Bool.{and_parts, and_from}
use Rattle.std.specs.List.{list_all}
use Rattle.std.specs.Option.{option_map}
use Rattle.std.specs.Prelude.{slice_get, if◌then◌else◌}
use Rattle.cg_base.specs.declared.fun.Fun.{Fun}
use Rattle.cg_base.specs.declared.fun.Fun.TheVariants.{User, Lib as OfLib}
use Rattle.cg_base.specs.declared.fun.Lib.{Lib}
use Rattle.cg_base.specs.declared.fun.Lib.TheVariants.{New, Free, Create, FreeArray, Length, Get, Put, Map, Fold, Seq32, Seq64, Seq32Break}
use Rattle.cg_base.specs.declared.kind.Kinds.{Kinds}
use Rattle.cg_base.specs.Types.{Tau, arrow}
use Rattle.cg_core.specs.Derivations.{Derivation}
use Rattle.cg_core.specs.Kernels.{Function, Body as Written}
use Rattle.cg_core.specs.Terms.{Note, Tree}
use Rattle.cg_eval_def.specs.Evaluation.{stuck, gives, pay_for, Table, Run, apply, call, enter, iterated, only}
use Rattle.cg_eval_operations.specs.Iterators.{is_iterator}
use Rattle.cg_eval_def.specs.Foreigns.{IsClosed, cost_at, is_among, is_empty, is_instance, is_known, is_taken, table_over, value_at, world_of}
use Rattle.cg_typing.specs.Instances.{as_arguments, is_closed}
use Rattle.cg_kinds.specs.Kinds.{subst}
use Rattle.cg_core_def.specs.Lawful.{IsLawfulBody, IsLawfulFunction, IsLawfulTerm, body_mentions, term_mentions}
use Rattle.cg_lib_value.specs.Library.{library_cost, library_value}
use Rattle.cg_typing.specs.Accepted.{kinds_of_vars}
use Rattle.cg_typing.specs.Functions.{are_good_arguments, arg_types, asked_by_user, fun_type, has_vars}
use Rattle.cg_typing.specs.Kept.{IsKept, IsKeptMaybe}
use Rattle.cg_typing.specs.Library.{library_type}
use Rattle.cg_typing.specs.Parts.{given_by, taken_by}
use Rattle.cg_value.specs.Fits.{World, fits}
use Rattle.cg_value.specs.Foreign.{Foreign, IsLawful, first_order, is_plain_type}
use Rattle.cg_value.specs.Values.{Val, function}
use Rattle.cg_typing_laws.specs.Laws.{AreInstance}
use Rattle.cg_typing_laws.proofs.Instances.{checked_arguments}
use Rattle.cg_eval_laws.specs.Laws.{IsSound}
use Rattle.cg_eval_laws.proofs.Checked.{has_checked_type}
use Rattle.cg_eval_laws.proofs.FirstOrder.{plain_fits, plain_stays}
use Rattle.cg_eval_laws.proofs.FitContexts.{only_fits}
use Rattle.cg_eval_laws.proofs.FitLibrary.{library_fits}
use Rattle.cg_eval_laws.proofs.Iterators.{is_turn, iterators_sound, no_turn}
use Rattle.cg_eval_laws.proofs.Mentions.{IsValueOf, value_made, value_parts}
use Rattle.cg_inst.proofs.Names.{by_cases}
use Rattle.cg_eval_laws.proofs.Nodes.{CallsSound, MentionsFit, SoundRun}
use Rattle.cg_eval_laws.proofs.Outcomes.{cost_sound}
use Rattle.cg_eval_laws.proofs.Reached.{arities, reached}
use Rattle.cg_base.proofs.Counts.{no_steps as never}
use Rattle.cg_typing.proofs.Lists.{types_back}

-- each function is lawful, its type is an arrow, and where it has a body there is a core of it with a derivation
pub record AreTyped (functions : List Function) (core : ℕ → Option (Tree Note)) (tree : ℕ → Option Derivation) : Type 0 where
  pub kept : (i : ℕ) (f : Function) → slice_get functions i ≡ Some f → IsKept functions f (core i) (tree i)
  pub lawful : (i : ℕ) (f : Function) → slice_get functions i ≡ Some f → IsLawfulFunction (arities functions) f

-- a type is an arrow
pub record IsArrow (t : Tau) : Type 0 where
  pub from : Tau
  pub to : Tau
  pub is : t ≡ arrow from to

library_arrow : (lib : Lib) (types : List Tau) → library_type lib types ≡ arrow (taken_by (library_type lib types)) (given_by (library_type lib types))
library_arrow New types = refl
library_arrow Free types = refl
library_arrow Create types = refl
library_arrow FreeArray types = refl
library_arrow Length types = refl
library_arrow Get types = refl
library_arrow Put types = refl
library_arrow Map types = refl
library_arrow Fold types = refl
library_arrow Seq32 types = refl
library_arrow Seq64 types = refl
library_arrow Seq32Break types = refl

pub some_is : (t u : Tau) → Some t ≡ Some u → t ≡ u
some_is t u e = cc

pub arrows_from : (a b c d : Tau) → arrow a b ≡ arrow c d → a ≡ c
arrows_from a b c d e = ap taken_by e

pub arrows_to : (a b c d : Tau) → arrow a b ≡ arrow c d → b ≡ d
arrows_to a b c d e = ap given_by e

pub subst_arrow : (given : List Tau) (a b : Tau) → subst given (arrow a b) ≡ arrow (subst given a) (subst given b)
unfolding subst
subst_arrow given a b = refl

-- the type of a function that is typed is an arrow
module _ (functions : List Function) (core : ℕ → Option (Tree Note)) (tree : ℕ → Option Derivation) (typed : AreTyped functions core tree) where
  user_arrow : (ts : List Tau) (t : Tau) (i : ℕ) (o : Option Function) → slice_get functions i ≡ o → option_map (λ (g : Function). subst ts g.ty.ty) o ≡ Some t → IsArrow t
  user_arrow ts t i None e h = absurd (cc)
  user_arrow ts t i (Some f) e h =
      let k = typed.kept i f e in record {
        from = subst ts k.argument;
        to = subst ts k.result;
        is = sym (some_is (subst ts f.ty.ty) t h) ∙ ap (subst ts) k.is_arrow ∙ subst_arrow ts k.argument k.result;
      }

  pub value_arrow : (f : Fun) (types : List Tau) (t : Tau) → fun_type functions f (as_arguments types) ≡ Some t → IsArrow t
  value_arrow (User i) types t h = user_arrow (arg_types (as_arguments types)) t i (slice_get functions i) refl h
  value_arrow (OfLib lib) types t h = record {
    from = taken_by (library_type lib (arg_types (as_arguments types)));
    to = given_by (library_type lib (arg_types (as_arguments types)));
    is = sym (some_is _ t h) ∙ library_arrow lib (arg_types (as_arguments types));
  }

module _ (x : Foreign) (functions : List Function) (among : ℕ → Bool) (core : ℕ → Option (Tree Note)) (tree : ℕ → Option Derivation) (typed : AreTyped functions core tree) where
  abbrev W : World
  W = world_of x functions among

  abbrev T : Table
  T = table_over x functions core

  abbrev F : Tau → Val → Type 0
  F t v = IsTrue (fits W t v)

  -- ---- functions as values

  -- a function at type arguments fits its type
  pub mentions_fit : MentionsFit functions among W
  unfolding fits
  mentions_fit f types t v m =
      let a = value_arrow functions core tree typed f types t v.is in
      at (λ t. F t (function f types)) (sym a.is)
      (and_from (is_instance functions f types (arrow a.from a.to)) _ (at (λ t. IsTrue (is_instance functions f types t)) a.is (value_made functions f types t v)) m)

  -- and what fits an arrow is such a function
  function_parts : (f : Fun) (types : List Tau) (a b : Tau) → F (arrow a b) (function f types) → IsValueOf functions f types (arrow a b)
  unfolding fits
  function_parts f types a b h = value_parts functions f types (arrow a b) (and_parts (is_instance functions f types (arrow a b)) _ h).0

  function_among : (f : Fun) (types : List Tau) (a b : Tau) → F (arrow a b) (function f types) → IsTrue (is_among among f)
  unfolding fits
  function_among f types a b h = (and_parts (is_instance functions f types (arrow a b)) _ h).1

  -- ---- a function without a body

  module _ (lawful : IsLawful x) (closed : IsClosed x functions among) (run : Run) where
    taken_over : (i : ℕ) (f : Function) (v : Val) (left : ℕ) (b : Tau) → slice_get functions i ≡ Some f → IsTrue (is_taken x (Some f) v) → F b (value_at x (Some f) v)
        → IsSound W b (enter T run i v left None)
    taken_over i f v left b e t h =
        at (λ o. IsSound W b (cond (is_taken x o v) (pay_for (cost_at x o v) left (λ rest. gives (value_at x o v) rest)) stuck)) (sym e)
        (at (λ c. IsSound W b (cond c (pay_for (cost_at x (Some f) v) left (λ rest. gives (value_at x (Some f) v) rest)) stuck)) (sym t) (cost_sound W b (cost_at x (Some f) v) left (value_at x (Some f) v) h))

    abstract_sound : (i : ℕ) (f : Function) (given : List Tau) (a b : Tau) (v : Val) (left : ℕ) → slice_get functions i ≡ Some f → f.ty.ty ≡ arrow a b → IsTrue (is_known x f)
        → F (subst given a) v → IsSound W (subst given b) (enter T run i v left None)
    abstract_sound i f given a b v left e is known h =
        let knows = (and_parts (is_empty f.vars) _ known).1 in
        let there : IsTrue (x.knows f.at.name (arrow a b)) = at (λ t. IsTrue (x.knows f.at.name t)) is knows in
        let plain = and_parts (is_plain_type x.owns a) _ (lawful.known_type f.at.name (arrow a b) there) in
        let takes : IsTrue (fits (first_order x) a v) =
        sym (plain_fits x.owns W (first_order x) refl a v plain.0) ∙ at (λ t. F t v) (plain_stays x.owns given a plain.0) h in
        let value : IsTrue (fits (first_order x) b (x.value f.at.name v)) = lawful.value_fits f.at.name a b v there takes in
        taken_over i f v left (subst given b) e
        (and_from (is_known x f) _ known (at (λ t. IsTrue (fits (first_order x) (taken_by t) v)) (sym is) takes))
        (at (λ t. F t (x.value f.at.name v)) (sym (plain_stays x.owns given b plain.1)) (plain_fits x.owns W (first_order x) refl b (x.value f.at.name v) plain.1 ∙ value))

    -- ---- a function with one

    module _ (sound : SoundRun functions among W run) where
      body_sound : (i : ℕ) (vars : ℕ) (kinds : List Kinds) (given : List Tau) (a b : Tau) (v : Val) (left : ℕ) (body : Option Written) (c : Option (Tree Note)) (d : Option Derivation)
          → IsKeptMaybe functions kinds a b body c d → IsLawfulBody (arities functions) vars body → IsTrue (list_all among (body_mentions body))
          → (body ≡ None → IsSound W (subst given b) (enter T run i v left None)) → AreInstance [] given kinds → IsTrue (list_all is_closed given) → F (subst given a) v
          → IsSound W (subst given b) (enter T run i v left (option_map (λ c. record { term = c; types = given }) c))
      body_sound i vars kinds given a b v left None None None k l m none fine shut f = none refl
      body_sound i vars kinds given a b v left None None (Some d) k l m none fine shut f = absurd k
      body_sound i vars kinds given a b v left None (Some c) d k l m none fine shut f = absurd k
      body_sound i vars kinds given a b v left (Some body) None d k l m none fine shut f = absurd k
      body_sound i vars kinds given a b v left (Some body) (Some c) None k l m none fine shut f = absurd k
      body_sound i vars kinds given a b v left (Some body) (Some c) (Some d) k l m none fine shut f =
          at (λ t. IsSound W (subst given t) (run c (only given v) left)) (sym (has_checked_type functions kinds c (Some a ∷ []) d b k.derives))
          (sound kinds given fine shut (Some a ∷ []) (v ∷ []) (only_fits W given a v f) d (Some b) c k.derives
          (reached functions among vars 1 c (at (IsLawfulTerm (arities functions) vars 1) (sym k.erases) l) (at (λ t. IsTrue (list_all among (term_mentions t))) (sym k.erases) m)) left)

      -- the function of a value that fits an arrow
      function_sound : (i : ℕ) (types : List Tau) (a b : Tau) (v : Val) (left : ℕ) (o : Option Function) → slice_get functions i ≡ o → IsTrue (has_vars o (length types))
          → option_map (λ (g : Function). subst (arg_types (as_arguments types)) g.ty.ty) o ≡ Some (arrow a b) → IsTrue (are_good_arguments [] (asked_by_user o) (as_arguments types))
          → IsTrue (list_all is_closed types) → IsTrue (among i) → F a v → IsSound W b (enter T run i v left (T.body i types))
      function_sound i types a b v left None e n h good shut m f = never n
      function_sound i types a b v left (Some g) e n h good shut m f =
          let k = typed.kept i g e in
          let whole : arrow (subst types k.argument) (subst types k.result) ≡ arrow a b =
          sym (subst_arrow types k.argument k.result) ∙ ap (subst types) (sym k.is_arrow) ∙ ap (λ ts. subst ts g.ty.ty) (sym (types_back types)) ∙ some_is _ (arrow a b) h in
          let from = arrows_from _ _ _ _ whole in let to = arrows_to _ _ _ _ whole in
          let here : F (subst types k.argument) v = at (λ t. F t v) (sym from) f in
          at (λ t. IsSound W t (enter T run i v left (T.body i types))) to
          (body_sound i (length g.vars) (kinds_of_vars g) types k.argument k.result v left g.body (core i) (tree i) k.kept (typed.lawful i g e).body (closed.mentions i g e m)
          (λ none. abstract_sound i g types k.argument k.result v left e k.is_arrow (closed.known i g e m none) here)
          (at (λ ts. AreInstance [] ts (kinds_of_vars g)) (types_back types) (checked_arguments [] g (as_arguments types) good)) shut here)

      user_sound : (i : ℕ) (types : List Tau) (a b : Tau) (v : Val) (left : ℕ) → F (arrow a b) (function (User i) types) → F a v → IsSound W b (enter T run i v left (T.body i types))
      user_sound i types a b v left h f =
          let p = function_parts (User i) types a b h in
          function_sound i types a b v left (slice_get functions i) refl p.many p.is p.good p.closed (function_among (User i) types a b h) f

      -- ---- a function of the library

      library_is : (lib : Lib) (types : List Tau) (a b : Tau) → fun_type functions (OfLib lib) (as_arguments types) ≡ Some (arrow a b) → library_type lib types ≡ arrow a b
      library_is lib types a b h = ap (library_type lib) (sym (types_back types)) ∙ some_is _ (arrow a b) h

      -- what an iterator calls
      turn_sound : (a b : Tau) (f v : Val) (left : ℕ) → IsTrue (is_turn (arrow a b)) → F (arrow a b) f → F a v → IsSound W b (call T run f v left)
      unfolding fits
      turn_sound a b (function (User i) types) v left t h f = user_sound i types a b v left h f
      turn_sound a b (function (OfLib lib) types) v left t h f =
          let p = function_parts (OfLib lib) types a b h in never (sym (no_turn lib types) ∙ ap is_turn (library_is lib types a b p.is) ∙ t)
      turn_sound a b _ v left t h f = never h

      library_sound : (lib : Lib) (types : List Tau) (a b : Tau) (v : Val) (left : ℕ) → F (arrow a b) (function (OfLib lib) types) → F a v → IsSound W b (apply T run (function (OfLib lib) types) v left)
      library_sound lib types a b v left h f =
          let p = function_parts (OfLib lib) types a b h in let e = library_is lib types a b p.is in
          let takes : F (taken_by (library_type lib types)) v = at (λ t. F (taken_by t) v) (sym e) f in
          at (λ t. IsSound W (given_by t) (apply T run (function (OfLib lib) types) v left)) e
          (by_cases (λ q. IsSound W (given_by (library_type lib types)) (if q then iterated T run lib v left else pay_for (library_cost lib v) left (λ rest. gives (library_value lib types v) rest)))
          (is_iterator lib)
          (λ q. iterators_sound W T run turn_sound lib types v left q p.many p.good takes)
          (λ q. cost_sound W (given_by (library_type lib types)) (library_cost lib v) left (library_value lib types v) (library_fits W lib types v q p.many p.good takes)))

      -- any call of what fits an arrow
      pub calls_sound : CallsSound functions among W T run
      unfolding fits
      calls_sound a b (function (User i) types) v left h f = user_sound i types a b v left h f
      calls_sound a b (function (OfLib lib) types) v left h f = library_sound lib types a b v left h f
      calls_sound a b _ v left h f = never h
