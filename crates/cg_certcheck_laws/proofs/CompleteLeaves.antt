-- Where nodes spell a derivation of the core of plain typing, and no type passes the limit, no event fails: what that says of a term,
-- and the leaves.
use Rattle.std.proofs.Common.{◌≡◌, ℕ, suc, ◌<◌, Bool, Option, Some, None, List, [], ◌++◌, length, drop, refl, sym, ap, subst, arith}
use Rattle.cg_base.specs.declared.fun.Fun.{Fun}
use Rattle.cg_base.specs.declared.kind.Kinds.{Kinds}
use Rattle.cg_base.specs.declared.place.Place.{Place}
use Rattle.cg_base.specs.Types as types
use Rattle.cg_base.specs.Types.{Tau}
use Rattle.cg_cert.specs.Certificates.{nodes_of}
use Rattle.cg_cert.specs.declared.cert.CertNode.{CertNode}
use Rattle.cg_core.specs.declared.derivation.Node.TheVariants as nodes
use Rattle.cg_core.specs.Derivations.{Derivation, done}
use Rattle.cg_core.specs.Kernels.{Function}
use Rattle.cg_core.specs.Terms.{Tree, term, Shape, var, unit, bool, lit, fun, Arg}
use Rattle.cg_faults.specs.Events as faults
use Rattle.cg_faults.specs.Events.{Before}
use Rattle.cg_faults.specs.Plain.{plain_at, plain_in, mentioned}
use Rattle.cg_kinds.specs.Kinds.{or_unit}
use Rattle.cg_check_def.specs.NormalForm.{core}
use Rattle.cg_certcheck_def.specs.Events.{events, events_shape, size, size_below, meets}
use Rattle.cg_certcheck_def.specs.Tests.{is_present, drops_all, drops_but}
use Rattle.cg_typing.specs.Contexts.{Context, look}
use Rattle.cg_typing.specs.Functions.{asked_by, are_good_arguments}
use Rattle.cg_typing.specs.Parts.{in_range}
use Rattle.cg_typing.specs.Rules.{Derives}
use Rattle.cg_check_laws.proofs.Basics.{look_within}
use Rattle.cg_check_laws.proofs.Clean.{Of, Within}
use Rattle.cg_certcheck_laws.proofs.Limits.{LimitsFor}
use Rattle.cg_certcheck_laws.proofs.MarkTests.{three_and, are_drops, are_others}
use Rattle.cg_certcheck_laws.proofs.Nodes.{given_node}
use Rattle.cg_certcheck_laws.proofs.Rows.{HoldFor, is_met}
use Rattle.cg_check_laws.proofs.SameTypes.{and_refl as both_and}
use Rattle.cg_check_laws.proofs.CompleteParts.{in_range_ok as ranged_ok}

module _ (functions : List Function) (vars : List Kinds) (limited : Bool) where
  -- no event of a term fails, and behind its nodes these are left
  pub record Fine (g : Context) (p : List Tau) (dir : Option Tau) (ns : List CertNode) (n : ℕ) (e : Tree Place) (rest : List CertNode) : Type 0 where
    pub holds : HoldFor limited (events functions vars g p dir ns n e)
    pub left : drop (size e) ns ≡ rest

  abbrev pub Complete : Tree Place → Type 0
  Complete e = (g : Context) (p : List Tau) (dir : Option Tau) (ns : List CertNode) (n : ℕ) (d : Derivation) (rest : List CertNode) (b : Before) → Within g p → ns ≡ nodes_of d ++ rest
      → Derives functions vars g d dir (core functions p dir e) → LimitsFor limited (faults.events functions vars p b dir e) → Fine g p dir ns n e rest

  -- the same by the events of its form, without the limit on its own type
  pub record FineShape (g : Context) (p : List Tau) (dir : Option Tau) (n : ℕ) (s : Shape Place) (rest ns : List CertNode) : Type 0 where
    pub holds : HoldFor limited (events_shape functions vars g p dir ns n s)
    pub left : drop (suc (size_below s)) ns ≡ rest

  abbrev pub CompleteShape : Place → Shape Place → Type 0
  CompleteShape a s = (g : Context) (p : List Tau) (dir : Option Tau) (ns : List CertNode) (n : ℕ) (d : Derivation) (rest : List CertNode) (b : Before) → Within g p → ns ≡ nodes_of d ++ rest
      → Derives functions vars g d dir (core functions p dir (term a s)) → LimitsFor limited (faults.events_shape functions vars p b dir a s) → FineShape g p dir n s rest ns

  pub complete_var : (a : Place) (i : ℕ) → CompleteShape a (var i)
  complete_var a i g p dir ns n d rest b w q h l =
      let lg = w.long in
      let lt : i < length p = (let z = look_within g i _ h.present in omega arith) in
      let t : plain_in functions p dir (term a (var i)) ≡ plain_at p i = subst (λ o. Of o (plain_at p i)) h.present (w.at i lt) in
      subst (FineShape g p dir n (var i) rest) (sym (given_node d nodes.Var [] done ns rest q h.tree)) (record {
        holds = (
          refl,
          (
            refl,
            (
              three_and (is_present (look g i)) (drops_but vars i g) (meets dir (plain_at p i)) (ap is_present h.present) (are_others vars i g h.others)
                  (is_met functions p dir (term a (var i)) (plain_at p i) t),
              tt,
            ),
          ),
        );
        left = refl;
      })

  pub complete_unit : (a : Place) → CompleteShape a unit
  complete_unit a g p dir ns n d rest b w q h l =
      subst (FineShape g p dir n unit rest) (sym (given_node d nodes.Unit [] done ns rest q h.tree)) (record {
        holds = (refl, (refl, (both_and (drops_all vars g) (meets dir types.unit) (are_drops vars g h.others) (is_met functions p dir (term a unit) types.unit h.is), tt)));
        left = refl;
      })

  pub complete_bool : (a : Place) (v : Bool) → CompleteShape a (bool v)
  complete_bool a v g p dir ns n d rest b w q h l =
      subst (FineShape g p dir n (bool v) rest) (sym (given_node d nodes.Bool [] done ns rest q h.tree)) (record {
        holds = (refl, (refl, (both_and (drops_all vars g) (meets dir types.bool) (are_drops vars g h.others) (is_met functions p dir (term a (bool v)) types.bool h.is), tt)));
        left = refl;
      })

  pub complete_lit : (a : Place) (v : Option ℕ) → CompleteShape a (lit v)
  complete_lit a v g p None ns n d rest b w q h l = absurd (let z = h.checked in cc)
  complete_lit a v g p (Some u) ns n d rest b w q h l =
      subst (FineShape g p (Some u) n (lit v) rest) (sym (given_node d nodes.Lit [] done ns rest q h.tree)) (record {
        holds = (refl, (refl, (both_and (drops_all vars g) (in_range v u) (are_drops vars g h.others) (ranged_ok v u h.in_range), tt)));
        left = refl;
      })

  pub complete_fun : (a : Place) (f : Fun) (args : List Arg) → CompleteShape a (fun f args)
  complete_fun a f args g p dir ns n d rest b w q h l =
      subst (FineShape g p dir n (fun f args) rest) (sym (given_node d nodes.Fun [] done ns rest q h.tree)) (record {
        holds = (
          refl,
          (
            refl,
            (
              three_and (drops_all vars g) (are_good_arguments vars (asked_by functions f) args) (meets dir (mentioned functions f args)) (are_drops vars g h.others) h.arguments
                  (is_met functions p dir (term a (fun f args)) (mentioned functions f args) (sym (ap or_unit h.is))),
              tt,
            ),
          ),
        );
        left = refl;
      })
