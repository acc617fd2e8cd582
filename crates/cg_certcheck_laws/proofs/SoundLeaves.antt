-- Where no event fails, the nodes at the head of those that are left spell a derivation of the core of plain typing, and no type passes
-- the limit: what that says of a term, and the leaves.
use Rattle.std.proofs.Common.{◌≡◌, ℕ, suc, Bool, true, Option, Some, None, List, [], ◌∷◌, ◌++◌, length, refl, sym, ap, ◌∙◌}
use Rattle.cg_base.specs.declared.fun.Fun.{Fun}
use Rattle.cg_base.specs.declared.kind.Kinds.{Kinds}
use Rattle.cg_base.specs.declared.place.Place.{Place}
use Rattle.cg_base.specs.Types as types
use Rattle.cg_base.specs.Types.{Tau, word}
use Rattle.cg_cert.specs.declared.cert.CertNode.{CertNode}
use Rattle.cg_core.specs.declared.derivation.Node.{Node}
use Rattle.cg_core.specs.declared.derivation.Node.TheVariants as nodes
use Rattle.cg_core.specs.Derivations.{Derivation, done}
use Rattle.cg_core.specs.Kernels.{Function}
use Rattle.cg_core.specs.Terms.{Tree, term, Shape, var, unit, bool, lit, fun, Arg}
use Rattle.cg_faults.specs.Events as faults
use Rattle.cg_faults.specs.Events.{Before, LimitsHold}
use Rattle.cg_faults.specs.Plain.{plain_at, mentioned}
use Rattle.cg_kinds.specs.Kinds.{is_word}
use Rattle.cg_check_def.specs.NormalForm.{core}
use Rattle.cg_certcheck_def.specs.Reads.{tree_at, tree_of}
use Rattle.cg_certcheck_def.specs.Events.{AllHold, leaf_reached, row, events, events_shape, size, size_below, no_strings}
use Rattle.cg_certcheck_def.specs.Tests.{is_present, drops_all, drops_but}
use Rattle.cg_typing.specs.Contexts.{Context, look}
use Rattle.cg_typing.specs.Functions.{asked_by, are_good_arguments}
use Rattle.cg_typing.specs.Parts.{in_range}
use Rattle.cg_typing.specs.Rules.{Derives}
use Rattle.cg_typing.specs.Trees.{leaf}
use Rattle.cg_check_laws.proofs.Clash.{Lawful}
use Rattle.cg_check_laws.proofs.Clean.{Of, Within}
use Rattle.cg_check_laws.proofs.SoundLeaves.{in_meets, mention_is, ranged}
use Rattle.cg_certcheck_laws.proofs.Limits.{limits_append, meets_limits, argument_limits}
use Rattle.cg_certcheck_laws.proofs.MarkTests.{drops_are, others_are}
use Rattle.cg_certcheck_laws.proofs.Nodes.{Heads, heads_plain}
use Rattle.cg_certcheck_laws.proofs.Rows.{reached_is, met_is}
use Rattle.cg_base.proofs.Truths.{both as and_both}
use Rattle.cg_typing.proofs.Lists.{taken_as_many}

-- a leaf is reached and judged
pub record LeafHolds (ns : List CertNode) (node : Node) (test : Bool) : Type 0 where
  pub heads : Heads 1 (leaf node) ns
  pub holds : test ≡ true

pub leaf_holds : (n : ℕ) (ns : List CertNode) (node : Node) (test : Bool)
    → AllHold (leaf_reached n ns node ++ (row n test ∷ [])) → LeafHolds ns node test
leaf_holds n ns node test h =
    record { heads = heads_plain 0 node done ns (reached_is ns node (no_strings ns) h.0 h.1.0) refl; holds = h.1.1.0 }

there : (o : Option Tau) (t : Tau) → is_present o ≡ true → Of o t → o ≡ Some t
there None t h e = absurd (cc)
there (Some u) t h e = ap Some e

pub ranged_word : (value : Option ℕ) (t : Tau) → in_range value t ≡ true → is_word t ≡ true
ranged_word (Some n) (word w) h = refl
ranged_word _ _ h = absurd (cc)

module _ (functions : List Function) (vars : List Kinds) (types_in : ℕ) where
  -- the nodes of a term, at the head of those that are left
  pub record Spelled (g : Context) (p : List Tau) (direction : Option Tau) (ns : List CertNode) (e : Tree Place) : Type 0 where
    pub tree : Derivation
    pub reads : tree ≡ tree_at ns e
    pub heads : Heads (size e) tree ns
    pub derives : Derives functions vars g tree direction (core functions p direction e)
    pub limits : (b : Before) → LimitsHold (faults.events functions vars p b direction e)

  abbrev pub Sound : Tree Place → Type 0
  Sound e = (g : Context) (p : List Tau) (direction : Option Tau) (ns : List CertNode) (n : ℕ) → Lawful functions vars types_in (length p) e → Within g p
      → AllHold (events functions vars g p direction ns n e) → Spelled g p direction ns e

  -- the same by the events of its form, without the limit on its own type
  pub record SpelledShape (g : Context) (p : List Tau) (direction : Option Tau) (ns : List CertNode) (a : Place) (s : Shape Place) : Type 0 where
    pub tree : Derivation
    pub reads : tree ≡ tree_of ns s
    pub heads : Heads (suc (size_below s)) tree ns
    pub derives : Derives functions vars g tree direction (core functions p direction (term a s))
    pub limits : (b : Before) → LimitsHold (faults.events_shape functions vars p b direction a s)

  abbrev pub SoundShape : Place → Shape Place → Type 0
  SoundShape a s = (g : Context) (p : List Tau) (direction : Option Tau) (ns : List CertNode) (n : ℕ) → Lawful functions vars types_in (length p) (term a s) → Within g p
      → AllHold (events_shape functions vars g p direction ns n s) → SpelledShape g p direction ns a s

  pub sound_var : (a : Place) (i : ℕ) → SoundShape a (var i)
  sound_var a i g p dir ns n s w h =
      let q = leaf_holds n ns nodes.Var _ h in
      let t = and_both (is_present (look g i)) _ q.holds in
      let u = and_both (drops_but vars i g) _ t.1 in
      record {
        tree = leaf nodes.Var;
        reads = refl;
        heads = q.heads;
        derives = record {
          tree = refl;
          present = there (look g i) (plain_at p i) t.0 (w.at i s) ∙ ap Some (sym (met_is functions p dir (term a (var i)) (plain_at p i) refl u.1));
          others = others_are vars i g u.0;
          meets = in_meets functions p dir (term a (var i));
        };
        limits = λ b. (tt, meets_limits dir a (plain_at p i));
      }

  pub sound_unit : (a : Place) → SoundShape a unit
  sound_unit a g p dir ns n s w h =
      let q = leaf_holds n ns nodes.Unit _ h in
      let t = and_both (drops_all vars g) _ q.holds in
      record {
        tree = leaf nodes.Unit;
        reads = refl;
        heads = q.heads;
        derives = record { tree = refl; is = met_is functions p dir (term a unit) types.unit refl t.1; others = drops_are vars g t.0; meets = in_meets functions p dir (term a unit) };
        limits = λ b. meets_limits dir a types.unit;
      }

  pub sound_bool : (a : Place) (v : Bool) → SoundShape a (bool v)
  sound_bool a v g p dir ns n s w h =
      let q = leaf_holds n ns nodes.Bool _ h in
      let t = and_both (drops_all vars g) _ q.holds in
      record {
        tree = leaf nodes.Bool;
        reads = refl;
        heads = q.heads;
        derives =
            record { tree = refl; is = met_is functions p dir (term a (bool v)) types.bool refl t.1; others = drops_are vars g t.0; meets = in_meets functions p dir (term a (bool v)) };
        limits = λ b. meets_limits dir a types.bool;
      }

  pub sound_lit : (a : Place) (v : Option ℕ) → SoundShape a (lit v)
  sound_lit a v g p None ns n s w h =
      let q = leaf_holds n ns nodes.Lit _ h in
      let t = and_both (drops_all vars g) _ q.holds in absurd (let z = t.1 in cc)
  sound_lit a v g p (Some u) ns n s w h =
      let q = leaf_holds n ns nodes.Lit _ h in
      let t = and_both (drops_all vars g) _ q.holds in
      record {
        tree = leaf nodes.Lit;
        reads = refl;
        heads = q.heads;
        derives = record { tree = refl; checked = refl; is_a_word = ranged_word v u t.1; in_range = ranged v u t.1; others = drops_are vars g t.0 };
        limits = λ b. (tt, (tt, tt));
      }

  pub sound_fun : (a : Place) (f : Fun) (args : List Arg) → SoundShape a (fun f args)
  sound_fun a f args g p dir ns n s w h =
      let q = leaf_holds n ns nodes.Fun _ h in
      let t = and_both (drops_all vars g) _ q.holds in
      let u = and_both (are_good_arguments vars (asked_by functions f) args) _ t.1 in
      record {
        tree = leaf nodes.Fun;
        reads = refl;
        heads = q.heads;
        derives = record {
          tree = refl;
          many = taken_as_many functions f (length args) s.0;
          arguments = u.0;
          is = mention_is functions f args (length args) s.0 ∙ ap Some (sym (met_is functions p dir (term a (fun f args)) (mentioned functions f args) refl u.1));
          others = drops_are vars g t.0;
          meets = in_meets functions p dir (term a (fun f args));
        };
        limits = λ b. limits_append _ _ (argument_limits functions vars (asked_by functions f) args) (meets_limits dir a (mentioned functions f args));
      }
