-- The statements of every core do what the update semantics does: the forms together.
use Rattle.std.proofs.Common.{◌≡◌, ℕ, ◌^◌, ◌<◌, Some, [], ◌++◌, refl}
use Rattle.std.specs.List.{AllByRecursion}
use Rattle.cg_base.specs.Types.{Tau}
use Rattle.cg_core.specs.declared.op.Op.{Op}
use Rattle.cg_core.specs.Terms.{Note, Tree, term, Shape, var, unit, bool, lit, fun, op, app, lets, let_bang, if_else, con, case_of, esac, struct, member, take_field, put, cast, annot, Trees, none, more, Named, end, field as named}
use Rattle.cg_cmachine_def.specs.Layouts.{Layout}
use Rattle.cg_cmachine_def.specs.Runs.{Linked}
use Rattle.cg_typing.specs.Instances.{AreInstances, nodes_below, nodes_of, nodes_of_fields}
use Rattle.cg_update.specs.Calls.{Program, types_of}
use Rattle.cg_update.specs.Updates.{Calls, update_shape}
use Rattle.cg_lower_def.specs.Lowered.{Whole}
use Rattle.cg_lower_def.specs.Simulated.{CallsListed}
use Rattle.cg_lower_laws.proofs.Choices.{sim_case, sim_if}
use Rattle.cg_lower_laws.proofs.Computing.{CallsRun, ValuesRun, sim_app, sim_app_value, sim_binary, sim_cast, sim_fun, sim_unary}
use Rattle.cg_lower_laws.proofs.Members.{sim_esac, sim_member, sim_take}
use Rattle.cg_lower_laws.proofs.Nodes.{node_is, Sim, sim_annot, sim_bool, sim_let_bang, sim_lets, sim_lit, sim_unit, sim_var}
use Rattle.cg_lower_laws.proofs.Puts.{sim_put}
use Rattle.cg_lower_laws.proofs.Records.{SimAll, sim_con, sim_struct}
use Rattle.cg_lower_laws.proofs.Typings.{all_back, all_front}

module _ (p : Program) (whole : Whole) (q : Linked) (l : Layout) (calls : Calls) (few : (k : ℕ) (t : Tau) → types_of p k ≡ Some t → k < 2 ^ 32)
    (same : whole.list ≡ p.list) (instances : AreInstances p.functions p.list p.entries) (callees : CallsRun p whole q calls)
    (values : ValuesRun p whole q calls) where
  -- where it calls a function value, its arrow type is listed
  abbrev Listed : Tree Note → Type 0
  Listed = CallsListed whole.arrows

  -- an operator of no operands, or of more than two, gives nothing
  no_operand : (note : Note) (o : Op) → Sim p whole q l calls (term note (op o none))
  unfolding update_shape
  no_operand note o k g os vs fr s s' left rest us typed kept fresh bound h = let n = node_is p calls note (op o none) vs s left us s' rest h in let e = n.given in absurd (cc)

  many_operands : (note : Note) (o : Op) (a b d : Tree Note) (ts : Trees Note) → Sim p whole q l calls (term note (op o (more a (more b (more d ts)))))
  unfolding update_shape
  many_operands note o a b d ts k g os vs fr s s' left rest us typed kept fresh bound h =
      let n = node_is p calls note (op o (more a (more b (more d ts)))) vs s left us s' rest h in let e = n.given in absurd (cc)

  mutual
    of_core : (core : Tree Note) → AllByRecursion Listed (nodes_of core) → Sim p whole q l calls core
    of_core (term note shape) n = of_shape note shape n.0 n.1

    of_shape : (note : Note) (shape : Shape Note) → Listed (term note shape) → AllByRecursion Listed (nodes_below shape) → Sim p whole q l calls (term note shape)
    of_shape note (var i) c n = sim_var p whole q l calls note i
    of_shape note unit c n = sim_unit p whole q l calls note
    of_shape note (bool b) c n = sim_bool p whole q l calls note b
    of_shape note (lit value) c n = sim_lit p whole q l calls note value
    of_shape note (fun f args) c n = sim_fun p whole q l calls few same instances note f args
    of_shape note (op o none) c n = no_operand note o
    of_shape note (op o (more a none)) c n = sim_unary p whole q l calls few same instances note o a (of_core a (all_front Listed (nodes_of a) [] n))
    of_shape note (op o (more a (more b none))) c n =
        let m = all_back Listed (nodes_of a) (nodes_of b ++ []) n in
        sim_binary p whole q l calls few same instances note o a b (of_core a (all_front Listed (nodes_of a) (nodes_of b ++ []) n)) (of_core b (all_front Listed (nodes_of b) [] m))
    of_shape note (op o (more a (more b (more d ts)))) c n = many_operands note o a b d ts
    of_shape note (app (term at (fun f args)) x) c n = sim_app p whole q l calls few same instances note at f args x callees (of_core x n.1)
    of_shape note (app f x) c n =
        sim_app_value p whole q l calls few same instances note f x values c refl (λ v u. refl) (of_core f (all_front Listed (nodes_of f) (nodes_of x) n)) (of_core x (all_back Listed (nodes_of f) (nodes_of x) n))
    of_shape note (lets binder e k) c n =
        sim_lets p whole q l calls note binder e k (of_core e (all_front Listed (nodes_of e) (nodes_of k) n)) (of_core k (all_back Listed (nodes_of e) (nodes_of k) n))
    of_shape note (let_bang observers binder e k) c n =
        sim_let_bang p whole q l calls note observers binder e k (of_core e (all_front Listed (nodes_of e) (nodes_of k) n)) (of_core k (all_back Listed (nodes_of e) (nodes_of k) n))
    of_shape note (if_else e x y) c n =
        let m = all_front Listed (nodes_of e ++ nodes_of x) (nodes_of y) n in
        sim_if p whole q l calls few note e x y (of_core e (all_front Listed (nodes_of e) (nodes_of x) m)) (of_core x (all_back Listed (nodes_of e) (nodes_of x) m))
        (of_core y (all_back Listed (nodes_of e ++ nodes_of x) (nodes_of y) n))
    of_shape note (con name e) c n = sim_con p whole q l calls few note name e (of_core e n)
    of_shape note (case_of e at binder x y) c n =
        let m = all_front Listed (nodes_of e ++ nodes_of x) (nodes_of y) n in
        sim_case p whole q l calls few note e at binder x y (of_core e (all_front Listed (nodes_of e) (nodes_of x) m)) (of_core x (all_back Listed (nodes_of e) (nodes_of x) m))
        (of_core y (all_back Listed (nodes_of e ++ nodes_of x) (nodes_of y) n))
    of_shape note (esac at e) c n = sim_esac p whole q l calls few note at e (of_core e n)
    of_shape note (struct fs) c n = sim_struct p whole q l calls few note fs (of_fields fs n)
    of_shape note (member e at) c n = sim_member p whole q l calls few note e at (of_core e n)
    of_shape note (take_field e at remaining binder k) c n =
        sim_take p whole q l calls few note e at remaining binder k (of_core e (all_front Listed (nodes_of e) (nodes_of k) n)) (of_core k (all_back Listed (nodes_of e) (nodes_of k) n))
    of_shape note (put e at x) c n =
        sim_put p whole q l calls few note e at x (of_core e (all_front Listed (nodes_of e) (nodes_of x) n)) (of_core x (all_back Listed (nodes_of e) (nodes_of x) n))
    of_shape note (cast e) c n = sim_cast p whole q l calls few same instances note e (of_core e n)
    of_shape note (annot e arg) c n = sim_annot p whole q l calls note e arg (of_core e n)

    of_fields : (fs : Named Note) → AllByRecursion Listed (nodes_of_fields fs) → SimAll p whole q l calls few fs
    of_fields end n = tt
    of_fields (named x e fs) n = (of_core e (all_front Listed (nodes_of e) (nodes_of_fields fs) n), of_fields fs (all_back Listed (nodes_of e) (nodes_of_fields fs) n))

-- where the C functions of instances and of arrow types do what calls of these do, and the arrow types of a core's calls are listed
pub simulated : (p : Program) (whole : Whole) (q : Linked) (l : Layout) (calls : Calls) (few : (k : ℕ) (t : Tau) → types_of p k ≡ Some t → k < 2 ^ 32)
    → whole.list ≡ p.list → AreInstances p.functions p.list p.entries → CallsRun p whole q calls → ValuesRun p whole q calls → (core : Tree Note)
    → AllByRecursion (CallsListed whole.arrows) (nodes_of core) → Sim p whole q l calls core
simulated p whole q l calls few same instances callees values core listed = of_core p whole q l calls few same instances callees values core listed
