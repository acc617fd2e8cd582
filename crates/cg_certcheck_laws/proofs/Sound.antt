-- Where no event fails, the nodes at the head of those that are left spell a derivation of the core of plain typing, and no type passes
-- the limit.
use Rattle.std.proofs.Common.{ℕ, List}
use Rattle.cg_base.specs.declared.kind.Kinds.{Kinds}
use Rattle.cg_base.specs.declared.place.Place.{Place}
use Rattle.cg_core.specs.Kernels.{Function}
use Rattle.cg_core.specs.Terms.{Tree, term, Shape, var, unit, bool, lit, fun, op, app, lets, let_bang, if_else, con, case_of, esac, struct, member, take_field, put, cast, annot, none, more, Named, end, field}
use Rattle.cg_faults.specs.Events as faults
use Rattle.cg_core_def.specs.Lawful.{AreSome, field_names}
use Rattle.cg_certcheck_def.specs.Events.{events_shape}
use Rattle.cg_certcheck_laws.proofs.Limits.{limits_append}
use Rattle.cg_certcheck_laws.proofs.Rows.{hold_left, hold_right}
use Rattle.cg_certcheck_laws.proofs.SoundBinders.{sound_app, sound_put, sound_let, sound_let_bang, sound_take}
use Rattle.cg_certcheck_laws.proofs.SoundBranches.{sound_if, sound_case}
use Rattle.cg_certcheck_laws.proofs.SoundFields.{SoundFields, sound_last, sound_earlier, sound_struct}
use Rattle.cg_certcheck_laws.proofs.SoundLeaves.{Sound, SoundShape, sound_var, sound_unit, sound_bool, sound_lit, sound_fun}
use Rattle.cg_certcheck_laws.proofs.SoundParts.{sound_unary, sound_binary, sound_con, sound_esac, sound_member, sound_cast, sound_annot}

module _ (functions : List Function) (vars : List Kinds) (types_in : ℕ) where
  -- a term by its form, with the limit on its own type
  by_shape : (a : Place) (s : Shape Place) → SoundShape functions vars types_in a s → Sound functions vars types_in (term a s)
  by_shape a s f g p dir ns n lawful w h =
      let es = events_shape functions vars g p dir ns n s in
      let d = f g p dir ns n lawful w (hold_left es _ h) in
      record {
        tree = d.tree;
        reads = d.reads;
        heads = d.heads;
        derives = d.derives;
        limits = λ b. limits_append (faults.events_shape functions vars p b dir a s) _ (d.limits b) ((hold_right es _ h).0, tt);
      }

  mutual
    pub sound : (e : Tree Place) → Sound functions vars types_in e
    sound (term a s) = by_shape a s (sound_shape a s)

    sound_shape : (a : Place) (s : Shape Place) → SoundShape functions vars types_in a s
    sound_shape a (var i) = sound_var functions vars types_in a i
    sound_shape a unit = sound_unit functions vars types_in a
    sound_shape a (bool v) = sound_bool functions vars types_in a v
    sound_shape a (lit v) = sound_lit functions vars types_in a v
    sound_shape a (fun f args) = sound_fun functions vars types_in a f args
    sound_shape a (op o none) = λ g p dir ns n s w h. absurd (let z = h.0 in cc)
    sound_shape a (op o (more x none)) = sound_unary functions vars types_in a o x (sound x)
    sound_shape a (op o (more l (more r none))) = sound_binary functions vars types_in a o l r (sound l) (sound r)
    sound_shape a (op o (more l (more r (more x ts)))) = λ g p dir ns n s w h. absurd (let z = h.0 in cc)
    sound_shape a (app f x) = sound_app functions vars types_in a f x (sound f) (sound x)
    sound_shape a (lets v e k) = sound_let functions vars types_in a v e k (sound e) (sound k)
    sound_shape a (let_bang os v e k) = sound_let_bang functions vars types_in a os v e k (sound e) (sound k)
    sound_shape a (if_else c x y) = sound_if functions vars types_in a c x y (sound c) (sound x) (sound y)
    sound_shape a (con name e) = sound_con functions vars types_in a name e (sound e)
    sound_shape a (case_of e at v x y) = sound_case functions vars types_in a e at v x y (sound e) (sound x) (sound y)
    sound_shape a (esac at e) = sound_esac functions vars types_in a at e (sound e)
    sound_shape a (struct fs) = sound_struct functions vars types_in a fs (sound_fields fs)
    sound_shape a (member e at) = sound_member functions vars types_in a e at (sound e)
    sound_shape a (take_field e at v z k) = sound_take functions vars types_in a e at v z k (sound e) (sound k)
    sound_shape a (put e at x) = sound_put functions vars types_in a e at x (sound e) (sound x)
    sound_shape a (cast e) = sound_cast functions vars types_in a e (sound e)
    sound_shape a (annot e t) = sound_annot functions vars types_in a e t (sound e)

    sound_fields : (fs : Named Place) → AreSome (field_names fs) → SoundFields functions vars types_in fs
    sound_fields end some = absurd some
    sound_fields (field name e end) some = sound_last functions vars types_in name e (sound e)
    sound_fields (field name e (field later x fs)) some = sound_earlier functions vars types_in name e later x fs (sound e) (sound_fields (field later x fs) tt)
