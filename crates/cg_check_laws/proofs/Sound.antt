-- Where no event fails, the tree with the occurrence marks is a derivation of the core of plain typing.
use Rattle.std.proofs.Common.{ℕ, Some, None, List, refl, sym, ap, arith}
use Rattle.cg_base.specs.declared.kind.Kinds.{Kinds}
use Rattle.cg_base.specs.declared.kind.Sigil.TheVariants.{R, W, U}
use Rattle.cg_base.specs.declared.place.Place.{Place}
use Rattle.cg_base.specs.Types as types
use Rattle.cg_base.specs.Types.{fields}
use Rattle.cg_core.specs.Kernels.{Function}
use Rattle.cg_core.specs.Terms.{Tree, term, Shape, var, unit, bool, lit, fun, op, app, lets, let_bang, if_else, con, case_of, esac, struct, member, take_field, put, cast, annot, none, more, Named, end, field}
use Rattle.cg_core_def.specs.Lawful.{AreSome, field_names}
use Rattle.cg_check_laws.proofs.Basics.{hold_left}
use Rattle.cg_check_laws.proofs.Clash.{at_most_two, at_least_one}
use Rattle.cg_check_laws.proofs.SoundBinders.{sound_app, sound_put, sound_let, sound_take, sound_let_bang}
use Rattle.cg_check_laws.proofs.SoundBranches.{sound_if, sound_case}
use Rattle.cg_check_laws.proofs.SoundFields.{SoundFields, sound_last, sound_earlier, made_plain, made_checked}
use Rattle.cg_check_laws.proofs.SoundLeaves.{Sound, SoundShape, sound_var, sound_unit, sound_bool, sound_lit, sound_fun}
use Rattle.cg_check_laws.proofs.SoundParts.{sound_unary, sound_binary, sound_con, sound_esac, sound_member, sound_cast, sound_annot}

module _ (functions : List Function) (vars : List Kinds) (types_in : ℕ) where
  sound_struct : (a : Place) (fs : Named Place) → (AreSome (field_names fs) → SoundFields functions vars types_in fs) → SoundShape functions vars types_in a (struct fs)
  sound_struct a fs f p b None g s l e h q =
      record { tree = refl; fields = f s.0 p b None None g s.2 l e tt h q; is = ap (λ ps. fields ps U) (sym (made_plain functions p fs)); meets = tt }
  sound_struct a fs f p b (Some (fields ps U)) g s l e h q =
      record { tree = refl; fields = f s.0 p b (Some (fields ps U)) (Some ps) g s.2 l e h.0 h.1 q; is = ap (λ ps. fields ps U) (sym (made_checked functions p ps fs h.0)); meets = refl }
  sound_struct a fs f p b (Some (fields ps R)) g s l e h q = absurd (let z = h.0 in cc)
  sound_struct a fs f p b (Some (fields ps W)) g s l e h q = absurd (let z = h.0 in cc)
  sound_struct a fs f p b (Some (types.var n)) g s l e h q = absurd (let z = h.0 in cc)
  sound_struct a fs f p b (Some (types.seen n)) g s l e h q = absurd (let z = h.0 in cc)
  sound_struct a fs f p b (Some types.unit) g s l e h q = absurd (let z = h.0 in cc)
  sound_struct a fs f p b (Some (types.word n)) g s l e h q = absurd (let z = h.0 in cc)
  sound_struct a fs f p b (Some types.bool) g s l e h q = absurd (let z = h.0 in cc)
  sound_struct a fs f p b (Some (types.arrow t u)) g s l e h q = absurd (let z = h.0 in cc)
  sound_struct a fs f p b (Some (types.abs n ts z)) g s l e h q = absurd (let z = h.0 in cc)
  sound_struct a fs f p b (Some (types.variant ps)) g s l e h q = absurd (let z = h.0 in cc)

  mutual
    pub sound : (e : Tree Place) → Sound functions vars types_in e
    sound (term a shape) p b dir g s l e h q = sound_shape a shape p b dir g s l e (hold_left _ _ h) q

    sound_shape : (a : Place) (shape : Shape Place) → SoundShape functions vars types_in a shape
    sound_shape a (var j) = sound_var functions vars types_in a j
    sound_shape a unit = sound_unit functions vars types_in a
    sound_shape a (bool v) = sound_bool functions vars types_in a v
    sound_shape a (lit v) = sound_lit functions vars types_in a v
    sound_shape a (fun f args) = sound_fun functions vars types_in a f args
    sound_shape a (op o none) = λ p b dir g s l e h q. absurd (omega (arith, s.0, at_least_one o))
    sound_shape a (op o (more x none)) = sound_unary functions vars types_in a o x (sound x)
    sound_shape a (op o (more l (more r none))) = sound_binary functions vars types_in a o l r (sound l) (sound r)
    sound_shape a (op o (more l (more r (more x ts)))) = λ p b dir g s l e h q. absurd (omega (arith, s.0, at_most_two o))
    sound_shape a (app f x) = sound_app functions vars types_in a f x (sound f) (sound x)
    sound_shape a (lets v e k) = sound_let functions vars types_in a v e k (sound e) (sound k)
    sound_shape a (let_bang os v e k) = sound_let_bang functions vars types_in a os v e k (sound e) (sound k)
    sound_shape a (if_else c x y) = sound_if functions vars types_in a c x y (sound c) (sound x) (sound y)
    sound_shape a (con name e) = sound_con functions vars types_in a name e (sound e)
    sound_shape a (case_of e at v x y) = sound_case functions vars types_in a e at v x y (sound e) (sound x) (sound y)
    sound_shape a (esac at e) = sound_esac functions vars types_in a at e (sound e)
    sound_shape a (struct fs) = sound_struct a fs (sound_fields fs)
    sound_shape a (member e at) = sound_member functions vars types_in a e at (sound e)
    sound_shape a (take_field e at v w k) = sound_take functions vars types_in a e at v w k (sound e) (sound k)
    sound_shape a (put e at x) = sound_put functions vars types_in a e at x (sound e) (sound x)
    sound_shape a (cast e) = sound_cast functions vars types_in a e (sound e)
    sound_shape a (annot e t) = sound_annot functions vars types_in a e t (sound e)

    sound_fields : (fs : Named Place) → AreSome (field_names fs) → SoundFields functions vars types_in fs
    sound_fields end some = absurd some
    sound_fields (field name e end) some = sound_last functions vars types_in name e (sound e)
    sound_fields (field name e (field later x fs)) some = sound_earlier functions vars types_in name e later x fs (sound e) (sound_fields (field later x fs) tt)
