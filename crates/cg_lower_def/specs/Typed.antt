-- What C asks of the types of a core, beside that the update semantics gives a result (docs/LANGUAGE.md, "The C of instances", types).
use Rattle.std.specs.Prelude.{◌≡◌, ℕ, ◌++◌, true, false, List, [], ◌∷◌, IsTrue, Some, slice_get}
use Rattle.cg_base.specs.Types.{Tau, unit as nothing, bool as boolean, arrow}
use Rattle.cg_core.specs.Kernels.{Function}
use Rattle.cg_core.specs.Terms.{Note, Tree, term, Shape, var, unit, bool, lit, fun, op, app, lets, let_bang, if_else, con, case_of, esac, struct, member, take_field, put, cast, annot, none, more, Named, end, field}
use Rattle.cg_ctree.specs.declared.tree.CStruct.{CStruct}
use Rattle.cg_ctree.specs.declared.tree.CTy.{CTy}
use Rattle.cg_kinds.specs.Kinds.{is_word}
use Rattle.cg_typing.specs.Functions.{fun_type}
use Rattle.cg_typing.specs.Operators.{sort_of, takes, gives}
use Rattle.cg_typing.specs.Parts.{alternative_in, field_in, held, is_left, is_there, widens, with_part}
use Rattle.cg_typing.specs.Rules.{record_made, type_at}
use Rattle.cg_lower_def.specs.CTypes.{c_type, IsDeclared}

-- Of a core in a context of variables with these types in C: its types fit, and the structs of each node's type are declared.
module _ (functions : List Function) (numbered : Tau → ℕ) (ss : List CStruct) where
  abbrev mutual
    pub IsTyped : List CTy → Tree Note → Type 0
    IsTyped g (term note shape) = IsDeclared numbered ss note.ty × IsTypedShape g note.ty shape

    pub IsTypedShape : List CTy → Tau → Shape Note → Type 0
    IsTypedShape g t (var i) = slice_get g i ≡ Some (c_type numbered t)
    IsTypedShape g t unit = t ≡ nothing
    IsTypedShape g t (bool b) = t ≡ boolean
    IsTypedShape g t (lit n) = IsTrue (is_word t)
    IsTypedShape g t (fun f args) = fun_type functions f args ≡ Some t
    IsTypedShape g t (op o (more a none)) = IsTyped g a × IsTrue (takes (sort_of o) (type_at a)) × (t ≡ gives (sort_of o) (type_at a))
    IsTypedShape g t (op o (more a (more b none))) =
        IsTyped g a × IsTyped g b × (type_at a ≡ type_at b) × IsTrue (takes (sort_of o) (type_at a)) × (t ≡ gives (sort_of o) (type_at a))
    IsTypedShape g t (app f x) = IsTyped g f × IsTyped g x × (type_at f ≡ arrow (type_at x) t)
    IsTypedShape g t (lets binder e k) = IsTyped g e × IsTyped (g ++ c_type numbered (type_at e) ∷ []) k × (t ≡ type_at k)
    IsTypedShape g t (let_bang observers binder e k) = IsTyped g e × IsTyped (g ++ c_type numbered (type_at e) ∷ []) k × (t ≡ type_at k)
    IsTypedShape g t (if_else c x y) = IsTyped g c × IsTyped g x × IsTyped g y × (type_at c ≡ boolean) × (t ≡ type_at x) × (type_at y ≡ type_at x)
    IsTypedShape g t (con name e) = IsTyped g e × IsTrue (is_left (alternative_in name t)) × (type_at e ≡ held (alternative_in name t))
    IsTypedShape g t (case_of e at binder x y) =
        IsTyped g e × IsTyped (g ++ c_type numbered (held (alternative_in at.name (type_at e))) ∷ []) x
        × IsTyped (g ++ c_type numbered (with_part at.name true (type_at e)) ∷ []) y
        × IsTrue (is_left (alternative_in at.name (type_at e))) × (t ≡ type_at x) × (type_at y ≡ type_at x)
    IsTypedShape g t (esac at e) = IsTyped g e × IsTrue (is_left (alternative_in at.name (type_at e))) × (t ≡ held (alternative_in at.name (type_at e)))
    IsTypedShape g t (struct fs) = AreTyped g fs × (t ≡ record_made fs)
    IsTypedShape g t (member e at) = IsTyped g e × IsTrue (is_left (field_in at.name (type_at e))) × (t ≡ held (field_in at.name (type_at e)))
    IsTypedShape g t (take_field e at rest binder k) =
        IsTyped g e
        × IsTyped (g ++ c_type numbered (with_part at.name true (type_at e)) ∷ c_type numbered (held (field_in at.name (type_at e))) ∷ []) k
        × IsTrue (is_left (field_in at.name (type_at e))) × (t ≡ type_at k)
    IsTypedShape g t (put e at x) =
        IsTyped g e × IsTyped g x × IsTrue (is_there (field_in at.name (type_at e))) × (type_at x ≡ held (field_in at.name (type_at e)))
        × (t ≡ with_part at.name false (type_at e))
    IsTypedShape g t (cast e) = IsTyped g e × IsTrue (widens (type_at e) t)
    IsTypedShape g t (annot e a) = IsTyped g e × (t ≡ type_at e)
    IsTypedShape g t _ = Unit {0}

    pub AreTyped : List CTy → Named Note → Type 0
    AreTyped g end = Unit {0}
    AreTyped g (field name e fs) = IsTyped g e × AreTyped g fs
