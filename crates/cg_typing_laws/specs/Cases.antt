-- Computed cases of the laws: what is derived at a variable and at its argument, what is refused at an argument without the
-- variable's kinds or with an array of no word, and the mark of an entry that is new.
use Rattle.std.specs.Prelude.{◌≡◌, ℕ, Some, None, List, [], ◌∷◌}
use Rattle.cg_base.specs.declared.kind.Kinds.{Kinds}
use Rattle.cg_base.specs.declared.kind.Sigil.TheVariants.{R}
use Rattle.cg_base.specs.Types as types
use Rattle.cg_base.specs.Types.{Tau, fields}
use Rattle.cg_core.specs.declared.derivation.Mark.{Mark}
use Rattle.cg_core.specs.declared.derivation.Mark.TheVariants.{Gone, Right, Both}
use Rattle.cg_core.specs.declared.derivation.Node.TheVariants as nodes
use Rattle.cg_core.specs.declared.op.Op.TheVariants.{Add}
use Rattle.cg_core.specs.Terms.{Tree, var, op, member, annot, none, more, Note}
use Rattle.cg_kinds.specs.Kinds.{no_kinds, seen_kinds}
use Rattle.cg_typing.specs.Contexts.{Context}
use Rattle.cg_typing.specs.Samples.{core, named, written, u8, x, cell}
use Rattle.cg_typing.specs.Library.{array, whole}
use Rattle.cg_typing.specs.Rules.{Derives}
use Rattle.cg_typing.specs.Trees.{leaf, one, two}
use Rattle.cg_typing.specs.Inserted.{raise}
use Rattle.cg_typing.specs.Subst.{subst_core}

-- ---- substitution

-- `{x : t}!` with the member `x` of a variable of this type, and the annotation of a variable as t
abbrev pub observed_record : Tau → Tau
observed_record t = fields (whole x t types.end) R

abbrev pub member_at : Tau → Tree Note
member_at t = core 1 t (member (core 1 (observed_record t) (var 0)) (named 2 x))

abbrev pub annotated_at : Tau → Tree Note
annotated_at t = core 1 t (annot (core 1 t (var 0)) (written 2 t))

-- over these kinds of type variables, in the context of one entry, checked against this type
abbrev pub IsMember : List Kinds → Tau → Type 0
IsMember vars t = Derives [] vars (Some (observed_record t) ∷ []) (one nodes.Member (leaf nodes.Var)) (Some t) (member_at t)

abbrev pub IsAnnotated : List Kinds → Tau → Type 0
IsAnnotated vars t = Derives [] vars (Some t ∷ []) (one nodes.Annot (leaf nodes.Var)) (Some t) (annotated_at t)

-- the member is derived at a variable that may be shared, and at U8, its instance; it is refused at a record to write, which may
-- not be shared. The annotation is derived at a variable of no kinds, and refused at an array of units
pub record Substituted : Type 0 where
  pub before : IsMember (seen_kinds ∷ []) (types.var 0)
  pub replaced : subst_core (u8 ∷ []) (member_at (types.var 0)) ≡ member_at u8
  pub after : IsMember [] u8
  pub unshared : IsMember [] cell → ⊥
  pub annotated : IsAnnotated (no_kinds ∷ []) (types.var 0)
  pub no_words : IsAnnotated [] (array types.unit) → ⊥

-- ---- weakening

-- `v + v`, of the variable at this position, of type U8
abbrev pub doubled : ℕ → Tree Note
doubled i = core 2 u8 (op Add (more (core 1 u8 (var i)) (more (core 3 u8 (var i)) none)))

-- a derivation of it with these marks in a context
abbrev pub IsDoubled : ℕ → Context → List Mark → Type 0
IsDoubled i g marks = Derives [] [] g (two nodes.Op marks (leaf nodes.Var) (leaf nodes.Var)) (Some u8) (doubled i)

-- beside an entry that is gone its mark is `Gone`; beside one that is present, and may be dropped, it is another. Behind a new
-- entry the variable is renumbered
pub record Weakened : Type 0 where
  pub gone : IsDoubled 0 (Some u8 ∷ (None ∷ [])) (Both ∷ (Gone ∷ []))
  pub present : IsDoubled 0 (Some u8 ∷ (Some types.bool ∷ [])) (Both ∷ (Right ∷ []))
  pub same_marks : IsDoubled 0 (Some u8 ∷ (Some types.bool ∷ [])) (Both ∷ (Gone ∷ [])) → ⊥
  pub renumbered : raise 0 (doubled 0) ≡ doubled 1
  pub behind : IsDoubled 1 (Some types.bool ∷ (Some u8 ∷ [])) (Right ∷ (Both ∷ []))
