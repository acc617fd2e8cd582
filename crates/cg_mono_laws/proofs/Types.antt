-- What evaluation asks of noted types is the same with type arguments in the place of type variables.
use Rattle.std.proofs.Common.{◌≡◌, ℕ, zero, suc, Bool, ◌||◌, IsTrue, List, [], ◌∷◌, map, refl, ap, ◌∙◌}
use Rattle.std.specs.Prelude.{if◌then◌else◌}
use Rattle.std.specs.Str.{bytes_eq}
use Rattle.cg_base.specs.Types.{Tau, word, bool, fields, Parts, end, part}
use Rattle.cg_core.specs.Terms.{Arg, Note, Tree, term}
use Rattle.cg_kinds.specs.Kinds.{is_word, subst, subst_parts}
use Rattle.cg_eval_operations.specs.Positions.{position, position_among}
use Rattle.cg_typing.specs.Functions.{arg_types}
use Rattle.cg_typing.specs.Instances.{is_closed}
use Rattle.cg_typing.specs.Operators.{Sort, arithmetic, equality, order, logic, takes}
use Rattle.cg_typing.specs.Parts.{field_in, is_bool, is_there}
use Rattle.cg_typing.specs.Rules.{type_at}
use Rattle.cg_typing.specs.Subst.{subst_arg, subst_core}
use Rattle.std.specs.List.{list_all}
use Rattle.cg_inst_laws.proofs.Closed.{given_stay}
use Rattle.cg_base.proofs.Truths.{first_holds, second_holds}
use Rattle.cg_base.proofs.Counts.{no_steps as never}

-- a word or a truth value
abbrev is_scalar : Tau → Bool
is_scalar t = is_word t || is_bool t

-- what an operator takes is one
operand_scalar : (s : Sort) (t : Tau) → IsTrue (takes s t) → IsTrue (is_scalar t)
operand_scalar arithmetic t h = first_holds (is_word t) (is_bool t) h
operand_scalar equality t h = h
operand_scalar order t h = first_holds (is_word t) (is_bool t) h
operand_scalar logic t h = second_holds (is_word t) (is_bool t) h

module _ (given : List Tau) where
  -- the type that a copy notes
  type_given : (c : Tree Note) → type_at (subst_core given c) ≡ subst given (type_at c)
  type_given (term note shape) = refl

  -- ---- operands

  -- words and truth values have no type variables
  scalar_stays : (t : Tau) → IsTrue (is_scalar t) → subst given t ≡ t
  unfolding subst
  scalar_stays (word w) h = refl
  scalar_stays bool h = refl
  scalar_stays _ h = never h

  -- so an operand keeps its type
  pub operand_stays : (s : Sort) (c : Tree Note) → IsTrue (takes s (type_at c)) → type_at (subst_core given c) ≡ type_at c
  operand_stays s c h = type_given c ∙ scalar_stays (type_at c) (operand_scalar s (type_at c) h)

  -- ---- fields

  -- the position of a field depends on the names of fields alone
  among_stays : (n : List ℕ) (ps : Parts) → position_among n (subst_parts given ps) ≡ position_among n ps
  unfolding subst position_among
  among_stays n end = refl
  among_stays n (part x t taken ps) = ap (λ k. if bytes_eq n x then zero else suc k) (among_stays n ps)

  position_stays : (n : List ℕ) (t : Tau) → IsTrue (is_there (field_in n t)) → position n (subst given t) ≡ position n t
  unfolding subst position
  position_stays n (fields ps sigil) h = among_stays n ps
  position_stays n _ h = never h

  -- so it is the same in the copy
  pub field_stays : (n : List ℕ) (c : Tree Note) → IsTrue (is_there (field_in n (type_at c))) → position n (type_at (subst_core given c)) ≡ position n (type_at c)
  field_stays n c h = ap (position n) (type_given c) ∙ position_stays n (type_at c) h

  -- ---- type arguments

  -- the type arguments of a copied mention
  arguments_given : (args : List Arg) → arg_types (map (subst_arg given) args) ≡ map (subst given) (arg_types args)
  arguments_given [] = refl
  arguments_given (a ∷ args) = ap (λ ts. subst given a.ty ∷ ts) (arguments_given args)

  -- those of a mention, which are closed and stay, over the copies and over the source
  pub mention_stays : IsTrue (list_all is_closed given) → (args : List Arg) → map (subst []) (arg_types (map (subst_arg given) args)) ≡ map (subst given) (arg_types args)
  mention_stays closed args = ap (map (subst [])) (arguments_given args) ∙ given_stay given closed [] (arg_types args)
