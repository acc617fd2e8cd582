-- The structs of a table can be printed, where no record is without fields.
use Rattle.std.proofs.Common.{◌≡◌, ℕ, zero, suc, List, [], ◌∷◌, slice_get, Some, refl}
use Rattle.std.specs.List.{AllByRecursion}
use Rattle.cg_base.specs.Types.{Tau, variant, fields, Parts, end, part}
use Rattle.cg_ctree.specs.Spells.{IsCName, IsPrintableDecl, IsPrintableStruct, SomeAll}
use Rattle.cg_lower_laws.proofs.PrintedNames.{argument_named, field_named, struct_named, tag_named, type_prints}
use Rattle.cg_cgen_def.specs.Names.{name}
use Rattle.cg_lower_def.specs.CTypes.{members_from}
use Rattle.cg_lower_def.specs.Structs.{HasBelow, IsTable, numbered_in, struct_members, structs_from, structs_in}
use Rattle.cg_lower.specs.Promises.{HasFields}

-- a record or a variant
abbrev IsStruct : Tau → Type 0
IsStruct (variant ps) = Unit {0}
IsStruct (fields ps sigil) = Unit {0}
IsStruct t = ⊥

module _ (table : List Tau) where
  struct_is : (i : ℕ) (t : Tau) → HasBelow table i t → IsStruct t
  struct_is i (variant ps) h = tt
  struct_is i (fields ps sigil) h = tt
  struct_is i t h = h

  -- members of a letter that names begin with
  members_print : (letter : ℕ) → ((i : ℕ) → IsCName (name letter i)) → (i : ℕ) (ps : Parts) → AllByRecursion IsPrintableDecl (members_from (numbered_in table) letter i ps)
  members_print letter named i end = tt
  members_print letter named i (part x t taken ps) = ((type_prints (numbered_in table) t, named i), members_print letter named (suc i) ps)

  struct_prints : (t : Tau) → IsStruct t → HasFields t → SomeAll IsPrintableDecl (struct_members table t)
  struct_prints (variant ps) is has = ((tt, tag_named), members_print 97 argument_named 0 ps)
  struct_prints (fields end sigil) is has = absurd has
  struct_prints (fields (part x t taken ps) sigil) is has = ((type_prints (numbered_in table) t, field_named 0), members_print 109 field_named 1 ps)
  struct_prints t is has = absurd is

  structs_print : (k : ℕ) (ts : List Tau) → ((i : ℕ) (t : Tau) → slice_get ts i ≡ Some t → IsStruct t) → AllByRecursion HasFields ts → AllByRecursion IsPrintableStruct (structs_from table k ts)
  structs_print k [] each has = tt
  structs_print k (t ∷ ts) each has = ((struct_named k, struct_prints t (each zero t refl) has.0), structs_print (suc k) ts (λ i u e. each (suc i) u e) has.1)

  -- those of a table
  pub table_prints : IsTable table → AllByRecursion HasFields table → AllByRecursion IsPrintableStruct (structs_in table)
  table_prints is has = structs_print zero table (λ i t e. struct_is i t (is.ordered i t e)) has
