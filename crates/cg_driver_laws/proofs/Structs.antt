-- The table of the structs of proper types has no record without fields.
use Rattle.std.proofs.Common.{List, [], ◌∷◌, ◌++◌, map, zero, suc, ℕ, Option, Some, None, if◌then◌else◌}
use Rattle.std.specs.List.{AllByRecursion, flat_map}
use Rattle.cg_base.specs.declared.fun.Fun.{Fun}
use Rattle.cg_base.specs.declared.fun.Fun.TheVariants.{User, Lib as OfLib}
use Rattle.cg_base.specs.declared.kind.Sigil.TheVariants.{U}
use Rattle.cg_base.specs.Types.{Tau, var, seen, unit, word, bool, arrow, abs, variant, fields, Parts, end, part}
use Rattle.cg_lower.specs.Collected.{Copy, added_all, nodes_maybe, part_types, parts_of_arrows, table_in, turned_by, types_of}
use Rattle.cg_core.specs.Terms.{Note, Tree}
use Rattle.cg_lower_tables.specs.Added.{added, added_parts, with_struct}
use Rattle.cg_lower_tables.specs.Plain.{plain}
use Rattle.cg_inst.proofs.Names.{either_way}
use Rattle.cg_inst_laws.proofs.Each.{Each, each_both}
use Rattle.cg_core_def.specs.Lawful.{AreSome, part_names}
use Rattle.cg_lower_def.specs.CTypes.{form}
use Rattle.cg_lower_def.specs.Structs.{is_in}
use Rattle.cg_lower.specs.Promises.{HasFields}
use Rattle.cg_eval_operations.specs.Iterators.{is_iterator}
use Rattle.cg_typing.specs.Parts.{given_by, taken_by}
use Rattle.cg_typing.specs.Rules.{type_at}
use Rattle.cg_update.specs.Turns.{fields_in}
use Rattle.cg_driver_laws.proofs.Instances.{HaveProperNodes, IsProperEntry}
use Rattle.cg_driver_laws.proofs.Proper.{AreProperParts, IsProper}
use Rattle.cg_driver_laws.proofs.ProperNodes.{HasProper}

-- ---- tables

abbrev HaveFields : List Tau → Type 0
HaveFields table = AllByRecursion HasFields table

one_behind : (table : List Tau) (t : Tau) → HaveFields table → HasFields t → HaveFields (table ++ t ∷ [])
one_behind [] t h p = (p, tt)
one_behind (u ∷ table) t h p = (h.0, one_behind table t h.1 p)

struct_fields : (table : List Tau) (t : Tau) → HaveFields table → HasFields t → HaveFields (with_struct table t)
struct_fields table t h p = either_way (λ b. HaveFields (if b then table else table ++ t ∷ [])) (is_in table (form t)) h (one_behind table t h p)

record_fields : (ps : Parts) → AreSome (part_names ps) → HasFields (plain (fields ps U))
unfolding plain
record_fields end h = absurd h
record_fields (part name t taken ps) h = tt

variant_fields : (ps : Parts) → HasFields (plain (variant ps))
unfolding plain
variant_fields ps = tt

mutual
  unfolding added

  added_fields : (t : Tau) (table : List Tau) → IsProper t → HaveFields table → HaveFields (added t table)
  added_fields (variant ps) table p h = struct_fields (added_parts ps table) (plain (variant ps)) (parts_fields ps table p.1 h) (variant_fields ps)
  added_fields (fields ps sigil) table p h = struct_fields (added_parts ps table) (plain (fields ps U)) (parts_fields ps table p.1 h) (record_fields ps p.0)
  added_fields (var n) table p h = h
  added_fields (seen n) table p h = h
  added_fields unit table p h = h
  added_fields (word w) table p h = h
  added_fields bool table p h = h
  added_fields (arrow a b) table p h = h
  added_fields (abs name ts sigil) table p h = h

  parts_fields : (ps : Parts) (table : List Tau) → AreProperParts ps → HaveFields table → HaveFields (added_parts ps table)
  parts_fields end table p h = h
  parts_fields (part name t taken ps) table p h = parts_fields ps (added t table) p.1 (added_fields t table p.0 h)

all_fields : (ts table : List Tau) → Each IsProper ts → HaveFields table → HaveFields (added_all ts table)
unfolding added_all
all_fields [] table p h = h
all_fields (t ∷ ts) table p h = all_fields ts (added t table) p.1 (added_fields t table p.0 h)

-- ---- the types of a copy

taken_proper : (t : Tau) → IsProper t → IsProper (taken_by t)
taken_proper (arrow a b) h = h.0
taken_proper _ h = tt

given_proper : (t : Tau) → IsProper t → IsProper (given_by t)
given_proper (arrow a b) h = h.1
given_proper _ h = tt

arrows_proper : (ts : List Tau) → Each IsProper ts → Each IsProper (parts_of_arrows ts)
arrows_proper [] h = tt
arrows_proper (t ∷ ts) h = (taken_proper t h.0, (given_proper t h.0, arrows_proper ts h.1))

fields_proper : (t : Tau) → IsProper t → AreProperParts (fields_in t)
fields_proper (fields ps sigil) h = h.1
fields_proper _ h = tt

part_proper : (i : ℕ) (ps : Parts) → AreProperParts ps → Each IsProper (part_types i ps)
part_proper i end h = tt
part_proper zero (part name t taken ps) h = (h.0, tt)
part_proper (suc i) (part name t taken ps) h = part_proper i ps h.1

turned_proper : (f : Fun) (t : Tau) → IsProper t → Each IsProper (turned_by f t)
turned_proper (User i) t h = tt
turned_proper (OfLib lib) t h =
    either_way (λ b. Each IsProper (if b then part_types 3 (fields_in (taken_by t)) else [])) (is_iterator lib) (part_proper 3 (fields_in (taken_by t)) (fields_proper (taken_by t) (taken_proper t h))) tt

types_at : (ts : List (Tree Note)) → Each HasProper ts → Each IsProper (map type_at ts)
types_at [] h = tt
types_at (t ∷ ts) h = (h.0, types_at ts h.1)

body_types : (o : Option (Tree Note)) → HaveProperNodes o → Each IsProper (map type_at (nodes_maybe o))
body_types None h = tt
body_types (Some c) h = types_at _ h

copy_proper : (c : Copy) → IsProperEntry c.1 → Each IsProper (types_of c)
copy_proper c h =
    each_both IsProper (parts_of_arrows (c.1.ty ∷ turned_by c.0.fun c.1.ty)) (map type_at (nodes_maybe c.1.body))
    (arrows_proper (c.1.ty ∷ turned_by c.0.fun c.1.ty) (h.ty, turned_proper c.0.fun c.1.ty h.ty)) (body_types c.1.body h.nodes)

copies_proper : (copies : List Copy) → Each (λ (c : Copy). IsProperEntry c.1) copies → Each IsProper (flat_map types_of copies)
copies_proper [] h = tt
copies_proper (c ∷ copies) h = each_both IsProper (types_of c) (flat_map types_of copies) (copy_proper c h.0) (copies_proper copies h.1)

-- the table of copies with proper types
pub have_fields : (copies : List Copy) → Each (λ (c : Copy). IsProperEntry c.1) copies → AllByRecursion HasFields (table_in copies)
have_fields copies h = all_fields (flat_map types_of copies) [] (copies_proper copies h) tt
