-- Declarations of structs.
use Rattle.std.proofs.Common.{◌≡◌, ℕ, zero, suc, ◌+◌, ◌<◌, ◌≤◌, true, false, List, [], ◌∷◌, ◌++◌, length, take, get_or, refl, sym, ap, ◌∙◌, append_assoc, arith}
use Rattle.std.proofs.lemmas.List.{length-take, take_all, take_more}
use Rattle.std.specs.Prelude.{Result, Ok, Err, IfOk}
use Rattle.cg_base.specs.declared.ty.Part.{the_lemmas}
use Rattle.cg_base.specs.declared.kind.Word.TheVariants.{U32}
use Rattle.cg_base.specs.Types.{Tau, variant, fields, Parts, end, part}
use Rattle.cg_ctree.specs.declared.tree.CDecl.{CDecl}
use Rattle.cg_ctree.specs.declared.tree.CStruct.{CStruct}
use Rattle.cg_ctree.specs.declared.tree.CTy.{CTy}
use Rattle.cg_ctree.specs.declared.tree.CTy.TheVariants as ty
use Rattle.cg_cgen_def.specs.Names.{declared, name, struct_name, tag_name}
use Rattle.cg_lower_def.specs.Structs.{numbered_in, struct_members, structs_from, structs_in}
use Rattle.cg_inst_types.specs.Places.{type_at}
use Rattle.cg_lower_tables.specs.declared.members.Member.{Member}
use Rattle.cg_lower_tables.specs.declared.members.Row.{Row}
use Rattle.cg_lower_tables.specs.Tables.{AreMembers, IsFor, IsMember, IsPlainAt, PointsTo, declared_from, shown, struct_at}
use Rattle.cg_lower_tables.proofs.Growth.{declared_are, declared_more, is_plain}

-- what stands for a type has places of types that stand for forms
pub at_plain : (types : List Tau) (m : Member) (t : Tau) → IsMember types m t → IsPlainAt types m.at
at_plain types m t is = is_plain types m.at t is.place

pub members_at : (types : List Tau) (ms : List Member) (ps : Parts) → AreMembers types ms ps → (i : ℕ) (d : Member) → i < length ms → IsPlainAt types (get_or ms i d).at × PointsTo types (get_or ms i d).shape
members_at types [] ps are i d h = absurd (omega (arith, h))
members_at types (m ∷ ms) end are i d h = absurd are
members_at types (m ∷ ms) (part x t taken ps) are zero d h = (at_plain types m t are.0, are.0.to)
members_at types (m ∷ ms) (part x t taken ps) are (suc i) d h = members_at types ms ps are.1 i d (omega (arith, h))

-- one member more
pub declared_next : (types : List Tau) (numbered : Tau → ℕ) (letter : ℕ) (ms : List Member) (i : ℕ) (m : Member) → i < length ms
    → declared_from types numbered letter zero (take (i + 1) ms)
    ≡ declared_from types numbered letter zero (take i ms) ++ declared (shown types numbered (get_or ms i m).at (get_or ms i m).shape) (name letter i) ∷ []
declared_next types numbered letter ms i m h =
    let taken = length-take i ms in
    let count : 0 + length (take i ms) ≡ i = grind arith in
    ap (declared_from types numbered letter zero) (take_more ms i m h) ∙ declared_more types numbered letter zero (take i ms) (get_or ms i m)
    ∙ ap (λ k. declared_from types numbered letter zero (take i ms) ++ declared (shown types numbered (get_or ms i m).at (get_or ms i m).shape) (name letter k) ∷ []) count

pub declared_pushed : (types : List Tau) (numbered : Tau → ℕ) (letter : ℕ) (ms : List Member) (i : ℕ) (m : Member) (old ds new : List CDecl) (t : CTy) (x : List ℕ) → i < length ms
    → new ≡ ds ++ declared t x ∷ [] → ds ≡ old ++ declared_from types numbered letter zero (take i ms) → t ≡ shown types numbered (get_or ms i m).at (get_or ms i m).shape → x ≡ name letter i
    → new ≡ old ++ declared_from types numbered letter zero (take (i + 1) ms)
declared_pushed types numbered letter ms i m old ds new t x h e f g k =
    let before = declared_from types numbered letter zero (take i ms) in
    e ∙ (λ j. f j ++ declared (g j) (k j) ∷ []) ∙ append_assoc old before (declared (shown types numbered (get_or ms i m).at (get_or ms i m).shape) (name letter i) ∷ [])
    ∙ ap (λ rest. old ++ rest) (sym (declared_next types numbered letter ms i m h))

-- ---- the members of a struct

module _ (types table : List Tau) (row : Row) where
  pub some_parts : (t : Tau) → IsFor types row t → (ps : Parts) × AreMembers types row.members ps
  some_parts (variant ps) is = (ps, is.1)
  some_parts (fields ps sigil) is = (ps, is.1)
  some_parts _ is = absurd is

  pub of_variant : row.is_variant ≡ true → (ds : List CDecl) → ds ≡ declared (ty.Word U32) tag_name ∷ declared_from types (numbered_in table) 97 zero row.members → (t : Tau) → IsFor types row t → ds ≡ struct_members table t
  of_variant e ds f (variant ps) is = f ∙ ap (λ rest. declared (ty.Word U32) tag_name ∷ rest) (sym (declared_are types (numbered_in table) 97 zero row.members ps is.1))
  of_variant e ds f (fields ps sigil) is = let p = is.0 in absurd (cc)
  of_variant e ds f _ is = absurd is

  pub of_record : row.is_variant ≡ false → (ds : List CDecl) → ds ≡ declared_from types (numbered_in table) 109 zero row.members → (t : Tau) → IsFor types row t → ds ≡ struct_members table t
  of_record e ds f (variant ps) is = let p = is.0 in absurd (cc)
  of_record e ds f (fields ps sigil) is = f ∙ sym (declared_are types (numbered_in table) 109 zero row.members ps is.1)
  of_record e ds f _ is = absurd is

-- ---- the structs of a table

module _ (table : List Tau) where
  from_at : (k : ℕ) (ts : List Tau) (i : ℕ) (d : CStruct) → i < length ts → get_or (structs_from table k ts) i d ≡ record { name = struct_name (k + i); members = struct_members table (type_at ts i) }
  from_at k [] i d h = absurd (omega (arith, h))
  from_at k (t ∷ ts) zero d h = let same : k ≡ k + 0 = omega arith in ap (λ n. record { name = struct_name n; members = struct_members table t }) same
  from_at k (t ∷ ts) (suc i) d h =
      let next : suc k + i ≡ k + suc i = omega arith in
      from_at (suc k) ts i d (omega (arith, h)) ∙ ap (λ n. record { name = struct_name n; members = struct_members table (type_at ts i) }) next

  from_length : (k : ℕ) (ts : List Tau) → length (structs_from table k ts) ≡ length ts
  from_length k [] = refl
  from_length k (t ∷ ts) = ap suc (from_length (suc k) ts)

  -- one struct more
  pub structs_next : (i : ℕ) → i < length table → take (i + 1) (structs_in table) ≡ take i (structs_in table) ++ struct_at table i ∷ []
  structs_next i h =
      let same : 0 + i ≡ i = omega arith in
      take_more (structs_in table) i (struct_at table i) (omega (arith, h, from_length zero table))
      ∙ ap (λ s. take i (structs_in table) ++ s ∷ []) (from_at zero table i (struct_at table i) h ∙ ap (λ n. record { name = struct_name n; members = struct_members table (type_at table i) }) same)

  pub structs_all : (i : ℕ) → length table ≤ i → take i (structs_in table) ≡ structs_in table
  structs_all i h = take_all i (structs_in table) (omega (arith, h, from_length zero table))

abbrev pub named : List ℕ → List CDecl → CStruct
named x ds = record { name = x; members = ds }

pub struct_is : (table : List Tau) (i : ℕ) (x : List ℕ) (ds : List CDecl) → x ≡ struct_name i → ds ≡ struct_members table (type_at table i)
    → named x ds ≡ struct_at table i
struct_is table i x ds e f = (λ k. named (e k) (f k))

-- what follows of members that are given
pub members_of : {E : Type 0} (r : Result (List CDecl) E) (P Q : List CDecl → Type 0) → ((ds : List CDecl) → P ds → Q ds) → IfOk r P → IfOk r Q
members_of (Ok ds) P Q f p = f ds p
members_of (Err e) P Q f p = tt

pub ruleset declared_steps = (the_lemmas)
