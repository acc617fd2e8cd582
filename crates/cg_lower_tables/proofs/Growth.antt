-- What stays as tables of types grow.
use Rattle.std.proofs.Common.{◌≡◌, ℕ, zero, suc, ◌+◌, List, [], ◌∷◌, ◌++◌, length, slice_get, Some, refl, sym, ap, ◌∙◌, subst, arith}
use Rattle.cg_base.specs.Types.{Tau, variant, fields, Parts, end, part, Piece, to_parts}
use Rattle.cg_ctree.specs.declared.tree.CTy.TheVariants as ty
use Rattle.cg_cgen_def.specs.Names.{declared, name, struct_name}
use Rattle.cg_lower_def.specs.CTypes.{form, members_from}
use Rattle.cg_lower_def.specs.Structs.{HasBelow}
use Rattle.cg_inst.proofs.Standing.{stays_at}
use Rattle.cg_inst_types.specs.Places.{Keeps, type_at}
use Rattle.cg_lower_tables.specs.declared.members.Member.{Member}
use Rattle.cg_lower_tables.specs.declared.members.Row.{Row}
use Rattle.cg_lower_tables.specs.declared.members.Shape.{Shape}
use Rattle.cg_lower_tables.specs.declared.members.Shape.TheVariants as shape
use Rattle.cg_lower_tables.specs.Plain.{plain, plain_parts}
use Rattle.cg_lower_tables.specs.Tables.{AreMembers, IsFor, IsMember, IsPlainAt, IsRow, IsSound, PointsTo, declared_from, parts_at, shown, table_of}
use Rattle.cg_lower_tables.proofs.Plains.{c_plain, plain_twice}
use Rattle.cg_inst_types.proofs.Growth.{at_type}

-- where a type stands that stands for a form, it stands for its own
pub is_plain : (types : List Tau) (i : ℕ) (t : Tau) → slice_get types i ≡ Some (plain t) → IsPlainAt types i
is_plain types i t e = e ∙ ap Some (sym (ap plain (at_type types i (plain t) e) ∙ plain_twice t))

module _ (old new : List Tau) (kept : Keeps old new) where
  pub type_stays : (i : ℕ) → IsPlainAt old i → type_at new i ≡ type_at old i
  type_stays i p = at_type new i _ (stays_at old new kept i _ p) ∙ sym (at_type old i _ p)

  pub plain_stays : (i : ℕ) → IsPlainAt old i → IsPlainAt new i
  plain_stays i p = stays_at old new kept i _ p ∙ ap (λ t. Some (plain t)) (sym (type_stays i p))

  to_stays : (s : Shape) → PointsTo old s → PointsTo new s
  to_stays (shape.Word w) p = tt
  to_stays (shape.Abstract h) p = tt
  to_stays shape.Struct p = tt
  to_stays (shape.Pointer to) p = plain_stays to p

  pub shown_stays : (numbered : Tau → ℕ) (i : ℕ) (s : Shape) → IsPlainAt old i → PointsTo old s → shown new numbered i s ≡ shown old numbered i s
  shown_stays numbered i (shape.Word w) p q = refl
  shown_stays numbered i (shape.Abstract h) p q = refl
  shown_stays numbered i shape.Struct p q = ap (λ t. ty.Struct (struct_name (numbered (form t)))) (type_stays i p)
  shown_stays numbered i (shape.Pointer to) p q = ap (λ t. ty.Pointer (struct_name (numbered (form t)))) (type_stays to q)

  pub member_stays : (m : Member) (t : Tau) → IsMember old m t → IsMember new m t
  member_stays m t is = record {
    place = stays_at old new kept m.at _ is.place;
    to = to_stays m.shape is.to;
    seen = λ numbered. is.seen numbered ∙ sym (shown_stays numbered m.at m.shape (is_plain old m.at t is.place) is.to);
  }

  pub members_stay : (ms : List Member) (ps : Parts) → AreMembers old ms ps → AreMembers new ms ps
  members_stay [] end are = tt
  members_stay [] (part x t taken ps) are = absurd are
  members_stay (m ∷ ms) end are = absurd are
  members_stay (m ∷ ms) (part x t taken ps) are = (member_stays m t are.0, members_stay ms ps are.1)

  for_stays : (row : Row) (t : Tau) → IsFor old row t → IsFor new row t
  for_stays row (variant ps) is = (is.0, members_stay row.members ps is.1)
  for_stays row (fields ps sigil) is = (is.0, members_stay row.members ps is.1)
  for_stays row _ is = absurd is

  table_stays_by : (rows : List (ℕ × Row)) → ((i : ℕ) (r : ℕ × Row) → slice_get rows i ≡ Some r → IsPlainAt old r.0) → table_of new rows ≡ table_of old rows
  table_stays_by [] each = refl
  table_stays_by (r ∷ rows) each = let first = type_stays r.0 (each zero r refl) in let rest = table_stays_by rows (λ i q e. each (suc i) q e) in cc

  module _ (rows : List (ℕ × Row)) (sound : IsSound old rows) where
    -- the structs are for the same types
    pub table_stays : table_of new rows ≡ table_of old rows
    table_stays = table_stays_by rows (λ i r e. (sound.each i r e).plain)

    -- and the table stays sound
    pub sound_stays : IsSound new rows
    sound_stays = record {
      few = sound.few;
      each = λ i r e.
          let is = sound.each i r e in
          let same = sym (type_stays r.0 is.plain) in
          subst (λ ts. IsRow new ts i r) (sym table_stays) (record {
            plain = plain_stays r.0 is.plain;
            for_type = subst (IsFor new r.1) same (for_stays r.1 (type_at old r.0) is.for_type);
            below = subst (λ t. HasBelow (table_of old rows) i t) same is.below;
          });
    }

-- ---- members

module _ (types : List Tau) where
  -- what stands for a type stands for the one that stands for its form
  member_plain : (m : Member) (t : Tau) → IsMember types m t → IsMember types m (plain t)
  member_plain m t is = record {
    place = is.place ∙ ap Some (sym (plain_twice t));
    to = is.to;
    seen = λ numbered. c_plain numbered t ∙ is.seen numbered;
  }

  pub members_plain : (ms : List Member) (ps : Parts) → AreMembers types ms ps → AreMembers types ms (plain_parts ps)
  unfolding plain
  members_plain [] end are = tt
  members_plain [] (part x t taken ps) are = absurd are
  members_plain (m ∷ ms) end are = absurd are
  members_plain (m ∷ ms) (part x t taken ps) are = (member_plain m t are.0, members_plain ms ps are.1)

  -- the parts that they stand for
  pub parts_are : (ms : List Member) (ps : Parts) → AreMembers types ms ps → parts_at types ms ≡ plain_parts ps
  unfolding plain
  parts_are [] end are = refl
  parts_are [] (part x t taken ps) are = absurd are
  parts_are (m ∷ ms) end are = absurd are
  parts_are (m ∷ ms) (part x t taken ps) are = let first = at_type types m.at (plain t) are.0.place in let rest = parts_are ms ps are.1 in cc

  -- one more
  pub members_more : (ms : List Member) (m : Member) (ps : List Piece) (p : Piece) → AreMembers types ms (to_parts ps) → IsMember types m p.ty → AreMembers types (ms ++ m ∷ []) (to_parts (ps ++ p ∷ []))
  unfolding to_parts
  members_more [] m [] p are is = (is, tt)
  members_more [] m (q ∷ ps) p are is = absurd are
  members_more (n ∷ ms) m [] p are is = absurd are
  members_more (n ∷ ms) m (q ∷ ps) p are is = (are.0, members_more ms m ps p are.1 is)

  -- what is declared for them are the members for the parts
  pub declared_are : (numbered : Tau → ℕ) (letter i : ℕ) (ms : List Member) (ps : Parts) → AreMembers types ms ps → members_from numbered letter i ps ≡ declared_from types numbered letter i ms
  declared_are numbered letter i [] end are = refl
  declared_are numbered letter i [] (part x t taken ps) are = absurd are
  declared_are numbered letter i (m ∷ ms) end are = absurd are
  declared_are numbered letter i (m ∷ ms) (part x t taken ps) are =
      let first = are.0.seen numbered in let rest = declared_are numbered letter (suc i) ms ps are.1 in cc

  pub declared_more : (numbered : Tau → ℕ) (letter i : ℕ) (ms : List Member) (m : Member) → declared_from types numbered letter i (ms ++ m ∷ [])
      ≡ declared_from types numbered letter i ms ++ declared (shown types numbered m.at m.shape) (name letter (i + length ms)) ∷ []
  declared_more numbered letter i [] m = let same : i + 0 ≡ i = omega arith in ap (λ k. declared (shown types numbered m.at m.shape) (name letter k) ∷ []) (sym same)
  declared_more numbered letter i (n ∷ ms) m =
      let next : suc i + length ms ≡ i + suc (length ms) = omega arith in
      ap (λ ds. declared (shown types numbered n.at n.shape) (name letter i) ∷ ds) (declared_more numbered letter (suc i) ms m
      ∙ ap (λ k. declared_from types numbered letter (suc i) ms ++ declared (shown types numbered m.at m.shape) (name letter k) ∷ []) next)
