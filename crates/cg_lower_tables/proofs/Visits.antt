-- What stands for types, and the structs of types that are added.
use Rattle.std.proofs.Common.{◌≡◌, ℕ, suc, ◌+◌, ◌<◌, ◌≤◌, Bool, true, false, List, [], ◌∷◌, ◌++◌, length, map, take, get_or, slice_get, Some, refl, sym, ap, ◌∙◌, subst, arith}
use Rattle.std.proofs.lemmas.List.{length-map, length-take, map-append, take_more}
use Rattle.cg_base.specs.declared.kind.Sigil.{Sigil}
use Rattle.cg_base.specs.declared.kind.Sigil.TheVariants.{R, W, U}
use Rattle.cg_base.specs.declared.kind.Word.{Word}
use Rattle.cg_base.specs.Types.{Tau, word, abs, variant, fields, Parts, end, part, Piece, to_parts}
use Rattle.cg_base.specs.declared.ty.Part.{Part, the_lemmas}
use Rattle.cg_base.specs.declared.ty.Ty.TheVariants as tys
use Rattle.cg_base.specs.Types.{part_of, type_of}
use Rattle.cg_base.proofs.Views.{piece_of}
use Rattle.cg_ctree.specs.declared.tree.CTy.TheVariants as ty
use Rattle.cg_kinds.specs.Kinds.{subst as subst_of}
use Rattle.cg_inst.proofs.Standing.{stays_at}
use Rattle.cg_cgen_def.specs.Names.{struct_name}
use Rattle.cg_lower_def.specs.CTypes.{c_type, count, form, form_parts}
use Rattle.cg_lower_def.specs.Structs.{AreCovered, HasBelow, IsCovered, is_in, numbered_in, StandBelow}
use Rattle.cg_inst_types.specs.Places.{Keeps, type_at}
use Rattle.cg_lower_tables.specs.declared.host.Host.{Host}
use Rattle.cg_lower_tables.specs.declared.host.Host.TheVariants as host
use Rattle.cg_lower_tables.specs.declared.members.Member.{Member}
use Rattle.cg_lower_tables.specs.declared.members.Shape.TheVariants as shape
use Rattle.cg_lower_tables.specs.Added.{added, added_parts, with_struct}
use Rattle.cg_lower_tables.specs.Plain.{host_of, host_plain, plain, plain_parts}
use Rattle.cg_lower_tables.specs.Tables.{AreMembers, IsFor, IsMember, parts_at}
use Rattle.cg_lower_tables.proofs.Growth.{is_plain, members_more, members_plain, members_stay, parts_are}
use Rattle.cg_lower_tables.proofs.Numbers.{all_covered_stay, below_in}
use Rattle.cg_lower_tables.proofs.Plains.{c_host, c_plain, form_plain, parts_plain}
use Rattle.cg_inst_types.proofs.Growth.{at_type}

-- ---- what stands for a type

module _ (types : List Tau) (at : ℕ) where
  pub word_member : (w : Word) → slice_get types at ≡ Some (word w) → (t : Tau) → plain t ≡ word w → IsMember types (record { at = at; shape = shape.Word w }) t
  word_member w e t p = record { place = e ∙ ap Some (sym p); to = tt; seen = λ numbered. sym (c_plain numbered t) ∙ ap (c_type numbered) p }

  pub host_member : (h : Host) → slice_get types at ≡ Some (host_plain h) → (t : Tau) → plain t ≡ host_plain h → IsMember types (record { at = at; shape = shape.Abstract h }) t
  host_member h e t p = record { place = e ∙ ap Some (sym p); to = tt; seen = λ numbered. sym (c_plain numbered t) ∙ ap (c_type numbered) p ∙ c_host numbered h }

  -- the form of the type at its place
  pub form_at : (t : Tau) → slice_get types at ≡ Some (plain t) → form (type_at types at) ≡ form t
  form_at t e = ap form (at_type types at (plain t) e) ∙ form_plain t

  pub variant_member : (ps : Parts) → slice_get types at ≡ Some (plain (variant ps)) → IsMember types (record { at = at; shape = shape.Struct }) (variant ps)
  unfolding form
  variant_member ps e = record { place = e; to = tt; seen = λ numbered. ap (λ f. ty.Struct (struct_name (numbered f))) (sym (form_at (variant ps) e)) }

  pub record_member : (ps : Parts) → slice_get types at ≡ Some (plain (fields ps U)) → IsMember types (record { at = at; shape = shape.Struct }) (fields ps U)
  unfolding form
  record_member ps e = record { place = e; to = tt; seen = λ numbered. ap (λ f. ty.Struct (struct_name (numbered f))) (sym (form_at (fields ps U) e)) }

  module _ (boxed : ℕ) (ps : Parts) (e : slice_get types at ≡ Some (plain (fields ps U))) where
    pointer_seen : (numbered : Tau → ℕ) → ty.Pointer (struct_name (numbered (form (fields ps U)))) ≡ ty.Pointer (struct_name (numbered (form (type_at types at))))
    pointer_seen numbered = ap (λ f. ty.Pointer (struct_name (numbered f))) (sym (form_at (fields ps U) e))

    pub written_member : slice_get types boxed ≡ Some (plain (fields ps W)) → IsMember types (record { at = boxed; shape = shape.Pointer at }) (fields ps W)
    unfolding form
    written_member f = record { place = f; to = is_plain types at (fields ps U) e; seen = pointer_seen }

    pub read_member : slice_get types boxed ≡ Some (plain (fields ps W)) → IsMember types (record { at = boxed; shape = shape.Pointer at }) (fields ps R)
    unfolding form plain
    read_member f = record { place = f; to = is_plain types at (fields ps U) e; seen = pointer_seen }

    pub boxed_member : slice_get types boxed ≡ Some (plain (fields ps W)) → (sigil : Sigil) → (sigil ≡ U → ⊥) → IsMember types (record { at = boxed; shape = shape.Pointer at }) (fields ps sigil)
    boxed_member f sigil = by_sigil sigil
      where
        by_sigil : (sigil : Sigil) → (sigil ≡ U → ⊥) → IsMember types (record { at = boxed; shape = shape.Pointer at }) (fields ps sigil)
        by_sigil U = λ no. absurd (no refl)
        by_sigil R = λ no. read_member f
        by_sigil W = λ no. written_member f

pub word_is : (w : Word) → type_of (tys.Word w) ≡ word w
word_is w = search the_lemmas

-- the type that stands for abstract ones has no type variables
pub closed_host : (h : Host) → subst_of [] (host_plain h) ≡ host_plain h
unfolding subst_of
closed_host host.System = refl
closed_host (host.Array w) = refl
closed_host host.Foreign = refl

pub place_stays : (old new : List Tau) → Keeps old new → (at : ℕ) (t : Tau) → slice_get old at ≡ Some t → slice_get new at ≡ Some t
place_stays old new kept at t e = stays_at old new kept at t e

-- ---- parts, one after the other

cover_more : (table : List Tau) (ps : List Piece) (p : Piece) → AreCovered table (to_parts ps) → IsCovered table p.ty → AreCovered table (to_parts (ps ++ p ∷ []))
unfolding to_parts IsCovered
cover_more table [] p are is = (is, tt)
cover_more table (q ∷ ps) p are is = (are.0, cover_more table ps p are.1 is)

grow_more : (table : List Tau) (ps : List Piece) (p : Piece) → added p.ty (added_parts (to_parts ps) table) ≡ added_parts (to_parts (ps ++ p ∷ [])) table
unfolding to_parts added
grow_more table [] p = refl
grow_more table (q ∷ ps) p = grow_more (added q.ty table) ps p

module _ (old new : List Tau) (kept : Keeps old new) (xs : List Part) (i : ℕ) (x : Part) (within : i < length xs) (is : x ≡ get_or xs i x) where
  taken_more : map part_of (take (i + 1) xs) ≡ map part_of (take i xs) ++ part_of x ∷ []
  taken_more = ap (map part_of) (take_more xs i x within ∙ ap (λ y. take i xs ++ y ∷ []) (sym is)) ∙ map-append part_of (take i xs) (x ∷ [])

  pub visited_more : (ms : List Member) (m : Member) → AreMembers old ms (to_parts (map part_of (take i xs))) → IsMember new m (type_of x.ty) → AreMembers new (ms ++ m ∷ []) (to_parts (map part_of (take (i + 1) xs)))
  visited_more ms m are is_m =
      subst (λ ps. AreMembers new (ms ++ m ∷ []) (to_parts ps)) (sym taken_more)
      (members_more new ms m (map part_of (take i xs)) (part_of x) (members_stay old new kept ms (to_parts (map part_of (take i xs))) are)
      (subst (λ p. IsMember new m p.ty) (sym (piece_of x)) is_m))

  pub covered_more : AreCovered old (to_parts (map part_of (take i xs))) → IsCovered new (type_of x.ty) → AreCovered new (to_parts (map part_of (take (i + 1) xs)))
  covered_more are covered =
      subst (λ ps. AreCovered new (to_parts ps)) (sym taken_more)
      (cover_more new (map part_of (take i xs)) (part_of x) (all_covered_stay old new kept (to_parts (map part_of (take i xs))) are) (subst (λ p. IsCovered new p.ty) (sym (piece_of x)) covered))

  pub grown_more : (start : List Tau) → old ≡ added_parts (to_parts (map part_of (take i xs))) start → new ≡ added (type_of x.ty) old
      → new ≡ added_parts (to_parts (map part_of (take (i + 1) xs))) start
  grown_more start e f =
      f ∙ ap (added (type_of x.ty)) e ∙ ap (λ p. added p.ty (added_parts (to_parts (map part_of (take i xs))) start)) (sym (piece_of x))
      ∙ grow_more start (map part_of (take i xs)) (part_of x) ∙ ap (λ ps. added_parts (to_parts ps) start) (sym taken_more)

-- as many stand for parts as there are
as_many : (types : List Tau) (ms : List Member) (ps : Parts) → AreMembers types ms ps → count ps ≡ length ms
unfolding count
as_many types [] end are = refl
as_many types [] (part x t taken ps) are = absurd are
as_many types (m ∷ ms) end are = absurd are
as_many types (m ∷ ms) (part x t taken ps) are = ap suc (as_many types ms ps are.1)

pub few_parts : (types : List Tau) (ms : List Member) (ps : Parts) → AreMembers types ms ps → length ms ≤ 4294967296 → count ps ≤ 4294967296
few_parts types ms ps are few = let same = as_many types ms ps are in omega (arith, same, few)

count_parts : (ps : List Piece) → count (to_parts ps) ≡ length ps
unfolding count to_parts
count_parts [] = refl
count_parts (p ∷ ps) = ap suc (count_parts ps)

-- as many stand for the first so many parts
pub few_visited : (types : List Tau) (ms : List Member) (xs : List Part) (i : ℕ) → AreMembers types ms (to_parts (map part_of (take i xs))) → length xs ≤ 4294967296 → length ms ≤ 4294967296
few_visited types ms xs i are few =
    let same = as_many types ms (to_parts (map part_of (take i xs))) are in
    let counted = count_parts (map part_of (take i xs)) in
    let mapped = length-map (take i xs) part_of in
    let taken = length-take i xs in
    let most : length (take i xs) ≤ length xs = grind arith in
    omega (arith, same, counted, mapped, most, few)

-- ---- structs

-- an abstract type is no struct
skip_host : (table : List Tau) (i : ℕ) (x : List ℕ) (h : Host) (taken : Bool) (ps : Parts) → StandBelow table i ps → StandBelow table i (part x (host_plain h) taken ps)
unfolding StandBelow
skip_host table i x host.System taken ps h = h
skip_host table i x (host.Array w) taken ps h = h
skip_host table i x host.Foreign taken ps h = h

-- the structs of parts that are covered stand below the end
stand_below : (table : List Tau) (ps : Parts) → AreCovered table ps → StandBelow table (length table) (plain_parts ps)
unfolding StandBelow IsCovered plain
stand_below table end h = tt
stand_below table (part x (variant qs) taken ps) h =
    (subst (λ rs. numbered_in table (variant rs) < length table) (sym (parts_plain qs)) (below_in table (variant (form_parts qs)) h.0.0), stand_below table ps h.1)
stand_below table (part x (fields qs U) taken ps) h =
    (subst (λ rs. numbered_in table (fields rs U) < length table) (sym (parts_plain qs)) (below_in table (fields (form_parts qs) U) h.0.0), stand_below table ps h.1)
stand_below table (part x (fields qs R) taken ps) h = stand_below table ps h.1
stand_below table (part x (fields qs W) taken ps) h = stand_below table ps h.1
stand_below table (part x (abs y args sigil) taken ps) h = skip_host table (length table) [] (host_of y args) false (plain_parts ps) (stand_below table ps h.1)
stand_below table (part x t taken ps) h = stand_below table ps h.1

-- a layer over what stands for parts, of types that have grown since
module _ (old new : List Tau) (kept : Keeps old new) (ms : List Member) (ps : Parts) (are : AreMembers old ms ps) (at : ℕ) where
  pub variant_at : slice_get new at ≡ Some (variant (parts_at old ms)) → slice_get new at ≡ Some (plain (variant ps))
  unfolding plain
  variant_at e = e ∙ ap (λ qs. Some (variant qs)) (parts_are old ms ps are)

  pub record_at : slice_get new at ≡ Some (fields (parts_at old ms) U) → slice_get new at ≡ Some (plain (fields ps U))
  unfolding plain
  record_at e = e ∙ ap (λ qs. Some (fields qs U)) (parts_are old ms ps are)

  pub boxed_at : slice_get new at ≡ Some (fields (parts_at old ms) W) → slice_get new at ≡ Some (plain (fields ps W))
  unfolding plain
  boxed_at e = e ∙ ap (λ qs. Some (fields qs W)) (parts_are old ms ps are)

  pub for_variant : slice_get new at ≡ Some (plain (variant ps)) → IsFor new (record { is_variant = true; members = ms }) (type_at new at)
  unfolding plain
  for_variant e =
      subst (IsFor new (record { is_variant = true; members = ms })) (sym (at_type new at (variant (plain_parts ps)) e)) (refl, members_plain new ms ps (members_stay old new kept ms ps are))

  pub for_record : slice_get new at ≡ Some (plain (fields ps U)) → IsFor new (record { is_variant = false; members = ms }) (type_at new at)
  unfolding plain
  for_record e =
      subst (IsFor new (record { is_variant = false; members = ms })) (sym (at_type new at (fields (plain_parts ps) U) e)) (refl, members_plain new ms ps (members_stay old new kept ms ps are))

module _ (types : List Tau) (table : List Tau) (ps : Parts) (at : ℕ) where
  pub variant_below : slice_get types at ≡ Some (plain (variant ps)) → AreCovered table ps → HasBelow table (length table) (type_at types at)
  unfolding plain
  variant_below e h = subst (HasBelow table (length table)) (sym (at_type types at (variant (plain_parts ps)) e)) (stand_below table ps h)

  pub record_below : slice_get types at ≡ Some (plain (fields ps U)) → AreCovered table ps → HasBelow table (length table) (type_at types at)
  unfolding plain
  record_below e h = subst (HasBelow table (length table)) (sym (at_type types at (fields (plain_parts ps) U) e)) (stand_below table ps h)

  module _ (start new : List Tau) (e : table ≡ added_parts ps start) (f : new ≡ with_struct table (type_at types at)) where
    pub variant_grown : slice_get types at ≡ Some (plain (variant ps)) → new ≡ added (variant ps) start
    unfolding added
    variant_grown there = f ∙ ap (with_struct table) (at_type types at (plain (variant ps)) there) ∙ ap (λ ts. with_struct ts (plain (variant ps))) e

    pub record_grown : (sigil : Sigil) → slice_get types at ≡ Some (plain (fields ps U)) → new ≡ added (fields ps sigil) start
    unfolding added
    record_grown sigil there = f ∙ ap (with_struct table) (at_type types at (plain (fields ps U)) there) ∙ ap (λ ts. with_struct ts (plain (fields ps U))) e

  module _ (new : List Tau) (kept : Keeps table new) (h : AreCovered table ps) (few : count ps ≤ 4294967296) where
    pub variant_covered : slice_get types at ≡ Some (plain (variant ps)) → is_in new (form (type_at types at)) ≡ true → IsCovered new (variant ps)
    unfolding form IsCovered
    variant_covered e held = (subst (λ f. is_in new f ≡ true) (form_at types at (variant ps) e) held, few, all_covered_stay table new kept ps h)

    pub record_covered : (sigil : Sigil) → slice_get types at ≡ Some (plain (fields ps U)) → is_in new (form (type_at types at)) ≡ true → IsCovered new (fields ps sigil)
    unfolding form IsCovered
    record_covered sigil e held = (subst (λ f. is_in new f ≡ true) (form_at types at (fields ps U) e) held, few, all_covered_stay table new kept ps h)

pub ruleset visit_steps = (the_lemmas)
