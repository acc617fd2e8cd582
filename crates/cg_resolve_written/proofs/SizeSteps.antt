-- Sizes of lists of written types, an item further, and of each of their items.
use Rattle.std.proofs.Common.{◌≡◌, ℕ, zero, suc, ◌+◌, ◌<◌, ◌≤◌, max, List, [], ◌∷◌, length, map, get_or, Option, Some, None, refl, ap, arith}
use Rattle.std.specs.Option.{option_map}
use Rattle.cg_core.specs.declared.at.At.{At}
use Rattle.cg_surface.specs.declared.written.STy.{STy, the_lemmas}
use Rattle.cg_surface.specs.declared.written.SPart.{SPart}
use Rattle.cg_surface.specs.declared.written.SAlt.{SAlt, out-SAlt}
use Rattle.cg_surface.specs.Written.{Written, Writtens, WrittenFields, WrittenAlts, written_of, field_of, alt_of, OneAlt, OneField, and_one, and_type, and_field, types_behind, fields_behind, alts_behind, to_types, to_fields, to_alts, types_none, fields_none, alts_none}
use Rattle.cg_surface.specs.Written as types
use Rattle.cg_resolve_def.specs.Expand.{Bodies}
use Rattle.cg_resolve_expand.proofs.TypeLists.{types_at, fields_at, alts_at}
use Rattle.cg_resolve_written.specs.Sizes.{greatest, greatest_alt, greatest_field, greatest_of, greatest_payload, payload_size, size, total_alts}
use Rattle.cg_surface.proofs.Views.{type_field_is, type_alt_is}

pub size-greatest : (known : Bodies) (t : Written) → size known t ≤ greatest known t
size-greatest known (types.named p n args) = omega arith
size-greatest known (types.nothing p) = omega arith
size-greatest known (types.tuple p ts) = omega arith
size-greatest known (types.paren p t) = size-greatest known t
size-greatest known (types.arrow p a b) = omega arith
size-greatest known (types.fields p boxed fs) = omega arith
size-greatest known (types.variant p choices) = omega arith
size-greatest known (types.bang p t) = size-greatest known t
size-greatest known (types.take_some p t ns) = size-greatest known t
size-greatest known (types.take_all p t q) = size-greatest known t

pub total_one : (known : Bodies) (choices : WrittenAlts) (at : At) (t : Option Written) → total_alts known (and_one choices at t) ≡ total_alts known choices + payload_size known t
total_one known choices at None = refl
total_one known choices at (Some t) = refl

pub greatest_one : (known : Bodies) (choices : WrittenAlts) (at : At) (t : Option Written) → greatest_alt known (and_one choices at t) ≡ max (greatest_alt known choices) (greatest_payload known t)
greatest_one known choices at None = omega arith
greatest_one known choices at (Some t) = refl

-- no item is larger than the greatest of its list
module _ (known : Bodies) where
  types_le : (before : Writtens) (ts : List Written) → greatest_of known before ≤ greatest_of known (types_behind before ts)
  types_le before [] = omega arith
  types_le before (t ∷ ts) = omega (arith, types_le (and_type before t) ts)

  in_types : (before : Writtens) (ts : List STy) (i : ℕ) (d : STy) → i < length ts → greatest known (written_of (get_or ts i d)) ≤ greatest_of known (types_behind before (map written_of ts))
  in_types before [] i d lt = absurd (omega arith)
  in_types before (t ∷ ts) zero d lt = omega (arith, types_le (and_type before (written_of t)) (map written_of ts))
  in_types before (t ∷ ts) (suc i) d lt = in_types (and_type before (written_of t)) ts i d (omega arith)

  fields_le : (before : WrittenFields) (fs : List OneField) → greatest_field known before ≤ greatest_field known (fields_behind before fs)
  fields_le before [] = omega arith
  fields_le before (f ∷ fs) = omega (arith, fields_le (and_field before f.at f.ty) fs)

  in_fields : (before : WrittenFields) (fs : List SPart) (i : ℕ) (d : SPart) → i < length fs → greatest known (written_of (get_or fs i d).ty) ≤ greatest_field known (fields_behind before (map field_of fs))
  in_fields before [] i d lt = absurd (omega arith)
  in_fields before (f ∷ fs) zero d lt =
      let g : OneField = field_of f in
      omega (arith, fields_le (and_field before g.at g.ty) (map field_of fs), ap (λ (h : OneField). greatest known h.ty) (type_field_is f))
  in_fields before (f ∷ fs) (suc i) d lt = in_fields (and_field before (field_of f).at (field_of f).ty) fs i d (omega arith)

  alts_le : (before : WrittenAlts) (choices : List OneAlt) → greatest_alt known before ≤ greatest_alt known (alts_behind before choices)
  alts_le before [] = omega arith
  alts_le before (a ∷ choices) = omega (arith, alts_le (and_one before a.at a.ty) choices, greatest_one known before a.at a.ty)

  in_alts : (before : WrittenAlts) (choices : List SAlt) (i : ℕ) (d : SAlt) → i < length choices
      → greatest_payload known (option_map written_of (out-SAlt (get_or choices i d)).ty) ≤ greatest_alt known (alts_behind before (map alt_of choices))
  in_alts before [] i d lt = absurd (omega arith)
  in_alts before (a ∷ choices) zero d lt =
      let b : OneAlt = alt_of a in
      omega (arith, alts_le (and_one before b.at b.ty) (map alt_of choices), greatest_one known before b.at b.ty, ap (λ (c : OneAlt). greatest_payload known c.ty) (type_alt_is a))
  in_alts before (a ∷ choices) (suc i) d lt = in_alts (and_one before (alt_of a).at (alt_of a).ty) choices i d (omega arith)

  -- each says first that the item is itself, so that `grind` finds it where the item is read
  pub type_within : (ts : List STy) (i : ℕ) (d : STy) → i < length ts → (get_or ts i d ≡ get_or ts i d) × (greatest known (written_of (get_or ts i d)) ≤ greatest_of known (to_types (map written_of ts)))
  unfolding to_types
  type_within ts i d lt = (refl, in_types types.no_types ts i d lt)

  pub field_within : (fs : List SPart) (i : ℕ) (d : SPart) → i < length fs → (get_or fs i d ≡ get_or fs i d) × (greatest known (written_of (get_or fs i d).ty) ≤ greatest_field known (to_fields (map field_of fs)))
  unfolding to_fields
  field_within fs i d lt = (refl, in_fields types.no_fields fs i d lt)

  pub alt_within : (choices : List SAlt) (i : ℕ) (d : SAlt) → i < length choices → (get_or choices i d ≡ get_or choices i d)
      × (greatest_payload known (option_map written_of (out-SAlt (get_or choices i d)).ty) ≤ greatest_alt known (to_alts (map alt_of choices)))
  unfolding to_alts
  alt_within choices i d lt = (refl, in_alts types.no_alts choices i d lt)

pub ruleset size_steps = (types_at, fields_at, alts_at, types_none, fields_none, alts_none, size-greatest, total_one, greatest_one, type_within, field_within, alt_within, the_lemmas)
