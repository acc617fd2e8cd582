-- A lawful type without type variables, functions, users' abstract types and arrays of anything but words is first order.
use Rattle.std.proofs.Common.{◌≡◌, ◌⊎◌, inl, inr, ⊎_elim, ℕ, Bool, true, false, ◌&&◌, ◌||◌, not, List, codes, refl, sym, ap, ◌∙◌, arith}
use Rattle.std.proofs.lemmas.Bool.{and_from, and_parts, or_parts}
use Rattle.std.specs.Str.{bytes_eq}
use Rattle.cg_base.specs.declared.kind.Sigil.{Sigil}
use Rattle.cg_base.specs.Types.{Tau, var, seen, unit, word, bool, arrow, abs, variant, fields, Taus, none, more, Parts, end, part}
use Rattle.cg_base.proofs.Sequences.{is_name}
use Rattle.cg_core_def.specs.Lawful.{AreLawfulParts, HasArguments, IsLawfulType, types_count}
use Rattle.cg_kinds.specs.Kinds.{is_word}
use Rattle.cg_typing.specs.Parts.{are_words, has_word_arrays, have_word_arrays, parts_have_word_arrays}
use Rattle.cg_value.specs.Foreign.{is_plain_type}
use Rattle.cg_heap.specs.FirstOrder.{are_first_order, is_first_order}
use Rattle.cg_driver_entry.specs.Types.{have_closed, holds_closed, is_users, parts_hold_closed}

-- an abstract type that isn't a user's is one of the two that are declared beforehand
beforehand : (name : List ℕ) → is_users name ≡ false → (bytes_eq name (codes "WordArray") ≡ true) ⊎ (bytes_eq name (codes "SysState") ≡ true)
beforehand name h = pick (bytes_eq name (codes "WordArray")) (bytes_eq name (codes "SysState")) h
  where
    pick : (b c : Bool) → (not b && not c) ≡ false → (b ≡ true) ⊎ (c ≡ true)
    pick true c h = inl refl
    pick false true h = inr refl
    pick false false h = absurd (cc)

-- without arguments it is `SysState`
state : (name : List ℕ) (sigil : Sigil) → HasArguments name 0 → is_users name ≡ false → is_first_order (abs name none sigil) ≡ true
unfolding is_plain_type
state name sigil given h =
    ⊎_elim (λ e. absurd (let one = given.array (is_name name (codes "WordArray") e) in omega arith)) (λ e. ap (λ b. b || false) e) (beforehand name h)

-- with arguments it is `WordArray`, and has one
is_array : (name : List ℕ) (t : Tau) (ts : Taus) → HasArguments name (types_count (more t ts)) → is_users name ≡ false → (bytes_eq name (codes "WordArray") ≡ true) × (types_count ts ≡ 0)
is_array name t ts given h =
    ⊎_elim (λ e. (e, (let one = given.array (is_name name (codes "WordArray") e) in omega arith)))
    (λ e. absurd (let none = given.state (is_name name (codes "SysState") e) in omega arith)) (beforehand name h)

-- an array of a word is first order
array : (name : List ℕ) (t : Tau) (ts : Taus) (sigil : Sigil) → bytes_eq name (codes "WordArray") ≡ true → types_count ts ≡ 0 → is_word t ≡ true → is_first_order (abs name (more t ts) sigil) ≡ true
unfolding is_plain_type
array name (word w) none sigil is one of_word = is
array name (word w) (more u us) sigil is one of_word = absurd (omega (arith, one))
array name (var n) ts sigil is one of_word = absurd (cc)
array name (seen n) ts sigil is one of_word = absurd (cc)
array name unit ts sigil is one of_word = absurd (cc)
array name bool ts sigil is one of_word = absurd (cc)
array name (arrow a b) ts sigil is one of_word = absurd (cc)
array name (abs m us s) ts sigil is one of_word = absurd (cc)
array name (variant ps) ts sigil is one of_word = absurd (cc)
array name (fields ps s) ts sigil is one of_word = absurd (cc)

-- its arguments are words
argument_is_word : (name : List ℕ) (t : Tau) (ts : Taus) (sigil : Sigil) → bytes_eq name (codes "WordArray") ≡ true → has_word_arrays (abs name (more t ts) sigil) ≡ true → is_word t ≡ true
argument_is_word name t ts sigil is arrays =
    let asked = (and_parts (not (bytes_eq name (codes "WordArray")) || are_words (more t ts)) (have_word_arrays (more t ts)) arrays).0 in
    (and_parts (is_word t) (are_words ts) (sym (ap (λ b. not b || are_words (more t ts)) is) ∙ asked)).0

mutual
  unfolding is_plain_type

  pub type_plain : (t : Tau) → IsLawfulType 0 t → holds_closed t ≡ false → has_word_arrays t ≡ true → is_first_order t ≡ true
  type_plain (var n) lawful closed arrays = absurd (omega (arith, lawful))
  type_plain (seen n) lawful closed arrays = absurd (omega (arith, lawful))
  type_plain unit lawful closed arrays = refl
  type_plain (word w) lawful closed arrays = refl
  type_plain bool lawful closed arrays = refl
  type_plain (arrow a b) lawful closed arrays = absurd (cc)
  type_plain (abs name none sigil) lawful closed arrays = state name sigil lawful.0 (or_parts (is_users name) false closed).0
  type_plain (abs name (more t ts) sigil) lawful closed arrays =
      let is = is_array name t ts lawful.0 (or_parts (is_users name) (have_closed (more t ts)) closed).0 in
      array name t ts sigil is.0 is.1 (argument_is_word name t ts sigil is.0 arrays)
  type_plain (variant ps) lawful closed arrays = parts_plain ps lawful.3 closed arrays
  type_plain (fields ps sigil) lawful closed arrays = parts_plain ps lawful.2 closed arrays

  parts_plain : (ps : Parts) → AreLawfulParts 0 ps → parts_hold_closed ps ≡ false → parts_have_word_arrays ps ≡ true → are_first_order ps ≡ true
  parts_plain end lawful closed arrays = refl
  parts_plain (part name t taken ps) lawful closed arrays =
      let free = or_parts (holds_closed t) (parts_hold_closed ps) closed in
      let words = and_parts (has_word_arrays t) (parts_have_word_arrays ps) arrays in
      and_from (is_first_order t) (are_first_order ps) (type_plain t lawful.0 free.0 words.0) (parts_plain ps lawful.1 free.1 words.1)
