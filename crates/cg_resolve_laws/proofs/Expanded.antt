-- What a written type without a fault is as a type of the kernel is lawful over the type variables in whose names it is written, where the
-- bodies of the synonyms that it mentions are.
use Rattle.std.proofs.Common.{◌≡◌, ℕ, ◌+◌, ◌<◌, ◌≤◌, ◌||◌, ◌==◌, Bool, true, false, cond, List, [], ◌∷◌, ◌++◌, map, length, codes, Option, Some, None, refl, sym, ap, ◌∙◌, subst as carry, arith}
use Rattle.std.proofs.lemmas.Bool.Decides.{nat_tests}
use Rattle.std.proofs.lemmas.Fmt.{decimal_injective}
use Rattle.std.proofs.lemmas.List.Elements.{All-cons, All-nil, Contains-append_left, Contains-append_right}
use Rattle.std.specs.Fmt.{decimal}
use Rattle.std.specs.List.{All, Contains}
use Rattle.std.specs.Str.{bytes_eq}
use Rattle.cg_base.specs.declared.place.Place.{Place}
use Rattle.cg_base.specs.Types.{Tau, var, Piece}
use Rattle.cg_base.specs.Types as kernel
use Rattle.cg_core_def.specs.Lawful.{AreSome, HasArguments, IsLawfulType}
use Rattle.cg_surface.specs.Written.{Written, Writtens, WrittenFields, WrittenAlts}
use Rattle.cg_surface.specs.Written as types
use Rattle.cg_surface.specs.Programs.{Entry}
use Rattle.cg_resolve_def.specs.Declared.{arity_beside, is_among, is_variable, looked_up, plain_types, type_arity}
use Rattle.cg_resolve_def.specs.Desugar.{parts_limit}
use Rattle.cg_resolve_def.specs.Expand.{Bodies, applied_as, component, components, expanded, expanded_all, expanded_alts, expanded_fields, in_order, position_of, types_length}
use Rattle.cg_resolve_def.specs.Faults.{NameFault, again, alt_names, alts_faults, arguments, counted, field_names, fields_faults, name_faults, type_faults, type_name_faults, types_faults, unknown}
use Rattle.cg_resolve_def.specs.Mentions.{alts_mentions, fields_mentions, type_mentions, types_mentions}
use Rattle.cg_resolve_def.specs.Takes.{alts_length, fields_length, widest, widest_alt, widest_field, widest_of}
use Rattle.cg_resolve_def.proofs.Faultless.{none_left, none_right, not_again}
use Rattle.cg_resolve_def.specs.Shaped.{AreShapedAlts, AreShapedFields, AreShapedTypes, IsShapedType}
use Rattle.cg_resolve_laws.proofs.Lists.{AreNew, new_here, one_new}
use Rattle.cg_resolve_laws.proofs.Rising.{in_order_rising}
use Rattle.cg_resolve_laws.proofs.Types.{ArePieces, alts_of_pieces, bang_lawful, in_order_pieces, in_order_some, list_count, list_lawful, names_of_pieces, parts_of_pieces, subst_lawful, take_all_lawful, take_some_lawful}
use Rattle.cg_base.proofs.Sequences.{is_name}

-- ---- numbers of arguments

-- so many arguments are as many as there should be
pub counted_same : (p : Place) (wanted given : ℕ) → counted p wanted given ≡ [] → given ≡ wanted
counted_same p wanted given none = pick (given == wanted) refl none
  where
    pick : (b : Bool) → (given == wanted) ≡ b → cond b [] (arguments p ∷ []) ≡ [] → given ≡ wanted
    pick true e h = grind (arith, nat_tests)
    pick false e h = absurd (cc)

arity_same : (p : Place) (given : ℕ) (o : Option ℕ) → type_name_faults p given o ≡ [] → o ≡ Some given
arity_same p given None h = absurd (cc)
arity_same p given (Some wanted) h = ap Some (sym (counted_same p wanted given h))

-- ---- names that are declared beforehand

abbrev pub AllLines : {A : Type 0} → (A → Type 0) → List (List ℕ × A) → Type 0
AllLines P [] = Unit {0}
AllLines P (line ∷ lines) = P line.1 × AllLines P lines

-- what holds of all lines of a table holds of what is looked up in it
pub looked_up_all : {A : Type 0} (P : A → Type 0) (lines : List (List ℕ × A)) (n : List ℕ) (x : A) → AllLines P lines → looked_up lines n ≡ Some x → P x
looked_up_all P [] n x all is = absurd (cc)
looked_up_all P (line ∷ lines) n x all is = pick (bytes_eq n line.0) is (looked_up_all P lines n x all.1)
  where
    pick : (b : Bool) → cond b (Some line.1) (looked_up lines n) ≡ Some x → (looked_up lines n ≡ Some x → P x) → P x
    pick true found rest = let same : line.1 ≡ x = cc in carry P same all.0
    pick false found rest = rest found

-- the state has no arguments
state_arguments : HasArguments (codes "SysState") 0
state_arguments = record {
  array = λ e. absurd (let test : true ≡ false = ap (bytes_eq (codes "SysState")) e in cc);
  state = λ e. refl;
}

plain_lawful : (vars : ℕ) (n : List ℕ) (t : Tau) → looked_up plain_types n ≡ Some t → IsLawfulType vars t
plain_lawful vars n t is = looked_up_all (IsLawfulType vars) plain_types n t (tt, (tt, (tt, (tt, (tt, ((state_arguments, tt), tt)))))) is

-- ---- components

component_same : (i j : ℕ) → component i ≡ component j → decimal (i + 1) ≡ decimal (j + 1)
component_same i j e = cc

-- components of a tuple have names apart, as far as the limit of parts
pub component_apart : (i j : ℕ) → i < j → j ≤ parts_limit → bytes_eq (component i) (component j) ≡ false
component_apart i j lt within = pick (bytes_eq (component i) (component j)) refl
  where
    pick : (b : Bool) → bytes_eq (component i) (component j) ≡ b → b ≡ false
    pick true e = absurd (omega (arith, decimal_injective (i + 1) (j + 1) (omega arith) (omega arith) (component_same i j (is_name (component i) (component j) e))))
    pick false e = refl

-- ---- type variables

pub unknown_not : (b : Bool) (p : Place) (others : List NameFault) → cond b others (unknown p ∷ []) ≡ [] → b ≡ true
unknown_not true p others h = refl
unknown_not false p others h = absurd (cc)

position_within : (names : List (List ℕ)) (n : List ℕ) → is_among names n ≡ true → position_of names n < length names
position_within [] n h = absurd (cc)
position_within (m ∷ names) n h = pick (bytes_eq n m) h (position_within names n)
  where
    pick : (b : Bool) → (b || is_among names n) ≡ true → (is_among names n ≡ true → position_of names n < length names) → cond b 0 (position_of names n + 1) < length (m ∷ names)
    pick true e rest = omega arith
    pick false e rest = omega (arith, rest e)

-- ---- written types

module _ (entries : List Entry) (known : Bodies) where
  -- what is known of a name is lawful over as many type variables as the name has parameters
  abbrev pub IsSound : List ℕ → Type 0
  IsSound n = (body : Tau) (arity : ℕ) → known n ≡ Some body → looked_up plain_types n ≡ None → type_arity entries n ≡ Some arity → IsLawfulType arity body

  pub record AreSound (names : List (List ℕ)) : Type 0 where
    pub at : (n : List ℕ) → Contains names n → IsSound n

  sound_left : (ns ms : List (List ℕ)) → AreSound (ns ++ ms) → AreSound ns
  sound_left ns ms s = record { at = λ n has. s.at n (Contains-append_left ns ms n has) }

  sound_right : (ns ms : List (List ℕ)) → AreSound (ns ++ ms) → AreSound ms
  sound_right ns ms s = record { at = λ n has. s.at n (Contains-append_right ns ms n has) }

  module _ (vars : ℕ) where
    -- a name with its arguments, as its plain type, the body of a synonym or an abstract type
    applied_lawful : (n : List ℕ) (args : List Tau) → IsSound n → type_arity entries n ≡ Some (length args) → All (IsLawfulType vars) args → (plain body : Option Tau) → looked_up plain_types n ≡ plain → known n ≡ body
        → IsLawfulType vars (applied_as n args plain body)
    applied_lawful n args sound arity lawful (Some t) body is knows = plain_lawful vars n t is
    applied_lawful n args sound arity lawful None (Some t) is knows = subst_lawful args vars lawful t (sound t (length args) knows is arity)
    applied_lawful n args sound arity lawful None None is knows = (
      record { array = λ e. list_count args ∙ array e; state = λ e. absurd (let plain : looked_up plain_types (codes "SysState") ≡ None = carry (λ m. looked_up plain_types m ≡ None) e is in cc) },
      list_lawful vars args lawful,
    )
      where
        beside : arity_beside entries n None ≡ Some (length args)
        beside = sym (ap (arity_beside entries n) is) ∙ arity

        array : n ≡ codes "WordArray" → length args ≡ 1
        array e =
            let one : Some 1 ≡ Some (length args) = carry (λ m. arity_beside entries m None ≡ Some (length args)) e beside in
            let same : 1 ≡ length args = cc in
            sym same

  module _ (names : List (List ℕ)) where
    named_lawful : (p : Place) (n : List ℕ) (args : List Tau) → IsSound n → name_faults entries names p n (length args) ≡ [] → All (IsLawfulType (length names)) args
        → IsLawfulType (length names) (cond (is_variable n) (var (position_of names n)) (applied_as n args (looked_up plain_types n) (known n)))
    named_lawful p n args sound none lawful = pick (is_variable n) none
      where
        pick : (b : Bool) → cond b (cond (is_among names n) (counted p 0 (length args)) (unknown p ∷ [])) (type_name_faults p (length args) (type_arity entries n)) ≡ []
            → IsLawfulType (length names) (cond b (var (position_of names n)) (applied_as n args (looked_up plain_types n) (known n)))
        pick true h = position_within names n (unknown_not (is_among names n) p (counted p 0 (length args)) h)
        pick false h = applied_lawful (length names) n args sound (arity_same p (length args) (type_arity entries n) h) lawful (looked_up plain_types n) (known n) refl refl

    -- as many as are written
    all_length : (ts : Writtens) (behind : List Tau) → length (expanded_all known names ts behind) ≡ types_length ts + length behind
    all_length types.no_types behind = omega arith
    all_length (types.and_type ts t) behind = omega (arith, all_length ts (expanded known names t ∷ behind))

    some_components : (ts : Writtens) (behind : List Piece) → AreSome (names_of_pieces behind) → AreSome (names_of_pieces (components known names ts behind))
    some_components types.no_types behind h = h
    some_components (types.and_type ts t) behind h = some_components ts _ tt

    some_fields : (fs : WrittenFields) (behind : List Piece) → AreSome (names_of_pieces behind) → AreSome (names_of_pieces (expanded_fields known names fs behind))
    some_fields types.no_fields behind h = h
    some_fields (types.and_field fs at t) behind h = some_fields fs _ tt

    some_alts : (choices : WrittenAlts) (behind : List Piece) → AreSome (names_of_pieces behind) → AreSome (names_of_pieces (expanded_alts known names choices behind))
    some_alts types.no_alts behind h = h
    some_alts (types.and_plain choices at) behind h = some_alts choices _ tt
    some_alts (types.and_alt choices at t) behind h = some_alts choices _ tt

    are_components : (ts : Writtens) → 2 ≤ types_length ts → AreSome (names_of_pieces (components known names ts []))
    are_components types.no_types h = absurd (omega arith)
    are_components (types.and_type ts t) h = some_components ts _ tt

    are_fields : (fs : WrittenFields) → 1 ≤ fields_length fs → AreSome (names_of_pieces (expanded_fields known names fs []))
    are_fields types.no_fields h = absurd (omega arith)
    are_fields (types.and_field fs at t) h = some_fields fs _ tt

    are_alts : (choices : WrittenAlts) → 1 ≤ alts_length choices → AreSome (names_of_pieces (expanded_alts known names choices []))
    are_alts types.no_alts h = absurd (omega arith)
    are_alts (types.and_plain choices at) h = some_alts choices _ tt
    are_alts (types.and_alt choices at t) h = some_alts choices _ tt

    -- one part more in front
    one_piece : (n : List ℕ) (t : Tau) (ps : List Piece) → is_among (names_of_pieces ps) n ≡ false → IsLawfulType (length names) t → ArePieces (length names) ps → ArePieces (length names) (record { name = n; ty = t; taken = false } ∷ ps)
    one_piece n t ps new lawful h = record { apart = (new, h.apart); lawful = (lawful, h.lawful) }

    mutual
      pub type_lawful : (t : Written) → type_faults entries names t ≡ [] → IsShapedType t → widest t ≤ parts_limit → AreSound (type_mentions t) → IsLawfulType (length names) (expanded known names t)
      type_lawful (types.named p n args) none shaped narrow sound =
          named_lawful p n (expanded_all known names args []) (sound.at n (0, omega arith, refl))
          (ap (name_faults entries names p n) (all_length args [] ∙ omega arith) ∙ none_left (name_faults entries names p n (types_length args)) (types_faults entries names args) none)
          (all_lawful args [] (none_right (name_faults entries names p n (types_length args)) (types_faults entries names args) none) shaped narrow (sound_right (n ∷ []) (types_mentions args) sound) (All-nil (IsLawfulType (length names))))
      type_lawful (types.nothing p) none shaped narrow sound = tt
      type_lawful (types.tuple p ts) none shaped narrow sound =
          parts_of_pieces (length names) (components known names ts []) (are_components ts shaped.0)
          (components_lawful ts [] none shaped.1 (omega (arith, narrow)) (omega (arith, narrow)) sound (λ i lt. refl) (record { apart = tt; lawful = tt }))
      type_lawful (types.paren p t) none shaped narrow sound = type_lawful t none shaped narrow sound
      type_lawful (types.arrow p a b) none shaped narrow sound = (
        type_lawful a (none_left (type_faults entries names a) (type_faults entries names b) none) shaped.0 (omega (arith, narrow)) (sound_left (type_mentions a) (type_mentions b) sound),
        type_lawful b (none_right (type_faults entries names a) (type_faults entries names b) none) shaped.1 (omega (arith, narrow)) (sound_right (type_mentions a) (type_mentions b) sound),
      )
      type_lawful (types.fields p boxed fs) none shaped narrow sound =
          parts_of_pieces (length names) (expanded_fields known names fs []) (are_fields fs shaped.0)
          (fields_lawful fs [] none shaped.1 (omega (arith, narrow)) sound (λ n among. refl) (record { apart = tt; lawful = tt }))
      type_lawful (types.variant p choices) none shaped narrow sound =
          let choice = expanded_alts known names choices [] in
          let pieces = alts_lawful choices [] none shaped.1 (omega (arith, narrow)) sound (λ n among. refl) (record { apart = tt; lawful = tt }) in
          alts_of_pieces (length names) (in_order choice) (in_order_some choice (are_alts choices shaped.0)) (in_order_rising choice pieces.apart) (in_order_pieces (length names) choice pieces)
      type_lawful (types.bang p t) none shaped narrow sound = bang_lawful (length names) (expanded known names t) (type_lawful t none shaped narrow sound)
      type_lawful (types.take_some p t ns) none shaped narrow sound = take_some_lawful (map (λ n. n.name) ns) (length names) (expanded known names t) (type_lawful t none shaped.1 narrow sound)
      type_lawful (types.take_all p t q) none shaped narrow sound = take_all_lawful (length names) (expanded known names t) (type_lawful t none shaped narrow sound)

      pub all_lawful : (ts : Writtens) (behind : List Tau) → types_faults entries names ts ≡ [] → AreShapedTypes ts → widest_of ts ≤ parts_limit → AreSound (types_mentions ts) → All (IsLawfulType (length names)) behind
          → All (IsLawfulType (length names)) (expanded_all known names ts behind)
      all_lawful types.no_types behind none shaped narrow sound rest = rest
      all_lawful (types.and_type ts t) behind none shaped narrow sound rest =
          all_lawful ts (expanded known names t ∷ behind) (none_left (types_faults entries names ts) (type_faults entries names t) none) shaped.0 (omega (arith, narrow)) (sound_left (types_mentions ts) (type_mentions t) sound)
          (All-cons (IsLawfulType (length names)) (expanded known names t) behind
          (type_lawful t (none_right (types_faults entries names ts) (type_faults entries names t) none) shaped.1 (omega (arith, narrow)) (sound_right (types_mentions ts) (type_mentions t) sound)) rest)

      components_lawful : (ts : Writtens) (behind : List Piece) → types_faults entries names ts ≡ [] → AreShapedTypes ts → widest_of ts ≤ parts_limit → types_length ts ≤ parts_limit → AreSound (types_mentions ts)
          → ((i : ℕ) → i < types_length ts → is_among (names_of_pieces behind) (component i) ≡ false) → ArePieces (length names) behind → ArePieces (length names) (components known names ts behind)
      components_lawful types.no_types behind none shaped narrow short sound new rest = rest
      components_lawful (types.and_type ts t) behind none shaped narrow short sound new rest =
          components_lawful ts _ (none_left (types_faults entries names ts) (type_faults entries names t) none) shaped.0 (omega (arith, narrow)) (omega (arith, short)) (sound_left (types_mentions ts) (type_mentions t) sound)
          (λ i lt. ap (λ b. b || is_among (names_of_pieces behind) (component i)) (component_apart i (types_length ts) lt (omega (arith, short))) ∙ new i (omega (arith, lt)))
          (one_piece (component (types_length ts)) (expanded known names t) behind (new (types_length ts) (omega arith))
          (type_lawful t (none_right (types_faults entries names ts) (type_faults entries names t) none) shaped.1 (omega (arith, narrow)) (sound_right (types_mentions ts) (type_mentions t) sound)) rest)

      fields_lawful : (fs : WrittenFields) (behind : List Piece) → fields_faults entries names fs ≡ [] → AreShapedFields fs → widest_field fs ≤ parts_limit → AreSound (fields_mentions fs)
          → AreNew (field_names fs) (names_of_pieces behind) → ArePieces (length names) behind → ArePieces (length names) (expanded_fields known names fs behind)
      fields_lawful types.no_fields behind none shaped narrow sound new rest = rest
      fields_lawful (types.and_field fs at t) behind none shaped narrow sound new rest =
          let before = none_left (fields_faults entries names fs ++ again (field_names fs) at.place at.name) (type_faults entries names t) none in
          fields_lawful fs _ (none_left (fields_faults entries names fs) (again (field_names fs) at.place at.name) before) shaped.0 (omega (arith, narrow)) (sound_left (fields_mentions fs) (type_mentions t) sound)
          (one_new (field_names fs) at.name (names_of_pieces behind) (not_again (field_names fs) at.place at.name (none_right (fields_faults entries names fs) (again (field_names fs) at.place at.name) before)) new)
          (one_piece at.name (expanded known names t) behind (new_here (field_names fs) at.name (names_of_pieces behind) new)
          (type_lawful t (none_right (fields_faults entries names fs ++ again (field_names fs) at.place at.name) (type_faults entries names t) none) shaped.1 (omega (arith, narrow)) (sound_right (fields_mentions fs) (type_mentions t) sound)) rest)

      alts_lawful : (choices : WrittenAlts) (behind : List Piece) → alts_faults entries names choices ≡ [] → AreShapedAlts choices → widest_alt choices ≤ parts_limit → AreSound (alts_mentions choices)
          → AreNew (alt_names choices) (names_of_pieces behind) → ArePieces (length names) behind → ArePieces (length names) (expanded_alts known names choices behind)
      alts_lawful types.no_alts behind none shaped narrow sound new rest = rest
      alts_lawful (types.and_plain choices at) behind none shaped narrow sound new rest =
          alts_lawful choices _ (none_left (alts_faults entries names choices) (again (alt_names choices) at.place at.name) none) shaped narrow sound
          (one_new (alt_names choices) at.name (names_of_pieces behind) (not_again (alt_names choices) at.place at.name (none_right (alts_faults entries names choices) (again (alt_names choices) at.place at.name) none)) new)
          (one_piece at.name kernel.unit behind (new_here (alt_names choices) at.name (names_of_pieces behind) new) tt rest)
      alts_lawful (types.and_alt choices at t) behind none shaped narrow sound new rest =
          let before = none_left (alts_faults entries names choices ++ again (alt_names choices) at.place at.name) (type_faults entries names t) none in
          alts_lawful choices _ (none_left (alts_faults entries names choices) (again (alt_names choices) at.place at.name) before) shaped.0 (omega (arith, narrow)) (sound_left (alts_mentions choices) (type_mentions t) sound)
          (one_new (alt_names choices) at.name (names_of_pieces behind) (not_again (alt_names choices) at.place at.name (none_right (alts_faults entries names choices) (again (alt_names choices) at.place at.name) before)) new)
          (one_piece at.name (expanded known names t) behind (new_here (alt_names choices) at.name (names_of_pieces behind) new)
          (type_lawful t (none_right (alts_faults entries names choices ++ again (alt_names choices) at.place at.name) (type_faults entries names t) none) shaped.1 (omega (arith, narrow)) (sound_right (alts_mentions choices) (type_mentions t) sound)) rest)
