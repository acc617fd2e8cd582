-- Types in which each record has a part and the alternatives of each variant have names apart, and what keeps them so.
use Rattle.std.proofs.Common.{◌≡◌, ℕ, zero, suc, Bool, true, false, IsTrue, Option, Some, None, List, [], ◌∷◌, map, refl, sym, ap, subst as at, if◌then◌else◌}
use Rattle.std.specs.Prelude.{slice_get}
use Rattle.std.specs.Str.{bytes_eq}
use Rattle.cg_base.specs.declared.fun.Lib.{Lib}
use Rattle.cg_base.specs.declared.fun.Lib.TheVariants.{New, Free, Create, FreeArray, Length, Get, Put, Map, Fold, Seq32, Seq64, Seq32Break}
use Rattle.cg_base.specs.declared.kind.Word.{Word}
use Rattle.cg_base.specs.declared.kind.Word.TheVariants.{U32, U64}
use Rattle.cg_base.specs.Types.{Tau, var, seen, unit, word, bool, arrow, abs, variant, fields, Taus, none, more, Parts, end, part}
use Rattle.cg_inst.proofs.Names.{either_way}
use Rattle.cg_inst_laws.proofs.Each.{Each}
use Rattle.cg_kinds.specs.Kinds.{bang, bang_all, bang_parts, or_unit, subst, subst_all, subst_parts, is_word}
use Rattle.cg_core_def.specs.Lawful.{AreApart, AreLawfulParts, AreLawfulTypes, AreSome, IsLawfulType, part_names}
use Rattle.cg_typing.specs.Library.{array, given, library_type, loop, maybe, over_array, pair, state, stopped, triple, turn_of_array, turn_of_loop}
use Rattle.cg_typing.specs.Operators.{Sort, arithmetic, equality, order, logic, gives, operand, takes}
use Rattle.cg_typing.specs.Parts.{all_parts_taken, all_taken, alternative_in, field_in, held, is_bool, part_named, parts_with, with_part}
use Rattle.cg_resolve_def.proofs.PartNames.{bang_names as names_observed}
use Rattle.cg_base.proofs.Truths.{either as or_elim}

-- ---- the types

abbrev mutual
  -- a proper type; what is taken counts too
  pub IsProper : Tau → Type 0
  IsProper (var n) = Unit {0}
  IsProper (seen n) = Unit {0}
  IsProper unit = Unit {0}
  IsProper (word w) = Unit {0}
  IsProper bool = Unit {0}
  IsProper (arrow a b) = IsProper a × IsProper b
  IsProper (abs name ts sigil) = AreProper ts
  IsProper (variant ps) = AreApart (part_names ps) × AreProperParts ps
  IsProper (fields ps sigil) = AreSome (part_names ps) × AreProperParts ps

  pub AreProper : Taus → Type 0
  AreProper none = Unit {0}
  AreProper (more t ts) = IsProper t × AreProper ts

  pub AreProperParts : Parts → Type 0
  AreProperParts end = Unit {0}
  AreProperParts (part name t taken ps) = IsProper t × AreProperParts ps

-- a type that may be there, as an entry of a context and a direction
abbrev pub IsProperMaybe : Option Tau → Type 0
IsProperMaybe None = Unit {0}
IsProperMaybe (Some t) = IsProper t

pub or_unit_proper : (o : Option Tau) → IsProperMaybe o → IsProper (or_unit o)
or_unit_proper None h = tt
or_unit_proper (Some t) h = h

-- ---- lawful types

mutual
  pub lawful_proper : (n : ℕ) (t : Tau) → IsLawfulType n t → IsProper t
  lawful_proper n (var i) h = tt
  lawful_proper n (seen i) h = tt
  lawful_proper n unit h = tt
  lawful_proper n (word w) h = tt
  lawful_proper n bool h = tt
  lawful_proper n (arrow a b) h = (lawful_proper n a h.0, lawful_proper n b h.1)
  lawful_proper n (abs name ts sigil) h = all_lawful n ts h.1
  lawful_proper n (variant ps) h = (h.1, parts_lawful n ps h.3)
  lawful_proper n (fields ps sigil) h = (h.0, parts_lawful n ps h.2)

  all_lawful : (n : ℕ) (ts : Taus) → AreLawfulTypes n ts → AreProper ts
  all_lawful n none h = tt
  all_lawful n (more t ts) h = (lawful_proper n t h.0, all_lawful n ts h.1)

  parts_lawful : (n : ℕ) (ps : Parts) → AreLawfulParts n ps → AreProperParts ps
  parts_lawful n end h = tt
  parts_lawful n (part name t taken ps) h = (lawful_proper n t h.0, parts_lawful n ps h.1)

-- ---- observed

mutual
  unfolding bang

  pub observed_proper : (t : Tau) → IsProper t → IsProper (bang t)
  observed_proper (var n) h = tt
  observed_proper (seen n) h = tt
  observed_proper unit h = tt
  observed_proper (word w) h = tt
  observed_proper bool h = tt
  observed_proper (arrow a b) h = h
  observed_proper (abs name ts sigil) h = all_observed ts h
  observed_proper (variant ps) h = (at AreApart (sym (names_observed ps)) h.0, parts_observed ps h.1)
  observed_proper (fields ps sigil) h = (at AreSome (sym (names_observed ps)) h.0, parts_observed ps h.1)

  all_observed : (ts : Taus) → AreProper ts → AreProper (bang_all ts)
  all_observed none h = tt
  all_observed (more t ts) h = (observed_proper t h.0, all_observed ts h.1)

  parts_observed : (ps : Parts) → AreProperParts ps → AreProperParts (bang_parts ps)
  parts_observed end h = tt
  parts_observed (part name t taken ps) h = (observed_proper t h.0, parts_observed ps h.1)

-- ---- with types for type variables

module _ (args : List Tau) (proper : Each IsProper args) where
  argument_proper : (n : ℕ) → IsProper (or_unit (slice_get args n))
  argument_proper n = go args n proper
    where
      go : (ts : List Tau) (n : ℕ) → Each IsProper ts → IsProper (or_unit (slice_get ts n))
      go [] n h = tt
      go (t ∷ ts) zero h = h.0
      go (t ∷ ts) (suc n) h = go ts n h.1

  names_given : (ps : Parts) → part_names (subst_parts args ps) ≡ part_names ps
  unfolding subst
  names_given end = refl
  names_given (part name t taken ps) = ap (λ ns. name ∷ ns) (names_given ps)

  mutual
    unfolding subst

    pub given_proper : (t : Tau) → IsProper t → IsProper (subst args t)
    given_proper (var n) h = argument_proper n
    given_proper (seen n) h = observed_proper (or_unit (slice_get args n)) (argument_proper n)
    given_proper unit h = tt
    given_proper (word w) h = tt
    given_proper bool h = tt
    given_proper (arrow a b) h = (given_proper a h.0, given_proper b h.1)
    given_proper (abs name ts sigil) h = all_given ts h
    given_proper (variant ps) h = (at AreApart (sym (names_given ps)) h.0, parts_given ps h.1)
    given_proper (fields ps sigil) h = (at AreSome (sym (names_given ps)) h.0, parts_given ps h.1)

    all_given : (ts : Taus) → AreProper ts → AreProper (subst_all args ts)
    all_given none h = tt
    all_given (more t ts) h = (given_proper t h.0, all_given ts h.1)

    parts_given : (ps : Parts) → AreProperParts ps → AreProperParts (subst_parts args ps)
    parts_given end h = tt
    parts_given (part name t taken ps) h = (given_proper t h.0, parts_given ps h.1)

  pub list_given : (ts : List Tau) → Each IsProper ts → Each IsProper (map (subst args) ts)
  list_given [] h = tt
  list_given (t ∷ ts) h = (given_proper t h.0, list_given ts h.1)

-- ---- parts by name

module _ (n : List ℕ) where
  names_with : (now : Bool) (ps : Parts) → part_names (parts_with n now ps) ≡ part_names ps
  names_with now end = refl
  names_with now (part name t taken ps) =
      either_way (λ b. part_names (if b then part name t now ps else part name t taken (parts_with n now ps)) ≡ name ∷ part_names ps) (bytes_eq n name) refl (ap (λ ns. name ∷ ns) (names_with now ps))

  parts_with_proper : (now : Bool) (ps : Parts) → AreProperParts ps → AreProperParts (parts_with n now ps)
  parts_with_proper now end h = tt
  parts_with_proper now (part name t taken ps) h =
      either_way (λ b. AreProperParts (if b then part name t now ps else part name t taken (parts_with n now ps))) (bytes_eq n name) h (h.0, parts_with_proper now ps h.1)

  pub with_proper : (now : Bool) (t : Tau) → IsProper t → IsProper (with_part n now t)
  with_proper now (variant ps) h = (at AreApart (sym (names_with now ps)) h.0, parts_with_proper now ps h.1)
  with_proper now (fields ps sigil) h = (at AreSome (sym (names_with now ps)) h.0, parts_with_proper now ps h.1)
  with_proper now (var i) h = tt
  with_proper now (seen i) h = tt
  with_proper now unit h = tt
  with_proper now (word w) h = tt
  with_proper now bool h = tt
  with_proper now (arrow a b) h = h
  with_proper now (abs name ts sigil) h = h

  held_proper : (ps : Parts) → AreProperParts ps → IsProper (held (part_named n ps))
  held_proper end h = tt
  held_proper (part name t taken ps) h =
      either_way (λ b. IsProper (held (if b then Some (record { name = name; ty = t; taken = taken }) else part_named n ps))) (bytes_eq n name) h.0 (held_proper ps h.1)

  pub field_proper : (t : Tau) → IsProper t → IsProper (held (field_in n t))
  field_proper (fields ps sigil) h = held_proper ps h.1
  field_proper _ h = tt

  pub alternative_proper : (t : Tau) → IsProper t → IsProper (held (alternative_in n t))
  alternative_proper (variant ps) h = held_proper ps h.1
  alternative_proper _ h = tt

-- ---- the library

names_taken : (ps : Parts) → part_names (all_parts_taken ps) ≡ part_names ps
names_taken end = refl
names_taken (part name t taken ps) = ap (λ ns. name ∷ ns) (names_taken ps)

parts_taken : (ps : Parts) → AreProperParts ps → AreProperParts (all_parts_taken ps)
parts_taken end h = tt
parts_taken (part name t taken ps) h = (h.0, parts_taken ps h.1)

taken_proper : (t : Tau) → IsProper t → IsProper (all_taken t)
taken_proper (fields ps sigil) h = (at AreSome (sym (names_taken ps)) h.0, parts_taken ps h.1)
taken_proper (variant ps) h = h
taken_proper (var i) h = tt
taken_proper (seen i) h = tt
taken_proper unit h = tt
taken_proper (word w) h = tt
taken_proper bool h = tt
taken_proper (arrow a b) h = h
taken_proper (abs name ts sigil) h = h

pair_proper : (a b : Tau) → IsProper a → IsProper b → IsProper (pair a b)
pair_proper a b p q = (tt, (p, (q, tt)))

triple_proper : (a b c : Tau) → IsProper a → IsProper b → IsProper c → IsProper (triple a b c)
triple_proper a b c p q r = (tt, (p, (q, (r, tt))))

maybe_proper : (t : Tau) → IsProper t → IsProper (maybe t)
maybe_proper t p = ((refl, (refl, tt)), (tt, (p, tt)))

stopped_proper : (t : Tau) → IsProper t → IsProper (stopped t)
stopped_proper t p = ((refl, (refl, tt)), (p, (tt, tt)))

array_proper : (t : Tau) → IsProper t → IsProper (array t)
array_proper t p = (p, tt)

seen_array : (t : Tau) → IsProper t → IsProper (bang (array t))
seen_array t p = observed_proper (array t) (array_proper t p)

array_turn_proper : (a c o : Tau) → IsProper a → IsProper c → IsProper o → IsProper (turn_of_array a c o)
array_turn_proper a c o p q r = (tt, (p, (q, (observed_proper o r, tt))))

over_proper : (a f c o : Tau) → IsProper a → IsProper f → IsProper c → IsProper o → IsProper (over_array a f c o)
over_proper a f c o p q r s = (tt, (p, (tt, (tt, (q, (r, (observed_proper o s, tt)))))))

loop_turn_proper : (w : Word) (c o : Tau) → IsProper c → IsProper o → IsProper (turn_of_loop w c o)
loop_turn_proper w c o p q = (tt, (p, (observed_proper o q, (tt, tt))))

loop_proper : (w : Word) (c o result : Tau) → IsProper c → IsProper o → IsProper result → IsProper (loop w c o result)
loop_proper w c o result p q r = ((tt, (tt, (tt, (tt, ((loop_turn_proper w c o p q, r), (p, (observed_proper o q, tt))))))), r)

pub type_proper : (ts : List Tau) (i : ℕ) → Each IsProper ts → IsProper (given ts i)
type_proper [] i h = tt
type_proper (t ∷ ts) zero h = h.0
type_proper (t ∷ ts) (suc i) h = type_proper ts i h.1

module _ (ts : List Tau) (proper : Each IsProper ts) where
  abbrev one : IsProper (given ts 0)
  one = type_proper ts 0 proper

  abbrev two : IsProper (given ts 1)
  two = type_proper ts 1 proper

  abbrev three : IsProper (given ts 2)
  three = type_proper ts 2 proper

  pub library_proper : (l : Lib) → IsProper (library_type l ts)
  library_proper New = (tt, pair_proper state (maybe (all_taken (given ts 0))) tt (maybe_proper (all_taken (given ts 0)) (taken_proper (given ts 0) one)))
  library_proper Free = (pair_proper state (all_taken (given ts 0)) tt (taken_proper (given ts 0) one), tt)
  library_proper Create =
      (pair_proper state (word U32) tt tt, pair_proper state (maybe (array (given ts 0))) tt (maybe_proper (array (given ts 0)) (array_proper (given ts 0) one)))
  library_proper FreeArray = (pair_proper state (array (given ts 0)) tt (array_proper (given ts 0) one), tt)
  library_proper Length = (seen_array (given ts 0) one, tt)
  library_proper Get = (pair_proper (bang (array (given ts 0))) (word U32) (seen_array (given ts 0) one) tt, one)
  library_proper Put = (triple_proper (array (given ts 0)) (word U32) (given ts 0) (array_proper (given ts 0) one) tt one, array_proper (given ts 0) one)
  library_proper Map = (
    over_proper (array (given ts 0)) (arrow (turn_of_array (given ts 0) (given ts 1) (given ts 2)) (pair (given ts 0) (given ts 1))) (given ts 1) (given ts 2) (array_proper (given ts 0) one)
        (array_turn_proper (given ts 0) (given ts 1) (given ts 2) one two three, pair_proper (given ts 0) (given ts 1) one two) two three,
    pair_proper (array (given ts 0)) (given ts 1) (array_proper (given ts 0) one) two,
  )
  library_proper Fold = (
    over_proper (bang (array (given ts 0))) (arrow (turn_of_array (given ts 0) (given ts 1) (given ts 2)) (given ts 1)) (given ts 1) (given ts 2) (seen_array (given ts 0) one)
        (array_turn_proper (given ts 0) (given ts 1) (given ts 2) one two three, two) two three,
    two,
  )
  library_proper Seq32 = loop_proper U32 (given ts 0) (given ts 1) (given ts 0) one two one
  library_proper Seq64 = loop_proper U64 (given ts 0) (given ts 1) (given ts 0) one two one
  library_proper Seq32Break =
      loop_proper U32 (given ts 0) (given ts 2) (pair (given ts 0) (stopped (given ts 1))) one three
      (pair_proper (given ts 0) (stopped (given ts 1)) one (stopped_proper (given ts 1) two))

-- ---- operators

pub word_proper : (t : Tau) → IsTrue (is_word t) → IsProper t
word_proper (word w) h = tt
word_proper _ h = absurd (cc)

bool_proper : (t : Tau) → IsTrue (is_bool t) → IsProper t
bool_proper bool h = tt
bool_proper _ h = absurd (cc)

-- what an operator takes is a word or Bool
pub operand_proper : (s : Sort) (t : Tau) → IsTrue (takes s t) → IsProper t
operand_proper arithmetic t h = word_proper t h
operand_proper equality t h = or_elim (is_word t) (is_bool t) h (word_proper t) (bool_proper t)
operand_proper order t h = word_proper t h
operand_proper logic t h = bool_proper t h

pub gives_proper : (s : Sort) (t : Tau) → IsProper t → IsProper (gives s t)
gives_proper arithmetic t h = h
gives_proper equality t h = tt
gives_proper order t h = tt
gives_proper logic t h = tt

pub direction_proper : (s : Sort) (direction : Option Tau) (guide : Bool) (t : Tau) → IsProperMaybe direction → IsProper t → IsProperMaybe (operand s direction guide t)
direction_proper logic direction guide t p q = tt
direction_proper arithmetic None true t p q = tt
direction_proper arithmetic (Some wanted) true t p q = q
direction_proper equality direction true t p q = tt
direction_proper order direction true t p q = tt
direction_proper arithmetic None false t p q = q
direction_proper arithmetic (Some wanted) false t p q = q
direction_proper equality direction false t p q = q
direction_proper order direction false t p q = q
