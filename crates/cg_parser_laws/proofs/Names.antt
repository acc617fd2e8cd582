-- Where faults stand, and where places do; what may stand at a name.
use Rattle.std.proofs.Common.{inl, inr, ℕ, ◌==◌, Bool, true, false, List, [], ◌∷◌, ◌++◌, length, sym, subst, arith, Option, Some, None, if◌then◌else◌}
use Rattle.cg_base.specs.declared.place.Place.{Place}
use Rattle.cg_base.specs.Places.{IsBefore}
use Rattle.cg_core.specs.declared.at.At.{At}
use Rattle.cg_surface.specs.Programs.{Entry}
use Rattle.cg_parser_symbols.specs.Symbols.{Seen}
use Rattle.cg_parser_symbols.specs.Readings.{◌then◌}
use Rattle.cg_resolve_def.specs.Declared.{is_among, is_variable, type_arity, OfLibrary, OfProgram, library, looked_up, function_named}
use Rattle.cg_resolve_def.specs.Faults.{NameFault, unknown, twice, arguments, again, counted, type_name_faults, name_faults, user_faults, function_faults, mention_faults, twins}
use Rattle.cg_resolve_def.specs.Order.{place_of, number_of}
use Rattle.cg_parser_types.specs.Grammar.{NamesBefore, ReadsNames}
use Rattle.cg_parser_laws.proofs.Spans.{Between, Chain, IsEarlier, Key, Spans, StandAt, behind, between_then, join, nothing_spans, sign_spans, stands_either, stands_none, stands_one, token_with}

abbrev pub fault_key : NameFault → Key
fault_key f = record { place = place_of f; number = number_of f }

abbrev pub place_key : Place → Key
place_key p = record { place = p; number = 0 }

-- ---- what may stand at a name

pub again_stands : (names : List (List ℕ)) (p : Place) (n : List ℕ) → StandAt fault_key p (again names p n)
again_stands names p n = stands_either (is_among names n) (twice p ∷ []) [] (stands_one (twice p)) stands_none

pub counted_stands : (p : Place) (wanted given : ℕ) → StandAt fault_key p (counted p wanted given)
counted_stands p wanted given = stands_either (given == wanted) [] (arguments p ∷ []) stands_none (stands_one (arguments p))

type_name_stands : (p : Place) (given : ℕ) (wanted : Option ℕ) → StandAt fault_key p (type_name_faults p given wanted)
type_name_stands p given None = stands_one (unknown p)
type_name_stands p given (Some wanted) = counted_stands p wanted given

pub scoped_stands : (scope : List (List ℕ)) (p : Place) (n : List ℕ) → StandAt fault_key p (if is_among scope n then [] else unknown p ∷ [])
scoped_stands scope p n = stands_either (is_among scope n) [] (unknown p ∷ []) stands_none (stands_one (unknown p))

pub name_stands : (entries : List Entry) (vars : List (List ℕ)) (p : Place) (n : List ℕ) (given : ℕ) → StandAt fault_key p (name_faults entries vars p n given)
name_stands entries vars p n given =
    stands_either (is_variable n) (if is_among vars n then counted p 0 given else unknown p ∷ []) (type_name_faults p given (type_arity entries n))
    (stands_either (is_among vars n) (counted p 0 given) (unknown p ∷ []) (counted_stands p 0 given) (stands_one (unknown p))) (type_name_stands p given (type_arity entries n))

-- what is told of a mention is nothing, an unknown name, or a wrong number of arguments
module _ (P : List NameFault → Type 0) (p : Place) (nothing : P []) (no_name : P (unknown p ∷ [])) (no_count : P (arguments p ∷ [])) where
  either_is : (c : Bool) (es fs : List NameFault) → P es → P fs → P (if c then es else fs)
  either_is c es fs a b = elim c as (λ d. P (if d then es else fs)) [ true ↦ a | false ↦ b ]

  counted_is : (wanted given : ℕ) → P (counted p wanted given)
  counted_is wanted given = either_is (given == wanted) [] (arguments p ∷ []) nothing no_count

  user_is : (given : ℕ) (f : Option OfProgram) → P (user_faults p given f)
  user_is given None = no_name
  user_is given (Some f) = counted_is (length f.vars) given

  function_is : (given : ℕ) (f : Option OfLibrary) (user : Option OfProgram) → P (function_faults p given f user)
  function_is given (Some f) user = counted_is f.arity given
  function_is given None user = user_is given user

  pub mention_is : (entries : List Entry) (scope : List (List ℕ)) (n : List ℕ) (given : ℕ) → P (mention_faults entries scope p n given)
  mention_is entries scope n given =
      either_is (is_among scope n) (counted p 0 given) (function_faults p given (looked_up library n) (function_named entries n)) (counted_is 0 given) (function_is given (looked_up library n) (function_named entries n))

pub mention_stands : (entries : List Entry) (scope : List (List ℕ)) (p : Place) (n : List ℕ) (given : ℕ) → StandAt fault_key p (mention_faults entries scope p n given)
mention_stands entries scope p n given = mention_is (StandAt fault_key p) p stands_none (stands_one (unknown p)) (stands_one (arguments p)) entries scope n given

-- ---- names at their places

abbrev pub at_key : At → Key
at_key at = record { place = at.place; number = 0 }

-- what is told of each name
abbrev pub all_told : {E : Type 0} → (At → List E) → List At → List E
all_told h [] = []
all_told h (n ∷ ns) = h n ++ all_told h ns

at_before : (n m : At) → IsEarlier (at_key n) (at_key m) → IsBefore n.place m.place
at_before n m (inl b) = b
at_before n m (inr e) = absurd (omega (arith, e.1))

chain_between : (n : At) (ns : List At) (hi : Place) → Chain at_key n ns hi → Between at_key n.place ns hi
chain_between n [] hi c = c
chain_between n (m ∷ ns) hi c = (at_before n m c.0, c.1)

module _ {E : Type 0} (key : E → Key) (h : At → List E) (at : (n : At) → StandAt key n.place (h n)) where
  between_told : (ns : List At) (lo hi : Place) → Between at_key lo ns hi → Between key lo (all_told h ns) hi
  between_told [] lo hi b = b
  between_told (n ∷ ns) lo hi b =
      between_then key (h n) (all_told h ns) lo n.place hi ((at n).between lo b.0) (between_told ns n.place hi (chain_between n ns hi b.1))

  pub told_spans : (ns : List At) (ts rest : List Seen) → Spans at_key ns ts rest → Spans key (all_told h ns) ts rest
  told_spans ns ts rest a = record {
    told = λ more lo r.
        let all = a.told more lo r in
        (all.0, all.1, between_told ns lo all.0 all.2);
  }

-- the later of two names
between_twins : (names : List (List ℕ)) (ns : List At) (lo hi : Place) → Between at_key lo ns hi → Between fault_key lo (twins names ns) hi
between_twins names [] lo hi b = b
between_twins names (n ∷ ns) lo hi b =
    between_then fault_key (again names n.place n.name) (twins (n.name ∷ names) ns) lo n.place hi ((again_stands names n.place n.name).between lo b.0)
    (between_twins (n.name ∷ names) ns n.place hi (chain_between n ns hi b.1))

pub twins_spans : (names : List (List ℕ)) (ns : List At) {ts rest : List Seen} → Spans at_key ns ts rest → Spans fault_key (twins names ns) ts rest
twins_spans names ns {ts} {rest} a = record {
  told = λ more lo r.
      let all = a.told more lo r in
      (all.0, all.1, between_twins names ns lo all.0 all.2);
}

-- names parted by commas
names_before : (ns : List At) (ts rest : List Seen) → NamesBefore ns ts rest → Spans at_key ns ts rest
names_before [] ts rest r = nothing_spans r
names_before (n ∷ ns) ts rest r = join (behind (token_with r.1 (stands_one n)) (sign_spans r.2.1)) (names_before ns r.2.0 rest r.2.2)

pub names_spans : (ns : List At) (ts rest : List Seen) → ReadsNames ns ts rest → Spans at_key ns ts rest
names_spans ns ts rest r = subst (λ xs. Spans at_key xs ts rest) (sym r.2) (join (names_before r.0 ts r.3.0 r.3.1) (token_with r.3.2 (stands_one r.1)))
