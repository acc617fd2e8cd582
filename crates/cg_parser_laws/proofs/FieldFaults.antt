-- The faults of a field of a record stand in order: those of its name and of its value.
use Rattle.std.proofs.Common.{◌≡◌, ℕ, ◌==◌, ◌&&◌, true, false, List, [], ◌∷◌, ◌++◌, refl, sym, subst, append-nil, arith, if◌then◌else◌}
use Rattle.std.proofs.lemmas.Bool.{false_from_ne_true, eqb-true, eq-eqb}
use Rattle.cg_base.specs.declared.place.Place.{Place}
use Rattle.cg_base.specs.Places.{IsBefore, is_at}
use Rattle.cg_core.specs.declared.at.At.{At}
use Rattle.cg_surface.specs.Programs.{Entry}
use Rattle.cg_parser_symbols.specs.Symbols.{Symbol, Seen}
use Rattle.cg_parser_symbols.specs.Readings.{token}
use Rattle.cg_resolve_def.specs.Declared.{is_among}
use Rattle.cg_resolve_def.specs.Faults.{NameFault, unknown, twice, arguments, again, field_with, mention_faults}
use Rattle.cg_parser_laws.proofs.Names.{again_stands, fault_key, mention_is}
use Rattle.cg_parser_laws.proofs.Places.{before_self}
use Rattle.cg_parser_laws.proofs.Rising.{Rising}
use Rattle.cg_parser_laws.proofs.Spans.{Between, Spans, StandAt, between_then, stands_one, stands_two}
use Rattle.cg_base.proofs.Truths.{both as both_true}

one_place : (p q : Place) → is_at p q ≡ true → p ≡ q
one_place p q t =
    let e = both_true (p.line == q.line) (p.column == q.column) t in
    let line : p.line ≡ q.line = eqb-true p.line q.line e.0 in
    let column : p.column ≡ q.column = eqb-true p.column q.column e.1 in
    λ i. record { line = line i; column = column i }

apart : (p q : Place) → IsBefore q p → is_at p q ≡ false
apart p q b = false_from_ne_true (is_at p q) (λ t. before_self q (subst (IsBefore q) (one_place p q t) b))

is_itself : (p : Place) → is_at p p ≡ true
is_itself p = subst (λ c. (c && (p.column == p.column)) ≡ true) (sym (eq-eqb p.line p.line refl)) (eq-eqb p.column p.column refl)

-- behind the place of a field's name the faults of its value follow that of the name
field_is : (names : List (List ℕ)) (at : At) (es : List NameFault) (hi : Place) → Between fault_key at.place es hi → again names at.place at.name ++ es ≡ field_with names at es
field_is names at [] hi b = append-nil (again names at.place at.name)
field_is names at (unknown p ∷ es) hi b =
    subst (λ c. again names at.place at.name ++ unknown p ∷ es ≡ (if c then unknown p ∷ again names at.place at.name ++ es else again names at.place at.name ++ unknown p ∷ es))
    (sym (apart p at.place b.0)) refl
field_is names at (twice p ∷ es) hi b = refl
field_is names at (arguments p ∷ es) hi b = refl

pub field_then : (names : List (List ℕ)) (at : At) {s : Symbol} {es : List NameFault} {ts mid rest : List Seen} → token s at.place ts mid → Spans fault_key es mid rest
    → Spans fault_key (field_with names at es) ts rest
field_then names at {s} {es} {ts} {mid} {rest} e a = record {
  told = λ more lo r.
      let rises : Rising lo (record { symbol = s; place = at.place } ∷ (mid ++ more)) = subst (λ xs. Rising lo (xs ++ more)) e r in
      let value = a.told more at.place rises.1 in
      let all : Between fault_key lo (again names at.place at.name ++ es) value.0 =
      between_then fault_key (again names at.place at.name) es lo at.place value.0 ((again_stands names at.place at.name).between lo rises.0) value.2 in
      (value.0, value.1, subst (λ xs. Between fault_key lo xs value.0) (field_is names at es value.0 value.2) all);
}

-- a field that is written alone
twice_behind : (names : List (List ℕ)) (at : At) → StandAt fault_key at.place (field_with names at (unknown at.place ∷ []))
twice_behind names at =
    let held : StandAt fault_key at.place ((unknown at.place ∷ again names at.place at.name) ++ []) =
    elim (is_among names at.name) as (λ c. StandAt fault_key at.place ((unknown at.place ∷ (if c then twice at.place ∷ [] else [])) ++ [])) [
      | true ↦ stands_two (unknown at.place) (twice at.place) refl (omega arith)
      | false ↦ stands_one (unknown at.place)
    ] in
    subst (λ c. StandAt fault_key at.place (if c then unknown at.place ∷ again names at.place at.name ++ [] else again names at.place at.name ++ unknown at.place ∷ []))
    (sym (is_itself at.place)) held

twice_before : (names : List (List ℕ)) (at : At) → StandAt fault_key at.place (field_with names at (arguments at.place ∷ []))
twice_before names at =
    elim (is_among names at.name) as (λ c. StandAt fault_key at.place ((if c then twice at.place ∷ [] else []) ++ arguments at.place ∷ [])) [
      | true ↦ stands_two (twice at.place) (arguments at.place) refl (omega arith)
      | false ↦ stands_one (arguments at.place)
    ]

pub alone_stands : (entries : List Entry) (names scope : List (List ℕ)) (at : At) (n : ℕ) → StandAt fault_key at.place (field_with names at (mention_faults entries scope at.place at.name n ++ []))
alone_stands entries names scope at n =
    mention_is (λ es. StandAt fault_key at.place (field_with names at (es ++ []))) at.place (again_stands names at.place at.name) (twice_behind names at) (twice_before names at) entries scope at.name n
