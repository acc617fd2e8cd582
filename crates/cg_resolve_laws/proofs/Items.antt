-- Items of a program without a fault of names: each is without one, and of a name there is one type and one signature.
use Rattle.std.proofs.Common.{◌≡◌, ℕ, zero, suc, ◌≤◌, Bool, true, false, cond, List, [], ◌∷◌, ◌++◌, Some, None, refl, sym, ap, ◌∙◌, subst as carry, arith}
use Rattle.std.proofs.lemmas.List.Elements.{All-get_or}
use Rattle.std.proofs.lemmas.Option.{get_or_from_slice_get, slice_get_within}
use Rattle.std.proofs.lemmas.Bool.{or_parts}
use Rattle.std.specs.List.{All, slice_get}
use Rattle.std.specs.Str.{bytes_eq}
use Rattle.cg_core.specs.declared.at.At.{At}
use Rattle.cg_base.specs.declared.kind.Bound.{Bound}
use Rattle.cg_base.specs.declared.place.Place.{Place}
use Rattle.cg_surface.specs.Programs.{Entry, synonym, abstract, signature, define}
use Rattle.cg_surface.specs.Written.{Written}
use Rattle.cg_resolve_def.specs.Declared.{Declared, Defined, definition_named, is_among, type_named}
use Rattle.cg_resolve_def.specs.Desugar.{parts_limit}
use Rattle.cg_resolve_def.specs.Faults.{Before, again, ats_of, declared_with, entry_faults, faults_from, names_of, twins, type_faults, var_names}
use Rattle.cg_resolve_def.specs.Takes.{widest_entry, widest_part}
use Rattle.cg_resolve_def.proofs.Faultless.{behind, none_left, not_again}
use Rattle.cg_resolve_def.specs.Shaped.{IsShapedEntry}
use Rattle.cg_base.proofs.Sequences.{is_name}

-- an item without a fault, behind some others
pub record IsWithout (entries : List Entry) (e : Entry) : Type 0 where
  pub before : Before
  pub none : entry_faults entries before e ≡ []

module _ (entries : List Entry) where
  -- the first item is without a fault
  pub here : (before : Before) (e : Entry) (es : List Entry) → faults_from entries before (e ∷ es) ≡ [] → entry_faults entries before e ≡ []
  here before e es none = none_left (entry_faults entries before e) (faults_from entries (declared_with before e) es) none

  -- each item is without a fault
  pub without : (es : List Entry) (before : Before) (i : ℕ) (e : Entry) → faults_from entries before es ≡ [] → slice_get es i ≡ Some e → IsWithout entries e
  without [] before i e none stands = absurd (cc)
  without (f ∷ es) before zero e none stands =
      let is : f ≡ e = cc in
      record { before = before; none = ap (entry_faults entries before) (sym is) ∙ here before f es none }
  without (f ∷ es) before (suc i) e none stands = without es (declared_with before f) i e (behind entries before f es none) stands

  -- the name of a type, and that of a signature, are none of those before
  type_new : (before : Before) (at : At) (params : List At) (body : Written) → entry_faults entries before (synonym at params body) ≡ [] → is_among before.types at.name ≡ false
  type_new before at params body none =
      not_again before.types at.place at.name
      (none_left (again before.types at.place at.name) (twins [] params) (none_left (again before.types at.place at.name ++ twins [] params) (type_faults entries (names_of params) body) none))

  abstract_new : (before : Before) (at : At) (params : List At) → entry_faults entries before (abstract at params) ≡ [] → is_among before.types at.name ≡ false
  abstract_new before at params none = not_again before.types at.place at.name (none_left (again before.types at.place at.name) (twins [] params) none)

  pub signature_new : (before : Before) (at : At) (vars : List Bound) (places : List Place) (ty : Written) → entry_faults entries before (signature at vars places ty) ≡ [] → is_among before.signatures at.name ≡ false
  signature_new before at vars places ty none =
      not_again before.signatures at.place at.name
      (none_left (again before.signatures at.place at.name) (twins [] (ats_of vars places))
      (none_left (again before.signatures at.place at.name ++ twins [] (ats_of vars places)) (type_faults entries (var_names vars) ty) none))

  -- a type that is declared here is declared nowhere before
  pub new_type : (es : List Entry) (before : Before) (n : List ℕ) (d : Declared) → faults_from entries before es ≡ [] → type_named es n ≡ Some d → is_among before.types n ≡ false
  new_type [] before n d none is = absurd (cc)
  new_type (synonym at params body ∷ es) before n d none is =
      pick (bytes_eq n at.name) refl is (λ found. (or_parts (bytes_eq n at.name) (is_among before.types n) (new_type es (declared_with before (synonym at params body)) n d (behind entries before (synonym at params body) es none) found)).1)
    where
      pick : (b : Bool) → bytes_eq n at.name ≡ b → cond b (Some (record { params = params; body = Some body })) (type_named es n) ≡ Some d → (type_named es n ≡ Some d → is_among before.types n ≡ false) → is_among before.types n ≡ false
      pick true e found rest = ap (is_among before.types) (is_name n at.name e) ∙ type_new before at params body (here before (synonym at params body) es none)
      pick false e found rest = rest found
  new_type (abstract at params ∷ es) before n d none is =
      pick (bytes_eq n at.name) refl is (λ found. (or_parts (bytes_eq n at.name) (is_among before.types n) (new_type es (declared_with before (abstract at params)) n d (behind entries before (abstract at params) es none) found)).1)
    where
      pick : (b : Bool) → bytes_eq n at.name ≡ b → cond b (Some (record { params = params; body = None })) (type_named es n) ≡ Some d → (type_named es n ≡ Some d → is_among before.types n ≡ false) → is_among before.types n ≡ false
      pick true e found rest = ap (is_among before.types) (is_name n at.name e) ∙ abstract_new before at params (here before (abstract at params) es none)
      pick false e found rest = rest found
  new_type (signature at vars places ty ∷ es) before n d none is = new_type es (declared_with before (signature at vars places ty)) n d (behind entries before (signature at vars places ty) es none) is
  new_type (define at param body ∷ es) before n d none is = new_type es (declared_with before (define at param body)) n d (behind entries before (define at param body) es none) is

-- ---- each item is of its shape, and within the limit of parts

pub entry_shaped : (es : List Entry) (i : ℕ) (e : Entry) → All IsShapedEntry es → slice_get es i ≡ Some e → IsShapedEntry e
entry_shaped es i e all stands = carry IsShapedEntry (get_or_from_slice_get es i e e stands) (All-get_or IsShapedEntry es i e (slice_get_within es i e stands) all)

pub entry_narrow : (es : List Entry) (i : ℕ) (e : Entry) → widest_part es ≤ parts_limit → slice_get es i ≡ Some e → widest_entry e ≤ parts_limit
entry_narrow [] i e narrow stands = absurd (cc)
entry_narrow (f ∷ es) zero e narrow stands = let is : f ≡ e = cc in carry (λ g. widest_entry g ≤ parts_limit) is (omega (arith, narrow))
entry_narrow (f ∷ es) (suc i) e narrow stands = entry_narrow es i e (omega (arith, narrow)) stands

-- ---- a definition that is found is an item

pub record IsDefinition (es : List Entry) (n : List ℕ) (d : Defined) : Type 0 where
  pub at : At
  pub position : ℕ
  pub stands : slice_get es position ≡ Some (define at d.param d.body)
  pub named : n ≡ at.name

definition_behind : (e : Entry) (es : List Entry) (n : List ℕ) (d : Defined) → IsDefinition es n d → IsDefinition (e ∷ es) n d
definition_behind e es n d found = record { at = found.at; position = suc found.position; stands = found.stands; named = found.named }

pub definition_found : (es : List Entry) (n : List ℕ) (d : Defined) → definition_named es n ≡ Some d → IsDefinition es n d
definition_found [] n d is = absurd (cc)
definition_found (define at param body ∷ es) n d is = pick (bytes_eq n at.name) refl is (λ found. definition_behind (define at param body) es n d (definition_found es n d found))
  where
    pick : (b : Bool) → bytes_eq n at.name ≡ b → cond b (Some (record { param = param; body = body })) (definition_named es n) ≡ Some d → (definition_named es n ≡ Some d → IsDefinition (define at param body ∷ es) n d)
        → IsDefinition (define at param body ∷ es) n d
    pick true e found rest =
        let same : d ≡ record { param = param; body = body } = cc in
        record { at = at; position = 0; stands = ap (λ (x : Defined). Some (define at x.param x.body)) (sym same); named = is_name n at.name e }
    pick false e found rest = rest found
definition_found (synonym at params body ∷ es) n d is = definition_behind (synonym at params body) es n d (definition_found es n d is)
definition_found (abstract at params ∷ es) n d is = definition_behind (abstract at params) es n d (definition_found es n d is)
definition_found (signature at vars places ty ∷ es) n d is = definition_behind (signature at vars places ty) es n d (definition_found es n d is)
