-- Where names are in order, a synonym is the type of its name, and the first synonym of it.
use Rattle.std.proofs.Common.{◌≡◌, ℕ, zero, suc, ◌+◌, Bool, true, false, cond, List, [], ◌∷◌, ◌++◌, Some, None, refl, sym, ap, ◌∙◌, arith}
use Rattle.std.proofs.lemmas.Bool.{or_parts}
use Rattle.std.specs.List.{slice_get}
use Rattle.std.specs.Str.{bytes_eq}
use Rattle.cg_core.specs.declared.at.At.{At}
use Rattle.cg_surface.specs.Programs.{Entry, synonym, abstract, signature, define}
use Rattle.cg_surface.specs.Written.{Written}
use Rattle.cg_resolve_def.specs.Declared.{is_among, type_named}
use Rattle.cg_resolve_def.specs.Faults.{Before, again, declared_with, entry_faults, faults_from, twins, type_faults, names_of}
use Rattle.cg_resolve_def.specs.Mentions.{synonym_from}
use Rattle.cg_resolve_def.proofs.Faultless.{behind, none_left, not_again}
use Rattle.cg_base.proofs.Sequences.{itself as same_name}

module _ (entries : List Entry) where
  -- a synonym's name is none of those before it
  not_before : (es : List Entry) (before : Before) (i : ℕ) (at : At) (params : List At) (body : Written) → faults_from entries before es ≡ [] → slice_get es i ≡ Some (synonym at params body) → is_among before.types at.name ≡ false
  not_before [] before i at params body none stands = absurd (cc)
  not_before (e ∷ es) before zero at params body none stands =
      let is : e ≡ synonym at params body = cc in
      not_again before.types at.place at.name
      (none_left (again before.types at.place at.name) (twins [] params)
      (none_left (again before.types at.place at.name ++ twins [] params) (type_faults entries (names_of params) body)
      (ap (entry_faults entries before) (sym is) ∙ none_left (entry_faults entries before e) (faults_from entries (declared_with before e) es) none)))
  not_before (synonym at' ps t ∷ es) before (suc i) at params body none stands =
      (or_parts (bytes_eq at.name at'.name) (is_among before.types at.name) (not_before es (declared_with before (synonym at' ps t)) i at params body (behind entries before (synonym at' ps t) es none) stands)).1
  not_before (abstract at' ps ∷ es) before (suc i) at params body none stands =
      (or_parts (bytes_eq at.name at'.name) (is_among before.types at.name) (not_before es (declared_with before (abstract at' ps)) i at params body (behind entries before (abstract at' ps) es none) stands)).1
  not_before (signature at' vars places ty ∷ es) before (suc i) at params body none stands =
      not_before es (declared_with before (signature at' vars places ty)) i at params body (behind entries before (signature at' vars places ty) es none) stands
  not_before (define at' param t ∷ es) before (suc i) at params body none stands =
      not_before es (declared_with before (define at' param t)) i at params body (behind entries before (define at' param t) es none) stands

  -- it is the first type of its name
  pub first_type : (es : List Entry) (before : Before) (i : ℕ) (at : At) (params : List At) (body : Written) → faults_from entries before es ≡ [] → slice_get es i ≡ Some (synonym at params body)
      → type_named es at.name ≡ Some (record { params = params; body = Some body })
  first_type [] before i at params body none stands = absurd (cc)
  first_type (e ∷ es) before zero at params body none stands =
      let is : e ≡ synonym at params body = cc in
      ap (λ f. type_named (f ∷ es) at.name) is ∙ ap (λ b. cond b (Some (record { params = params; body = Some body })) (type_named es at.name)) (same_name at.name)
  first_type (synonym at' ps t ∷ es) before (suc i) at params body none stands =
      ap (λ b. cond b (Some (record { params = ps; body = Some t })) (type_named es at.name))
      (or_parts (bytes_eq at.name at'.name) (is_among before.types at.name) (not_before es (declared_with before (synonym at' ps t)) i at params body (behind entries before (synonym at' ps t) es none) stands)).0
      ∙ first_type es (declared_with before (synonym at' ps t)) i at params body (behind entries before (synonym at' ps t) es none) stands
  first_type (abstract at' ps ∷ es) before (suc i) at params body none stands =
      ap (λ b. cond b (Some (record { params = ps; body = None })) (type_named es at.name))
      (or_parts (bytes_eq at.name at'.name) (is_among before.types at.name) (not_before es (declared_with before (abstract at' ps)) i at params body (behind entries before (abstract at' ps) es none) stands)).0
      ∙ first_type es (declared_with before (abstract at' ps)) i at params body (behind entries before (abstract at' ps) es none) stands
  first_type (signature at' vars places ty ∷ es) before (suc i) at params body none stands =
      first_type es (declared_with before (signature at' vars places ty)) i at params body (behind entries before (signature at' vars places ty) es none) stands
  first_type (define at' param t ∷ es) before (suc i) at params body none stands =
      first_type es (declared_with before (define at' param t)) i at params body (behind entries before (define at' param t) es none) stands

  -- and so the first synonym of its name stands here
  pub first_synonym : (es : List Entry) (before : Before) (b i : ℕ) (at : At) (params : List At) (body : Written) → faults_from entries before es ≡ [] → slice_get es i ≡ Some (synonym at params body)
      → synonym_from b es at.name ≡ (b + i) ∷ []
  first_synonym [] before b i at params body none stands = absurd (cc)
  first_synonym (e ∷ es) before b zero at params body none stands =
      let is : e ≡ synonym at params body = cc in
      ap (λ f. synonym_from b (f ∷ es) at.name) is ∙ ap (λ c. cond c (b ∷ []) (synonym_from (b + 1) es at.name)) (same_name at.name) ∙ ap (λ k. k ∷ []) (omega arith)
  first_synonym (synonym at' ps t ∷ es) before b (suc i) at params body none stands =
      ap (λ c. cond c (b ∷ []) (synonym_from (b + 1) es at.name))
      (or_parts (bytes_eq at.name at'.name) (is_among before.types at.name) (not_before es (declared_with before (synonym at' ps t)) i at params body (behind entries before (synonym at' ps t) es none) stands)).0
      ∙ first_synonym es (declared_with before (synonym at' ps t)) (b + 1) i at params body (behind entries before (synonym at' ps t) es none) stands ∙ ap (λ k. k ∷ []) (omega arith)
  first_synonym (abstract at' ps ∷ es) before b (suc i) at params body none stands =
      first_synonym es (declared_with before (abstract at' ps)) (b + 1) i at params body (behind entries before (abstract at' ps) es none) stands ∙ ap (λ k. k ∷ []) (omega arith)
  first_synonym (signature at' vars places ty ∷ es) before b (suc i) at params body none stands =
      first_synonym es (declared_with before (signature at' vars places ty)) (b + 1) i at params body (behind entries before (signature at' vars places ty) es none) stands ∙ ap (λ k. k ∷ []) (omega arith)
  first_synonym (define at' param t ∷ es) before b (suc i) at params body none stands =
      first_synonym es (declared_with before (define at' param t)) (b + 1) i at params body (behind entries before (define at' param t) es none) stands ∙ ap (λ k. k ∷ []) (omega arith)

-- where the first synonym of a name stands there is a synonym of that name
pub record IsSynonymOf (es : List Entry) (j : ℕ) (n : List ℕ) : Type 0 where
  pub at : At
  pub params : List At
  pub body : Written
  pub stands : slice_get es j ≡ Some (synonym at params body)
  pub named : bytes_eq n at.name ≡ true

pub synonym_stands : (es : List Entry) (b : ℕ) (n : List ℕ) (k : ℕ) → synonym_from b es n ≡ k ∷ [] → (j : ℕ) × (k ≡ b + j) × IsSynonymOf es j n
synonym_stands [] b n k is = absurd (cc)
synonym_stands (synonym at ps t ∷ es) b n k is = pick (bytes_eq n at.name) refl is (synonym_stands es (b + 1) n k)
  where
    pick : (test : Bool) → bytes_eq n at.name ≡ test → cond test (b ∷ []) (synonym_from (b + 1) es n) ≡ k ∷ [] → (synonym_from (b + 1) es n ≡ k ∷ [] → (j : ℕ) × (k ≡ b + 1 + j) × IsSynonymOf es j n)
        → (j : ℕ) × (k ≡ b + j) × IsSynonymOf (synonym at ps t ∷ es) j n
    pick true e found rest = let same : b ≡ k = cc in (0, omega arith, record { at = at; params = ps; body = t; stands = refl; named = e })
    pick false e found rest =
        let r = rest found in
        (suc r.0, omega (arith, r.1), record { at = r.2.at; params = r.2.params; body = r.2.body; stands = r.2.stands; named = r.2.named })
synonym_stands (abstract at ps ∷ es) b n k is =
    let r = synonym_stands es (b + 1) n k is in
    (suc r.0, omega (arith, r.1), record { at = r.2.at; params = r.2.params; body = r.2.body; stands = r.2.stands; named = r.2.named })
synonym_stands (signature at vars places ty ∷ es) b n k is =
    let r = synonym_stands es (b + 1) n k is in
    (suc r.0, omega (arith, r.1), record { at = r.2.at; params = r.2.params; body = r.2.body; stands = r.2.stands; named = r.2.named })
synonym_stands (define at param t ∷ es) b n k is =
    let r = synonym_stands es (b + 1) n k is in
    (suc r.0, omega (arith, r.1), record { at = r.2.at; params = r.2.params; body = r.2.body; stands = r.2.stands; named = r.2.named })
