-- What the synonyms of a program are for is lawful over as many type variables as they have parameters, by induction along an order of the
-- program's items.
use Rattle.std.proofs.Common.{◌≡◌, ℕ, zero, suc, ◌≤◌, ◌||◌, Bool, true, false, cond, List, [], ◌++◌, map, length, codes, Option, Some, None, refl, sym, ap, ◌∙◌, subst as carry}
use Rattle.std.proofs.lemmas.List.{length-map}
use Rattle.std.specs.Option.{option_map}
use Rattle.std.specs.Str.{bytes_eq}
use Rattle.cg_graphs.specs.Circles.{IsOrder}
use Rattle.cg_core.specs.declared.at.At.{At}
use Rattle.cg_core_def.specs.Lawful.{IsLawfulType}
use Rattle.cg_surface.specs.Programs.{Entry, synonym}
use Rattle.cg_surface.specs.Written.{Written}
use Rattle.cg_resolve_def.specs.Declared.{Declared, arity_beside, is_among, looked_up, plain_types, type_arity, type_named}
use Rattle.cg_resolve_def.specs.Desugar.{parts_limit}
use Rattle.cg_resolve_def.specs.Expand.{bodies, body_among, body_of, expanded}
use Rattle.cg_resolve_def.specs.Faults.{again, beforehand, names_of, program_faults, twins, type_faults}
use Rattle.cg_resolve_def.specs.Mentions.{mentions}
use Rattle.cg_resolve_def.specs.Takes.{widest_part}
use Rattle.cg_resolve_def.proofs.Solved.{IsFirstSynonym, IsPlaced, all_placed, bodies_solve, mentions_placed, nothing_yet, synonym_found}
use Rattle.cg_resolve_def.proofs.Faultless.{none_right}
use Rattle.cg_resolve_def.specs.Shaped.{IsShaped}
use Rattle.cg_resolve_laws.proofs.Expanded.{AreSound, IsSound, type_lawful}
use Rattle.cg_resolve_laws.proofs.Items.{entry_narrow, entry_shaped, new_type, without}

module _ (entries : List Entry) (shaped : IsShaped entries) (none : program_faults entries ≡ []) (narrow : widest_part entries ≤ parts_limit) where
  -- a type that is declared is no array
  no_array : (n : List ℕ) (d : Declared) → type_named entries n ≡ Some d → bytes_eq n (codes "WordArray") ≡ false
  no_array n d is = pick (bytes_eq n (codes "WordArray")) (new_type entries entries beforehand n d none is)
    where
      pick : (b : Bool) → (b || is_among (map (λ line. line.0) plain_types) n) ≡ false → b ≡ false
      pick true e = absurd (cc)
      pick false e = refl

  -- its parameters are as many as it has arguments
  parameters : (n : List ℕ) (d : Declared) (arity : ℕ) → type_named entries n ≡ Some d → looked_up plain_types n ≡ None → type_arity entries n ≡ Some arity → arity ≡ length d.params
  parameters n d arity is plain has =
      let some : Some (length d.params) ≡ Some arity =
      sym (ap (arity_beside entries n) plain ∙ ap (λ b. cond b (Some 1) (option_map (λ (x : Declared). length x.params) (type_named entries n))) (no_array n d is) ∙ ap (option_map (λ (x : Declared). length x.params)) is) ∙ has in
      let same : length d.params ≡ arity = cc in
      sym same

  module _ (order : List ℕ) (is : IsOrder (mentions entries) order) where
    -- the body of a synonym is lawful where all that it mentions is
    body_lawful : (p : ℕ) (n : List ℕ) (params : List At) (t : Written) → IsPlaced entries order (suc p) n → type_named entries n ≡ Some (record { params = params; body = Some t })
        → ((m : List ℕ) → IsPlaced entries order p m → IsSound entries (bodies entries) m) → IsLawfulType (length params) (expanded (bodies entries) (names_of params) t)
    body_lawful p n params t placed named below =
        let found : IsFirstSynonym entries 0 n params t = synonym_found entries 0 n params t named in
        let item = without entries entries beforehand found.position (synonym found.at params t) none found.stands in
        carry (λ k. IsLawfulType k (expanded (bodies entries) (names_of params) t)) (length-map params (λ at. at.name))
        (type_lawful entries (bodies entries) (names_of params) t
        (none_right (again item.before.types found.at.place found.at.name ++ twins [] params) (type_faults entries (names_of params) t) item.none)
        (entry_shaped entries found.position (synonym found.at params t) shaped found.stands)
        (entry_narrow entries found.position (synonym found.at params t) narrow found.stands)
        (record { at = λ m has. below m (mentions_placed entries order is p n params t found placed m has) }))

    bodies_sound : (p : ℕ) (n : List ℕ) → IsPlaced entries order p n → IsSound entries (bodies entries) n
    bodies_sound zero n placed body arity knows plain has = absurd (let nothing = nothing_yet entries order is (length entries) n placed in let no : None ≡ Some body = sym nothing ∙ knows in cc)
    bodies_sound (suc p) n placed body arity knows plain has =
        declared (type_named entries n) refl (sym (bodies_solve entries order is n) ∙ knows) (bodies_sound p)
      where
        declared : (d : Option Declared) → type_named entries n ≡ d → body_of (bodies entries) d ≡ Some body → ((m : List ℕ) → IsPlaced entries order p m → IsSound entries (bodies entries) m) → IsLawfulType arity body
        declared None e made below = absurd (cc)
        declared (Some d) e made below = with_body d.body refl made
          where
            with_body : (b : Option Written) → d.body ≡ b → body_among (bodies entries) d.params b ≡ Some body → IsLawfulType arity body
            with_body None f made = absurd (cc)
            with_body (Some t) f made =
                let same : expanded (bodies entries) (names_of d.params) t ≡ body = cc in
                carry (λ k. IsLawfulType k body) (sym (parameters n d arity e plain has))
                (carry (IsLawfulType (length d.params)) same (body_lawful p n d.params t placed (e ∙ ap (λ x. Some (record { params = d.params; body = x })) f) below))

    -- all bodies are lawful
    pub all_sound : (names : List (List ℕ)) → AreSound entries (bodies entries) names
    all_sound names = record { at = λ n has. bodies_sound (length entries) n (all_placed entries order is n) }
