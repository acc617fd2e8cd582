-- Scopes, one entry more.
use Rattle.std.proofs.Common.{◌≡◌, ℕ, zero, suc, ◌+◌, ◌<◌, ◌≤◌, List, [], ◌∷◌, ◌++◌, map, reverse, length, set, Option, Some, if◌then◌else◌, refl, sym, ap, ◌∙◌, arith}
use Rattle.std.proofs.lemmas.List.{map-append, reverse-append, length-map, length-reverse}
use Rattle.cg_core.specs.declared.at.At.{At}
use Rattle.cg_core.specs.declared.term.Seen.{Seen}
use Rattle.cg_core.specs.declared.term.Term.{the_lemmas as term_lemmas}
use Rattle.cg_resolve_def.specs.Terms.{Scope, variable, has_name, or_zero, positions, named_remainder}
use Rattle.cg_resolve_sites.specs.Sites.{entry_of, scope_of}
use denote.Ref.{Bor}

pub scope_push : (entries : List (Option (Bor (List ℕ)))) (e : Option (Bor (List ℕ))) → scope_of (entries ++ e ∷ []) ≡ entry_of e ∷ scope_of entries
scope_push entries e = ap reverse (map-append entry_of entries (e ∷ [])) ∙ reverse-append (map entry_of entries) (entry_of e ∷ [])

pub scope_long : (entries : List (Option (Bor (List ℕ)))) → length (scope_of entries) ≡ length entries
scope_long entries = length-reverse (map entry_of entries) ∙ length-map entries entry_of

-- the variable of one entry more
pub variable_push : (entries : List (Option (Bor (List ℕ)))) (e : Option (Bor (List ℕ))) (name : List ℕ)
    → variable (scope_of (entries ++ e ∷ [])) name ≡ (if has_name name (entry_of e) then Some (length entries) else variable (scope_of entries) name)
variable_push entries e name =
    ap (λ scope. variable scope name) (scope_push entries e)
    ∙ ap (λ n. if has_name name (entry_of e) then Some n else variable (scope_of entries) name) (scope_long entries)

-- an observed variable
abbrev pub seen_at : Scope → At → Seen
seen_at scope at = record { var = or_zero (variable scope at.name); place = at.place }

pub positions_map : (scope : Scope) (ats : List At) → positions scope ats ≡ map (seen_at scope) ats
positions_map scope [] = refl
positions_map scope (at ∷ ats) = ap (λ l. seen_at scope at ∷ l) (positions_map scope ats)

pub ruleset scope_steps = (scope_push, scope_long, variable_push, positions_map, term_lemmas)

-- ---- the last remainder, named

remainder_more : (n : List ℕ) (l m : Scope) → 2 ≤ length l → named_remainder n (l ++ m) ≡ named_remainder n l ++ m
remainder_more n [] m two = absurd (omega arith)
remainder_more n (v ∷ []) m two = absurd (omega arith)
remainder_more n (v ∷ r ∷ outer) m two = refl

scope_cons : (e : Option (Bor (List ℕ))) (entries : List (Option (Bor (List ℕ)))) → scope_of (e ∷ entries) ≡ scope_of entries ++ entry_of e ∷ []
scope_cons e entries = reverse-append (entry_of e ∷ []) (map entry_of entries)

pub remainder_set : (entries : List (Option (Bor (List ℕ)))) (i : ℕ) (n : Bor (List ℕ)) → i + 2 ≡ length entries → scope_of (set entries i (Some n)) ≡ named_remainder n.now (scope_of entries)
remainder_set [] i n long = absurd (omega arith)
remainder_set (x ∷ []) i n long = absurd (omega arith)
remainder_set (x ∷ y ∷ []) zero n long = refl
remainder_set (x ∷ y ∷ z ∷ more) zero n long = absurd (omega arith)
remainder_set (x ∷ entries) (suc i) n long =
    scope_cons x (set entries i (Some n))
    ∙ ap (λ l. l ++ entry_of x ∷ []) (remainder_set entries i n (omega arith))
    ∙ sym (remainder_more n.now (scope_of entries) (entry_of x ∷ []) (omega (arith, scope_long entries)))
    ∙ ap (named_remainder n.now) (sym (scope_cons x entries))

pub remainder_few : (entries : List (Option (Bor (List ℕ)))) (n : List ℕ) → length entries < 2 → scope_of entries ≡ named_remainder n (scope_of entries)
remainder_few [] n few = refl
remainder_few (x ∷ []) n few = refl
remainder_few (x ∷ y ∷ more) n few = absurd (omega arith)
