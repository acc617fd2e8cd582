-- The bodies of synonyms, built in an order in which each stands behind all that it mentions.
use Rattle.std.proofs.Common.{◌≡◌, ℕ, zero, suc, ◌<◌, ◌≤◌, Bool, true, false, cond, List, [], ◌∷◌, ◌++◌, length, take, get_or, ◌⊎◌, inl, inr, Option, Some, None, refl, sym, ap, ◌∙◌, subst, arith}
use Rattle.std.proofs.Math.Path.{fun_ext}
use Rattle.std.proofs.Math.Seq.{take-suc}
use Rattle.std.proofs.lemmas.Bool.{true≢false}
use Rattle.std.proofs.lemmas.List.{length-map}
use Rattle.std.proofs.lemmas.List.Elements.{Contains-push, Contains-push_cases}
use Rattle.std.specs.Cmp.Lexicographic.{bytes_decides, nat_list_eq_equiv}
use Rattle.std.specs.List.{slice_get, Contains}
use Rattle.std.specs.Str.{bytes_eq}
use Rattle.cg_graphs.specs.Circles.{IsOrder}
use Rattle.cg_core.specs.declared.at.At.{At}
use Rattle.cg_surface.specs.Programs.{Entry, synonym, abstract, signature, define}
use Rattle.cg_surface.specs.Written.{Written}
use Rattle.cg_resolve_def.proofs.Solved.{Agree, IsFirstSynonym, IsPlaced, all_placed, bodies_solve, expanded_same, mentions_placed, nothing_yet, synonym_found}
use Rattle.cg_resolve_def.specs.Declared.{type_named}
use Rattle.cg_resolve_def.specs.Desugar.{type_limit}
use Rattle.cg_resolve_def.specs.Expand.{Bodies, bodies, body_of, expanded}
use Rattle.cg_resolve_def.specs.Faults.{beforehand, names_of, program_faults}
use Rattle.cg_resolve_def.specs.Mentions.{mentions, entry_mentions, synonym_from, type_mentions}
use Rattle.cg_resolve_def.specs.Takes.{largest_type}
use Rattle.cg_resolve_written.specs.Keeps.{Keeps, KeepsBody, greatest_at}
use Rattle.cg_resolve_written.specs.Measures.{greatest_entry, greatest_part}
use Rattle.cg_resolve_written.specs.Sizes.{greatest}
use Rattle.cg_resolve_written.proofs.Apart.{first_synonym, first_type, synonym_stands}
use Rattle.cg_resolve_written.proofs.Largest.{largest_part}
use Rattle.cg_resolve_written.proofs.Same.{greatest_same}

-- the largest type, where the bodies are known
pub measured : (entries : List Entry) (known : Bodies) → known ≡ bodies entries → greatest_part known entries ≡ largest_type entries
measured entries known same = ap (λ k. greatest_part k entries) same ∙ sym (largest_part (bodies entries) entries entries)

-- what the first k of the order are for is known, and of names that are no synonyms nothing
pub record IsBuilt (entries : List Entry) (order : List ℕ) (k : ℕ) (known : Bodies) : Type 0 where
  pub at : (n : List ℕ) → IsPlaced entries order k n → known n ≡ bodies entries n

-- what an item writes is no larger than the largest of all
entry_le : (known : Bodies) (es : List Entry) (i : ℕ) (e : Entry) → slice_get es i ≡ Some e → greatest_entry known e ≤ greatest_part known es
entry_le known [] i e stands = absurd (cc)
entry_le known (f ∷ es) zero e stands = let same : f ≡ e = cc in omega (arith, ap (greatest_entry known) same)
entry_le known (f ∷ es) (suc i) e stands = omega (arith, entry_le known es i e stands)

module _ (entries : List Entry) (order : List ℕ) (is : IsOrder (mentions entries) order) where
  -- nothing is built
  pub built_none : (known : Bodies) → ((n : List ℕ) → known n ≡ None) → IsBuilt entries order 0 known
  built_none known none = record { at = λ n placed. none n ∙ sym (nothing_yet entries order is (length entries) n placed) }

  -- all is built
  pub built_all : (k : ℕ) (known : Bodies) → k ≡ length order → IsBuilt entries order k known → known ≡ bodies entries
  built_all k known end built = fun_ext (λ n. built.at n (subst (λ k. IsPlaced entries order k n) (sym (end ∙ is.size ∙ length-map entries (entry_mentions entries))) (all_placed entries order is n)))

  module _ (apart : program_faults entries ≡ []) (k i : ℕ) (lt : k < length order) (here : get_or order k i ≡ i) (known : Bodies) (built : IsBuilt entries order k known) where
    one_further : take (suc k) order ≡ take k order ++ i ∷ []
    one_further = take-suc order k i lt ∙ ap (λ j. take k order ++ j ∷ []) here

    -- a name whose first synonym doesn't stand here was placed before
    earlier : (n : List ℕ) → IsPlaced entries order (suc k) n → (synonym_from 0 entries n ≡ i ∷ [] → ⊥) → IsPlaced entries order k n
    earlier n placed other = record { among = λ j first. split j first (Contains-push_cases (take k order) i j (subst (λ l. Contains l j) one_further (placed.among j first))) }
      where
        split : (j : ℕ) → synonym_from 0 entries n ≡ j ∷ [] → Contains (take k order) j ⊎ (i ≡ j) → Contains (take k order) j
        split j first (inl has) = has
        split j first (inr same) = absurd (other (first ∙ ap (λ m. m ∷ []) (sym same)))

    -- where there is no synonym, nothing is to be built
    no_synonym : (new : Bodies) → ((n : List ℕ) → new n ≡ known n) → ((at : At) (params : List At) (body : Written) → slice_get entries i ≡ Some (synonym at params body) → ⊥) → IsBuilt entries order (suc k) new
    no_synonym new same other = record { at = λ n placed. same n ∙ built.at n (earlier n placed (not_here n)) }
      where
        not_here : (n : List ℕ) → synonym_from 0 entries n ≡ i ∷ [] → ⊥
        not_here n first =
            let found = synonym_stands entries 0 n i first in
            other found.2.at found.2.params found.2.body (ap (slice_get entries) (omega (arith, found.1)) ∙ found.2.stands)

    module _ (at : At) (params : List At) (body : Written) (stands : slice_get entries i ≡ Some (synonym at params body)) where
      is_type : type_named entries at.name ≡ Some (record { params = params; body = Some body })
      is_type = first_type entries entries beforehand i at params body apart stands

      is_first : synonym_from 0 entries at.name ≡ i ∷ []
      is_first = first_synonym entries entries beforehand 0 i at params body apart stands ∙ ap (λ j. j ∷ []) (omega arith)

      found : IsFirstSynonym entries 0 at.name params body
      found = synonym_found entries 0 at.name params body is_type

      placed : IsPlaced entries order (suc k) at.name
      placed = record {
        among = λ j first.
            let same : i ≡ j = let both : i ∷ [] ≡ j ∷ [] = sym is_first ∙ first in cc in
            subst (λ m. Contains (take (suc k) order) m) same (subst (λ l. Contains l i) (sym one_further) (Contains-push (take k order) i));
      }

      -- what the body mentions is built
      agree : Agree known (bodies entries) (type_mentions body)
      agree = record { at = λ m has. built.at m (mentions_placed entries order is k at.name params body found placed m has) }

      solved : bodies entries at.name ≡ Some (expanded known (names_of params) body)
      solved =
          bodies_solve entries order is at.name ∙ ap (body_of (bodies entries)) is_type ∙ ap Some (sym (expanded_same known (bodies entries) (names_of params) body agree))

      a_synonym : (new : Bodies) → KeepsBody known new at.name (names_of params) body → IsBuilt entries order (suc k) new
      a_synonym new keeps = record { at = λ n placed. keeps n ∙ pick n placed (bytes_eq at.name n) refl }
        where
          pick : (n : List ℕ) → IsPlaced entries order (suc k) n → (b : Bool) → bytes_eq at.name n ≡ b → cond b (Some (expanded known (names_of params) body)) (known n) ≡ bodies entries n
          pick n placed true same = sym solved ∙ ap (bodies entries) ((bytes_decides at.name n).0 same)
          pick n placed false differs = built.at n (earlier n placed not_here)
            where
              not_here : synonym_from 0 entries n ≡ i ∷ [] → ⊥
              not_here first =
                  let other = synonym_stands entries 0 n i first in
                  let same : synonym at params body ≡ synonym other.2.at other.2.params other.2.body =
                  some_same (sym stands ∙ ap (slice_get entries) (omega (arith, other.1)) ∙ other.2.stands) in
                  let one : at ≡ other.2.at = cc in
                  true≢false (sym other.2.named ∙ ap (λ a. bytes_eq n a.name) (sym one) ∙ nat_list_eq_equiv.symm n at.name ∙ differs)
                where
                  some_same : {e f : Entry} → Some e ≡ Some f → e ≡ f
                  some_same h = cc

      too_large : type_limit < greatest known body → type_limit < largest_type entries
      too_large over =
          omega (arith, greatest_same known (bodies entries) body agree, entry_le (bodies entries) entries i (synonym at params body) stands, largest_part (bodies entries) entries entries)

    -- the item at the next position
    pub built_more : (new : Bodies) (o : Option Entry) → slice_get entries i ≡ o → Keeps known new o → IsBuilt entries order (suc k) new
    built_more new None stands keeps = no_synonym new keeps (λ at params body other. absurd (let e : None ≡ Some (synonym at params body) = sym stands ∙ other in cc))
    built_more new (Some (synonym at params body)) stands keeps = a_synonym at params body stands new keeps
    built_more new (Some (abstract at ps)) stands keeps =
        no_synonym new keeps (λ at' params body other. absurd (let e : Some (abstract at ps) ≡ Some (synonym at' params body) = sym stands ∙ other in cc))
    built_more new (Some (signature at vars places ty)) stands keeps =
        no_synonym new keeps (λ at' params body other. absurd (let e : Some (signature at vars places ty) ≡ Some (synonym at' params body) = sym stands ∙ other in cc))
    built_more new (Some (define at param t)) stands keeps =
        no_synonym new keeps (λ at' params body other. absurd (let e : Some (define at param t) ≡ Some (synonym at' params body) = sym stands ∙ other in cc))

    pub built_over : (o : Option Entry) → slice_get entries i ≡ o → type_limit < greatest_at known o → type_limit < largest_type entries
    built_over None stands over = absurd (omega arith)
    built_over (Some (synonym at params body)) stands over = too_large at params body stands over
    built_over (Some (abstract at ps)) stands over = absurd (omega arith)
    built_over (Some (signature at vars places ty)) stands over = absurd (omega arith)
    built_over (Some (define at param t)) stands over = absurd (omega arith)
