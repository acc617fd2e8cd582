-- In the order of mentions the heads of all synonyms are found.
use Rattle.std.proofs.Common.{◌≡◌, ℕ, zero, suc, ◌+◌, ◌≤◌, ◌⊎◌, Bool, true, false, cond, List, [], ◌∷◌, map, take, get_or, Option, Some, None, refl, sym, ap, ◌∙◌, subst, arith, add-one, inl, inr, ⊎_elim}
use Rattle.std.proofs.lemmas.Bool.{true≢false}
use Rattle.std.proofs.lemmas.List.{length-map, take_more}
use Rattle.std.proofs.lemmas.List.Elements.{Contains-append_cases}
use Rattle.std.proofs.lemmas.Option.{slice_get_within, get_or_from_slice_get}
use Rattle.std.specs.Cmp.Lexicographic.{bytes_decides, nat_list_eq_equiv}
use Rattle.std.specs.List.{slice_get, Contains}
use Rattle.std.specs.Str.{bytes_eq}
use Rattle.cg_graphs.specs.Circles.{IsOrder}
use Rattle.cg_core.specs.declared.at.At.{At}
use Rattle.cg_surface.specs.Programs.{Entry, synonym, abstract, signature, define}
use Rattle.cg_surface.specs.Written.{Written, place_of}
use Rattle.cg_resolve_def.proofs.Solved.{IsFirstSynonym, synonym_found, IsPlaced, mentions_placed, bodies_solve}
use Rattle.cg_resolve_def.specs.Declared.{Declared, type_named}
use Rattle.cg_resolve_def.specs.Expand.{bodies, body_among, body_of}
use Rattle.cg_resolve_def.specs.Mentions.{entry_mentions, mentions, synonym_from}
use Rattle.cg_resolve_takes.specs.Heads.{Heads, head_of, head_of_body, tops}
use Rattle.cg_resolve_takes.specs.Known.{HaveMore, KeepsBody, KeepsNamed, Keeps, Knows}
use Rattle.cg_resolve_takes.proofs.Same.{head_same}
use Rattle.cg_resolve_takes.proofs.Tops.{head_is}

-- ---- the first synonym of a name is one of this name

abbrev IsNamed : List ℕ → Option Entry → Type 0
IsNamed n (Some (synonym at params body)) = bytes_eq n at.name ≡ true
IsNamed n (Some (abstract at params)) = ⊥
IsNamed n (Some (signature at vars places ty)) = ⊥
IsNamed n (Some (define at param body)) = ⊥
IsNamed n None = ⊥

synonym_above : (entries : List Entry) (b j : ℕ) (n : List ℕ) → synonym_from b entries n ≡ j ∷ [] → b ≤ j
synonym_above [] b j n is = absurd (cc)
synonym_above (synonym at params body ∷ later) b j n is = pick (bytes_eq n at.name) is (synonym_above later (b + 1) j n)
  where
    pick : (test : Bool) → cond test (b ∷ []) (synonym_from (b + 1) later n) ≡ j ∷ [] → (synonym_from (b + 1) later n ≡ j ∷ [] → b + 1 ≤ j) → b ≤ j
    pick true found rest = let e : b ≡ j = cc in omega arith
    pick false found rest = omega (arith, rest found)
synonym_above (abstract at params ∷ later) b j n is = omega (arith, synonym_above later (b + 1) j n is)
synonym_above (signature at vars places ty ∷ later) b j n is = omega (arith, synonym_above later (b + 1) j n is)
synonym_above (define at param body ∷ later) b j n is = omega (arith, synonym_above later (b + 1) j n is)

synonym_named : (entries : List Entry) (b i : ℕ) (n : List ℕ) → synonym_from b entries n ≡ (b + i) ∷ [] → IsNamed n (slice_get entries i)
synonym_named [] b i n is = absurd (cc)
synonym_named (synonym at params body ∷ later) b i n is = pick i (bytes_eq n at.name) refl is (synonym_named later (b + 1))
  where
    pick : (i : ℕ) (test : Bool) → bytes_eq n at.name ≡ test → cond test (b ∷ []) (synonym_from (b + 1) later n) ≡ (b + i) ∷ []
        → ((i : ℕ) (n : List ℕ) → synonym_from (b + 1) later n ≡ (b + 1 + i) ∷ [] → IsNamed n (slice_get later i)) → IsNamed n (slice_get (synonym at params body ∷ later) i)
    pick zero true e found rest = e
    pick (suc i) true e found rest = absurd (let same : b ≡ b + suc i = cc in omega arith)
    pick zero false e found rest = absurd (omega (arith, synonym_above later (b + 1) (b + 0) n found))
    pick (suc i) false e found rest = rest i n (found ∙ ap (λ k. k ∷ []) (omega arith))
synonym_named (abstract at params ∷ later) b zero n is = absurd (omega (arith, synonym_above later (b + 1) (b + 0) n is))
synonym_named (abstract at params ∷ later) b (suc i) n is = synonym_named later (b + 1) i n (is ∙ ap (λ k. k ∷ []) (omega arith))
synonym_named (signature at vars places ty ∷ later) b zero n is = absurd (omega (arith, synonym_above later (b + 1) (b + 0) n is))
synonym_named (signature at vars places ty ∷ later) b (suc i) n is = synonym_named later (b + 1) i n (is ∙ ap (λ k. k ∷ []) (omega arith))
synonym_named (define at param body ∷ later) b zero n is = absurd (omega (arith, synonym_above later (b + 1) (b + 0) n is))
synonym_named (define at param body ∷ later) b (suc i) n is = synonym_named later (b + 1) i n (is ∙ ap (λ k. k ∷ []) (omega arith))

-- ---- one more of the order

-- what is among the first of a list and one more
contains_more : (xs : List ℕ) (p i j : ℕ) → slice_get xs p ≡ Some i → Contains (take (suc p) xs) j → Contains (take p xs) j ⊎ (j ≡ i)
contains_more xs p i j at has = ⊎_elim inl last (Contains-append_cases (take p xs) (get_or xs p i ∷ []) j (subst (λ l. Contains l j) (take_more xs p i (slice_get_within xs p i at)) (subst (λ k. Contains (take k xs) j) (sym (add-one p)) has)))
  where
    last : Contains (get_or xs p i ∷ []) j → Contains (take p xs) j ⊎ (j ≡ i)
    last (zero, lt, e) = inr (sym e ∙ get_or_from_slice_get xs p i i at)
    last (suc q, lt, e) = absurd (omega arith)

module _ (entries : List Entry) (order : List ℕ) (is : IsOrder (mentions entries) order) where
  abbrev known : Heads
  known = tops (bodies entries)

  solved : (n : List ℕ) (d : Option Declared) → type_named entries n ≡ d → known n ≡ head_of_body (body_of (bodies entries) d)
  solved n d e = ap head_of_body (bodies_solve entries order is n ∙ ap (body_of (bodies entries)) e)

  -- the head of a synonym
  solved_body : (n : List ℕ) (params : List At) (body : Written) → type_named entries n ≡ Some (record { params = params; body = Some body }) → known n ≡ Some (head_of known (map (λ at. at.name) params) body)
  solved_body n params body e = solved n _ e ∙ ap Some (sym (head_is (bodies entries) (map (λ at. at.name) params) body))

  -- a name is no synonym, or its first type is one
  data Cases (n : List ℕ) : Type 0 where
    no_synonym : known n ≡ None → Cases n
    is_synonym : (params : List At) (body : Written) → type_named entries n ≡ Some (record { params = params; body = Some body }) → Cases n

  cases : (n : List ℕ) → Cases n
  cases n = declared (type_named entries n) refl
    where
      with_body : (d : Declared) (body : Option Written) → type_named entries n ≡ Some d → d.body ≡ body → Cases n
      with_body d None e b = no_synonym (solved n (Some d) e ∙ ap (λ t. head_of_body (body_among (bodies entries) d.params t)) b)
      with_body d (Some body) e b = is_synonym d.params body (e ∙ ap (λ t. Some (record { params = d.params; body = t })) b)

      declared : (d : Option Declared) → type_named entries n ≡ d → Cases n
      declared None e = no_synonym (solved n None e)
      declared (Some d) e = with_body d d.body e refl

  module _ (p : ℕ) (heads : Heads) (knows : Knows entries (take p order) heads) where
    -- what is placed has its head
    placed_known : (n : List ℕ) → IsPlaced entries order p n → heads n ≡ known n
    placed_known n placed = pick (cases n)
      where
        pick : Cases n → heads n ≡ known n
        pick (no_synonym none) = knows.nothing n none ∙ sym none
        pick (is_synonym params body e) =
            let found : IsFirstSynonym entries 0 n params body = synonym_found entries 0 n params body e in
            knows.found n (0 + found.position) found.first (placed.among (0 + found.position) found.first)

    -- so has a synonym whose turn it is, or was
    turn_known : (n : List ℕ) (params : List At) (body : Written) → type_named entries n ≡ Some (record { params = params; body = Some body }) → IsPlaced entries order (suc p) n
        → Some (head_of heads (map (λ at. at.name) params) body) ≡ known n
    turn_known n params body e placed =
        let found : IsFirstSynonym entries 0 n params body = synonym_found entries 0 n params body e in
        ap Some (head_same heads known (map (λ at. at.name) params) body (record { at = λ m has. placed_known m (mentions_placed entries order is p n params body found placed m has) }))
        ∙ sym (solved_body n params body e)

    module _ (i : ℕ) (at_turn : slice_get order p ≡ Some i) where
      -- the turn changes nothing, where the item is no first synonym
      stays : ((n : List ℕ) → synonym_from 0 entries n ≡ i ∷ [] → heads n ≡ known n) → Knows entries (take (suc p) order) heads
      stays here = record {
        nothing = knows.nothing;
        found = λ n j first has. ⊎_elim (knows.found n j first) (λ same. here n (first ∙ ap (λ k. k ∷ []) same)) (contains_more order p i j at_turn has);
      }

      -- at its turn each name of a first synonym is that of the item
      named_here : (n : List ℕ) → synonym_from 0 entries n ≡ i ∷ [] → IsNamed n (slice_get entries i)
      named_here n first = synonym_named entries 0 i n (first ∙ ap (λ k. k ∷ []) (omega arith))

      stays_no_synonym : ((n : List ℕ) → IsNamed n (slice_get entries i) → ⊥) → Knows entries (take (suc p) order) heads
      stays_no_synonym none = stays (λ n first. absurd (none n (named_here n first)))

      -- the head of the first synonym of a name
      grows : (n : List ℕ) (params : List At) (body : Written) (new : Heads) → type_named entries n ≡ Some (record { params = params; body = Some body })
          → ((m : List ℕ) → synonym_from 0 entries m ≡ i ∷ [] → bytes_eq m n ≡ true)
          → HaveMore n (head_of heads (map (λ at. at.name) params) body) heads new → Knows entries (take (suc p) order) new
      grows n params body new e only more = record {
        nothing = λ m none. absent m none (bytes_eq n m) refl;
        found = λ m j first has. present m j first has (bytes_eq n m) refl;
      }
        where
          absent : (m : List ℕ) → known m ≡ None → (b : Bool) → bytes_eq n m ≡ b → new m ≡ None
          absent m none true same = absurd (let e' : n ≡ m = (bytes_decides n m).0 same in let some = ap known e' ∙ none in let h = sym (solved_body n params body e) ∙ some in cc)
          absent m none false differs = more m ∙ ap (λ b. cond b (Some (head_of heads (map (λ at. at.name) params) body)) (heads m)) differs ∙ knows.nothing m none

          placed : (m : List ℕ) (j : ℕ) → synonym_from 0 entries m ≡ j ∷ [] → Contains (take (suc p) order) j → IsPlaced entries order (suc p) m
          placed m j first has = record { among = λ k again. subst (λ x. Contains (take (suc p) order) x) (let h = sym first ∙ again in cc) has }

          present : (m : List ℕ) (j : ℕ) → synonym_from 0 entries m ≡ j ∷ [] → Contains (take (suc p) order) j → (b : Bool) → bytes_eq n m ≡ b → new m ≡ known m
          present m j first has true same =
              let e' : n ≡ m = (bytes_decides n m).0 same in
              more m ∙ ap (λ b. cond b (Some (head_of heads (map (λ at. at.name) params) body)) (heads m)) same
              ∙ turn_known n params body e (subst (IsPlaced entries order (suc p)) (sym e') (placed m j first has)) ∙ ap known e'
          present m j first has false differs =
              more m ∙ ap (λ b. cond b (Some (head_of heads (map (λ at. at.name) params) body)) (heads m)) differs
              ∙ ⊎_elim (knows.found m j first) (λ same. absurd (true≢false (sym (only m (first ∙ ap (λ k. k ∷ []) same)) ∙ nat_list_eq_equiv.symm m n ∙ differs))) (contains_more order p i j at_turn has)

      -- what the turn of an item keeps
      keeps_body : (at : At) (ps : List At) (own : Written) (d : Declared) (body : Option Written) (new : Heads) → slice_get entries i ≡ Some (synonym at ps own) → type_named entries at.name ≡ Some d → d.body ≡ body
          → KeepsBody at.name (place_of own) d.params body heads new → Knows entries (take (suc p) order) new
      keeps_body at ps own d None new stands e b same =
          subst (Knows entries (take (suc p) order)) (sym same)
          (stays (λ n first.
          let none : known at.name ≡ None = solved at.name (Some d) e ∙ ap (λ t. head_of_body (body_among (bodies entries) d.params t)) b in
          let name : n ≡ at.name = (bytes_decides n at.name).0 (subst (IsNamed n) stands (named_here n first)) in
          subst (λ m. heads m ≡ known m) (sym name) (knows.nothing at.name none ∙ sym none)))
      keeps_body at ps own d (Some body) new stands e b (inl more) =
          grows at.name d.params body new (e ∙ ap (λ t. Some (record { params = d.params; body = t })) b) (λ m first. subst (IsNamed m) stands (named_here m first)) more
      keeps_body at ps own d (Some body) new stands e b (inr (differs, same)) =
          subst (Knows entries (take (suc p) order)) (sym same)
          (stays (λ n first.
          let name : n ≡ at.name = (bytes_decides n at.name).0 (subst (IsNamed n) stands (named_here n first)) in
          let found : IsFirstSynonym entries 0 at.name d.params body = synonym_found entries 0 at.name d.params body (e ∙ ap (λ t. Some (record { params = d.params; body = t })) b) in
          let place : 0 + found.position ≡ i = let h = sym found.first ∙ ap (synonym_from 0 entries) (sym name) ∙ first in cc in
          let same_item : Some (synonym at ps own) ≡ Some (synonym found.at d.params body) = sym stands ∙ ap (slice_get entries) (sym place ∙ omega arith) ∙ found.stands in
          absurd (differs (let same_body : own ≡ body = cc in ap place_of same_body))))

      keeps_named : (at : At) (ps : List At) (own : Written) (d : Option Declared) (new : Heads) → slice_get entries i ≡ Some (synonym at ps own) → type_named entries at.name ≡ d
          → KeepsNamed at.name (place_of own) d heads new → Knows entries (take (suc p) order) new
      keeps_named at ps own None new stands e same =
          subst (Knows entries (take (suc p) order)) (sym same)
          (stays (λ n first.
          let name : n ≡ at.name = (bytes_decides n at.name).0 (subst (IsNamed n) stands (named_here n first)) in
          subst (λ m. heads m ≡ known m) (sym name) (knows.nothing at.name (solved at.name None e) ∙ sym (solved at.name None e))))
      keeps_named at ps own (Some d) new stands e keeps = keeps_body at ps own d d.body new stands e refl keeps

      pub keeps_turn : (new : Heads) → Keeps entries (slice_get entries i) heads new → Knows entries (take (suc p) order) new
      keeps_turn new keeps = pick (slice_get entries i) refl keeps
        where
          unchanged : (e : Option Entry) → slice_get entries i ≡ e → ((n : List ℕ) → IsNamed n e → ⊥) → new ≡ heads → Knows entries (take (suc p) order) new
          unchanged e stands none same = subst (Knows entries (take (suc p) order)) (sym same) (stays_no_synonym (λ n named. none n (subst (IsNamed n) stands named)))

          pick : (e : Option Entry) → slice_get entries i ≡ e → Keeps entries e heads new → Knows entries (take (suc p) order) new
          pick None stands same = unchanged None stands (λ n named. named) same
          pick (Some (synonym at params body)) stands keeps = keeps_named at params body (type_named entries at.name) new stands refl keeps
          pick (Some (abstract at params)) stands same = unchanged (Some (abstract at params)) stands (λ n named. named) same
          pick (Some (signature at vars places ty)) stands same = unchanged (Some (signature at vars places ty)) stands (λ n named. named) same
          pick (Some (define at param body)) stands same = unchanged (Some (define at param body)) stands (λ n named. named) same

  -- at the end of the order all heads are found
  pub knows_all : (heads : Heads) → Knows entries order heads → heads ≡ known
  knows_all heads knows = λ i. λ n. found n (cases n) i
    where
      found : (n : List ℕ) → Cases n → heads n ≡ known n
      found n (no_synonym none) = knows.nothing n none ∙ sym none
      found n (is_synonym params body e) =
          let first : IsFirstSynonym entries 0 n params body = synonym_found entries 0 n params body e in
          knows.found n (0 + first.position) first.first
          (is.whole (0 + first.position) (omega (arith, slice_get_within entries first.position _ first.stands, length-map entries (entry_mentions entries))))
