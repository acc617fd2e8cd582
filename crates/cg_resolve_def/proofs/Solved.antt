-- Synonyms solve their equations: where no synonym mentions itself, what a synonym is for is its body over what all of them are for.
use Rattle.std.proofs.Common.{◌≡◌, ℕ, zero, suc, ◌+◌, ◌<◌, ◌≤◌, Bool, true, false, cond, List, [], ◌∷◌, ◌++◌, map, length, take, get_or, min, Option, Some, None, refl, sym, ap, ◌∙◌, subst, arith}
use Rattle.std.proofs.Math.Seq.{take-length}
use Rattle.std.proofs.lemmas.List.{get_or-take, length-map, length-take}
use Rattle.std.proofs.lemmas.List.Elements.{Contains-append_left, Contains-append_right}
use Rattle.std.proofs.lemmas.Option.{slice_get-get_or, slice_get-map}
use Rattle.std.specs.List.{slice_get, Contains}
use Rattle.std.specs.Option.{option_map}
use Rattle.std.specs.Str.{bytes_eq}
use Rattle.cg_base.specs.declared.kind.Sigil.TheVariants.{W, U}
use Rattle.cg_base.specs.Types.{Tau, var, arrow, variant, fields, Piece, to_parts}
use Rattle.cg_graphs.specs.Circles.{Mentions, IsOrder}
use Rattle.cg_core.specs.declared.at.At.{At}
use Rattle.cg_kinds.specs.Kinds.{bang}
use Rattle.cg_surface.specs.Programs.{Entry, synonym, abstract, signature, define}
use Rattle.cg_surface.specs.Written.{Written, Writtens, WrittenFields, WrittenAlts}
use Rattle.cg_surface.specs.Written as types
use Rattle.cg_resolve_def.specs.Declared.{Declared, is_variable, looked_up, plain_types, type_named}
use Rattle.cg_resolve_def.specs.Expand.{Bodies, all_taken, applied_as, bodies, bodies_to, body_among, body_of, component, components, expanded, expanded_all, expanded_alts, expanded_fields, in_order, position_of, take_of, taken_parts, types_length}
use Rattle.cg_resolve_def.specs.Mentions.{all_of, alts_mentions, entry_mentions, fields_mentions, mentions, synonym_from, type_mentions, types_mentions}

-- ---- a type depends on what is known of the names that it mentions, and on nothing else

-- a type by its name, where it has these arguments and this body
abbrev by_name : List (List ℕ) → List ℕ → List Tau → Option Tau → Tau
by_name vars n args body = cond (is_variable n) (var (position_of vars n)) (applied_as n args (looked_up plain_types n) body)

module _ (known other : Bodies) where
  -- both know the same of these names
  pub record Agree (names : List (List ℕ)) : Type 0 where
    pub at : (n : List ℕ) → Contains names n → known n ≡ other n

  pub agree_left : (ns ms : List (List ℕ)) → Agree (ns ++ ms) → Agree ns
  agree_left ns ms same = record { at = λ n has. same.at n (Contains-append_left ns ms n has) }

  pub agree_right : (ns ms : List (List ℕ)) → Agree (ns ++ ms) → Agree ms
  agree_right ns ms same = record { at = λ n has. same.at n (Contains-append_right ns ms n has) }

  module _ (vars : List (List ℕ)) where
    mutual
      pub expanded_same : (t : Written) → Agree (type_mentions t) → expanded known vars t ≡ expanded other vars t
      expanded_same (types.named p n args) same =
          ap (λ l. by_name vars n l (known n)) (all_same args [] (agree_right (n ∷ []) (types_mentions args) same))
          ∙ ap (λ b. by_name vars n (expanded_all other vars args []) b) (same.at n (0, omega arith, refl))
      expanded_same (types.nothing p) same = refl
      expanded_same (types.tuple p ts) same = ap (λ l. fields (to_parts l) U) (components_same ts [] same)
      expanded_same (types.paren p t) same = expanded_same t same
      expanded_same (types.arrow p a b) same =
          ap (λ u. arrow u (expanded known vars b)) (expanded_same a (agree_left (type_mentions a) (type_mentions b) same))
          ∙ ap (λ u. arrow (expanded other vars a) u) (expanded_same b (agree_right (type_mentions a) (type_mentions b) same))
      expanded_same (types.fields p boxed fs) same = ap (λ l. fields (to_parts l) (cond boxed W U)) (fields_same fs [] same)
      expanded_same (types.variant p choices) same = ap (λ l. variant (to_parts (in_order l))) (alts_same choices [] same)
      expanded_same (types.bang p t) same = ap bang (expanded_same t same)
      expanded_same (types.take_some p t ns) same = ap (take_of (taken_parts (map (λ n. n.name) ns))) (expanded_same t same)
      expanded_same (types.take_all p t q) same = ap (take_of all_taken) (expanded_same t same)

      all_same : (ts : Writtens) (behind : List Tau) → Agree (types_mentions ts) → expanded_all known vars ts behind ≡ expanded_all other vars ts behind
      all_same types.no_types behind same = refl
      all_same (types.and_type ts t) behind same =
          all_same ts (expanded known vars t ∷ behind) (agree_left (types_mentions ts) (type_mentions t) same)
          ∙ ap (λ u. expanded_all other vars ts (u ∷ behind)) (expanded_same t (agree_right (types_mentions ts) (type_mentions t) same))

      components_same : (ts : Writtens) (behind : List Piece) → Agree (types_mentions ts) → components known vars ts behind ≡ components other vars ts behind
      components_same types.no_types behind same = refl
      components_same (types.and_type ts t) behind same =
          components_same ts (record { name = component (types_length ts); ty = expanded known vars t; taken = false } ∷ behind) (agree_left (types_mentions ts) (type_mentions t) same)
          ∙ ap (λ u. components other vars ts (record { name = component (types_length ts); ty = u; taken = false } ∷ behind)) (expanded_same t (agree_right (types_mentions ts) (type_mentions t) same))

      fields_same : (fs : WrittenFields) (behind : List Piece) → Agree (fields_mentions fs) → expanded_fields known vars fs behind ≡ expanded_fields other vars fs behind
      fields_same types.no_fields behind same = refl
      fields_same (types.and_field fs at t) behind same =
          fields_same fs (record { name = at.name; ty = expanded known vars t; taken = false } ∷ behind) (agree_left (fields_mentions fs) (type_mentions t) same)
          ∙ ap (λ u. expanded_fields other vars fs (record { name = at.name; ty = u; taken = false } ∷ behind)) (expanded_same t (agree_right (fields_mentions fs) (type_mentions t) same))

      alts_same : (choices : WrittenAlts) (behind : List Piece) → Agree (alts_mentions choices) → expanded_alts known vars choices behind ≡ expanded_alts other vars choices behind
      alts_same types.no_alts behind same = refl
      alts_same (types.and_plain choices at) behind same = alts_same choices _ same
      alts_same (types.and_alt choices at t) behind same =
          alts_same choices (record { name = at.name; ty = expanded known vars t; taken = false } ∷ behind) (agree_left (alts_mentions choices) (type_mentions t) same)
          ∙ ap (λ u. expanded_alts other vars choices (record { name = at.name; ty = u; taken = false } ∷ behind)) (expanded_same t (agree_right (alts_mentions choices) (type_mentions t) same))

-- ---- where the first synonym of a name stands

-- it stands at this position, with these parameters and this body
pub record IsFirstSynonym (entries : List Entry) (b : ℕ) (n : List ℕ) (params : List At) (body : Written) : Type 0 where
  pub at : At
  pub position : ℕ
  pub first : synonym_from b entries n ≡ (b + position) ∷ []
  pub stands : slice_get entries position ≡ Some (synonym at params body)

-- behind one item more
one_behind : (e : Entry) (later : List Entry) (b : ℕ) (n : List ℕ) (params : List At) (body : Written) → synonym_from b (e ∷ later) n ≡ synonym_from (b + 1) later n
    → IsFirstSynonym later (b + 1) n params body → IsFirstSynonym (e ∷ later) b n params body
one_behind e later b n params body is found = record {
  at = found.at;
  position = suc found.position;
  first = is ∙ found.first ∙ ap (λ k. k ∷ []) (omega arith);
  stands = found.stands;
}

declared_same : (d e : Declared) → Some d ≡ Some e → (d.params ≡ e.params) × (d.body ≡ e.body)
declared_same d e is = let same : d ≡ e = cc in (ap (λ x. x.params) same, ap (λ x. x.body) same)

-- a type that is found, where it is a synonym, is the first synonym of its name
pub synonym_found : (entries : List Entry) (b : ℕ) (n : List ℕ) (params : List At) (body : Written) → type_named entries n ≡ Some (record { params = params; body = Some body }) → IsFirstSynonym entries b n params body
synonym_found [] b n params body is = absurd (cc)
synonym_found (synonym at ps t ∷ later) b n params body is = pick (bytes_eq n at.name) refl is (synonym_found later (b + 1) n params body)
  where
    pick : (test : Bool) → bytes_eq n at.name ≡ test → cond test (Some (record { params = ps; body = Some t })) (type_named later n) ≡ Some (record { params = params; body = Some body })
        → (type_named later n ≡ Some (record { params = params; body = Some body }) → IsFirstSynonym later (b + 1) n params body) → IsFirstSynonym (synonym at ps t ∷ later) b n params body
    pick true e found rest = record {
      at = at;
      position = 0;
      first = ap (λ c. cond c (b ∷ []) (synonym_from (b + 1) later n)) e ∙ ap (λ k. k ∷ []) (omega arith);
      stands = ap Some (let same = declared_same _ _ found in cc (same.0, same.1));
    }
    pick false e found rest = one_behind (synonym at ps t) later b n params body (ap (λ c. cond c (b ∷ []) (synonym_from (b + 1) later n)) e) (rest found)
synonym_found (abstract at ps ∷ later) b n params body is = pick (bytes_eq n at.name) is (synonym_found later (b + 1) n params body)
  where
    pick : (test : Bool) → cond test (Some (record { params = ps; body = None })) (type_named later n) ≡ Some (record { params = params; body = Some body })
        → (type_named later n ≡ Some (record { params = params; body = Some body }) → IsFirstSynonym later (b + 1) n params body) → IsFirstSynonym (abstract at ps ∷ later) b n params body
    pick true found rest = absurd (let none : None ≡ Some body = (declared_same _ _ found).1 in cc)
    pick false found rest = one_behind (abstract at ps) later b n params body refl (rest found)
synonym_found (signature at vars places ty ∷ later) b n params body is = one_behind (signature at vars places ty) later b n params body refl (synonym_found later (b + 1) n params body is)
synonym_found (define at param t ∷ later) b n params body is = one_behind (define at param t) later b n params body refl (synonym_found later (b + 1) n params body is)

-- a position that is found is one
synonym_within : (entries : List Entry) (b : ℕ) (n : List ℕ) (j : ℕ) → synonym_from b entries n ≡ j ∷ [] → j < b + length entries
synonym_within [] b n j is = absurd (cc)
synonym_within (synonym at ps t ∷ later) b n j is = pick (bytes_eq n at.name) is (synonym_within later (b + 1) n j)
  where
    pick : (test : Bool) → cond test (b ∷ []) (synonym_from (b + 1) later n) ≡ j ∷ [] → (synonym_from (b + 1) later n ≡ j ∷ [] → j < b + 1 + length later) → j < b + length (synonym at ps t ∷ later)
    pick true found rest = let e : b ≡ j = cc in omega arith
    pick false found rest = omega (arith, rest found)
synonym_within (abstract at ps ∷ later) b n j is = omega (arith, synonym_within later (b + 1) n j is)
synonym_within (signature at vars places ty ∷ later) b n j is = omega (arith, synonym_within later (b + 1) n j is)
synonym_within (define at param t ∷ later) b n j is = omega (arith, synonym_within later (b + 1) n j is)

-- ---- bodies

-- a name that is no synonym has no body, however many synonyms are within one another
no_body : (entries : List Entry) (k : ℕ) (n : List ℕ) → ((known : Bodies) → body_of known (type_named entries n) ≡ None) → bodies_to entries k n ≡ None
unfolding bodies_to
no_body entries zero n none = refl
no_body entries (suc k) n none = none (bodies_to entries k)

-- what is among the items of a list that are found by these names
pub among_all : (positions : List ℕ → List ℕ) (ns : List (List ℕ)) (j k : ℕ) (n : List ℕ) → k < length ns → get_or ns k n ≡ n → Contains (positions n) j → Contains (all_of positions ns) j
among_all positions [] j k n lt is has = absurd (omega arith)
among_all positions (m ∷ ns) j zero n lt is has = Contains-append_left (positions m) (all_of positions ns) j (subst (λ x. Contains (positions x) j) (sym is) has)
among_all positions (m ∷ ns) j (suc k) n lt is has = Contains-append_right (positions m) (all_of positions ns) j (among_all positions ns j k n (omega arith) is has)

-- the first synonym of the name, if there is one, stands among the first p of the order
pub record IsPlaced (entries : List Entry) (order : List ℕ) (p : ℕ) (n : List ℕ) : Type 0 where
  pub among : (j : ℕ) → synonym_from 0 entries n ≡ j ∷ [] → Contains (take p order) j

module _ (entries : List Entry) (order : List ℕ) (is : IsOrder (mentions entries) order) where
  -- what the body of a synonym mentions stands before it
  pub mentions_placed : (p : ℕ) (n : List ℕ) (params : List At) (body : Written) → IsFirstSynonym entries 0 n params body → IsPlaced entries order (suc p) n → (m : List ℕ) → Contains (type_mentions body) m → IsPlaced entries order p m
  mentions_placed p n params body found placed m has = record {
    among = λ j first.
        let place = placed.among found.position (found.first ∙ ap (λ k. k ∷ []) (omega arith)) in
        let short : length (take (suc p) order) ≤ suc p = omega (arith, length-take (suc p) order) in
        let long : length (take (suc p) order) ≤ length order = omega (arith, length-take (suc p) order) in
        let stands : slice_get order place.0 ≡ Some found.position =
        slice_get-get_or order place.0 found.position (omega (arith, place.1)) ∙ ap Some (sym (get_or-take (suc p) order place.0 found.position (omega (arith, place.1))) ∙ place.2) in
        sooner place.0 p j (omega (arith, place.1)) (is.behind place.0 found.position j stands (mention j first));
  }
    where
      mention : (j : ℕ) → synonym_from 0 entries m ≡ j ∷ [] → Mentions (mentions entries) found.position j
      mention j first = record {
        targets = all_of (synonym_from 0 entries) (type_mentions body);
        at = slice_get-map (entry_mentions entries) entries found.position ∙ ap (option_map (entry_mentions entries)) found.stands;
        among = among_all (synonym_from 0 entries) (type_mentions body) j has.0 m has.1 has.2 (subst (λ l. Contains l j) (sym first) (0, omega arith, refl));
      }

      sooner : (q p j : ℕ) → q ≤ p → Contains (take q order) j → Contains (take p order) j
      sooner q p j le has =
          let inside : has.0 < min q (length order) = subst (λ l. has.0 < l) (length-take q order) has.1 in
          (has.0, omega (arith, length-take p order), get_or-take p order has.0 j (omega arith) ∙ sym (get_or-take q order has.0 j (omega arith)) ∙ has.2)

  -- a synonym is for the same with one more within one another, where this holds of all that stands before it
  one_more : (p k : ℕ) (n : List ℕ) (d : Option Declared) → type_named entries n ≡ d → IsPlaced entries order (suc p) n → ((m : List ℕ) → IsPlaced entries order p m → bodies_to entries (suc k) m ≡ bodies_to entries k m)
      → bodies_to entries (suc (suc k)) n ≡ bodies_to entries (suc k) n
  unfolding bodies_to
  one_more p k n None e placed below = ap (body_of (bodies_to entries (suc k))) e ∙ sym (ap (body_of (bodies_to entries k)) e)
  one_more p k n (Some d) e placed below =
      ap (body_of (bodies_to entries (suc k))) e ∙ with_body d.body refl ∙ sym (ap (body_of (bodies_to entries k)) e)
    where
      with_body : (body : Option Written) → d.body ≡ body → body_of (bodies_to entries (suc k)) (Some d) ≡ body_of (bodies_to entries k) (Some d)
      with_body None b = ap (body_among (bodies_to entries (suc k)) d.params) b ∙ sym (ap (body_among (bodies_to entries k) d.params) b)
      with_body (Some t) b =
          let found : IsFirstSynonym entries 0 n d.params t = synonym_found entries 0 n d.params t (e ∙ ap (λ x. Some (record { params = d.params; body = x })) b) in
          ap (body_among (bodies_to entries (suc k)) d.params) b
          ∙ ap Some (expanded_same (bodies_to entries (suc k)) (bodies_to entries k) (map (λ at. at.name) d.params) t (record { at = λ m has. below m (mentions_placed p n d.params t found placed m has) }))
          ∙ sym (ap (body_among (bodies_to entries k) d.params) b)

  -- what is placed nowhere has no body
  nowhere : (n : List ℕ) → IsPlaced entries order 0 n → (d : Option Declared) → type_named entries n ≡ d → (known : Bodies) → body_of known d ≡ None
  nowhere n placed None e known = refl
  nowhere n placed (Some d) e known = bodiless d.body refl
    where
      bodiless : (body : Option Written) → d.body ≡ body → body_among known d.params d.body ≡ None
      bodiless None b = ap (body_among known d.params) b
      bodiless (Some t) b =
          let found : IsFirstSynonym entries 0 n d.params t = synonym_found entries 0 n d.params t (e ∙ ap (λ x. Some (record { params = d.params; body = x })) b) in
          let place = placed.among found.position (found.first ∙ ap (λ k. k ∷ []) (omega arith)) in
          absurd (omega (arith, place.1, length-take 0 order))

  pub nothing_yet : (k : ℕ) (n : List ℕ) → IsPlaced entries order 0 n → bodies_to entries k n ≡ None
  nothing_yet k n placed = no_body entries k n (nowhere n placed (type_named entries n) refl)

  -- what the first p of the order are for is the same at each number from p on
  stable : (p k : ℕ) (n : List ℕ) → IsPlaced entries order p n → p ≤ k → bodies_to entries (suc k) n ≡ bodies_to entries k n
  stable zero k n placed le = nothing_yet (suc k) n placed ∙ sym (nothing_yet k n placed)
  stable (suc p) zero n placed le = absurd (omega arith)
  stable (suc p) (suc k) n placed le = one_more p k n (type_named entries n) refl placed (λ m before. stable p k m before (omega arith))

  -- in the whole order every name is placed
  pub all_placed : (n : List ℕ) → IsPlaced entries order (length entries) n
  all_placed n = record {
    among = λ j first. subst (λ l. Contains l j) (sym (ap (λ i. take i order) (sym whole) ∙ take-length order)) (is.whole j (omega (arith, synonym_within entries 0 n j first, length-map entries (entry_mentions entries))));
  }
    where
      whole : length order ≡ length entries
      whole = is.size ∙ length-map entries (entry_mentions entries)

  -- the bodies of a program's synonyms are what its items say
  pub bodies_solve : (n : List ℕ) → bodies entries n ≡ body_of (bodies entries) (type_named entries n)
  unfolding bodies_to
  bodies_solve n = sym (stable (length entries) (length entries) n (all_placed n) (omega arith))
