-- Why the law has a limit of parts: without one it is false, since far beyond the limit two components of a tuple have one name.
use Rattle.std.proofs.Common.{◌≡◌, ℕ, zero, suc, ◌+◌, ◌-◌, ◌*◌, ◌^◌, ◌<◌, ◌≤◌, ◌||◌, true, false, List, [], ◌∷◌, ◌++◌, length, get_or, ◌⊎◌, inl, inr, refl, sym, ap, ◌∙◌, subst as carry, arith}
use Rattle.std.proofs.lemmas.Bool.{cases_eq, or_right}
use Rattle.std.proofs.lemmas.List.{length-map}
use Rattle.std.proofs.lemmas.List.Elements.{All-cons, All-nil}
use Rattle.std.specs.Fmt.{digits}
use Rattle.std.specs.List.{list_any}
use Rattle.std.specs.Prelude.{codes}
use Rattle.std.specs.Str.{bytes_eq}
use Rattle.cg_base.specs.declared.place.Place.{Place}
use Rattle.cg_graphs.specs.Circles.{IsOrder, Mentions}
use Rattle.cg_core_def.specs.Lawful.{AreApart, IsLawfulKernel}
use Rattle.cg_surface.specs.Programs.{Entry, signature}
use Rattle.cg_surface.specs.Written.{Writtens, no_types, and_type, nothing, tuple}
use Rattle.cg_resolve_def.specs.Desugar.{function_of, functions_of}
use Rattle.cg_resolve_def.specs.Expand.{bodies, component, components, types_length}
use Rattle.cg_resolve_def.specs.Faults.{program_faults, types_faults}
use Rattle.cg_resolve_def.specs.Mentions.{mentions}
use Rattle.cg_resolve_def.proofs.PartNames.{piece_names}
use Rattle.cg_base.specs.Types.{Piece, unit}
use Rattle.cg_resolve_def.specs.Shaped.{AreShapedTypes, IsShaped, IsShapedEntry}
use Rattle.cg_resolve_laws.proofs.Types.{names_of_pieces}
use Rattle.cg_base.proofs.Sequences.{itself as same_name}

-- the law without a limit
abbrev Unlimited : Type 0
Unlimited = (entries : List Entry) (order : List ℕ) → IsShaped entries → program_faults entries ≡ [] → IsOrder (mentions entries) order → IsLawfulKernel (functions_of entries)

components_twice : component (10 ^ 64 - 1) ≡ component (2 * 10 ^ 64 - 1)
unfolding digits
components_twice = refl

-- names of which two are the same are not apart
apart_not : (names : List (List ℕ)) (i j : ℕ) (d : List ℕ) → i < j → j < length names → get_or names i d ≡ get_or names j d → AreApart names → ⊥
apart_not [] i j d lt within same apart = omega arith
apart_not (n ∷ names) zero zero d lt within same apart = omega arith
apart_not (n ∷ names) (suc i) zero d lt within same apart = omega arith
apart_not (n ∷ names) zero (suc j) d lt within same apart = let no : false ≡ true = sym apart.0 ∙ there names j d (omega arith) (sym same) in absurd (cc)
  where
    there : (names : List (List ℕ)) (j : ℕ) (d : List ℕ) → j < length names → get_or names j d ≡ n → list_any (bytes_eq n) names ≡ true
    there [] j d within is = absurd (omega arith)
    there (m ∷ names) zero d within is = ap (λ x. bytes_eq n x || list_any (bytes_eq n) names) is ∙ ap (λ b. b || list_any (bytes_eq n) names) (same_name n)
    there (m ∷ names) (suc j) d within is = or_right (bytes_eq n m) (list_any (bytes_eq n) names) (there names j d (omega arith) is)
apart_not (n ∷ names) (suc i) (suc j) d lt within same apart = apart_not names i j d (omega arith) (omega arith) same apart.1

module _ (p : Place) where
  many : ℕ → Writtens
  many zero = no_types
  many (suc k) = and_type (many k) (nothing p)

  many_length : (k : ℕ) → types_length (many k) ≡ k
  unfolding many
  many_length zero = refl
  many_length (suc k) = omega (arith, many_length k)

  many_shaped : (k : ℕ) → AreShapedTypes (many k)
  unfolding many
  many_shaped zero = tt
  many_shaped (suc k) = (many_shaped k, tt)

  many_faults : (entries : List Entry) (names : List (List ℕ)) (k : ℕ) → types_faults entries names (many k) ≡ []
  unfolding many
  many_faults entries names zero = refl
  many_faults entries names (suc k) = ap (λ l. l ++ []) (many_faults entries names k)

  -- a signature whose type is such a tuple
  abbrev item : ℕ → Entry
  item k = signature (record { place = p; name = codes "f" }) [] [] (tuple p (many k))

  abbrev program : ℕ → List Entry
  program k = item k ∷ []

  item_faults : (k : ℕ) → program_faults (program k) ≡ []
  item_faults k = ap (λ l. l ++ []) (many_faults (program k) [] k)

  item_shaped : (k : ℕ) → 2 ≤ k → IsShapedEntry (item k)
  item_shaped k le = (refl, (omega (arith, many_length k), many_shaped k))

  module _ (entries : List Entry) where
    abbrev named : ℕ → List Piece → List (List ℕ)
    named k behind = names_of_pieces (components (bodies entries) [] (many k) behind)

    -- what stands behind k components, and the last of them
    behind_at : (k j : ℕ) (behind : List Piece) (d : List ℕ) → get_or (named k behind) (k + j) d ≡ get_or (names_of_pieces behind) j d
    unfolding many
    behind_at zero j behind d = let same : 0 + j ≡ j = omega arith in ap (λ i. get_or (names_of_pieces behind) i d) same
    behind_at (suc k) j behind d =
        let more = record { name = component (types_length (many k)); ty = unit; taken = false } ∷ behind in
        let same : suc k + j ≡ k + suc j = omega arith in
        ap (λ i. get_or (named k more) i d) same ∙ behind_at k (suc j) more d

    last_at : (k : ℕ) (behind : List Piece) (d : List ℕ) → get_or (named (suc k) behind) k d ≡ component k
    unfolding many
    last_at k behind d =
        let more = record { name = component (types_length (many k)); ty = unit; taken = false } ∷ behind in
        let same : k ≡ k + 0 = omega arith in
        ap (λ i. get_or (named k more) i d) same ∙ behind_at k 0 more d ∙ ap component (many_length k)

    component_at : (k i : ℕ) (behind : List Piece) (d : List ℕ) → i < k → get_or (named k behind) i d ≡ component i
    unfolding many
    component_at zero i behind d lt = absurd (omega arith)
    component_at (suc k) i behind d lt = pick (cases_eq i k) (component_at k i (record { name = component (types_length (many k)); ty = unit; taken = false } ∷ behind) d)
      where
        pick : (i ≡ k) ⊎ (i ≡ k → ⊥) → (i < k → get_or (named k (record { name = component (types_length (many k)); ty = unit; taken = false } ∷ behind)) i d ≡ component i) → get_or (named (suc k) behind) i d ≡ component i
        pick (inl e) rest = ap (λ n. get_or (named (suc k) behind) n d) e ∙ last_at k behind d ∙ ap component (sym e)
        pick (inr e) rest = rest (omega arith)

    named_length : (k : ℕ) (behind : List Piece) → length (named k behind) ≡ k + length behind
    unfolding many
    named_length zero behind = omega (arith, length-map behind (λ (x : Piece). x.name))
    named_length (suc k) behind = omega (arith, named_length k (record { name = component (types_length (many k)); ty = unit; taken = false } ∷ behind))

  order : (k : ℕ) → IsOrder (mentions (program k)) (0 ∷ [])
  order k = record {
    size = refl;
    whole = λ i lt. (0, omega arith, (let same : 0 ≡ i = omega arith in same));
    behind = λ n i j at m. absurd (mentions_none i j m);
  }
    where
      mentions_none : (i j : ℕ) → Mentions ([] ∷ []) i j → ⊥
      mentions_none zero j m = let none : [] ≡ m.targets = cc in absurd (let lt = m.among.1 in omega (arith, ap length none))
      mentions_none (suc i) j m = absurd (let no = m.at in cc)

  -- a tuple of so many components has no lawful kernel
  pub limit_needed : Unlimited → ⊥
  limit_needed law =
      let count : ℕ = 2 * 10 ^ 64 in
      let shaped : IsShaped (program count) = All-cons IsShapedEntry (item count) [] (item_shaped count (omega arith)) (All-nil IsShapedEntry) in
      let kernel = law (program count) (0 ∷ []) shaped (item_faults count) (order count) in
      let parts = components (bodies (program count)) [] (many count) [] in
      let first = function_of (program count) (record { place = p; name = codes "f" }) [] (tuple p (many count)) in
      let apart : AreApart (names_of_pieces parts) = carry AreApart (piece_names parts) (kernel.functions_stand 0 first (omega arith)).ty.1 in
      apart_not (names_of_pieces parts) (10 ^ 64 - 1) (2 * 10 ^ 64 - 1) [] (omega arith) (omega (arith, named_length (program count) count []))
      (component_at (program count) count (10 ^ 64 - 1) [] [] (omega arith) ∙ components_twice ∙ sym (component_at (program count) count (2 * 10 ^ 64 - 1) [] [] (omega arith))) apart
