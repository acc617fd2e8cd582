-- Names in scope, with one more and with one less.
use Rattle.std.proofs.Common.{◌≡◌, ℕ, zero, suc, ◌+◌, ◌<◌, Bool, true, false, ◌||◌, not, List, [], ◌∷◌, ◌++◌, length, get_or, take, sym, ap, ◌∙◌, refl, arith, Bor, cond, append-nil, if◌then◌else◌}
use Rattle.std.proofs.Math.Bool.{or-false, or_comm}
use Rattle.std.proofs.lemmas.Bool.{or_parts, true≢false}
use Rattle.std.proofs.lemmas.List.{map-append, take_more}
use Rattle.std.proofs.lemmas.Map.Text.{is_eq-slice_cmp}
use Rattle.std.specs.BTreeSet.{BTreeSet, Updates, UpdatesBy}
use Rattle.std.specs.Cmp.Lexicographic.{bytes_decides, nat_list_eq_equiv, slice_cmp}
use Rattle.std.specs.Ordering.{nat_cmp}
use Rattle.std.specs.Str.{bytes_eq}
use Rattle.cg_resolve_def.specs.Declared.{is_among}
use Rattle.cg_resolve_declared.specs.Tables.{has, texts, IsSetOf}
use Rattle.cg_resolve_declared.proofs.Tables.{has_more, set_none}
use Rattle.cg_resolve_names.specs.Scopes.{AreApart, IsScope, SameNames}

-- a name among names and others
pub among_append : (names others : List (List ℕ)) (n : List ℕ) → is_among (names ++ others) n ≡ (is_among names n || is_among others n)
among_append [] others n = refl
among_append (m ∷ names) others n = pick (bytes_eq n m) (among_append names others n)
  where
    pick : (b : Bool) → is_among (names ++ others) n ≡ (is_among names n || is_among others n) → (b || is_among (names ++ others) n) ≡ ((b || is_among names n) || is_among others n)
    pick true h = refl
    pick false h = h

pub among_one : (names : List (List ℕ)) (m n : List ℕ) → is_among (names ++ m ∷ []) n ≡ (bytes_eq m n || is_among names n)
among_one names m n = among_append names (m ∷ []) n ∙ ap (λ b. is_among names n || b) (or-false (bytes_eq n m) ∙ nat_list_eq_equiv.symm n m) ∙ or_comm (is_among names n) (bytes_eq m n)

-- names that are apart, one more and one less
apart_more : (names : List (List ℕ)) (m : List ℕ) → AreApart names → is_among names m ≡ false → AreApart (names ++ m ∷ [])
apart_more [] m apart new = (refl, apart)
apart_more (n ∷ names) m apart new = (
  among_one names m n ∙ ap (λ b. b || is_among names n) (or_parts (bytes_eq m n) (is_among names m) new).0 ∙ apart.0,
  apart_more names m apart.1 (or_parts (bytes_eq m n) (is_among names m) new).1,
)

apart_less : (names : List (List ℕ)) (m : List ℕ) → AreApart (names ++ m ∷ []) → AreApart names × (is_among names m ≡ false)
apart_less [] m apart = (apart.1, refl)
apart_less (n ∷ names) m apart = (
  ((or_parts (bytes_eq m n) (is_among names n) (sym (among_one names m n) ∙ apart.0)).1, (apart_less names m apart.1).0),
  ap (λ b. b || is_among names m) (or_parts (bytes_eq m n) (is_among names n) (sym (among_one names m n) ∙ apart.0)).0 ∙ (apart_less names m apart.1).1,
)

-- a scope with one name more
pub scope_more : (names : List (List ℕ)) (m : Bor (List ℕ)) (set new : BTreeSet (Bor (List ℕ))) → IsScope names set → is_among names m.now ≡ false
    → Updates (λ x y. slice_cmp nat_cmp x.now y.now) set new m true → IsScope (names ++ m.now ∷ []) new
scope_more names m set new is absent updates =
    record {
      same = λ n. has_more set new m updates n ∙ ap (λ b. bytes_eq m.now n || b) (is.same n) ∙ sym (among_one names m.now n);
      apart = apart_more names m.now is.apart absent;
    }

-- what a removal does to the names that a set has
has_less : (set new : BTreeSet (Bor (List ℕ))) (m : Bor (List ℕ)) → UpdatesBy (λ x y. slice_cmp nat_cmp x.now y.now) (λ key. slice_cmp nat_cmp m.now key.now) set new false → (n : List ℕ)
    → has new n ≡ cond (bytes_eq m.now n) false (has set n)
unfolding has
has_less set new m updates n = updates.0 (record { ref_ptr = (0, 0); now = n }) ∙ ap (λ b. cond b false (has set n)) (is_eq-slice_cmp m.now n)

-- a scope with one name less
pub scope_less : (names : List (List ℕ)) (m : Bor (List ℕ)) (set new : BTreeSet (Bor (List ℕ))) → IsScope (names ++ m.now ∷ []) set
    → UpdatesBy (λ x y. slice_cmp nat_cmp x.now y.now) (λ key. slice_cmp nat_cmp m.now key.now) set new false → IsScope names new
scope_less names m set new is updates =
    record {
      same = λ n. has_less set new m updates n ∙ ap (λ b. cond (bytes_eq m.now n) false b) (is.same n ∙ among_one names m.now n) ∙ pick n (bytes_eq m.now n) refl;
      apart = (apart_less names m.now is.apart).0;
    }
  where
    pick : (n : List ℕ) (b : Bool) → bytes_eq m.now n ≡ b → cond b false (b || is_among names n) ≡ is_among names n
    pick n true same = sym (ap (is_among names) (sym ((bytes_decides m.now n).0 same)) ∙ (apart_less names m.now is.apart).1)
    pick n false differs = refl

-- no names
pub scope_none : (set : BTreeSet (Bor (List ℕ))) → IsSetOf [] set → IsScope [] set
scope_none set same = record { same = same; apart = tt }

-- the first names stay where others come in behind them
pub kept_more : (names scope rest : List (List ℕ)) → take (length names) scope ≡ names → take (length names) (scope ++ rest) ≡ names
kept_more [] scope rest h = refl
kept_more (n ∷ names) [] rest h = absurd (no_nil n names h)
  where
    no_nil : (n : List ℕ) (names : List (List ℕ)) → [] ≡ n ∷ names → ⊥
    no_nil n names h = let lengths = ap length h in omega arith
kept_more (n ∷ names) (m ∷ scope) rest h = ap (λ x. x ∷ take (length names) (scope ++ rest)) (ap heads h) ∙ ap (λ l. n ∷ l) (kept_more names scope rest (ap tails h))
  where
    heads : List (List ℕ) → List ℕ
    heads [] = n
    heads (x ∷ l) = x

    tails : List (List ℕ) → List (List ℕ)
    tails [] = []
    tails (x ∷ l) = l

-- an item of a list is one for each default
pub get_or_same : (items : List (Bor (List ℕ))) (i : ℕ) (d e : Bor (List ℕ)) → i < length items → get_or items i d ≡ get_or items i (get_or items i e)
get_or_same [] i d e within = absurd (omega arith)
get_or_same (x ∷ items) zero d e within = refl
get_or_same (x ∷ items) (suc i) d e within = get_or_same items i d e (omega arith)

-- a scope into which a name came, where it was new
module _ (scope new : List (List ℕ)) (x : Bor (List ℕ)) (b : Bool) (b_is : b ≡ not (is_among scope x.now)) (new_is : new ≡ scope ++ (if b then x.now ∷ [] else [])) where
  pub entered : SameNames new (x.now ∷ scope)
  entered n = ap (λ l. is_among l n) new_is ∙ pick b b_is
    where
      pick : (b : Bool) → b ≡ not (is_among scope x.now) → is_among (scope ++ (if b then x.now ∷ [] else [])) n ≡ (bytes_eq n x.now || is_among scope n)
      pick true h = among_one scope x.now n ∙ ap (λ c. c || is_among scope n) (nat_list_eq_equiv.symm x.now n)
      pick false h = ap (λ l. is_among l n) (append-nil scope) ∙ old (bytes_eq n x.now) refl
        where
          there : (c : Bool) → false ≡ not c → c ≡ true
          there true e = refl
          there false e = absurd (true≢false (sym e))

          old : (c : Bool) → bytes_eq n x.now ≡ c → is_among scope n ≡ (c || is_among scope n)
          old true same = ap (is_among scope) ((bytes_decides n x.now).0 same) ∙ there (is_among scope x.now) h
          old false differs = refl

-- a turn of the loop over names that come into scope
module _ (items : List (Bor (List ℕ))) (i : ℕ) (x : Bor (List ℕ)) (within : i < length items) (is : x ≡ get_or items i x) (names scope new : List (List ℕ)) (b : Bool)
    (b_is : b ≡ not (is_among scope x.now)) (new_is : new ≡ scope ++ (if b then x.now ∷ [] else [])) where
  pub enter_names : SameNames scope (texts (take i items) ++ names) → SameNames new (texts (take (i + 1) items) ++ names)
  enter_names same = λ n.
      entered scope new x b b_is new_is n
      ∙ ap (λ c. bytes_eq n x.now || c) (same n ∙ among_append (texts (take i items)) names n)
      ∙ shuffle (bytes_eq n x.now) (is_among (texts (take i items)) n) (is_among names n)
      ∙ ap (λ c. c || is_among names n) (sym (among_append (texts (take i items)) (x.now ∷ []) n))
      ∙ sym (among_append (texts (take i items) ++ x.now ∷ []) names n)
      ∙ ap (λ l. is_among (l ++ names) n) (sym (ap texts (take_more items i x within ∙ ap (λ y. take i items ++ y ∷ []) (sym is)) ∙ map-append (λ name. name.now) (take i items) (x ∷ [])))
    where
      shuffle : (b c d : Bool) → (b || (c || d)) ≡ ((c || (b || false)) || d)
      shuffle true true d = refl
      shuffle true false d = refl
      shuffle false true d = refl
      shuffle false false d = refl

  pub enter_kept : take (length names) scope ≡ names → take (length names) new ≡ names
  enter_kept kept = ap (take (length names)) new_is ∙ kept_more names scope (if b then x.now ∷ [] else []) kept

pub ruleset scope_steps = (set_none, scope_none)
