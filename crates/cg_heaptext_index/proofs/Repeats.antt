-- What was found behind some of the entries of a heap file.
use Rattle.std.proofs.Common.{◌≡◌, ℕ, ◌+◌, ◌<◌, Bool, true, false, cond, ◌⊎◌, inl, inr, List, [], ◌∷◌, ◌++◌, length, get_or, Option, Some, None, refl, sym, ap, ◌∙◌, subst, arith, bytes_eq, is_some}
use Rattle.std.proofs.lemmas.Bool.{ltb-false, ltb-true, true≢false}
use Rattle.std.proofs.lemmas.Option.{slice_get_read}
use Rattle.std.specs.Cmp.Lexicographic.{bytes_decides}
use Rattle.std.specs.Prelude.{nat_lt, slice_get, unwrap_or}
use Rattle.cg_base.proofs.Options.{some_is}
use Rattle.cg_base.proofs.Truths.{either_bool}
use Rattle.cg_base.specs.declared.place.Place.{Place}
use Rattle.cg_heaptext_entries.specs.declared.entry.EntryAt.{EntryAt}
use Rattle.cg_heaptext_places.proofs.Noting.{noted_more}
use Rattle.cg_heaptext_places.specs.Noted.{AreThose, noted, noted_all}
use Rattle.cg_heaptext_index.specs.Addresses.{Joins, Positions, position, significant}
use Rattle.cg_heaptext_index.proofs.Those.{those_more, those_same}

-- the digits of an address, without the zeros in front
abbrev pub key : EntryAt → List ℕ
key x = significant x.address.digits.now

-- the entry at this position has this address
pub record Has (xs : List EntryAt) (i : ℕ) (text : List ℕ) : Type 0 where
  pub entry : EntryAt
  pub there : slice_get xs i ≡ Some entry
  pub same : key entry ≡ text

-- this is the first of the first n entries that has an address, or none of them has it
abbrev pub IsFirst : List EntryAt → ℕ → List ℕ → Option ℕ → Type 0
IsFirst xs n text (Some j) = (j < n) × Has xs j text × ((i : ℕ) → i < j → Has xs i text → ⊥)
IsFirst xs n text None = (i : ℕ) → i < n → Has xs i text → ⊥

-- at this place stands one of the first n entries, and an earlier one has its address
pub record IsRepeat (xs : List EntryAt) (n : ℕ) (place : Place) : Type 0 where
  pub i : ℕ
  pub j : ℕ
  pub later : EntryAt
  pub order : i < j
  pub within : j < n
  pub there : slice_get xs j ≡ Some later
  pub earlier : Has xs i (key later)
  pub at : place ≡ later.place

-- The first n entries were passed: each address has the position of the first that has it, and the first repeat was found.
pub record Passed (xs : List EntryAt) (n : ℕ) (positions : Positions) (found : Option Place) : Type 0 where
  pub firsts : (text : List ℕ) → IsFirst xs n text (position positions text)
  pub places : List Place
  pub is : found ≡ noted_all None places
  pub those : AreThose (IsRepeat xs n) places

-- ---- an entry more

below : (i n : ℕ) → i < n + 1 → (i < n) ⊎ (i ≡ n)
below i n l = by (either_bool (nat_lt i n))
  where
    by : (nat_lt i n ≡ true) ⊎ (nat_lt i n ≡ false) → (i < n) ⊎ (i ≡ n)
    by (inl b) = inl (ltb-true i n b)
    by (inr b) = let k = ltb-false i n b in inr (omega (arith, l, k))

module _ (xs : List EntryAt) (n : ℕ) (x : EntryAt) (there : slice_get xs n ≡ Some x) where
  is_it : (i : ℕ) (y : EntryAt) → i ≡ n → slice_get xs i ≡ Some y → x ≡ y
  is_it i y e s = some_is x y (sym there ∙ ap (slice_get xs) (sym e) ∙ s)

  -- its address, and the others
  first_here : (found : Option ℕ) → IsFirst xs n (key x) found → IsFirst xs (n + 1) (key x) (Some (unwrap_or found n))
  first_here (Some j) f = (omega (arith, f.0), f.1, f.2)
  first_here None f = (omega arith, record { entry = x; there = there; same = refl }, f)

  first_there : (text : List ℕ) → bytes_eq (key x) text ≡ false → (found : Option ℕ) → IsFirst xs n text found → IsFirst xs (n + 1) text found
  first_there text differs (Some j) f = (omega (arith, f.0), f.1, f.2)
  first_there text differs None f = λ i l has. either i has (below i n l)
    where
      either : (i : ℕ) → Has xs i text → (i < n) ⊎ (i ≡ n) → ⊥
      either i has (inl l) = f i l has
      either i has (inr e) = true≢false (sym ((bytes_decides (key x) text).1 (ap key (is_it i has.entry e has.there) ∙ has.same)) ∙ differs)

  firsts_on : (before after : Positions) → Joins before (key x) n after → ((text : List ℕ) → IsFirst xs n text (position before text)) → (text : List ℕ) → IsFirst xs (n + 1) text (position after text)
  firsts_on before after joins firsts text = subst (IsFirst xs (n + 1) text) (sym (joins text)) (pick (bytes_eq (key x) text) refl)
    where
      pick : (b : Bool) → bytes_eq (key x) text ≡ b → IsFirst xs (n + 1) text (cond b (Some (unwrap_or (position before (key x)) n)) (position before text))
      pick true same =
          subst (λ t. IsFirst xs (n + 1) t (Some (unwrap_or (position before (key x)) n))) ((bytes_decides (key x) text).0 same) (first_here (position before (key x)) (firsts (key x)))
      pick false differs = first_there text differs (position before text) (firsts text)

  -- repeats
  stays : (p : Place) → IsRepeat xs n p → IsRepeat xs (n + 1) p
  stays p r = record { i = r.i; j = r.j; later = r.later; order = r.order; within = omega (arith, r.within); there = r.there; earlier = r.earlier; at = r.at }

  abbrev Earlier : Type 0
  Earlier = (i : ℕ) × (i < n) × Has xs i (key x)

  either_repeat : (p : Place) → IsRepeat xs (n + 1) p → IsRepeat xs n p ⊎ ((p ≡ x.place) × Earlier)
  either_repeat p r = by (below r.j n r.within)
    where
      by : (r.j < n) ⊎ (r.j ≡ n) → IsRepeat xs n p ⊎ ((p ≡ x.place) × Earlier)
      by (inl l) = inl (record { i = r.i; j = r.j; later = r.later; order = r.order; within = l; there = r.there; earlier = r.earlier; at = r.at })
      by (inr e) =
          let is = is_it r.j r.later e r.there in
          inr (r.at ∙ ap (λ (y : EntryAt). y.place) (sym is), (r.i, omega (arith, r.order, e), subst (λ (y : EntryAt). Has xs r.i (key y)) (sym is) r.earlier))

  repeats_here : Earlier → IsRepeat xs (n + 1) x.place
  repeats_here e = record { i = e.0; j = n; later = x; order = e.1; within = omega arith; there = there; earlier = e.2; at = refl }

  -- whether an earlier entry has its address
  one_has : (found : Option ℕ) → IsFirst xs n (key x) found → is_some found ≡ true → Earlier
  one_has (Some j) f h = (j, f.0, f.1)
  one_has None f h = absurd (true≢false (sym h))

  none_has : (found : Option ℕ) → IsFirst xs n (key x) found → is_some found ≡ false → Earlier → ⊥
  none_has (Some j) f h e = true≢false h
  none_has None f h e = f e.0 e.1 e.2

-- an entry more, whose address an earlier one has
pub passes_repeat : (xs : List EntryAt) (n : ℕ) (x : EntryAt) (before after : Positions) (found next : Option Place) (text : List ℕ) (known : Bool) → n < length xs → x ≡ get_or xs n x
    → text ≡ key x → known ≡ is_some (position before text) → known ≡ true → Joins before text n after → next ≡ noted found x.place → Passed xs n before found → Passed xs (n + 1) after next
passes_repeat xs n x before after found next text known within item same is e joins noting p =
    let there = slice_get_read xs (length xs) n x refl within item in
    let earlier = one_has xs n x there (position before (key x)) (p.firsts (key x)) (ap (λ t. is_some (position before t)) (sym same) ∙ sym is ∙ e) in
    record {
      firsts = firsts_on xs n x there before after (subst (λ t. Joins before t n after) same joins) p.firsts;
      places = p.places ++ x.place ∷ [];
      is = noting ∙ ap (λ f. noted f x.place) p.is ∙ sym (noted_more None p.places x.place);
      those = those_more (IsRepeat xs n) (IsRepeat xs (n + 1)) p.places x.place (stays xs n x there) (repeats_here xs n x there earlier) (λ q r. either q (either_repeat xs n x there q r)) p.those;
    }
  where
    either : (q : Place) → IsRepeat xs n q ⊎ ((q ≡ x.place) × ((i : ℕ) × (i < n) × Has xs i (key x))) → IsRepeat xs n q ⊎ (q ≡ x.place)
    either q (inl r) = inl r
    either q (inr r) = inr r.0

-- and one whose address none has
pub passes_new : (xs : List EntryAt) (n : ℕ) (x : EntryAt) (before after : Positions) (found next : Option Place) (text : List ℕ) (known : Bool) → n < length xs → x ≡ get_or xs n x
    → text ≡ key x → known ≡ is_some (position before text) → known ≡ false → Joins before text n after → next ≡ found → Passed xs n before found → Passed xs (n + 1) after next
passes_new xs n x before after found next text known within item same is e joins stay p =
    let there = slice_get_read xs (length xs) n x refl within item in
    let none = none_has xs n x there (position before (key x)) (p.firsts (key x)) (ap (λ t. is_some (position before t)) (sym same) ∙ sym is ∙ e) in
    record {
      firsts = firsts_on xs n x there before after (subst (λ t. Joins before t n after) same joins) p.firsts;
      places = p.places;
      is = stay ∙ p.is;
      those = those_same (IsRepeat xs n) (IsRepeat xs (n + 1)) p.places (stays xs n x there) (λ q r. either q none (either_repeat xs n x there q r)) p.those;
    }
  where
    either : (q : Place) → (((i : ℕ) × (i < n) × Has xs i (key x)) → ⊥) → IsRepeat xs n q ⊎ ((q ≡ x.place) × ((i : ℕ) × (i < n) × Has xs i (key x))) → IsRepeat xs n q
    either q none (inl r) = r
    either q none (inr r) = absurd (none r.1)
