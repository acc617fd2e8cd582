-- Contexts that are observed item by item, and what their types are.
use Rattle.std.proofs.Common.{◌≡◌, ◌<◌, ◌≤◌, ◌+◌, ℕ, zero, suc, Bool, true, false, ◌||◌, cond, Option, List, [], ◌∷◌, ◌++◌, length, map, take, drop, set, get_or, append-nil, refl, sym, ap, ◌∙◌, arith}
use Rattle.std.proofs.lemmas.List.{drop_all, take_all, get_or-map, length-map}
use Rattle.cg_base.specs.declared.place.Place.{Place}
use Rattle.cg_base.specs.Types.{type_of}
use Rattle.cg_check_context.specs.declared.source.Known.{Known}
use Rattle.cg_check_context.specs.Observed.{see, with_flags}
use Rattle.cg_check_pieces.specs.View.{is_seen_at}
use Rattle.cg_check_context.specs.View.{Entry, entries_of, type_seen, types_in}
use Rattle.cg_core.specs.declared.term.Seen.{Seen}
use Rattle.cg_faults.specs.Plain.{banged_where, observed}
use Rattle.cg_kinds.proofs.Laws.{bang_twice}
use Rattle.cg_kinds.specs.Kinds.{bang}
use Rattle.cg_typing.specs.Contexts.{among}
use Rattle.cg_check_uses.proofs.SettleSteps.{toward}
use Rattle.cg_check_uses.specs.Uses.{flag_at, is_seen, seen_at, seen_places, table}
use Rattle.cg_check_laws.proofs.PassSteps.{seen_among}

abbrev entry_of : Known → Entry
entry_of k = record { ty = type_of k.ty; observed = k.observed }

-- one of the entries
see_at : (ss : List (Option Place)) (es : List Entry) (i : ℕ) (d : Entry) → i < length es
    → get_or (see ss es) i d ≡ record { ty = (get_or es i d).ty; observed = is_seen_at ss i || (get_or es i d).observed }
see_at ss [] i d h = absurd (omega (arith, h))
see_at [] (e ∷ es) i d h = refl
see_at (s ∷ ss) (e ∷ es) zero d h = refl
see_at (s ∷ ss) (e ∷ es) (suc i) d h = see_at ss es i d (omega (arith, h))

flags_at : (bs : List Bool) (es : List Entry) (i : ℕ) (d : Entry) → i < length es
    → get_or (with_flags bs es) i d ≡ record { ty = (get_or es i d).ty; observed = flag_at bs i }
flags_at bs [] i d h = absurd (omega (arith, h))
flags_at [] (e ∷ es) zero d h = refl
flags_at [] (e ∷ es) (suc i) d h = flags_at [] es i d (omega (arith, h))
flags_at (b ∷ bs) (e ∷ es) zero d h = refl
flags_at (b ∷ bs) (e ∷ es) (suc i) d h = flags_at bs es i d (omega (arith, h))

see_long : (ss : List (Option Place)) (es : List Entry) → length (see ss es) ≡ length es
see_long ss [] = refl
see_long [] (e ∷ es) = refl
see_long (s ∷ ss) (e ∷ es) = ap suc (see_long ss es)

flags_long : (bs : List Bool) (es : List Entry) → length (with_flags bs es) ≡ length es
flags_long bs [] = refl
flags_long [] (e ∷ es) = ap suc (flags_long [] es)
flags_long (b ∷ bs) (e ∷ es) = ap suc (flags_long bs es)

-- the next entry to be done
middle : (ys xs : List Entry) (i : ℕ) (d : Entry) → length ys ≡ length xs → i < length xs → get_or (take i ys ++ drop i xs) i d ≡ get_or xs i d
middle ys [] i d e h = absurd (omega (arith, h))
middle [] (x ∷ xs) i d e h = absurd (omega (arith, e))
middle (y ∷ ys) (x ∷ xs) zero d e h = refl
middle (y ∷ ys) (x ∷ xs) (suc i) d e h = middle ys xs i d (omega (arith, e)) (omega (arith, h))

-- one more entry is done
module _ (old now : List Known) (i : ℕ) (x y : Known) (lt : i < length old) (long : length now ≡ length old) (is : x ≡ get_or now i x) (t : type_of y.ty ≡ type_of x.ty) where
  next_entry : (ys : List Entry) → length ys ≡ length (entries_of old) → entries_of now ≡ take i ys ++ drop i (entries_of old) → get_or (entries_of old) i (entry_of y) ≡ entry_of x
  next_entry ys e h =
      sym (middle ys (entries_of old) i (entry_of y) e (omega (arith, lt, length-map old entry_of)))
      ∙ ap (λ es. get_or es i (entry_of y)) (sym h) ∙ get_or-map entry_of now i x (entry_of y) (omega (arith, lt, long)) ∙ ap entry_of (sym is)

  pub see_more : (ss : List (Option Place)) → entries_of now ≡ take i (see ss (entries_of old)) ++ drop i (entries_of old) → y.observed ≡ (is_seen_at ss i || x.observed)
      → entries_of (set now i y) ≡ take (i + 1) (see ss (entries_of old)) ++ drop (i + 1) (entries_of old)
  see_more ss h o =
      let es = entries_of old in
      let far : i < length es = omega (arith, lt, length-map old entry_of) in
      let here = next_entry (see ss es) (see_long ss es) h in
      let made : entry_of y ≡ record { ty = (get_or es i (entry_of y)).ty; observed = is_seen_at ss i || (get_or es i (entry_of y)).observed } = cc (t, o, here) in
      toward entry_of now es (see ss es) i y h (sym (see_long ss es)) far (made ∙ sym (see_at ss es i (entry_of y) far))

  pub flags_more : (bs : List Bool) → entries_of now ≡ take i (with_flags bs (entries_of old)) ++ drop i (entries_of old) → y.observed ≡ flag_at bs i
      → entries_of (set now i y) ≡ take (i + 1) (with_flags bs (entries_of old)) ++ drop (i + 1) (entries_of old)
  flags_more bs h o =
      let es = entries_of old in
      let far : i < length es = omega (arith, lt, length-map old entry_of) in
      let here = next_entry (with_flags bs es) (flags_long bs es) h in
      let made : entry_of y ≡ record { ty = (get_or es i (entry_of y)).ty; observed = flag_at bs i } = cc (t, o, here) in
      toward entry_of now es (with_flags bs es) i y h (sym (flags_long bs es)) far (made ∙ sym (flags_at bs es i (entry_of y) far))

all_taken : (xs ys : List Entry) (i : ℕ) → length ys ≡ length xs → length xs ≤ i → take i ys ++ drop i xs ≡ ys
all_taken xs ys i e h = ap (λ l. take i ys ++ l) (drop_all i xs h) ∙ append-nil (take i ys) ∙ take_all i ys (omega (arith, e, h))

pub see_done : (ks : List Known) (ss : List (Option Place)) (i : ℕ) → length ks ≤ i → take i (see ss (entries_of ks)) ++ drop i (entries_of ks) ≡ see ss (entries_of ks)
see_done ks ss i h = all_taken (entries_of ks) (see ss (entries_of ks)) i (see_long ss (entries_of ks)) (omega (arith, h, length-map ks entry_of))

pub flags_done : (ks : List Known) (bs : List Bool) (i : ℕ) → length ks ≤ i → take i (with_flags bs (entries_of ks)) ++ drop i (entries_of ks) ≡ with_flags bs (entries_of ks)
flags_done ks bs i h = all_taken (entries_of ks) (with_flags bs (entries_of ks)) i (flags_long bs (entries_of ks)) (omega (arith, h, length-map ks entry_of))

-- as it was
pub restored : (ks : List Known) (ss : List (Option Place)) → with_flags (map (λ (k : Known). k.observed) ks) (see ss (entries_of ks)) ≡ entries_of ks
restored [] ss = refl
restored (k ∷ ks) [] = ap (λ es. entry_of k ∷ es) (again ks)
  where
    again : (ks : List Known) → with_flags (map (λ (k : Known). k.observed) ks) (entries_of ks) ≡ entries_of ks
    again [] = refl
    again (k ∷ ks) = ap (λ es. entry_of k ∷ es) (again ks)
restored (k ∷ ks) (s ∷ ss) = ap (λ es. entry_of k ∷ es) (restored ks ss)

-- the types
seen_type : (q : Bool) (e : Entry) → type_seen (record { ty = e.ty; observed = q || e.observed }) ≡ cond q (bang (type_seen e)) (type_seen e)
seen_type false e = refl
seen_type true e = go e.observed
  where
    go : (o : Bool) → bang e.ty ≡ bang (cond o (bang e.ty) e.ty)
    go true = sym (bang_twice e.ty)
    go false = refl

types_seen : (f : ℕ → Option Place) (g : ℕ → Bool) (es : List Entry) → ((i : ℕ) → is_seen (f i) ≡ g i) → types_in (see (table (length es) f) es) ≡ banged_where g (types_in es)
types_seen f g [] h = refl
types_seen f g (e ∷ es) h =
    cc (
      ap (λ q. type_seen (record { ty = e.ty; observed = q || e.observed })) (h 0) ∙ seen_type (g 0) e,
      types_seen (λ i. f (suc i)) (λ i. g (suc i)) es (λ i. h (suc i)),
    )

pub types_observed : (es : List Entry) (os : List Seen) → types_in (see (seen_places (length es) os) es) ≡ observed os (types_in es)
types_observed es os = types_seen (λ i. seen_at i os) (λ i. among i os) es (λ i. seen_among i os)

pub seen_types : (ks : List Known) (os : List Seen) (n : ℕ) (seen : List (Option Place)) → seen ≡ seen_places n os → n ≡ length ks
    → types_in (see seen (entries_of ks)) ≡ observed os (types_in (entries_of ks))
seen_types ks os n seen h e =
    ap (λ l. types_in (see l (entries_of ks))) (h ∙ ap (λ m. seen_places m os) (e ∙ sym (length-map ks entry_of)))
    ∙ types_observed (entries_of ks) os
