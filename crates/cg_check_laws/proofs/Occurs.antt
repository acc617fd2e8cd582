-- Lemmas on occurrences: what is not touched is not used; and what is touched and not used was sighted.
use Rattle.std.proofs.Common.{◌≡◌, ℕ, Bool, true, false, ◌&&◌, ◌||◌, not, cond, IsTrue, List, [], ◌∷◌, ◌++◌, map, inl, inr, refl, nat_eq}
use Rattle.cg_core.specs.declared.term.Seen.{Seen as Observer}
use Rattle.cg_core.specs.Terms.{Tree, term, Shape, var, unit, bool, lit, fun, op, app, lets, let_bang, if_else, con, case_of, esac, struct, member, take_field, put, cast, annot, Trees, none, more, Named, end, field}
use Rattle.cg_faults.specs.declared.rule.Rule.TheVariants.{K3}
use Rattle.cg_typing.specs.Contexts.{among}
use Rattle.cg_faults.specs.Events.{judged, RulesHold}
use Rattle.cg_faults.specs.Occurrences.{touched, touched_shape, touched_trees, touched_fields, used, used_shape, used_trees, used_fields, Sighting, sightings_among, sightings, sightings_shape, sightings_trees, sightings_fields}
use Rattle.cg_check_laws.proofs.Basics.{or_false, or_else}
use Rattle.cg_check_uses.proofs.Numbers.{apart}
use Rattle.cg_base.proofs.Truths.{either_bool as bool_is, either as or_elim, either_false as none_or}

none_not : (a b c : Bool) → a ≡ false → b ≡ false → c ≡ false → ((not a && b) || c) ≡ false
none_not true b c h k l = absurd (cc)
none_not false true c h k l = k
none_not false false c h k l = l

two_unused : (a b u v : Bool) → (a || b) ≡ false → (a ≡ false → u ≡ false) → (b ≡ false → v ≡ false) → (u || v) ≡ false
two_unused a b u v h f g = let p = or_false a b h in none_or u v (f p.0) (g p.1)

three_unused : (a b c u v w : Bool) → (a || (b || c)) ≡ false → (a ≡ false → u ≡ false) → (b ≡ false → v ≡ false) → (c ≡ false → w ≡ false) → (u || (v || w)) ≡ false
three_unused a b c u v w h f g k = two_unused a (b || c) u (v || w) h f (λ n. two_unused b c v w n g k)

mutual
  -- a variable that is not touched is not used
  pub unused : {A : Type 0} (e : Tree A) (i : ℕ) → touched i e ≡ false → used i e ≡ false
  unused (term a shape) i h = unused_shape shape i h

  unused_shape : {A : Type 0} (s : Shape A) (i : ℕ) → touched_shape i s ≡ false → used_shape i s ≡ false
  unused_shape (var j) i h = h
  unused_shape unit i h = refl
  unused_shape (bool b) i h = refl
  unused_shape (lit v) i h = refl
  unused_shape (fun f args) i h = refl
  unused_shape (op o ts) i h = unused_trees ts i h
  unused_shape (app f x) i h = two_unused _ _ _ _ h (unused f i) (unused x i)
  unused_shape (lets v e k) i h = two_unused _ _ _ _ h (unused e i) (unused k i)
  unused_shape (let_bang os v e k) i h =
      let p = or_false (among i os) (touched i e || touched i k) h in let q = or_false (touched i e) (touched i k) p.1 in
      none_not (among i os) (used i e) (used i k) p.0 (unused e i q.0) (unused k i q.1)
  unused_shape (if_else c x y) i h = three_unused _ _ _ _ _ _ h (unused c i) (unused x i) (unused y i)
  unused_shape (con n e) i h = unused e i h
  unused_shape (case_of e at v x y) i h = three_unused _ _ _ _ _ _ h (unused e i) (unused x i) (unused y i)
  unused_shape (esac at e) i h = unused e i h
  unused_shape (struct fs) i h = unused_fields fs i h
  unused_shape (member e at) i h = unused e i h
  unused_shape (take_field e at v w k) i h = two_unused _ _ _ _ h (unused e i) (unused k i)
  unused_shape (put e at x) i h = two_unused _ _ _ _ h (unused e i) (unused x i)
  unused_shape (cast e) i h = unused e i h
  unused_shape (annot e a) i h = unused e i h

  unused_trees : {A : Type 0} (ts : Trees A) (i : ℕ) → touched_trees i ts ≡ false → used_trees i ts ≡ false
  unused_trees none i h = refl
  unused_trees (more t ts) i h = two_unused _ _ _ _ h (unused t i) (unused_trees ts i)

  unused_fields : {A : Type 0} (fs : Named A) (i : ℕ) → touched_fields i fs ≡ false → used_fields i fs ≡ false
  unused_fields end i h = refl
  unused_fields (field n e fs) i h = two_unused _ _ _ _ h (unused e i) (unused_fields fs i)

-- each of these sightings has a use behind it, unless the variable may be dropped
abbrev pub AllSeen : Bool → List Sighting → Type 0
AllSeen d [] = Unit {0}
AllSeen d (s ∷ ss) = IsTrue (d || s.used_later) × AllSeen d ss

pub seen_append : (d : Bool) (xs ys : List Sighting) → AllSeen d xs → AllSeen d ys → AllSeen d (xs ++ ys)
seen_append d [] ys h k = k
seen_append d (x ∷ xs) ys h k = (h.0, seen_append d xs ys h.1 k)

pub seen_left : (d : Bool) (xs ys : List Sighting) → AllSeen d (xs ++ ys) → AllSeen d xs
seen_left d [] ys h = tt
seen_left d (x ∷ xs) ys h = (h.0, seen_left d xs ys h.1)

pub seen_right : (d : Bool) (xs ys : List Sighting) → AllSeen d (xs ++ ys) → AllSeen d ys
seen_right d [] ys h = h
seen_right d (x ∷ xs) ys h = seen_right d xs ys h.1

-- what may be dropped is asked for no use
pub droppable : (xs : List Sighting) → AllSeen true xs
droppable [] = tt
droppable (x ∷ xs) = (refl, droppable xs)

-- the events at the end of a scope say just this
pub seen_of : (d : Bool) (xs : List Sighting) → RulesHold (map (λ s. judged K3 s.place (d || s.used_later)) xs) → AllSeen d xs
seen_of d [] h = tt
seen_of d (x ∷ xs) h = (h.0, seen_of d xs h.1)

pub to_seen : (d : Bool) (xs : List Sighting) → AllSeen d xs → RulesHold (map (λ s. judged K3 s.place (d || s.used_later)) xs)
to_seen d [] h = tt
to_seen d (x ∷ xs) h = (h.0, to_seen d xs h.1)

-- the sightings at one node
pub among_seen : (i : ℕ) (d u : Bool) (os : List Observer) → AllSeen d (sightings_among i u os) → among i os ≡ true → (d || u) ≡ true
among_seen i d u [] h m = absurd (cc)
among_seen i d u (o ∷ os) h m = go (nat_eq i o.var) (among_seen i d u os) h m
  where
    go : (q : Bool) → (AllSeen d (sightings_among i u os) → among i os ≡ true → (d || u) ≡ true)
        → AllSeen d (cond q (record { place = o.place; used_later = u } ∷ []) [] ++ sightings_among i u os) → (q || among i os) ≡ true → (d || u) ≡ true
    go true f h m = h.0
    go false f h m = f h m

pub to_among : (i : ℕ) (d u : Bool) (os : List Observer) → (among i os ≡ true → (d || u) ≡ true) → AllSeen d (sightings_among i u os)
to_among i d u [] h = tt
to_among i d u (o ∷ os) h = go (nat_eq i o.var) (to_among i d u os) h
  where
    go : (q : Bool) → ((among i os ≡ true → (d || u) ≡ true) → AllSeen d (sightings_among i u os)) → ((q || among i os) ≡ true → (d || u) ≡ true)
        → AllSeen d (cond q (record { place = o.place; used_later = u } ∷ []) [] ++ sightings_among i u os)
    go true f h = (h refl, f (λ m. h refl))
    go false f h = f h

pub skip_seen : (d q : Bool) (xs : List Sighting) → AllSeen d (cond q [] xs) → q ≡ false → AllSeen d xs
skip_seen d true xs h e = absurd (cc)
skip_seen d false xs h e = h

pub to_skip : (d q : Bool) (xs : List Sighting) → (q ≡ false → AllSeen d xs) → AllSeen d (cond q [] xs)
to_skip d true xs h = tt
to_skip d false xs h = h refl

-- two parts, one of which is touched, and neither used
two_sighted : (d a b u v : Bool) (xs ys : List Sighting) → AllSeen d (xs ++ ys) → (a || b) ≡ true → (u || v) ≡ false
    → (AllSeen d xs → a ≡ true → u ≡ false → d ≡ true) → (AllSeen d ys → b ≡ true → v ≡ false → d ≡ true) → d ≡ true
two_sighted d a b u v xs ys h t n f g =
    let q = or_false u v n in
    or_elim a b t (λ m. f (seen_left d xs ys h) m q.0) (λ m. g (seen_right d xs ys h) m q.1)

three_sighted : (d a b c u v w : Bool) (xs ys zs : List Sighting) → AllSeen d (xs ++ (ys ++ zs)) → (a || (b || c)) ≡ true → (u || (v || w)) ≡ false
    → (AllSeen d xs → a ≡ true → u ≡ false → d ≡ true) → (AllSeen d ys → b ≡ true → v ≡ false → d ≡ true)
    → (AllSeen d zs → c ≡ true → w ≡ false → d ≡ true) → d ≡ true
three_sighted d a b c u v w xs ys zs h t n f g k =
    two_sighted d a (b || c) u (v || w) xs (ys ++ zs) h t n f (λ h t n. two_sighted d b c v w ys zs h t n g k)

not_left : (a b : Bool) → a ≡ false → (not a && b) ≡ false → b ≡ false
not_left true b h k = absurd (cc)
not_left false b h k = k

mutual
  -- a variable that is touched and not used was sighted, and no use came behind it: so it may be dropped
  pub sighted : {A : Type 0} (e : Tree A) (i : ℕ) (d : Bool) → AllSeen d (sightings i e) → touched i e ≡ true → used i e ≡ false → d ≡ true
  sighted (term a shape) i d h t u = sighted_shape shape i d h t u

  sighted_shape : {A : Type 0} (s : Shape A) (i : ℕ) (d : Bool) → AllSeen d (sightings_shape i s) → touched_shape i s ≡ true → used_shape i s ≡ false → d ≡ true
  sighted_shape (var j) i d h t u = apart (nat_eq i j) t u
  sighted_shape unit i d h t u = absurd (cc)
  sighted_shape (bool b) i d h t u = absurd (cc)
  sighted_shape (lit v) i d h t u = absurd (cc)
  sighted_shape (fun f args) i d h t u = absurd (cc)
  sighted_shape (op o ts) i d h t u = sighted_trees ts i d h t u
  sighted_shape (app f x) i d h t u = two_sighted d _ _ _ _ (sightings i f) (sightings i x) h t u (sighted f i d) (sighted x i d)
  sighted_shape (lets v e k) i d h t u = two_sighted d _ _ _ _ (sightings i e) (sightings i k) h t u (sighted e i d) (sighted k i d)
  sighted_shape (let_bang os v e k) i d h t u =
      let q = or_false (not (among i os) && used i e) (used i k) u in
      let rest = seen_right d (sightings_among i (used i k) os) _ h in
      elim (bool_is (among i os)) [
        | inl m ↦ or_else d (used i k) (among_seen i d (used i k) os (seen_left d _ _ h) m) q.1
        | inr m ↦ or_elim (among i os) _ t (λ n. apart (among i os) n m) (λ n. or_elim (touched i e) (touched i k) n
            (λ n. sighted e i d (skip_seen d (among i os) (sightings i e) (seen_left d _ _ rest) m) n (not_left (among i os) (used i e) m q.0))
            (λ n. sighted k i d (seen_right d (cond (among i os) [] (sightings i e)) _ rest) n q.1))
      ]
  sighted_shape (if_else c x y) i d h t u =
      three_sighted d _ _ _ _ _ _ (sightings i c) (sightings i x) (sightings i y) h t u (sighted c i d) (sighted x i d) (sighted y i d)
  sighted_shape (con n e) i d h t u = sighted e i d h t u
  sighted_shape (case_of e at v x y) i d h t u =
      three_sighted d _ _ _ _ _ _ (sightings i e) (sightings i x) (sightings i y) h t u (sighted e i d) (sighted x i d) (sighted y i d)
  sighted_shape (esac at e) i d h t u = sighted e i d h t u
  sighted_shape (struct fs) i d h t u = sighted_fields fs i d h t u
  sighted_shape (member e at) i d h t u = sighted e i d h t u
  sighted_shape (take_field e at v w k) i d h t u = two_sighted d _ _ _ _ (sightings i e) (sightings i k) h t u (sighted e i d) (sighted k i d)
  sighted_shape (put e at x) i d h t u = two_sighted d _ _ _ _ (sightings i e) (sightings i x) h t u (sighted e i d) (sighted x i d)
  sighted_shape (cast e) i d h t u = sighted e i d h t u
  sighted_shape (annot e a) i d h t u = sighted e i d h t u

  sighted_trees : {A : Type 0} (ts : Trees A) (i : ℕ) (d : Bool) → AllSeen d (sightings_trees i ts) → touched_trees i ts ≡ true → used_trees i ts ≡ false → d ≡ true
  sighted_trees none i d h t u = absurd (cc)
  sighted_trees (more e ts) i d h t u = two_sighted d _ _ _ _ (sightings i e) (sightings_trees i ts) h t u (sighted e i d) (sighted_trees ts i d)

  sighted_fields : {A : Type 0} (fs : Named A) (i : ℕ) (d : Bool) → AllSeen d (sightings_fields i fs) → touched_fields i fs ≡ true → used_fields i fs ≡ false → d ≡ true
  sighted_fields end i d h t u = absurd (cc)
  sighted_fields (field n e fs) i d h t u = two_sighted d _ _ _ _ (sightings i e) (sightings_fields i fs) h t u (sighted e i d) (sighted_fields fs i d)
