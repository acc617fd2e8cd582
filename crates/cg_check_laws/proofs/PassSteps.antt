-- The pass beside the events: answers in turn, what is done with each variable as a table, and what was touched before.
use Rattle.std.proofs.Common.{◌≡◌, ℕ, zero, suc, ◌<◌, Bool, true, false, ◌&&◌, ◌||◌, not, cond, Option, Some, None, Ok, List, [], ◌∷◌, ◌++◌, length, map, ⊎_elim, refl, sym, ap, ◌∙◌, arith, nat_eq, lt-ltb, le-ltb}
use Rattle.cg_base.specs.declared.kind.Kinds.{Kinds}
use Rattle.cg_base.specs.declared.place.Place.{Place}
use Rattle.cg_base.specs.Types.{Tau}
use Rattle.cg_core.specs.declared.term.Seen.{Seen}
use Rattle.cg_core.specs.Derivations.{Derivation}
use Rattle.cg_core.specs.Kernels.{Function}
use Rattle.cg_core.specs.Terms.{Tree, Shape, Note}
use Rattle.cg_faults.specs.declared.rule.Rule.TheVariants.{K3, K5, T1}
use Rattle.cg_faults.specs.Same.{same}
use Rattle.cg_typing.specs.Contexts.{push, among, drops}
use Rattle.cg_faults.specs.Events.{Event, event, judged, Before, after, after_seen, upto, meets, scope_end, branch_events, first_failing}
use Rattle.cg_faults.specs.Occurrences.{touched, used, Sighting, sightings, sightings_among}
use Rattle.cg_check_def.specs.Pass.{Out, bind, test, need, meet, made, none_bad, leave, branches_test, verdict}
use Rattle.cg_check_uses.specs.Uses.{use_of, first_of, both, table, join, join_seen, mark, mark_but, seen_at, is_seen, seen_places, both_seen, flag_at, last, front}
use Rattle.cg_check_uses.specs.declared.entry.Use.{Use}
use Rattle.cg_faults.specs.Rule.{Test}
use Rattle.cg_check_laws.proofs.Basics.{length_push, below_suc}
use Rattle.cg_check_laws.proofs.SameTypes.{same_is}
use Rattle.cg_base.proofs.Truths.{either_bool as bool_is}

-- the events of a list in turn, and then what is left
abbrev pub run : {A : Type 0} → List Event → Out A → Out A
run [] k = k
run (event t p ok ∷ xs) k = test t p ok (run xs k)

test_bind : {A B : Type 0} (t : Test) (p : Place) (ok : Bool) (k : Out A) (h : A → Out B) → bind (test t p ok k) h ≡ test t p ok (bind k h)
test_bind t p true k h = refl
test_bind t p false k h = refl

bind_run : {A B : Type 0} (xs : List Event) (k : Out A) (h : A → Out B) → bind (run xs k) h ≡ run xs (bind k h)
bind_run [] k h = refl
bind_run (event t p ok ∷ xs) k h = test_bind t p ok (run xs k) h ∙ ap (test t p ok) (bind_run xs k h)

pub run_append : {A : Type 0} (xs ys : List Event) (k : Out A) → run (xs ++ ys) k ≡ run xs (run ys k)
run_append [] ys k = refl
run_append (event t p ok ∷ xs) ys k = ap (test t p ok) (run_append xs ys k)

-- one part and then the rest: every node is made of this
pub next : {A B : Type 0} (o : Out A) (h : A → Out B) (xs ys : List Event) (a : A) (k : Out B) → o ≡ run xs (Ok a) → h a ≡ run ys k → bind o h ≡ run (xs ++ ys) k
next o h xs ys a k e f = ap (λ o. bind o h) e ∙ bind_run xs (Ok a) h ∙ ap (run xs) f ∙ sym (run_append xs ys k)

-- a part behind which nothing can fail
pub last_part : {A B : Type 0} (o : Out A) (h : A → Out B) (xs : List Event) (a : A) (k : Out B) → o ≡ run xs (Ok a) → h a ≡ k → bind o h ≡ run xs k
last_part o h xs a k e f = ap (λ o. bind o h) e ∙ bind_run xs (Ok a) h ∙ ap (run xs) f

pub meet_is : {A : Type 0} (dir : Option Tau) (a : Place) (t : Tau) (k : Out A) → meet dir a t k ≡ run (meets dir a t) k
meet_is None a t k = refl
meet_is (Some u) a t k = refl

-- a checked type is the synthesised one
abbrev pub in_direction : Option Tau → Tau → Tau
in_direction None t = t
in_direction (Some u) t = u

pub meet_in : (dir : Option Tau) (a : Place) (t : Tau) (s : Shape Note) (d : Derivation) (us : List Use)
    → meet dir a t (Ok (made a t s d us)) ≡ meet dir a t (Ok (made a (in_direction dir t) s d us))
meet_in None a t s d us = refl
meet_in (Some u) a t s d us = ⊎_elim
    (λ e. ap (λ v. need T1 a (same u t) (Ok (made a v s d us))) (sym (same_is u t e)))
    (λ e. ap (λ q. need T1 a q (Ok (made a t s d us))) e ∙ ap (λ q. need T1 a q (Ok (made a u s d us))) (sym e))
    (bool_is (same u t))

-- ---- sightings

-- the first that has no use behind it
abbrev pub first_bad : List Sighting → Option Place
first_bad [] = None
first_bad (s ∷ ss) = cond s.used_later (first_bad ss) (Some s.place)

pub bad_append : (xs ys : List Sighting) → first_bad (xs ++ ys) ≡ first_of (first_bad xs) (first_bad ys)
bad_append [] ys = refl
bad_append (x ∷ xs) ys = go x.used_later (bad_append xs ys)
  where
    go : (q : Bool) → first_bad (xs ++ ys) ≡ first_of (first_bad xs) (first_bad ys) → cond q (first_bad (xs ++ ys)) (Some x.place) ≡ first_of (cond q (first_bad xs) (Some x.place)) (first_bad ys)
    go true h = h
    go false h = refl

sightings_run : {A : Type 0} (xs : List Sighting) (k : Out A) → run (map (λ s. judged K3 s.place (false || s.used_later)) xs) k ≡ none_bad (first_bad xs) k
sightings_run [] k = refl
sightings_run (x ∷ xs) k = go x.used_later (sightings_run xs k)
  where
    go : (q : Bool) → run (map (λ s. judged K3 s.place (false || s.used_later)) xs) k ≡ none_bad (first_bad xs) k
        → need K3 x.place q (run (map (λ s. judged K3 s.place (false || s.used_later)) xs) k) ≡ none_bad (cond q (first_bad xs) (Some x.place)) k
    go true h = h
    go false h = refl

sightings_fine : {A : Type 0} (xs : List Sighting) (k : Out A) → run (map (λ s. judged K3 s.place (true || s.used_later)) xs) k ≡ k
sightings_fine [] k = refl
sightings_fine (x ∷ xs) k = sightings_fine xs k

-- the sightings of one variable at one node
among_bad : (i : ℕ) (u : Bool) (os : List Seen) → first_bad (sightings_among i u os) ≡ cond u None (seen_at i os)
among_bad i true [] = refl
among_bad i false [] = refl
among_bad i true (o ∷ os) = go (nat_eq i o.var) (among_bad i true os)
  where
    go : (q : Bool) → first_bad (sightings_among i true os) ≡ None → first_bad (cond q (record { place = o.place; used_later = true } ∷ []) [] ++ sightings_among i true os) ≡ None
    go true h = h
    go false h = h
among_bad i false (o ∷ os) = go (nat_eq i o.var) (among_bad i false os)
  where
    go : (q : Bool) → first_bad (sightings_among i false os) ≡ seen_at i os
        → first_bad (cond q (record { place = o.place; used_later = false } ∷ []) [] ++ sightings_among i false os) ≡ cond q (Some o.place) (seen_at i os)
    go true h = refl
    go false h = h

-- ---- what is done with each variable

abbrev pub use_in : Tree Place → ℕ → Use
use_in e i = use_of (touched i e) (used i e) (first_bad (sightings i e))

abbrev pub uses : ℕ → Tree Place → List Use
uses n e = table n (use_in e)

pub join_table : (n : ℕ) (f g : ℕ → Use) → join (table n f) (table n g) ≡ table n (λ i. both (f i) (g i))
join_table zero f g = refl
join_table (suc n) f g = ap (λ us. both (f 0) (g 0) ∷ us) (join_table n (λ i. f (suc i)) (λ i. g (suc i)))

pub seen_table : (s : ℕ → Option Place) (n : ℕ) (f g : ℕ → Use) → join_seen (table n s) (table n f) (table n g) ≡ table n (λ i. both_seen (s i) (f i) (g i))
seen_table s zero f g = refl
seen_table s (suc n) f g = ap (λ us. both_seen (s 0) (f 0) (g 0) ∷ us) (seen_table (λ i. s (suc i)) n (λ i. f (suc i)) (λ i. g (suc i)))

pub last_table : (n : ℕ) (f : ℕ → Use) → last (table (suc n) f) ≡ f n
last_table zero f = refl
last_table (suc n) f = last_table n (λ i. f (suc i))

pub front_table : (n : ℕ) (f : ℕ → Use) → front (table (suc n) f) ≡ table n f
front_table zero f = refl
front_table (suc n) f = ap (λ us. f 0 ∷ us) (front_table n (λ i. f (suc i)))

-- two parts, and one observed part and another
pub use_two : (a b c d : Bool) (xs ys : List Sighting) → both (use_of a c (first_bad xs)) (use_of b d (first_bad ys)) ≡ use_of (a || b) (c || d) (first_bad (xs ++ ys))
use_two a b c d xs ys = ap (use_of (a || b) (c || d)) (sym (bad_append xs ys))

pub seen_among : (i : ℕ) (os : List Seen) → is_seen (seen_at i os) ≡ among i os
seen_among i [] = refl
seen_among i (o ∷ os) = go (nat_eq i o.var) (seen_among i os)
  where
    go : (q : Bool) → is_seen (seen_at i os) ≡ among i os → is_seen (cond q (Some o.place) (seen_at i os)) ≡ q || among i os
    go true h = refl
    go false h = h

pub use_seen : (i : ℕ) (os : List Seen) (e k : Tree Place)
    → both_seen (seen_at i os) (use_in e i) (use_in k i)
    ≡ use_of (among i os || (touched i e || touched i k)) ((not (among i os) && used i e) || used i k)
    (first_bad (sightings_among i (used i k) os ++ (cond (among i os) [] (sightings i e) ++ sightings i k)))
use_seen i os e k =
    go (seen_at i os) (among i os) (used i k) (seen_among i os)
    ∙ ap (use_of (among i os || (touched i e || touched i k)) ((not (among i os) && used i e) || used i k))
    (sym (bad_append (sightings_among i (used i k) os) _ ∙ ap (λ z. first_of z (first_bad (cond (among i os) [] (sightings i e) ++ sightings i k))) (among_bad i (used i k) os)))
  where
    go : (s : Option Place) (q u : Bool) → is_seen s ≡ q → both_seen s (use_in e i) (use_of (touched i k) u (first_bad (sightings i k)))
        ≡ use_of (q || (touched i e || touched i k)) ((not q && used i e) || u) (first_of (cond u None s) (first_bad (cond q [] (sightings i e) ++ sightings i k)))
    go None false true h = use_two (touched i e) (touched i k) (used i e) true (sightings i e) (sightings i k)
    go None false false h = use_two (touched i e) (touched i k) (used i e) false (sightings i e) (sightings i k)
    go (Some p) true true h = refl
    go (Some p) true false h = refl
    go None true u h = absurd (cc)
    go (Some p) false u h = absurd (cc)

-- ---- what came before, as a list and as a function

pub record Same (n : ℕ) (bs : List Bool) (f : Before) : Type 0 where
  pub long : length bs ≡ n
  pub at_is : (i : ℕ) → i < n → flag_at bs i ≡ f i

mark_but_at : (s : ℕ → Option Place) (n : ℕ) (bs : List Bool) (g : ℕ → Use) → length bs ≡ n → (i : ℕ) → i < n
    → flag_at (mark_but (table n s) bs (table n g)) i ≡ (flag_at bs i || (not (is_seen (s i)) && (g i).touched))
mark_but_at s zero bs g l i h = absurd (omega arith)
mark_but_at s (suc n) [] g l i h = absurd (omega arith)
mark_but_at s (suc n) (b ∷ bs) g l zero h = refl
mark_but_at s (suc n) (b ∷ bs) g l (suc i) h = mark_but_at (λ i. s (suc i)) n bs (λ i. g (suc i)) (omega arith) i (omega arith)

mark_but_long : (s : ℕ → Option Place) (n : ℕ) (bs : List Bool) (g : ℕ → Use) → length bs ≡ n → length (mark_but (table n s) bs (table n g)) ≡ n
mark_but_long s zero [] g l = refl
mark_but_long s zero (b ∷ bs) g l = absurd (omega arith)
mark_but_long s (suc n) [] g l = absurd (omega arith)
mark_but_long s (suc n) (b ∷ bs) g l = ap suc (mark_but_long (λ i. s (suc i)) n bs (λ i. g (suc i)) (omega arith))

mark_at : (n : ℕ) (bs : List Bool) (g : ℕ → Use) → length bs ≡ n → (i : ℕ) → i < n → flag_at (mark bs (table n g)) i ≡ (flag_at bs i || (g i).touched)
mark_at zero bs g l i h = absurd (omega arith)
mark_at (suc n) [] g l i h = absurd (omega arith)
mark_at (suc n) (b ∷ bs) g l zero h = refl
mark_at (suc n) (b ∷ bs) g l (suc i) h = mark_at n bs (λ i. g (suc i)) (omega arith) i (omega arith)

mark_long : (n : ℕ) (bs : List Bool) (g : ℕ → Use) → length bs ≡ n → length (mark bs (table n g)) ≡ n
mark_long zero [] g l = refl
mark_long zero (b ∷ bs) g l = absurd (omega arith)
mark_long (suc n) [] g l = absurd (omega arith)
mark_long (suc n) (b ∷ bs) g l = ap suc (mark_long n bs (λ i. g (suc i)) (omega arith))

flag_old : (bs : List Bool) (b : Bool) (i : ℕ) → i < length bs → flag_at (push bs b) i ≡ flag_at bs i
flag_old [] o i h = absurd (omega arith)
flag_old (x ∷ g) o zero h = refl
flag_old (x ∷ g) o (suc i) h = flag_old g o i (omega arith)

flag_new : (bs : List Bool) (b : Bool) (i : ℕ) → i ≡ length bs → flag_at (push bs b) i ≡ b
flag_new [] o zero h = refl
flag_new [] o (suc i) h = absurd (omega arith)
flag_new (x ∷ g) o zero h = absurd (omega arith)
flag_new (x ∷ g) o (suc i) h = flag_new g o i (omega arith)

pub same_mark : (n : ℕ) (bs : List Bool) (f : Before) (e : Tree Place) → Same n bs f → Same n (mark bs (uses n e)) (after f e)
same_mark n bs f e s = record {
  long = mark_long n bs (use_in e) s.long;
  at_is = λ i lt. mark_at n bs (use_in e) s.long i lt ∙ ap (λ b. b || touched i e) (s.at_is i lt);
}

pub same_mark_but : (os : List Seen) (n : ℕ) (bs : List Bool) (f : Before) (e : Tree Place) → Same n bs f → Same n (mark_but (seen_places n os) bs (uses n e)) (after_seen os f e)
same_mark_but os n bs f e s = record {
  long = mark_but_long (λ i. seen_at i os) n bs (use_in e) s.long;
  at_is = λ i lt. mark_but_at (λ i. seen_at i os) n bs (use_in e) s.long i lt ∙ ap (λ q. flag_at bs i || (not q && touched i e)) (seen_among i os)
      ∙ ap (λ b. b || (not (among i os) && touched i e)) (s.at_is i lt);
}

pub same_push : (n : ℕ) (bs : List Bool) (f : Before) → Same n bs f → Same (suc n) (push bs false) (upto n f)
same_push n bs f s = let l = s.long in record {
  long = length_push bs false ∙ ap suc s.long;
  at_is = λ i lt. ⊎_elim
      (λ k. flag_old bs false i (omega arith) ∙ s.at_is i k ∙ ap (λ q. q && f i) (sym (lt-ltb i n k)))
      (λ k. flag_new bs false i (omega arith) ∙ ap (λ q. q && f i) (sym (le-ltb i n (omega arith))))
      (below_suc i n lt);
}

pub run_first : {A : Type 0} (xs : List Event) (a : A) → run xs (Ok a) ≡ verdict (first_failing xs) a
run_first [] a = refl
run_first (event t p true ∷ xs) a = run_first xs a
run_first (event t p false ∷ xs) a = refl

module _ (functions : List Function) (vars : List Kinds) where
  -- the end of a scope
  pub leave_is : {A : Type 0} (n : ℕ) (v : Place) (t : Tau) (e : Tree Place) (k : Out A) → leave functions vars v t (use_in e n) k ≡ run (scope_end functions vars n v t e) k
  leave_is {A} n v t e k = ap (need K3 v (drops vars t || used n e)) (go (drops vars t))
    where
      go : (d : Bool) → cond d k (none_bad (first_bad (sightings n e)) k) ≡ run (map (λ s. judged K3 s.place (d || s.used_later)) (sightings n e)) k
      go true = sym (sightings_fine (sightings n e) k)
      go false = sym (sightings_run (sightings n e) k)

  pub branches_is : {A : Type 0} (x y : Place) (p : List Tau) (f g : ℕ → Use) (k : Out A)
      → branches_test functions vars x y p (table (length p) f) (table (length p) g) k ≡ run (branch_events vars (λ i. (f i).used) (λ i. (g i).used) x y p) k
  branches_is x y [] f g k = refl
  branches_is x y (t ∷ p) f g k = ap (need K5 (cond (f 0).used y x) (drops vars t || cond (f 0).used (g 0).used (not (g 0).used))) (branches_is x y p (λ i. f (suc i)) (λ i. g (suc i)) k)
