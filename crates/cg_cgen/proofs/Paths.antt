-- Operands that are numbers, and a path that is set: what is read there, and that other operands read the same.
use Rattle.std.proofs.Common.{◌≡◌, ℕ, ◌+◌, ◌^◌, ◌<◌, Bool, true, false, cond, nat_lt, if◌then◌else◌, bytes_eq, Some, List, [], ◌∷◌, ◌++◌, append_assoc, length, take, drop, refl, sym, ap, ◌∙◌, subst, arith}
use Rattle.std.proofs.Math.Seq.{take-append_seam, drop-append_seam, drop-append-add}
use Rattle.std.proofs.lemmas.Bool.{lt-ltb, ltb-true}
use Rattle.std.proofs.lemmas.List.{length-take-le, length-append}
use Rattle.std.proofs.lemmas.Slice.Eq.{bytes_eq-Decides}
use Rattle.cg_base.specs.declared.kind.Word.{Word}
use Rattle.cg_base.specs.Words.{bits, same_word}
use Rattle.cg_base.proofs.WordLaws.{word_is, word_same}
use Rattle.cg_ctree.specs.declared.tree.COpnd.{COpnd}
use Rattle.cg_ctree.specs.declared.tree.COpnd.TheVariants.{Number, Path}
use Rattle.cg_ctree.specs.declared.tree.CPath.{CPath}
use Rattle.cg_ctree.specs.declared.tree.CStruct.{CStruct}
use Rattle.cg_ctree.specs.declared.why.Why.TheVariants.{NoCell, KindsDiffer}
use Rattle.cg_heap.specs.declared.cell.Scalar.{Scalar}
use Rattle.cg_heap.specs.declared.cell.Scalar.TheVariants.{Unset, Word as NumberScalar, Address}
use Rattle.cg_heap.specs.Stored.{Stored}
use Rattle.cg_cmachine_def.specs.Layouts.{Layout, cell, pointer, group, size, Spot, spot, walk, pointed}
use Rattle.cg_cmachine_def.specs.Operands.{Value, literal, typed, Variable, Frame, look, number_at, address_at, only, read, part_of, read_part, read_members, read_arrow, read_path, judge, present, scalars_in, target_of, has_part, word_in, give}
use Rattle.cg_cmachine_def.specs.Outcomes.{Judged, ok, no, on, found}
use Rattle.cg_cmachine_def.specs.Runs.{Linked, judged, judged_word}
use Rattle.cg_cmachine_def.specs.Targets.{spliced, with_scalars, write}
use Rattle.cg_cgen.specs.Meanings.{IsNumber, IsPart, IsApart, set}

-- ---- what is read is in range

-- a value of a word type that is one number is in range
abbrev IsInRange : Value → Type 0
IsInRange (literal n) = Unit {0}
IsInRange (typed (cell w) us) = (n : ℕ) → us ≡ NumberScalar n ∷ [] → n < 2 ^ bits w
IsInRange (typed (pointer x) us) = Unit {0}
IsInRange (typed (group x ms) us) = Unit {0}

-- what holds of all that is judged last holds of what is judged
on_gives : {A B : Type 0} (P : B → Type 0) (j : Judged A) (f : A → Judged B) → ((a : A) (b : B) → f a ≡ ok b → P b) → (b : B) → on j f ≡ ok b → P b
on_gives P (ok a) f h b e = h a b e
on_gives P (no why) f h b e = absurd (cc)

word_in_range : (w : Word) (n : ℕ) (v : Value) (b : Bool) → nat_lt n (2 ^ bits w) ≡ b
    → on (cond b (ok n) (no KindsDiffer)) (λ n. ok (typed (cell w) (NumberScalar n ∷ []))) ≡ ok v → IsInRange v
word_in_range w n v true q e =
    let k : typed (cell w) (NumberScalar n ∷ []) ≡ v = cc in
    subst IsInRange k (λ m h. let i : n ≡ m = cc in subst (λ z. z < 2 ^ bits w) i (ltb-true n (2 ^ bits w) q))
word_in_range w n v false q e = absurd (cc)

scalar_in_range : (w : Word) (u : Scalar) (v : Value) → on (number_at w u) (λ n. ok (typed (cell w) (NumberScalar n ∷ []))) ≡ ok v → IsInRange v
scalar_in_range w Unset v e = absurd (cc)
scalar_in_range w (NumberScalar n) v e = word_in_range w n v (nat_lt n (2 ^ bits w)) refl e
scalar_in_range w (Address p) v e = absurd (cc)

read_in_range : (l : Layout) (us : List Scalar) (v : Value) → read l us ≡ ok v → IsInRange v
read_in_range (cell w) us v e = scalar_in_range w (only us) v e
read_in_range (pointer x) us v e =
    on_gives IsInRange (address_at (only us)) _ (λ p b h. let k : typed (pointer x) (Address p ∷ []) ≡ b = cc in subst IsInRange k tt) v e
read_in_range (group x ms) us v e = let k : typed (group x ms) us ≡ v = cc in subst IsInRange k tt

part_in_range : (s : Spot) (us : List Scalar) (v : Value) → read_part s us ≡ ok v → IsInRange v
part_in_range s us v e = by_test (has_part s us) e
  where
    by_test : (b : Bool) → (if b then read s.layout (part_of s us) else no NoCell) ≡ ok v → IsInRange v
    by_test true h = read_in_range s.layout (part_of s us) v h
    by_test false h = absurd (cc)

module _ (ss : List CStruct) (m : Stored) where
  arrow_in_range : (xs : List (List ℕ)) (x : Variable) (v : Value) → read_arrow ss m xs x ≡ ok v → IsInRange v
  arrow_in_range xs x v e =
      on_gives IsInRange (target_of x.layout) _ (λ y b h.
      on_gives IsInRange (address_at (only x.scalars)) _ (λ p b h.
      on_gives IsInRange (present m p) _ (λ c b h.
      on_gives IsInRange (found (walk xs (pointed ss y))) _ (λ s b h.
      on_gives IsInRange (scalars_in c) _ (λ us b h. part_in_range s us b h) b h) b h) b h) b h) v e

  members_in_range : (xs : List (List ℕ)) (x : Variable) (v : Value) → read_members xs x ≡ ok v → IsInRange v
  members_in_range xs x v e = on_gives IsInRange (found (walk xs x.layout)) _ (λ s b h. read_in_range s.layout (part_of s x.scalars) b h) v e

  path_in_range : (fr : Frame) (q : CPath) (v : Value) → read_path ss m fr q ≡ ok v → IsInRange v
  path_in_range fr q v e = on_gives IsInRange (found (look q.base fr)) _ (λ x b h. by_arrow x b q.arrow h) v e
    where
      by_arrow : (x : Variable) (b : Value) (t : Bool) → (if t then read_arrow ss m q.members x else read_members q.members x) ≡ ok b → IsInRange b
      by_arrow x b true h = arrow_in_range q.members x b h
      by_arrow x b false h = members_in_range q.members x b h

  judged_in_range : (fr : Frame) (o : COpnd) (v : Value) → judge ss m fr o ≡ ok v → IsInRange v
  judged_in_range fr (Number n) v e = let k : literal n ≡ v = cc in subst IsInRange k tt
  judged_in_range fr (Path q) v e = path_in_range fr q v e

-- ---- an operand that is a number of a word

abbrev IsWord : Word → Value → ℕ → Type 0
IsWord word v n = (word_in v ≡ ok n) × (n < 2 ^ bits word)

literal_is : (word : Word) (k n : ℕ) (b : Bool) → nat_lt k (2 ^ bits word) ≡ b → cond b (ok (NumberScalar k ∷ [])) (no KindsDiffer) ≡ ok (NumberScalar n ∷ []) → IsWord word (literal k) n
literal_is word k n true q e = let i : k ≡ n = cc in (ap ok i, subst (λ z. z < 2 ^ bits word) i (ltb-true k (2 ^ bits word) q))
literal_is word k n false q e = absurd (cc)

at_word : (w : Word) (us : List Scalar) (n : ℕ) → us ≡ NumberScalar n ∷ [] → n < 2 ^ bits w → number_at w (only us) ≡ ok n
at_word w us n e h = ap (λ z. number_at w (only z)) e ∙ ap (λ b. cond b (ok n) (no KindsDiffer)) (lt-ltb n (2 ^ bits w) h)

cell_is : (word w : Word) (us : List Scalar) (n : ℕ) (b : Bool) → same_word word w ≡ b → ((k : ℕ) → us ≡ NumberScalar k ∷ [] → k < 2 ^ bits w)
    → cond b (ok us) (no KindsDiffer) ≡ ok (NumberScalar n ∷ []) → IsWord word (typed (cell w) us) n
cell_is word w us n true q h e =
    let i : us ≡ NumberScalar n ∷ [] = cc in
    (at_word w us n i (h n i), subst (λ z. n < 2 ^ bits z) (sym (word_is word w q)) (h n i))
cell_is word w us n false q h e = absurd (cc)

value_is : (word : Word) (v : Value) (n : ℕ) → IsInRange v → give (cell word) v ≡ ok (NumberScalar n ∷ []) → IsWord word v n
value_is word (literal k) n h e = literal_is word k n (nat_lt k (2 ^ bits word)) refl e
value_is word (typed (cell w) us) n h e = cell_is word w us n (same_word word w) refl h e
value_is word (typed (pointer x) us) n h e = absurd (cc)
value_is word (typed (group x ms) us) n h e = absurd (cc)

pub is_word : {p : Linked} {m : Stored} {fr : Frame} {word : Word} {o : COpnd} {n : ℕ} → (i : IsNumber p m fr word o n) → IsWord word i.value n
is_word {p} {m} {fr} {word} {o} {n} i = value_is word i.value n (judged_in_range p.program.structs m fr o i.value i.read) i.given

pub number_read : {p : Linked} {m : Stored} {fr : Frame} {word : Word} {o : COpnd} {n : ℕ} → IsNumber p m fr word o n → judged_word p.program.structs m fr o ≡ ok n
number_read i = ap (λ j. on j word_in) i.read ∙ (is_word i).0

pub below : {p : Linked} {m : Stored} {fr : Frame} {word : Word} {o : COpnd} {n : ℕ} → IsNumber p m fr word o n → n < 2 ^ bits word
below i = (is_word i).1

-- ---- scalars, one of which is replaced

abbrev put : ℕ → Scalar → List Scalar → List Scalar
put i u us = take i us ++ (u ∷ []) ++ drop (i + 1) us

put_is : (i : ℕ) (u : Scalar) (us : List Scalar) → put i u us ≡ take i us ++ (u ∷ drop (i + 1) us)
put_is i u us = append_assoc (take i us) (u ∷ []) (drop (i + 1) us)

module _ (i : ℕ) (us : List Scalar) (h : i < length us) where
  before : length (take i us) ≡ i
  before = length-take-le i us (omega arith)

  put_there : (u : Scalar) → i < length (put i u us)
  put_there u =
      let e : length (put i u us) ≡ length (take i us ++ (u ∷ drop (i + 1) us)) = ap (λ l. length l) (put_is i u us) in
      omega (arith, e, before, length-append (take i us) (u ∷ drop (i + 1) us))

  put_before : (u : Scalar) → take i (put i u us) ≡ take i us
  put_before u = ap (take i) (put_is i u us) ∙ subst (λ z. take z (take i us ++ (u ∷ drop (i + 1) us)) ≡ take i us) before (take-append_seam (take i us) (u ∷ drop (i + 1) us))

  put_at : (u : Scalar) → drop i (put i u us) ≡ u ∷ drop (i + 1) us
  put_at u = ap (drop i) (put_is i u us) ∙ subst (λ z. drop z (take i us ++ (u ∷ drop (i + 1) us)) ≡ u ∷ drop (i + 1) us) before (drop-append_seam (take i us) (u ∷ drop (i + 1) us))

  put_behind : (u : Scalar) → drop (i + 1) (put i u us) ≡ drop (i + 1) us
  put_behind u =
      ap (drop (i + 1)) (put_is i u us)
      ∙ subst (λ z. drop (z + 1) (take i us ++ (u ∷ drop (i + 1) us)) ≡ drop (i + 1) us) before (drop-append-add (take i us) (u ∷ drop (i + 1) us) 1)

  put_twice : (u v : Scalar) → put i v (put i u us) ≡ put i v us
  put_twice u v = ap (λ l. l ++ (v ∷ []) ++ drop (i + 1) (put i u us)) (put_before u) ∙ ap (λ l. take i us ++ (v ∷ []) ++ l) (put_behind u)

  put_read : (u : Scalar) → only (take 1 (drop i (put i u us))) ≡ u
  put_read u = ap (λ l. only (take 1 l)) (put_at u)

-- at a part that is one word
at_cell : (P : Layout → Type 0) (l : Layout) (word : Word) → l ≡ cell word → P (cell word) → P l
at_cell P l word e h = subst P (sym e) h

spliced_there : (l : Layout) (word : Word) (i n : ℕ) (us : List Scalar) → l ≡ cell word → i < length us → i < length (spliced (spot i l) (NumberScalar n ∷ []) us)
unfolding size
spliced_there l word i n us e h = at_cell (λ l. i < length (spliced (spot i l) (NumberScalar n ∷ []) us)) l word e (put_there i us h (NumberScalar n))

spliced_twice : (l : Layout) (word : Word) (i n k : ℕ) (us : List Scalar) → l ≡ cell word → i < length us
    → spliced (spot i l) (NumberScalar k ∷ []) (spliced (spot i l) (NumberScalar n ∷ []) us) ≡ spliced (spot i l) (NumberScalar k ∷ []) us
unfolding size
spliced_twice l word i n k us e h =
    at_cell (λ l. spliced (spot i l) (NumberScalar k ∷ []) (spliced (spot i l) (NumberScalar n ∷ []) us) ≡ spliced (spot i l) (NumberScalar k ∷ []) us) l word e
    (put_twice i us h (NumberScalar n) (NumberScalar k))

spliced_read : (l : Layout) (word : Word) (i n : ℕ) (us : List Scalar) → l ≡ cell word → i < length us → n < 2 ^ bits word
    → read l (part_of (spot i l) (spliced (spot i l) (NumberScalar n ∷ []) us)) ≡ ok (typed (cell word) (NumberScalar n ∷ []))
unfolding size
spliced_read l word i n us e h f =
    at_cell (λ l. read l (part_of (spot i l) (spliced (spot i l) (NumberScalar n ∷ []) us)) ≡ ok (typed (cell word) (NumberScalar n ∷ []))) l word e
    (ap (λ u. on (number_at word u) (λ n. ok (typed (cell word) (NumberScalar n ∷ [])))) (put_read i us h (NumberScalar n))
    ∙ ap (λ b. on (cond b (ok n) (no KindsDiffer)) (λ n. ok (typed (cell word) (NumberScalar n ∷ [])))) (lt-ltb n (2 ^ bits word) f))

-- ---- frames, where a variable has other scalars

abbrev with_others : Variable → List Scalar → Variable
with_others v us = record { name = v.name; layout = v.layout; scalars = us }

one_look : (x : List ℕ) (us : List Scalar) (v w : Variable) (vs : Frame) (b : Bool) → bytes_eq x w.name ≡ b
    → (look x vs ≡ Some v → look x (with_scalars x us vs) ≡ Some (with_others v us))
    → (if b then Some w else look x vs) ≡ Some v → look x (if b then with_others w us ∷ vs else w ∷ with_scalars x us vs) ≡ Some (with_others v us)
one_look x us v w vs true q h e =
    let k : w ≡ v = cc in
    ap (λ b. if b then Some (with_others w us) else look x vs) q ∙ ap (λ z. Some (with_others z us)) k
one_look x us v w vs false q h e = ap (λ b. if b then Some w else look x (with_scalars x us vs)) q ∙ h e

look_set : (x : List ℕ) (us : List Scalar) (v : Variable) (fr : Frame) → look x fr ≡ Some v → look x (with_scalars x us fr) ≡ Some (with_others v us)
look_set x us v [] e = absurd (cc)
look_set x us v (w ∷ vs) e = one_look x us v w vs (bytes_eq x w.name) refl (look_set x us v vs) e

one_apart : (x y : List ℕ) (us : List Scalar) (w : Variable) (vs : Frame) (b : Bool) → bytes_eq y x ≡ false → bytes_eq x w.name ≡ b
    → look y (with_scalars x us vs) ≡ look y vs → look y (if b then with_others w us ∷ vs else w ∷ with_scalars x us vs) ≡ look y (w ∷ vs)
one_apart x y us w vs true d q h =
    let k : bytes_eq y w.name ≡ false = subst (λ z. bytes_eq y z ≡ false) ((bytes_eq-Decides x w.name).0 q) d in
    ap (λ b. if b then Some (with_others w us) else look y vs) k ∙ sym (ap (λ b. if b then Some w else look y vs) k)
one_apart x y us w vs false d q h = ap (λ z. if bytes_eq y w.name then Some w else z) h

pub look_apart : (x y : List ℕ) (us : List Scalar) (fr : Frame) → bytes_eq y x ≡ false → look y (with_scalars x us fr) ≡ look y fr
look_apart x y us [] d = refl
look_apart x y us (w ∷ vs) d = one_apart x y us w vs (bytes_eq x w.name) d refl (look_apart x y us vs d)

one_twice : (x : List ℕ) (us ts : List Scalar) (w : Variable) (vs : Frame) (b : Bool) → bytes_eq x w.name ≡ b
    → with_scalars x us (with_scalars x ts vs) ≡ with_scalars x us vs
    → with_scalars x us (if b then with_others w ts ∷ vs else w ∷ with_scalars x ts vs) ≡ (if b then with_others w us ∷ vs else w ∷ with_scalars x us vs)
one_twice x us ts w vs true q h = ap (λ b. if b then with_others w us ∷ vs else with_others w ts ∷ with_scalars x us vs) q
one_twice x us ts w vs false q h = ap (λ b. if b then with_others w us ∷ with_scalars x ts vs else w ∷ with_scalars x us (with_scalars x ts vs)) q ∙ ap (λ l. w ∷ l) h

scalars_twice : (x : List ℕ) (us ts : List Scalar) (fr : Frame) → with_scalars x us (with_scalars x ts fr) ≡ with_scalars x us fr
scalars_twice x us ts [] = refl
scalars_twice x us ts (w ∷ vs) = one_twice x us ts w vs (bytes_eq x w.name) refl (scalars_twice x us ts vs)

-- ---- a path that is set

-- it stays a part
pub still_part : {fr : Frame} {word : Word} {to : CPath} (part : IsPart fr word to) (n : ℕ) → IsPart (set part n) word to
still_part {fr} {word} {to} part n =
    record {
      no_arrow = part.no_arrow;
      variable = with_others part.variable (spliced part.spot (NumberScalar n ∷ []) part.variable.scalars);
      found = look_set to.base _ part.variable fr part.found;
      spot = part.spot;
      leads = part.leads;
      is_word = part.is_word;
      there = spliced_there part.spot.layout word part.spot.start n part.variable.scalars part.is_word part.there;
    }

pub set_twice : {fr : Frame} {word : Word} {to : CPath} (part : IsPart fr word to) (n k : ℕ) → set (still_part part n) k ≡ set part k
unfolding still_part
set_twice {fr} {word} {to} part n k =
    scalars_twice to.base _ _ fr
    ∙ ap (λ us. with_scalars to.base us fr) (spliced_twice part.spot.layout word part.spot.start n k part.variable.scalars part.is_word part.there)

-- other operands are the numbers that they were
pub still_number : {p : Linked} {m : Stored} {fr : Frame} {word other : Word} {to : CPath} {o : COpnd} {n : ℕ} (part : IsPart fr other to) (k : ℕ)
    → IsNumber p m fr word o n → IsApart to o → IsNumber p m (set part k) word o n
still_number {p} {m} {fr} {word} {other} {to} {o} {n} part k i d = record { value = i.value; read = same o d ∙ i.read; given = i.given }
  where
    same : (o : COpnd) → IsApart to o → judged p m (set part k) o ≡ judged p m fr o
    same (Number n) d = refl
    same (Path q) d =
        ap (λ z. on (found z) (λ v. if q.arrow then read_arrow p.program.structs m q.members v else read_members q.members v)) (look_apart to.base q.base _ fr d)

-- the variable with the path set
abbrev set_variable : {fr : Frame} {word : Word} {to : CPath} → IsPart fr word to → ℕ → Variable
set_variable part n = with_others part.variable (spliced part.spot (NumberScalar n ∷ []) part.variable.scalars)

read_there : {fr : Frame} {word : Word} {to : CPath} (p : Linked) (m : Stored) (part : IsPart fr word to) (n : ℕ) → n < 2 ^ bits word
    → judged p m (set part n) (Path to) ≡ ok (typed (cell word) (NumberScalar n ∷ []))
read_there {fr} {word} {to} p m part n h =
    ap (λ z. on (found z) (λ v. if to.arrow then read_arrow p.program.structs m to.members v else read_members to.members v)) (look_set to.base _ part.variable fr part.found)
    ∙ ap (λ b. if b then read_arrow p.program.structs m to.members (set_variable part n) else read_members to.members (set_variable part n)) part.no_arrow
    ∙ ap (λ z. on (found z) (λ s. read s.layout (part_of s (spliced part.spot (NumberScalar n ∷ []) part.variable.scalars)))) part.leads
    ∙ spliced_read part.spot.layout word part.spot.start n part.variable.scalars part.is_word part.there h

-- and the path is the number that it was set to
pub set_read : {fr : Frame} {word : Word} {to : CPath} (p : Linked) (m : Stored) (part : IsPart fr word to) (n : ℕ) → n < 2 ^ bits word → IsNumber p m (set part n) word (Path to) n
set_read {fr} {word} {to} p m part n h =
    record {
      value = typed (cell word) (NumberScalar n ∷ []);
      read = read_there p m part n h;
      given = ap (λ b. cond b (ok (NumberScalar n ∷ [])) (no KindsDiffer)) (word_same word);
    }

-- what is written there
pub set_written : {fr : Frame} {word : Word} {to : CPath} (ss : List CStruct) (m : Stored) (part : IsPart fr word to) (v : Value) (n : ℕ) → give (cell word) v ≡ ok (NumberScalar n ∷ [])
    → write ss fr m to v ≡ ok (record { frame = set part n; store = m })
set_written {fr} {word} {to} ss m part v n e = rw (part.found, part.no_arrow, part.leads, part.is_word, e) refl
