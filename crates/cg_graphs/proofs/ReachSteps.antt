-- What marking nodes keeps, and what a search that is done has found.
use Rattle.std.proofs.Common.{◌≡◌, ℕ, zero, suc, ◌+◌, ◌-◌, ◌<◌, ◌≤◌, Bool, true, false, cond, List, [], ◌∷◌, ◌++◌, length, get_or, set, take, drop, replicate, ◌⊎◌, inl, inr, ◌↔◌, IsTrue, sym, ap, ◌∙◌, subst, refl, arith, length-append, add-one, drop-cons}
use Rattle.std.proofs.lemmas.Bool.{true≢false}
use Rattle.std.proofs.lemmas.List.{get_or-set_same, length-set, length-replicate}
use Rattle.std.proofs.lemmas.List.Elements.{Contains-append_left, Contains-append_cases, Contains-push, Contains-push_cases}
use Rattle.std.proofs.lemmas.List.Sums.{sum_by-set}
use Rattle.std.specs.List.{Contains, sum_by}
use Rattle.cg_graphs.specs.Circles.{Mentions, Reaches, mentioned, onward}
use Rattle.cg_graphs.specs.Reached.{Reached, reached, mark, mark_all, IsMarked, IsClosed, IsSearch}
use Rattle.cg_graphs.proofs.Places.{place, is_mention, mention_of}
use Rattle.cg_base.proofs.Truths.{either_bool}

-- how much is left: what isn't marked, and what is to be followed
abbrev pub left : Reached → ℕ
left r = sum_by (λ b. cond b 0 1) r.marks + length r.work

-- marking a node that is marked already, or is none, changes nothing
mark_old : (r : Reached) (j : ℕ) → get_or r.marks j true ≡ true → mark r j ≡ r
unfolding mark
mark_old r j e = ap (λ b. cond b r (reached (set r.marks j true) (r.work ++ j ∷ []))) e

mark_new : (r : Reached) (j : ℕ) → get_or r.marks j true ≡ false → mark r j ≡ reached (set r.marks j true) (r.work ++ j ∷ [])
unfolding mark
mark_new r j e = ap (λ b. cond b r (reached (set r.marks j true) (r.work ++ j ∷ []))) e

-- one that isn't is in range
in_range : (marks : List Bool) (j : ℕ) (d : Bool) → get_or marks j true ≡ false → (j < length marks) × (get_or marks j d ≡ false)
in_range [] j d e = absurd (true≢false e)
in_range (b ∷ marks) zero d e = (omega arith, e)
in_range (b ∷ marks) (suc j) d e = let h = in_range marks j d e in (let lt = h.0 in omega arith, h.1)

-- what one mark keeps, for a predicate on states
one : (r : Reached) (j : ℕ) (P : Reached → Type 0) → (get_or r.marks j true ≡ true → P r) → (get_or r.marks j true ≡ false → P (reached (set r.marks j true) (r.work ++ j ∷ []))) → P (mark r j)
one r j P old new = elim (either_bool (get_or r.marks j true)) [ inl e ↦ subst P (sym (mark_old r j e)) (old e) | inr e ↦ subst P (sym (mark_new r j e)) (new e) ]

set_keeps : (marks : List Bool) (j k : ℕ) (d : Bool) → j < length marks → get_or marks k d ≡ true → get_or (set marks j true) k d ≡ true
set_keeps [] j k d lt e = absurd (omega arith)
set_keeps (b ∷ marks) zero zero d lt e = refl
set_keeps (b ∷ marks) zero (suc k) d lt e = e
set_keeps (b ∷ marks) (suc j) zero d lt e = e
set_keeps (b ∷ marks) (suc j) (suc k) d lt e = set_keeps marks j k d (omega arith) e

set_from : (marks : List Bool) (j k : ℕ) (d : Bool) → get_or (set marks j true) k d ≡ true → (get_or marks k d ≡ true) ⊎ (j ≡ k)
set_from [] j k d e = inl e
set_from (b ∷ marks) zero zero d e = inr refl
set_from (b ∷ marks) zero (suc k) d e = inl e
set_from (b ∷ marks) (suc j) zero d e = inl e
set_from (b ∷ marks) (suc j) (suc k) d e = elim (set_from marks j k d e) [ inl h ↦ inl h | inr h ↦ inr (ap suc h) ]

-- one mark
marked_stays : (r : Reached) (j k : ℕ) (d : Bool) → get_or r.marks k d ≡ true → get_or (mark r j).marks k d ≡ true
marked_stays r j k d h = one r j (λ s. get_or s.marks k d ≡ true) (λ e. h) (λ e. set_keeps r.marks j k d (in_range r.marks j d e).0 h)

marked_from : (r : Reached) (j k : ℕ) → IsMarked (mark r j) k → IsMarked r k ⊎ ((j ≡ k) × Contains (mark r j).work k)
marked_from r j k = one r j (λ s. IsMarked s k → IsMarked r k ⊎ ((j ≡ k) × Contains s.work k)) (λ e h. inl h)
    (λ e h. elim (set_from r.marks j k false h) [ inl old ↦ inl old | inr same ↦ inr (same, subst (Contains (r.work ++ j ∷ [])) same (Contains-push r.work j)) ])

marked_here : (r : Reached) (j : ℕ) → IsClosed (mark r j) j
marked_here r j = one r j (λ s. IsClosed s j) (λ e. e) (λ e. get_or-set_same r.marks j true true (in_range r.marks j true e).0)

work_stays : (r : Reached) (j k : ℕ) → Contains r.work k → Contains (mark r j).work k
work_stays r j k h = one r j (λ s. Contains s.work k) (λ e. h) (λ e. Contains-append_left r.work (j ∷ []) k h)

work_marked : (r : Reached) (j : ℕ) → ((k : ℕ) → Contains r.work k → IsMarked r k) → (k : ℕ) → Contains (mark r j).work k → IsMarked (mark r j) k
work_marked r j listed k = one r j (λ s. Contains s.work k → IsMarked s k) (λ e h. listed k h)
    (λ e h. elim (Contains-push_cases r.work j k h) [ inl old ↦ set_keeps r.marks j k false (in_range r.marks j false e).0 (listed k old) | inr same ↦ subst (λ n. get_or (set r.marks j true) n false ≡ true) same (get_or-set_same r.marks j true false (in_range r.marks j false e).0) ])

size_stays : (r : Reached) (j : ℕ) → length (mark r j).marks ≡ length r.marks
size_stays r j = one r j (λ s. length s.marks ≡ length r.marks) (λ e. refl) (λ e. length-set r.marks j true)

weigh : (a new c l longer : ℕ) → new + c ≡ a + 0 → c ≡ 1 → longer ≡ l + 1 → new + longer ≡ a + l
weigh a new c l longer sums one more = omega arith

left_new : (marks : List Bool) (work : List ℕ) (j : ℕ) → get_or marks j true ≡ false → left (reached (set marks j true) (work ++ j ∷ [])) ≡ left (reached marks work)
left_new marks work j e =
    weigh (sum_by (λ b. cond b 0 1) marks) (sum_by (λ b. cond b 0 1) (set marks j true)) (cond (get_or marks j true) 0 1) (length work) (length (work ++ j ∷ []))
    (sum_by-set (λ (b : Bool). cond b 0 1) marks j true true (in_range marks j true e).0)
    (ap (λ b. cond b 0 1) e)
    (length-append work (j ∷ []))

left_stays : (r : Reached) (j : ℕ) → left (mark r j) ≡ left r
left_stays r j = one r j (λ s. left s ≡ left r) (λ e. refl) (λ e. left_new r.marks r.work j e)

-- many marks
all_stay : (r : Reached) (js : List ℕ) (k : ℕ) (d : Bool) → get_or r.marks k d ≡ true → get_or (mark_all r js).marks k d ≡ true
unfolding mark_all
all_stay r [] k d h = h
all_stay r (j ∷ js) k d h = all_stay (mark r j) js k d (marked_stays r j k d h)

all_work_stays : (r : Reached) (js : List ℕ) (k : ℕ) → Contains r.work k → Contains (mark_all r js).work k
unfolding mark_all
all_work_stays r [] k h = h
all_work_stays r (j ∷ js) k h = all_work_stays (mark r j) js k (work_stays r j k h)

all_from : (r : Reached) (js : List ℕ) (k : ℕ) → IsMarked (mark_all r js) k → IsMarked r k ⊎ (Contains js k × Contains (mark_all r js).work k)
unfolding mark_all
all_from r [] k h = inl h
all_from r (j ∷ js) k h = elim (all_from (mark r j) js k h) [ inl old ↦ elim (marked_from r j k old) [ inl older ↦ inl older | inr new ↦ inr ((0, omega arith, new.0), all_work_stays (mark r j) js k new.1) ] | inr new ↦ inr (Contains-append_right_one j js k new.0, new.1) ]
  where
    Contains-append_right_one : (j : ℕ) (js : List ℕ) (k : ℕ) → Contains js k → Contains (j ∷ js) k
    Contains-append_right_one j js k h = (suc h.0, (let lt = h.1 in omega arith), h.2)

all_here : (r : Reached) (js : List ℕ) (k : ℕ) → Contains js k → IsClosed (mark_all r js) k
unfolding mark_all
all_here r [] k h = let lt = h.1 in absurd (omega arith)
all_here r (j ∷ js) k h = first (all_here (mark r j) js k) (Contains-append_cases (j ∷ []) js k h)
  where
    only : (j k : ℕ) → Contains (j ∷ []) k → j ≡ k
    only j k (zero, lt, same) = same
    only j k (suc n, lt, same) = absurd (omega arith)

    first : (Contains js k → IsClosed (mark_all (mark r j) js) k) → Contains (j ∷ []) k ⊎ Contains js k → IsClosed (mark_all (mark r j) js) k
    first rest (inl here) = subst (IsClosed (mark_all (mark r j) js)) (only j k here) (all_stay (mark r j) js j true (marked_here r j))
    first rest (inr later) = rest later

all_listed : (r : Reached) (js : List ℕ) → ((k : ℕ) → Contains r.work k → IsMarked r k) → (k : ℕ) → Contains (mark_all r js).work k → IsMarked (mark_all r js) k
unfolding mark_all
all_listed r [] h = h
all_listed r (j ∷ js) h = all_listed (mark r j) js (work_marked r j h)

all_size : (r : Reached) (js : List ℕ) → length (mark_all r js).marks ≡ length r.marks
unfolding mark_all
all_size r [] = refl
all_size r (j ∷ js) = all_size (mark r j) js ∙ size_stays r j

pub all_left : (r : Reached) (js : List ℕ) → left (mark_all r js) ≡ left r
unfolding mark_all
all_left r [] = refl
all_left r (j ∷ js) = all_left (mark r j) js ∙ left_stays r j

none_in : (k : ℕ) → Contains [] k → ⊥
none_in k h = let lt = h.1 in absurd (omega arith)

none_marked : (n k : ℕ) → get_or (replicate n false) k false ≡ true → ⊥
none_marked zero k h = true≢false (sym h)
none_marked (suc n) zero h = true≢false (sym h)
none_marked (suc n) (suc k) h = none_marked n k h

module _ (edges : List (List ℕ)) (from : ℕ) where
  -- the search before its first turn
  pub search_start : (n : ℕ) → n ≡ length edges → IsSearch edges from (mark_all (reached (replicate n false) []) (get_or edges from []))
  search_start n is =
      let r : Reached = reached (replicate n false) [] in
      let js : List ℕ = get_or edges from [] in
      record {
        size = all_size r js ∙ length-replicate n false ∙ is;
        sound = λ k h. elim (all_from r js k h) [ inl old ↦ absurd (none_marked n k old) | inr new ↦ mentioned k (mention_of edges from k new.0) ];
        listed = all_listed r js (λ k h. absurd (none_in k h));
        started = λ k m. all_here r js k (is_mention edges from k m);
        followed = λ v h. elim (all_from r js v h) [ inl old ↦ absurd (none_marked n v old) | inr new ↦ inl new.1 ];
      }

  -- a turn
  pub search_turn : (marks : List Bool) (work : List ℕ) (at : ℕ) → IsSearch edges from (reached marks (work ++ at ∷ [])) → IsSearch edges from (mark_all (reached marks work) (get_or edges at []))
  search_turn marks work at s =
      let r : Reached = reached marks work in
      let js : List ℕ = get_or edges at [] in
      record {
        size = all_size r js ∙ s.size;
        sound = λ k h. elim (all_from r js k h) [ inl old ↦ s.sound k old | inr new ↦ onward at k (s.sound at (s.listed at (Contains-push work at))) (mention_of edges at k new.0) ];
        listed = all_listed r js (λ k h. s.listed k (Contains-append_left work (at ∷ []) k h));
        started = λ k m. all_stay r js k true (s.started k m);
        followed = λ v h. elim (all_from r js v h) [ inl old ↦ still v (s.followed v old) | inr new ↦ inl new.1 ];
      }
    where
      still : (v : ℕ) → Contains (work ++ at ∷ []) v ⊎ ((k : ℕ) → Mentions edges v k → get_or marks k true ≡ true)
          → Contains (mark_all (reached marks work) (get_or edges at [])).work v ⊎ ((k : ℕ) → Mentions edges v k → IsClosed (mark_all (reached marks work) (get_or edges at [])) k)
      still v (inr closed) = inr (λ k m. all_stay (reached marks work) (get_or edges at []) k true (closed k m))
      still v (inl c) = elim (Contains-push_cases work at v c) [ inl stays ↦ inl (all_work_stays (reached marks work) (get_or edges at []) v stays) | inr same ↦ inr (λ k m. all_here (reached marks work) (get_or edges at []) k (is_mention edges at k (subst (λ n. Mentions edges n k) (sym same) m))) ]

  -- the search when nothing is left to be followed
  pub search_done : (marks : List Bool) → from < length edges → IsSearch edges from (reached marks []) → IsTrue (get_or marks from false) ↔ Reaches edges from from
  search_done marks lt s = (s.sound from, λ r. marked from (let e = s.size in omega arith) (complete from r))
    where
      inside : (marks : List Bool) (k : ℕ) → k < length marks → get_or marks k true ≡ true → get_or marks k false ≡ true
      inside [] k lt h = absurd (omega arith)
      inside (b ∷ marks) zero lt h = h
      inside (b ∷ marks) (suc k) lt h = inside marks k (omega arith) h

      marked : (k : ℕ) → k < length marks → get_or marks k true ≡ true → get_or marks k false ≡ true
      marked k lt h = inside marks k lt h

      complete : (k : ℕ) → Reaches edges from k → get_or marks k true ≡ true
      complete _ (mentioned k m) = s.started k m
      complete _ (onward j k r m) = elim (s.followed j (marked j (let e = s.size in let p = (place edges j m.targets [] m.at).0 in omega arith) (complete j r))) [ inl c ↦ absurd (none_in j c) | inr closed ↦ closed k m ]

-- the marks of a list, one at a time
pub mark_turn : (whole : Reached) (r : Reached) (targets : List ℕ) (i : ℕ) → i < length targets → mark_all r (drop i targets) ≡ whole → mark_all (mark r (get_or targets i 0)) (drop (i + 1) targets) ≡ whole
unfolding mark_all
mark_turn whole r targets i lt h = ap (λ n. mark_all (mark r (get_or targets i 0)) (drop n targets)) (add-one i) ∙ sym (ap (mark_all r) (drop-cons targets i 0 lt)) ∙ h

pub mark_end : (whole : Reached) (r : Reached) (targets : List ℕ) (i : ℕ) → length targets ≤ i → mark_all r (drop i targets) ≡ whole → r ≡ whole
unfolding mark_all
mark_end whole r targets i le h = sym (ap (mark_all r) (drop-past targets i le)) ∙ h
  where
    drop-past : (targets : List ℕ) (i : ℕ) → length targets ≤ i → drop i targets ≡ []
    drop-past [] zero le = refl
    drop-past [] (suc i) le = refl
    drop-past (t ∷ targets) zero le = absurd (omega arith)
    drop-past (t ∷ targets) (suc i) le = drop-past targets i (omega arith)

-- the same in the words of the code
module _ (edges : List (List ℕ)) (from : ℕ) where
  pub begins : (n : ℕ) (marks : List Bool) (work targets : List ℕ) (r : Reached) → n ≡ length edges → marks ≡ replicate n false → work ≡ [] → targets ≡ get_or edges from []
      → r ≡ mark_all (reached marks work) targets → IsSearch edges from r
  begins n marks work targets r is em ew et er =
      subst (IsSearch edges from) (sym (er ∙ ap (λ m. mark_all (reached m work) targets) em ∙ ap (λ w. mark_all (reached (replicate n false) w) targets) ew ∙ ap (mark_all (reached (replicate n false) [])) et))
      (search_start edges from n is)

  pub goes_on : (marks : List Bool) (before work targets : List ℕ) (at : ℕ) (r : Reached) → before ≡ work ++ at ∷ [] → targets ≡ get_or edges at [] → r ≡ mark_all (reached marks work) targets
      → IsSearch edges from (reached marks before) → IsSearch edges from r
  goes_on marks before work targets at r eb et er s =
      subst (IsSearch edges from) (sym (er ∙ ap (mark_all (reached marks work)) et)) (search_turn edges from marks work at (subst (λ w. IsSearch edges from (reached marks w)) eb s))

  pub ends : (marks : List Bool) (work : List ℕ) (b : Bool) → from < length edges → work ≡ [] → b ≡ get_or marks from false → IsSearch edges from (reached marks work) → IsTrue b ↔ Reaches edges from from
  ends marks work b lt ew eb s = subst (λ c. IsTrue c ↔ Reaches edges from from) (sym eb) (search_done edges from marks lt (subst (λ w. IsSearch edges from (reached marks w)) ew s))

pub lessens : (marks : List Bool) (before work targets : List ℕ) (at : ℕ) (r : Reached) → before ≡ work ++ at ∷ [] → r ≡ mark_all (reached marks work) targets → left r < left (reached marks before)
lessens marks before work targets at r eb er =
    less (left r) (sum_by (λ b. cond b 0 1) marks) (length work) (length before) (ap left er ∙ all_left (reached marks work) targets) (ap length eb ∙ length-append work (at ∷ []))
  where
    less : (new a w longer : ℕ) → new ≡ a + w → longer ≡ w + 1 → new < a + longer
    less new a w longer e one = omega arith

-- what is popped to the end is empty
pub no_items : (n : ℕ) (items rest : List ℕ) → n ≡ 0 → rest ≡ take (n - 1) items → items ≡ rest ++ [] → items ≡ []
no_items n items rest e er ei = ei ∙ ap (λ l. l ++ []) (er ∙ ap (λ m. take (m - 1) items) e)
