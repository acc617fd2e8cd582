-- What a walk keeps, and what a walk that is back has found.
use Rattle.std.proofs.Common.{◌≡◌, ◌≢◌, ℕ, zero, suc, ◌+◌, ◌-◌, ◌<◌, ◌≤◌, List, [], ◌∷◌, ◌++◌, length, get_or, set, take, None, Some, ◌⊎◌, inl, inr, sym, ap, ◌∙◌, subst, refl, arith, length-append}
use Rattle.std.specs.List.{Contains, slice_get, sum_by}
use Rattle.std.proofs.Math.Nat.{eq-or-lt_of_le}
use Rattle.std.proofs.Math.Seq.{take-append_seam}
use Rattle.std.proofs.lemmas.List.{get_or-set_same, get_or-set_other, get_or-take, get_or_append_left, get_or_default, get_or_push, length-set, length-take-le, take-append-le, take_all, take_more}
use Rattle.std.proofs.lemmas.List.Elements.{Contains-append_left, Contains-push, Contains-get_or, All-contains, All-get_or, All-from_get_or, All-push}
use Rattle.std.proofs.lemmas.List.Sums.{sum_by-set, sum_by-cons}
use Rattle.std.proofs.lemmas.Option.{get_or_from_slice_get, slice_get_within, slice_get-get_or}
use Rattle.cg_graphs.specs.declared.walk.Mark.{Mark}
use Rattle.cg_graphs.specs.declared.walk.Mark.TheVariants.{New, Open, Done}
use Rattle.cg_graphs.specs.Circles.{Mentions, Reaches, mentioned, onward, IsOrder, Closed}
use Rattle.cg_graphs.specs.Walks.{State, mark_at, steps, weight, counted, AreDone, opened, seen_to, finished, IsWalk, StaysMet, IsStep}
use Rattle.cg_graphs.proofs.Places.{is_mention, mention_of, mentioned_within}

-- two numbers are the same or not
same_or_not : (a b : ℕ) → (a ≡ b) ⊎ (a ≢ b)
same_or_not zero zero = inl refl
same_or_not zero (suc b) = inr (λ e. absurd (omega arith))
same_or_not (suc a) zero = inr (λ e. absurd (omega arith))
same_or_not (suc a) (suc b) = elim (same_or_not a b) [ inl e ↦ inl (ap suc e) | inr ne ↦ inr (λ e. ne (omega arith)) ]

-- a node is the one that was marked, or its mark is as before
marked : (marks : List Mark) (i : ℕ) (m : Mark) → i < length marks → (k : ℕ) → ((k ≡ i) × (mark_at (set marks i m) k ≡ m)) ⊎ ((k ≢ i) × (mark_at (set marks i m) k ≡ mark_at marks k))
marked marks i m lt k =
    elim (same_or_not k i) [ inl e ↦ inl (e, subst (λ n. mark_at (set marks i m) n ≡ m) (sym e) (get_or-set_same marks i m New lt)) | inr ne ↦ inr (ne, get_or-set_other marks i k m New ne) ]

-- what isn't new is a node
in_range : (marks : List Mark) (i : ℕ) → (mark_at marks i ≡ New → ⊥) → i < length marks
in_range [] i met = absurd (met refl)
in_range (m ∷ marks) zero met = omega arith
in_range (m ∷ marks) (suc i) met = let lt = in_range marks i met in omega arith

-- where a node stands in a list, and that one that stands there is in it
place_of : (items : List ℕ) (k : ℕ) → Contains items k → (p : ℕ) × (p < length items) × (get_or items p 0 ≡ k)
place_of items k c = (c.0, c.1, get_or_default items c.0 0 k c.1 ∙ c.2)

stands : (items : List ℕ) (p k : ℕ) → p < length items → get_or items p 0 ≡ k → Contains items k
stands items p k lt e = subst (Contains items) e (Contains-get_or items p 0 lt)

-- a place in a list with one item more
pushed : (items : List ℕ) (j p : ℕ) → p < length (items ++ j ∷ []) → ((p < length items) × (get_or (items ++ j ∷ []) p 0 ≡ get_or items p 0)) ⊎ ((p ≡ length items) × (get_or (items ++ j ∷ []) p 0 ≡ j))
pushed items j p lt =
    let more = length-append items (j ∷ []) in
    let le : p ≤ length items = omega arith in
    elim (eq-or-lt_of_le le) [ inl e ↦ inr (e, get_or_push items j 0 p (sym e)) | inr less ↦ inl (less, get_or_append_left items (j ∷ []) 0 p less) ]

-- what is done stays so
done_stays : (old new : List Mark) → ((k : ℕ) → mark_at old k ≡ Done → mark_at new k ≡ Done) → (nodes : List ℕ) → AreDone old nodes → AreDone new nodes
done_stays old new stays nodes all =
    All-from_get_or (λ i. mark_at new i ≡ Done) nodes 0 (λ p lt. stays (get_or nodes p 0) (All-get_or (λ i. mark_at old i ≡ Done) nodes p 0 lt all))

same_count : (new a c old d : ℕ) → new + c ≡ old + d → c ≡ d → a ≡ old → a ≡ new
same_count new a c old d sums same before = omega arith

module _ (edges : List (List ℕ)) (s : State) (w : IsWalk edges s) where
  -- a node is put on the way
  module _ (j : ℕ) (within : j < length edges) (new : mark_at s.marks j ≡ New) where
    a_mark : j < length s.marks
    a_mark = let e = w.size in omega arith

    pub opened_walk : ((p : ℕ) → p < length s.way → Reaches edges (get_or s.way p 0) j) → IsWalk edges (opened s j)
    unfolding opened
    opened_walk toward = record {
      size = length-set s.marks j Open ∙ w.size;
      places = w.places;
      listed = λ k done. elim (marked s.marks j Open a_mark k) [ inl h ↦ absurd (cc) | inr h ↦ w.listed k (sym h.1 ∙ done) ];
      behind = w.behind;
      count = same_count _ _ _ _ _ (sum_by-set counted s.marks j Open New a_mark) (ap counted new) w.count;
      on_way = λ k o. elim (marked s.marks j Open a_mark k) [ inl h ↦ subst (Contains (s.way ++ j ∷ [])) (sym h.0) (Contains-push s.way j) | inr h ↦ Contains-append_left s.way (j ∷ []) k (w.on_way k (sym h.1 ∙ o)) ];
      is_open = λ p lt. elim (pushed s.way j p lt) [ inl h ↦ subst (λ n. mark_at (set s.marks j Open) n ≡ Open) (sym h.1) (still (get_or s.way p 0) (w.is_open p h.0)) | inr h ↦ subst (λ n. mark_at (set s.marks j Open) n ≡ Open) (sym h.1) (get_or-set_same s.marks j Open New a_mark) ];
      apart = λ p q less lt same. ahead (λ a b. a ≡ b → ⊥) w.apart other p q less lt same;
      path = ahead (Reaches edges) w.path toward;
      followed = λ i. done_stays s.marks (set s.marks j Open) (λ k done. elim (marked s.marks j Open a_mark k) [ inl h ↦ absurd (let e = ap (mark_at s.marks) h.0 in cc) | inr h ↦ h.1 ∙ done ]) (take (get_or s.nexts i 0) (get_or edges i [])) (w.followed i);
    }
      where
        still : (v : ℕ) → mark_at s.marks v ≡ Open → mark_at (set s.marks j Open) v ≡ Open
        still v o = elim (marked s.marks j Open a_mark v) [ inl h ↦ h.1 | inr h ↦ h.1 ∙ o ]

        other : (p : ℕ) → p < length s.way → get_or s.way p 0 ≡ j → ⊥
        other p lt same = let e = ap (mark_at s.marks) same in let o = w.is_open p lt in absurd (cc)

        ahead : (R : ℕ → ℕ → Type 0) → ((p q : ℕ) → p < q → q < length s.way → R (get_or s.way p 0) (get_or s.way q 0)) → ((p : ℕ) → p < length s.way → R (get_or s.way p 0) j)
            → (p q : ℕ) → p < q → q < length (s.way ++ j ∷ []) → R (get_or (s.way ++ j ∷ []) p 0) (get_or (s.way ++ j ∷ []) q 0)
        ahead R old end p q less lt =
            let more = length-append s.way (j ∷ []) in
            let here : p < length s.way = omega arith in
            subst (λ a. R a (get_or (s.way ++ j ∷ []) q 0)) (sym (get_or_append_left s.way (j ∷ []) 0 p here))
            (elim (pushed s.way j q lt) [ inl h ↦ subst (R (get_or s.way p 0)) (sym h.1) (old p q less h.0) | inr h ↦ subst (R (get_or s.way p 0)) (sym h.1) (end p here) ])

    pub opened_less : weight (opened s j) < weight s
    unfolding opened
    opened_less = less _ _ _ (sum_by-set steps s.marks j Open New a_mark) (ap steps new)
      where
        less : (after before c : ℕ) → after + c ≡ before + 1 → c ≡ 2 → after < before
        less after before c sums two = omega arith

    pub opened_met : StaysMet s (opened s j)
    unfolding opened
    opened_met k is = elim (marked s.marks j Open a_mark k) [ inl h ↦ absurd (cc) | inr h ↦ sym h.1 ∙ is ]

    pub opened_here : mark_at (opened s j).marks j ≡ New → ⊥
    unfolding opened
    opened_here is = let e = get_or-set_same s.marks j Open New a_mark in absurd (cc)

  -- where the way ends in a node
  module _ (i : ℕ) (ends : slice_get s.way (length s.way - 1) ≡ Some i) where
    at_end : (length s.way - 1 < length s.way) × (get_or s.way (length s.way - 1) 0 ≡ i)
    at_end = (slice_get_within s.way (length s.way - 1) i ends, get_or_from_slice_get s.way (length s.way - 1) i 0 ends)

    pub end_open : mark_at s.marks i ≡ Open
    end_open = subst (λ n. mark_at s.marks n ≡ Open) at_end.1 (w.is_open (length s.way - 1) at_end.0)

    pub end_mark : i < length s.marks
    end_mark = in_range s.marks i (λ new. absurd (let e = end_open in cc))

    -- each node of the way reaches what the last mentions
    pub toward : (j : ℕ) → Mentions edges i j → (p : ℕ) → p < length s.way → Reaches edges (get_or s.way p 0) j
    toward j m p lt =
        let le : p ≤ length s.way - 1 = omega arith in
        elim (eq-or-lt_of_le le) [ inl e ↦ subst (λ n. Reaches edges n j) (sym (ap (λ n. get_or s.way n 0) e ∙ at_end.1)) (mentioned j m) | inr less ↦ onward i j (subst (Reaches edges (get_or s.way p 0)) at_end.1 (w.path p (length s.way - 1) less at_end.0)) m ]

    -- so one that is on the way reaches itself
    pub circle : (j : ℕ) → Mentions edges i j → mark_at s.marks j ≡ Open → Reaches edges j j
    circle j m o = let at = place_of s.way j (w.on_way j o) in subst (λ n. Reaches edges n j) at.2 (toward j m at.0 at.1)

    pub end_place : i < length s.nexts
    end_place = let lt = end_mark in let a = w.size in let b = w.places in omega arith

    -- so many of its mentions were followed
    pub seen_walk : (n : ℕ) → AreDone s.marks (take n (get_or edges i [])) → IsWalk edges (seen_to s i n)
    unfolding seen_to
    seen_walk n done = record {
      size = w.size;
      places = length-set s.nexts i n ∙ w.places;
      listed = w.listed;
      behind = w.behind;
      count = w.count;
      on_way = w.on_way;
      is_open = w.is_open;
      apart = w.apart;
      path = w.path;
      followed = λ k. elim (same_or_not k i) [
        | inl e ↦ subst (λ v. AreDone s.marks (take (get_or (set s.nexts i n) v 0) (get_or edges v []))) (sym e) (subst (λ m. AreDone s.marks (take m (get_or edges i []))) (sym (get_or-set_same s.nexts i n 0 end_place)) done)
        | inr ne ↦ subst (λ m. AreDone s.marks (take m (get_or edges k []))) (sym (get_or-set_other s.nexts i k n 0 ne)) (w.followed k)
      ];
    }

    -- it is put in the order
    pub finished_walk : AreDone s.marks (get_or edges i []) → IsWalk edges (finished s i)
    unfolding finished
    finished_walk done = record {
      size = length-set s.marks i Done ∙ w.size;
      places = w.places;
      listed = λ k is. elim (marked s.marks i Done end_mark k) [ inl h ↦ subst (Contains (s.order ++ i ∷ [])) (sym h.0) (Contains-push s.order i) | inr h ↦ Contains-append_left s.order (i ∷ []) k (w.listed k (sym h.1 ∙ is)) ];
      behind = λ k n j at m. elim (pushed s.order i k (slice_get_within (s.order ++ i ∷ []) k n at)) [ inl h ↦ before k n j at m h.0 h.1 | inr h ↦ last k n j at m h.0 h.1 ];
      count = one_more _ _ _ _ _ (sum_by-set counted s.marks i Done New end_mark) (ap counted end_open) w.count (length-append s.order (i ∷ []));
      on_way = λ k o. elim (marked s.marks i Done end_mark k) [ inl h ↦ absurd (cc) | inr h ↦ left k h.0 (place_of s.way k (w.on_way k (sym h.1 ∙ o))) ];
      is_open = λ p lt. subst (λ n. mark_at (set s.marks i Done) n ≡ Open) (sym (same p lt)) (still p (within p lt));
      apart = λ p q less lt e. w.apart p q less (inside q lt) (sym (same p (let h = within q lt in let l = front in omega arith)) ∙ e ∙ same q lt);
      path = λ p q less lt. subst (λ a. Reaches edges a (get_or (take (length s.way - 1) s.way) q 0)) (sym (same p (let h = within q lt in let l = front in omega arith))) (subst (Reaches edges (get_or s.way p 0)) (sym (same q lt)) (w.path p q less (inside q lt)));
      followed = λ k. done_stays s.marks (set s.marks i Done) (λ v is. elim (marked s.marks i Done end_mark v) [ inl h ↦ h.1 | inr h ↦ h.1 ∙ is ]) (take (get_or s.nexts k 0) (get_or edges k [])) (w.followed k);
    }
      where
        front : length (take (length s.way - 1) s.way) ≡ length s.way - 1
        front = length-take-le (length s.way - 1) s.way (omega arith)

        within : (p : ℕ) → p < length (take (length s.way - 1) s.way) → p < length s.way - 1
        within p lt = let l = front in omega arith

        inside : (p : ℕ) → p < length (take (length s.way - 1) s.way) → p < length s.way
        inside p lt = let h = within p lt in omega arith

        same : (p : ℕ) → p < length (take (length s.way - 1) s.way) → get_or (take (length s.way - 1) s.way) p 0 ≡ get_or s.way p 0
        same p lt = get_or-take (length s.way - 1) s.way p 0 (within p lt)

        still : (p : ℕ) → p < length s.way - 1 → mark_at (set s.marks i Done) (get_or s.way p 0) ≡ Open
        still p lt = elim (marked s.marks i Done end_mark (get_or s.way p 0)) [ inl h ↦ absurd (w.apart p (length s.way - 1) lt at_end.0 (h.0 ∙ sym at_end.1)) | inr h ↦ h.1 ∙ w.is_open p (omega arith) ]

        left : (k : ℕ) → k ≢ i → (p : ℕ) × (p < length s.way) × (get_or s.way p 0 ≡ k) → Contains (take (length s.way - 1) s.way) k
        left k ne at =
            let lt = at.1 in
            let le : at.0 ≤ length s.way - 1 = omega arith in
            elim (eq-or-lt_of_le le) [ inl e ↦ absurd (ne (sym at.2 ∙ ap (λ n. get_or s.way n 0) e ∙ at_end.1)) | inr less ↦ stands (take (length s.way - 1) s.way) at.0 k (let l = front in omega arith) (get_or-take (length s.way - 1) s.way at.0 0 less ∙ at.2) ]

        one_more : (new a c old longer : ℕ) → new + c ≡ old + 1 → c ≡ 0 → a ≡ old → longer ≡ a + 1 → longer ≡ new
        one_more new a c old longer sums none is more = omega arith

        before : (k n j : ℕ) → slice_get (s.order ++ i ∷ []) k ≡ Some n → Mentions edges n j → k < length s.order → get_or (s.order ++ i ∷ []) k 0 ≡ get_or s.order k 0 → Contains (take k (s.order ++ i ∷ [])) j
        before k n j at m lt e =
            subst (λ l. Contains l j) (sym (take-append-le k s.order (i ∷ []) (omega arith)))
            (w.behind k n j (slice_get-get_or s.order k 0 lt ∙ ap Some (sym e ∙ get_or_from_slice_get (s.order ++ i ∷ []) k n 0 at)) m)

        last : (k n j : ℕ) → slice_get (s.order ++ i ∷ []) k ≡ Some n → Mentions edges n j → k ≡ length s.order → get_or (s.order ++ i ∷ []) k 0 ≡ i → Contains (take k (s.order ++ i ∷ [])) j
        last k n j at m e is =
            let here : n ≡ i = sym (get_or_from_slice_get (s.order ++ i ∷ []) k n 0 at) ∙ is in
            let mentions = is_mention edges i j (subst (λ v. Mentions edges v j) here m) in
            subst (λ l. Contains l j) (sym (ap (λ v. take v (s.order ++ i ∷ [])) e ∙ take-append_seam s.order (i ∷ [])))
            (w.listed j (All-contains (λ v. mark_at s.marks v ≡ Done) (get_or edges i []) j done mentions))

    pub finished_less : weight (finished s i) < weight s
    unfolding finished
    finished_less = less _ _ _ (sum_by-set steps s.marks i Done New end_mark) (ap steps end_open)
      where
        less : (after before c : ℕ) → after + c ≡ before + 0 → c ≡ 1 → after < before
        less after before c sums one = omega arith

    pub finished_met : StaysMet s (finished s i)
    unfolding finished
    finished_met k is = elim (marked s.marks i Done end_mark k) [ inl h ↦ absurd (cc) | inr h ↦ sym h.1 ∙ is ]

  -- a walk that is back, with no node new, has the order of all
  pub back : s.way ≡ [] → ((i : ℕ) → i < length edges → mark_at s.marks i ≡ New → ⊥) → IsOrder edges s.order
  back none met = record {
    size = w.count ∙ all_counted s.marks (λ i lt. done i (let e = w.size in omega arith)) ∙ w.size;
    whole = λ i lt. w.listed i (done i lt);
    behind = w.behind;
  }
    where
      else_done : (m : Mark) → (m ≡ New → ⊥) → (m ≡ Open → ⊥) → m ≡ Done
      else_done New new o = absurd (new refl)
      else_done Open new o = absurd (o refl)
      else_done Done new o = refl

      done : (i : ℕ) → i < length edges → mark_at s.marks i ≡ Done
      done i lt = else_done (mark_at s.marks i) (met i lt) (λ o. let c = w.on_way i o in let h = c.1 in let e = ap length none in absurd (omega arith))

      all_counted : (marks : List Mark) → ((i : ℕ) → i < length marks → mark_at marks i ≡ Done) → sum_by counted marks ≡ length marks
      all_counted [] all = refl
      all_counted (m ∷ marks) all = let here = ap counted (all zero (omega arith)) in let rest = all_counted marks (λ i lt. all (suc i) (omega arith)) in let c = sum_by-cons counted m marks in sums _ _ _ _ c here rest
        where
          sums : (total one others n : ℕ) → total ≡ one + others → one ≡ 1 → others ≡ n → total ≡ suc n
          sums total one others n a b c = omega arith

-- a step, in the words of the code
module _ (edges : List (List ℕ)) (s : State) (w : IsWalk edges s) (i : ℕ) (ends : slice_get s.way (length s.way - 1) ≡ Some i) (targets : List ℕ) (all : targets ≡ get_or edges i []) where
  pub seen_from : (marks : List Mark) (n : ℕ) → marks ≡ s.marks → n ≡ get_or s.nexts i 0 → AreDone marks (take n targets)
  seen_from marks n em en =
      subst (λ m. AreDone m (take n targets)) (sym em) (subst (λ l. AreDone s.marks (take n l)) (sym all) (subst (λ m. AreDone s.marks (take m (get_or edges i []))) (sym en) (w.followed i)))

  module _ (n : ℕ) (seen : AreDone s.marks (take n targets)) (t : State) where
    onward_walk : IsWalk edges (seen_to s i n)
    onward_walk = seen_walk edges s w i ends n (subst (λ l. AreDone s.marks (take n l)) all seen)

    pub steps_back : length targets ≤ n → t ≡ finished (seen_to s i n) i → IsStep edges s t
    unfolding seen_to
    steps_back le e =
        subst (IsStep edges s) (sym e)
        record {
          kept = finished_walk edges (seen_to s i n) onward_walk i ends (subst (AreDone s.marks) (take_all n targets le ∙ all) seen);
          less = finished_less edges (seen_to s i n) onward_walk i ends;
          met = finished_met edges (seen_to s i n) onward_walk i ends;
        }

    module _ (j : ℕ) (lt : n < length targets) (at : j ≡ get_or targets n 0) where
      mention : Mentions edges i j
      mention = mention_of edges i j (subst (λ l. Contains l j) all (stands targets n j lt (sym at)))

      pub meets_way : (m : Mark) → m ≡ mark_at s.marks j → (m ≡ New → ⊥) → (mark_at s.marks j ≡ Done → ⊥) → Reaches edges j j
      meets_way m e met undone = circle edges s w i ends j mention (else_open (mark_at s.marks j) (λ new. met (e ∙ new)) undone)
        where
          else_open : (m : Mark) → (m ≡ New → ⊥) → (m ≡ Done → ⊥) → m ≡ Open
          else_open New met undone = absurd (met refl)
          else_open Open met undone = refl
          else_open Done met undone = absurd (undone refl)

      pub steps_down : Closed edges → mark_at s.marks j ≡ New → t ≡ opened (seen_to s i n) j → IsStep edges s t
      unfolding seen_to
      steps_down closed new e =
          let within = mentioned_within edges closed i j mention in
          subst (IsStep edges s) (sym e)
          record {
            kept = opened_walk edges (seen_to s i n) onward_walk j within new (toward edges s w i ends j mention);
            less = opened_less edges (seen_to s i n) onward_walk j within new;
            met = opened_met edges (seen_to s i n) onward_walk j within new;
          }

-- one node more is done
pub done_more : (marks : List Mark) (targets : List ℕ) (n : ℕ) → n < length targets → AreDone marks (take n targets) → mark_at marks (get_or targets n 0) ≡ Done → AreDone marks (take (n + 1) targets)
done_more marks targets n lt all here = subst (AreDone marks) (sym (take_more targets n 0 lt)) (All-push (λ i. mark_at marks i ≡ Done) (take n targets) (get_or targets n 0) all here)

-- a way that ends in no node is empty
pub none_left : (way items : List ℕ) → items ≡ way → None ≡ slice_get items (length items - 1) → way ≡ []
none_left way items same none = sym same ∙ empty items none
  where
    empty : (items : List ℕ) → None ≡ slice_get items (length items - 1) → items ≡ []
    empty [] none = refl
    empty (j ∷ items) none = let some = slice_get-get_or (j ∷ items) (length (j ∷ items) - 1) 0 (omega arith) in absurd (cc)
