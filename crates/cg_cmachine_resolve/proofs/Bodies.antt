-- The blocks of a body, and what is told of a function.
use Rattle.std.proofs.Common.{◌≡◌, ℕ, zero, suc, ◌+◌, ◌<◌, ◌≤◌, List, [], ◌∷◌, ◌++◌, length, get_or, take, drop, map, refl, sym, ap, ◌∙◌, subst, arith, Bor}
use Rattle.std.proofs.lemmas.List.{drop-append-le, take_all, take_more, map-append, length-append, length-map}
use Rattle.std.specs.List.{All, AllByRecursion, AllZip}
use Rattle.cg_cmachine_resolve.specs.declared.line.Line.{Line}
use Rattle.cg_cmachine_resolve.specs.Lines.{Stands, Whole}
use Rattle.cg_cmachine_resolve.specs.Queues.{AreBlocks, AreDone, AreLines, HasBlocks, HasPushed, IsLineOf, IsNext, HaveJoined, block_weight, blocks_weight, waiting}
use Rattle.cg_cmachine_resolve.specs.Resolutions.{sources}
use Rattle.cg_cmachine_resolve.specs.Scopes.{Scope}
use Rattle.cg_cmachine_resolve.proofs.Grows.{blocks_stay, lines_stay}
use Rattle.cg_cmachine_resolve.proofs.Queues.{blocks_append}
use Rattle.cg_ctree.specs.declared.tree.CStmt.{CStmt}
use Rattle.cg_ctree.specs.Trees.{block_of}

-- ---- rows

take_before : {A : Type 0} (n : ℕ) (xs ys : List A) → n ≤ length xs → take n (xs ++ ys) ≡ take n xs
take_before zero xs ys le = refl
take_before (suc n) [] ys le = absurd (omega (arith, le))
take_before (suc n) (x ∷ xs) ys le = ap (λ z. x ∷ z) (take_before n xs ys (omega (arith, le)))

drop_at : {A : Type 0} (n : ℕ) (xs : List A) (x : A) → n < length xs → x ≡ get_or xs n x → drop n xs ≡ x ∷ drop (n + 1) xs
drop_at n [] x le e = absurd (omega (arith, le))
drop_at zero (y ∷ xs) x le e = ap (λ z. z ∷ xs) (sym e)
drop_at (suc n) (y ∷ xs) x le e = let step : suc n + 1 ≡ suc (n + 1) = omega arith in rw step (drop_at n xs x (omega (arith, le)) e)

pub zip_push : {A B : Type 0} (R : A → B → Type 0) (x : A) (y : B) (xs : List A) (ys : List B) → AllZip R xs ys → R x y → AllZip R (xs ++ x ∷ []) (ys ++ y ∷ [])
zip_push R x y [] [] h r = (r, tt)
zip_push R x y [] (z ∷ ys) h r = absurd h
zip_push R x y (z ∷ xs) [] h r = absurd h
zip_push R x y (z ∷ xs) (w ∷ ys) h r = (h.0, zip_push R x y xs ys h.1 r)

get_first : {A : Type 0} (xs ys : List A) (d : A) → 0 < length xs → get_or (xs ++ ys) 0 d ≡ get_or xs 0 d
get_first [] ys d le = absurd (omega (arith, le))
get_first (x ∷ xs) ys d le = refl

-- ---- a turn of the loop over statements

by_recursion_push : {A : Type 0} (P : A → Type 0) (xs : List A) (x : A) → AllByRecursion P xs → P x → AllByRecursion P (xs ++ x ∷ [])
by_recursion_push P [] x h p = (p, tt)
by_recursion_push P (y ∷ xs) x h p = (h.0, by_recursion_push P xs x h.1 p)

module _ (w : Whole) (vs : Scope) where
  pub lines_turn : (n : ℕ) (before after : List (List CStmt)) (ss : List CStmt) (i : ℕ) (s : CStmt) (lines more : List Line) → i < length ss → s ≡ get_or ss i s
      → AreLines w vs before (take i ss) lines → HaveJoined n before after → HasPushed (IsLineOf w vs after s) lines more → AreLines w vs after (take (i + 1) ss) more
  lines_turn n before after ss i s lines more within item are joins pushed =
      let line : Line = pushed.last in
      let is : more ≡ lines ++ line ∷ [] = pushed.behind in
      let here : take (i + 1) ss ≡ take i ss ++ s ∷ [] = take_more ss i s within ∙ ap (λ y. take i ss ++ y ∷ []) (sym item) in
      let kept : AllByRecursion (Stands w vs after) lines = subst (λ all. AllByRecursion (Stands w vs all) lines) (sym joins.joined) (lines_stay w vs before joins.more lines are.stand) in
      record {
        same = ap sources is ∙ map-append (λ line. line.source.now) lines (line ∷ []) ∙ ap (λ l. l ++ line.source.now ∷ []) are.same ∙ ap (λ s. take i ss ++ s ∷ []) pushed.holds.same ∙ sym here;
        stand = subst (AllByRecursion (Stands w vs after)) (sym is) (by_recursion_push (Stands w vs after) lines line kept pushed.holds.stands);
      }

  -- ---- a turn of the loop over blocks

  pub done_turn : (all after : List (List CStmt)) (ss : List CStmt) (lines more : List (List Line)) → AreDone w vs all ss lines → length lines < length all → IsNext w vs all after lines more
      → AreDone w vs after ss more
  done_turn all after ss lines more d less next = rw next.pushed.behind (record {
    resolved = rw joined (subst (λ bs. AreBlocks w vs (all ++ joins.more) bs (lines ++ ls ∷ [])) (sym taken)
        (zip_push (AreLines w vs (all ++ joins.more)) b ls (take (length lines) all) lines (blocks_stay w vs all joins.more (take (length lines) all) lines d.resolved) (rw (← joined) next.pushed.holds)));
    within = rw (many, joined) (omega (arith, less, length-append all joins.more));
    some = rw joined (omega (arith, d.some, length-append all joins.more));
    first = rw joined (get_first all joins.more [] d.some ∙ d.first);
  })
    where
      b : List CStmt
      b = next.block

      ls : List Line
      ls = next.pushed.last

      joins : HaveJoined (block_weight (block_of b)) all after
      joins = next.joins

      joined : after ≡ all ++ joins.more
      joined = joins.joined

      many : length (lines ++ ls ∷ []) ≡ length lines + 1
      many = length-append lines (ls ∷ [])

      taken : take (length (lines ++ ls ∷ [])) (all ++ joins.more) ≡ take (length lines) all ++ b ∷ []
      taken =
          ap (λ k. take k (all ++ joins.more)) many ∙ take_before (length lines + 1) all joins.more (omega (arith, less))
          ∙ take_more all (length lines) b less ∙ ap (λ y. take (length lines) all ++ y ∷ []) (sym next.item)

  pub done_none : (all : List (List CStmt)) (ss : List CStmt) → all ≡ ss ∷ [] → AreDone w vs all ss []
  done_none all ss e = rw e (record { resolved = tt; within = omega arith; some = omega arith; first = refl })

  pub done_all : (all : List (List CStmt)) (ss : List CStmt) (lines : List (List Line)) → AreDone w vs all ss lines → length all ≤ length lines → HasBlocks w vs ss lines
  done_all all ss lines d le = record { blocks = all; first = d.first; resolved = subst (λ bs. AreBlocks w vs all bs lines) (take_all (length lines) all le) d.resolved }

pub weight_falls : (all after : List (List CStmt)) (n : ℕ) (b : List CStmt) → n < length all → b ≡ get_or all n b → HaveJoined (block_weight (block_of b)) all after
    → blocks_weight (drop (n + 1) after) < blocks_weight (drop n all)
weight_falls all after n b less item joins =
    let left : drop (n + 1) after ≡ drop (n + 1) all ++ joins.more = ap (drop (n + 1)) joins.joined ∙ drop-append-le (n + 1) all joins.more (omega (arith, less)) in
    let right : drop n all ≡ b ∷ drop (n + 1) all = drop_at n all b less item in
    rw (left, right) (omega (arith, blocks_append (drop (n + 1) all) joins.more, joins.weighs))

-- ---- functions

pub all_of : {A : Type 0} (P : A → Type 0) (xs : List A) → AllByRecursion P xs → All P xs
all_of P [] h k d less = absurd (omega (arith, less))
all_of P (x ∷ xs) h zero d less = h.0
all_of P (x ∷ xs) h (suc k) d less = all_of P xs h.1 k d (omega (arith, less))

-- ---- where bodies begin and end

pub first_waits : (queue more : List (Bor (List CStmt))) (b : Bor (List CStmt)) (ss : List CStmt) → queue ≡ [] → more ≡ queue ++ b ∷ [] → b.now ≡ ss → waiting more ≡ ss ∷ []
first_waits queue more b ss e f g = ap waiting f ∙ ap (λ q. waiting (q ++ b ∷ [])) e ∙ ap (λ s. s ∷ []) g

pub waiting_at : (queue : List (Bor (List CStmt))) (i : ℕ) (b : Bor (List CStmt)) → b ≡ get_or queue i b → i < length queue → b.now ≡ get_or (waiting queue) i b.now
waiting_at [] i b e less = absurd (omega (arith, less))
waiting_at (x ∷ queue) zero b e less = ap (λ y. y.now) e
waiting_at (x ∷ queue) (suc i) b e less = waiting_at queue i b e (omega (arith, less))

pub waiting_long : (queue : List (Bor (List CStmt))) → length (waiting queue) ≡ length queue
waiting_long queue = length-map queue (λ b. b.now)

pub pushed : {A B : Type 0} (g : A → B) (xs more : List A) (x : A) → more ≡ xs ++ x ∷ [] → map g more ≡ map g xs ++ g x ∷ []
pushed g xs more x e = ap (map g) e ∙ map-append g xs (x ∷ [])

pub longer : {A : Type 0} (xs more : List A) (x : A) → more ≡ xs ++ x ∷ [] → length more ≡ length xs + 1
longer xs more x e = ap length e ∙ length-append xs (x ∷ [])

module _ {A : Type 0} (items : A → List Line) (w : Whole) (vs : Scope) where
  pub next_block : (queue after : List (Bor (List CStmt))) (blocks more : List A) (b : Bor (List CStmt)) (x : A) → length blocks < length queue → b ≡ get_or queue (length blocks) b
      → HaveJoined (block_weight (block_of b.now)) (waiting queue) (waiting after) → AreLines w vs (waiting after) b.now (items x) → more ≡ blocks ++ x ∷ []
      → IsNext w vs (waiting queue) (waiting after) (map items blocks) (map items more)
  next_block queue after blocks more b x less item joins are is = record {
    block = b.now;
    item = waiting_at queue (length blocks) b item less ∙ ap (λ n. get_or (waiting queue) n b.now) (sym (length-map blocks items));
    joins = joins;
    pushed = record { last = items x; holds = are; behind = pushed items blocks more x is };
  }

  still : (queue : List (Bor (List CStmt))) (blocks : List A) → length blocks < length queue → length (map items blocks) < length (waiting queue)
  still queue blocks less = omega (arith, less, length-map blocks items, waiting_long queue)

  pub done_next : (queue after : List (Bor (List CStmt))) (ss : List CStmt) (blocks more : List A) → AreDone w vs (waiting queue) ss (map items blocks) → length blocks < length queue
      → IsNext w vs (waiting queue) (waiting after) (map items blocks) (map items more) → AreDone w vs (waiting after) ss (map items more)
  done_next queue after ss blocks more d less next = done_turn w vs (waiting queue) (waiting after) ss (map items blocks) (map items more) d (still queue blocks less) next

  pub weight_next : (queue after : List (Bor (List CStmt))) (blocks more : List A) → length blocks < length queue → IsNext w vs (waiting queue) (waiting after) (map items blocks) (map items more)
      → blocks_weight (drop (length (map items more)) (waiting after)) < blocks_weight (drop (length (map items blocks)) (waiting queue))
  weight_next queue after blocks more less next =
      rw (longer (map items blocks) (map items more) next.pushed.last next.pushed.behind)
      (weight_falls (waiting queue) (waiting after) (length (map items blocks)) next.block (still queue blocks less) next.item next.joins)

  pub done_last : (queue : List (Bor (List CStmt))) (ss : List CStmt) (blocks : List A) → AreDone w vs (waiting queue) ss (map items blocks) → length queue ≤ length blocks → HasBlocks w vs ss (map items blocks)
  done_last queue ss blocks d le =
      let many : length blocks ≡ length (map items blocks) = sym (length-map blocks items) in
      done_all w vs (waiting queue) ss (map items blocks) d (omega (arith, le, many, waiting_long queue))
