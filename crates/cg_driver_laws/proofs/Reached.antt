-- What an entry reaches by mentions: it stands in the list, and where the entry reaches only such abstract functions as a table knows, so does
-- each instance that is reached.
use Rattle.std.proofs.Common.{◌≡◌, inl, inr, ℕ, suc, ◌<◌, Bool, true, IsTrue, Option, Some, None, List, [], ◌∷◌, length, get_or, map, slice_get, refl, sym, ap, ◌∙◌, arith, subst as at}
use Rattle.std.proofs.lemmas.Bool.{and_from, and_parts}
use Rattle.std.proofs.lemmas.List.Elements.{All-contains}
use Rattle.std.proofs.lemmas.Option.{slice_get-map}
use Rattle.std.specs.List.{Contains, list_all}
use Rattle.std.specs.Option.{option_map}
use Rattle.cg_base.specs.declared.fun.Fun.{Fun}
use Rattle.cg_base.specs.declared.fun.Fun.TheVariants.{User, Lib as OfLib}
use Rattle.cg_base.specs.Types.{Tau}
use Rattle.cg_core.specs.Derivations.{Derivation}
use Rattle.cg_core.specs.Kernels.{Function}
use Rattle.cg_core.specs.Terms.{Note, Tree}
use Rattle.cg_core_def.specs.Lawful.{user_of}
use Rattle.cg_driver_entry.proofs.Closed.{low}
use Rattle.cg_driver_laws.proofs.Places.{HasClosedArguments, IsAmong, mention_among, nodes_closed, place_found}
use Rattle.cg_driver_laws.proofs.Programs.{abstract_is, core_missing}
use Rattle.cg_driver_laws.specs.Laws.{ReachKnown, program_over, reaches_known_by}
use Rattle.cg_eval_def.specs.Foreigns.{IsClosed}
use Rattle.cg_graphs.proofs.Found.{inside as high}
use Rattle.cg_graphs.proofs.Places.{place}
use Rattle.cg_graphs.specs.Circles.{Mentions, Reaches, mentioned as once, onward}
use Rattle.cg_graphs.specs.Reach.{AreReached, IsReached}
use Rattle.cg_heap.specs.ForeignHeaps.{ForeignHeap}
use Rattle.cg_inst.specs.Lists.{Cores, IsList, core_of, mentioned_by, mentioned_maybe, nodes_maybe}
use Rattle.cg_inst_laws.proofs.Bodies.{AreTyped, mentioned_given, mentions_named, user_there}
use Rattle.cg_inst_laws.proofs.Each.{Each, each_all, each_at, each_join, each_left, each_right}
use Rattle.cg_inst_laws.proofs.Entries.{list_good}
use Rattle.cg_inst_laws.proofs.Growth.{mentions_stay, no_instance_twice}
use Rattle.cg_inst_laws.specs.Laws.{entry_of, instance_mentions, place_in}
use Rattle.cg_refine_laws.specs.Laws.{knows_at}
use Rattle.cg_typing.specs.Instances.{Entry, Instance, IsGood, IsIn, is_closed, mentioned_at, mentioned_in, nodes_of}
use Rattle.cg_typing.specs.Subst.{subst_core}
use Rattle.cg_update.specs.Calls.{Program}
use Rattle.cg_update.specs.Among.{is_mention_among}
use Rattle.cg_value.specs.Foreign.{Foreign}

-- ---- lists

-- what holds of all that is contained holds of each, and back
held_each : (P : ℕ → Type 0) (xs : List ℕ) → ((k : ℕ) → Contains xs k → P k) → Each P xs
held_each P [] h = tt
held_each P (x ∷ xs) h = (h x (0, omega arith, refl), held_each P xs (λ k c. h k (suc c.0, (let lt = c.1 in omega arith), c.2)))

each_held : (P : ℕ → Type 0) (xs : List ℕ) → Each P xs → (k : ℕ) → Contains xs k → P k
each_held P xs h k c = All-contains P xs k (each_all P xs h) c

-- a test that all pass
all_each : (p : ℕ → Bool) (xs : List ℕ) → IsTrue (list_all p xs) → Each (λ j. IsTrue (p j)) xs
all_each p [] h = tt
all_each p (x ∷ xs) h = let b = and_parts (p x) _ h in (b.0, all_each p xs b.1)

each_passes : (p : Tree Note → Bool) (ts : List (Tree Note)) → Each (λ t. IsTrue (p t)) ts → IsTrue (list_all p ts)
each_passes p [] h = refl
each_passes p (t ∷ ts) h = and_from (p t) _ h.0 (each_passes p ts h.1)

next : (edges : List (List ℕ)) (from i j : ℕ) → IsReached edges from i → Mentions edges i j → IsReached edges from j
next edges from i j (inl e) m = inr (once j (at (λ k. Mentions edges k j) e m))
next edges from i j (inr r) m = inr (onward i j r m)

-- ---- what nodes mention

-- what holds of all that nodes mention, by nodes
mentioned_each : (P : Instance → Type 0) (ts : List (Tree Note)) → Each P (mentioned_in [] ts) → Each (λ t. Each P (mentioned_at [] t)) ts
unfolding mentioned_in
mentioned_each P [] h = tt
mentioned_each P (t ∷ ts) h = (each_left P (mentioned_at [] t) (mentioned_in [] ts) h, mentioned_each P ts (each_right P (mentioned_at [] t) (mentioned_in [] ts) h))

-- what holds of all that a body mentions at these types holds of what the nodes mention where the types are in it
body_holds : (P : Instance → Type 0) (types : List Tau) → IsTrue (list_all is_closed types) → (o : Option (Tree Note)) → Each P (mentioned_maybe types o)
    → Each (λ t. Each P (mentioned_at [] t)) (nodes_maybe (option_map (subst_core types) o))
body_holds P types closed None h = tt
body_holds P types closed (Some c) h = mentioned_each P (nodes_of (subst_core types c)) (at (Each P) (sym (mentioned_given types closed c)) h)

body_closed : (types : List Tau) → IsTrue (list_all is_closed types) → (o : Option (Tree Note)) → Each HasClosedArguments (nodes_maybe (option_map (subst_core types) o))
body_closed types closed None = tt
body_closed types closed (Some c) = nodes_closed types closed c

-- ---- where it stands

-- something holds of the instance at a place
abbrev HoldsHere : List Instance → (Instance → Type 0) → ℕ → Type 0
HoldsHere list P k = (x : Instance) → slice_get list k ≡ Some x → P x

one_there : (list : List Instance) (k : ℕ) (x y : Instance) → slice_get list k ≡ Some x → slice_get list k ≡ Some y → x ≡ y
one_there list k x y e f = let q : Some x ≡ Some y = sym e ∙ f in cc

-- what holds of some instances of a list holds at their places
places_hold : (list : List Instance) (P : Instance → Type 0) (xs : List Instance) → Each (IsIn list) xs → Each P xs → Each (HoldsHere list P) (map (place_in list) xs)
places_hold list P [] s h = tt
places_hold list P (x ∷ xs) s h = (λ y e. at P (one_there list (place_in list x) x y (place_found list s.0.place x s.0.there) e) h.0, places_hold list P xs s.1 h.1)

-- where their places are among some, they stand there
places_among : (list : List Instance) (among : ℕ → Bool) (xs : List Instance) → Each (IsIn list) xs → Each (λ k. among k ≡ true) (map (place_in list) xs) → Each (IsAmong list among) xs
places_among list among [] s h = tt
places_among list among (x ∷ xs) s h = (record { place = place_in list x; there = place_found list s.0.place x s.0.there; is = h.0 }, places_among list among xs s.1 h.1)

-- ---- instances

module _ (functions : List Function) (cores : Cores) (trees : ℕ → Option Derivation) (typed : AreTyped functions cores trees)
    (list : List Instance) (is : IsList functions cores list) where
  abbrev edges : List (List ℕ)
  edges = instance_mentions functions cores list

  -- the places of what an instance mentions
  abbrev targets_of : Instance → List ℕ
  targets_of x = map (place_in list) (mentioned_by functions cores x)

  edges_by : (k : ℕ) → slice_get edges k ≡ option_map targets_of (slice_get list k)
  edges_by k = slice_get-map targets_of list k

  edges_at : (k : ℕ) (x : Instance) → slice_get list k ≡ Some x → slice_get edges k ≡ Some (targets_of x)
  edges_at k x h = edges_by k ∙ ap (option_map targets_of) h

  -- what has places in the graph is an instance
  source_there : (k : ℕ) (targets : List ℕ) → slice_get edges k ≡ Some targets → (x : Instance) × (slice_get list k ≡ Some x)
  source_there k targets e = go (slice_get list k) refl
    where
      go : (o : Option Instance) → slice_get list k ≡ o → (x : Instance) × (slice_get list k ≡ Some x)
      go (Some x) h = (x, h)
      go None h = let lost : None ≡ Some targets = sym (ap (option_map targets_of) h) ∙ sym (edges_by k) ∙ e in absurd (cc)

  good_at : (k : ℕ) (x : Instance) → slice_get list k ≡ Some x → IsGood functions x
  good_at k x h = each_at (IsGood functions) list k x (list_good functions cores trees typed list is) h

  -- what holds of all that an instance mentions holds where its mentions stand
  mention_holds : (P : Instance → Type 0) (j k : ℕ) (x : Instance) → slice_get list j ≡ Some x → Each P (mentioned_by functions cores x) → Mentions edges j k → HoldsHere list P k
  mention_holds P j k x h p m =
      let found : Some m.targets ≡ Some (targets_of x) = sym m.at ∙ edges_at j x h in
      let same : m.targets ≡ targets_of x = cc in
      each_held (HoldsHere list P) (targets_of x) (places_hold list P (mentioned_by functions cores x) (mentions_stay functions cores list is j x h) p) k (at (λ l. Contains l k) same m.among)

  module _ (x : Foreign) (y : ForeignHeap) (chosen : ℕ → Bool) (closed : IsClosed x functions chosen) (from i : ℕ)
      (here : slice_get list from ≡ Some (record { fun = User i; types = [] })) (among : IsTrue (chosen i)) where
    -- the function is one of those that are closed under mentions, if it is of the source
    abbrev Named : Instance → Type 0
    Named z = Each (λ j. IsTrue (chosen j)) (user_of z.fun)

    mentions_are_named : (f : Fun) (types : List Tau) → IsGood functions (record { fun = f; types = types }) → Named (record { fun = f; types = types })
        → Each Named (mentioned_by functions cores (record { fun = f; types = types }))
    mentions_are_named (OfLib l) types good n = tt
    mentions_are_named (User j) types good n =
        let u = user_there functions j (length types) good.many in
        mentions_named functions cores trees typed (λ j. IsTrue (chosen j)) j u.function types u.there good
        (all_each chosen _ (closed.mentions j u.function u.there n.0))

    onward_named : (j k : ℕ) → HoldsHere list Named j → Mentions edges j k → HoldsHere list Named k
    onward_named j k n m =
        let s = source_there j m.targets m.at in mention_holds Named j k s.0 s.1 (mentions_are_named s.0.fun s.0.types (good_at j s.0 s.1) (n s.0 s.1)) m

    start_named : HoldsHere list Named from
    start_named z h = at Named (one_there list from (record { fun = User i; types = [] }) z here h) (among, tt)

    reached_named : (k : ℕ) → Reaches edges from k → HoldsHere list Named k
    reached_named _ (once k m) = onward_named from k start_named m
    reached_named _ (onward j k r m) = onward_named j k (reached_named j r) m

    -- so is that of each instance that is reached
    named : (k : ℕ) → IsReached edges from k → HoldsHere list Named k
    named k (inl e) = at (HoldsHere list Named) (sym e) start_named
    named k (inr r) = reached_named k r

    module _ (marks : List Bool) (are : AreReached edges from marks) where
      -- the places that are reached
      abbrev pub reached_places : ℕ → Bool
      reached_places k = get_or marks k true

      among_of : (k : ℕ) → IsReached edges from k → reached_places k ≡ true
      among_of k r = low marks k (λ lt. (are.marked k (let e = are.size in omega arith)).1 r)

      reached_of : (k : ℕ) (z : Instance) → slice_get list k ≡ Some z → reached_places k ≡ true → IsReached edges from k
      reached_of k z h stands =
          let lt : k < length edges = (place edges k (targets_of z) [] (edges_at k z h)).0 in
          (are.marked k lt).0 (high marks k (let e = are.size in omega arith) stands)

      -- what a reached instance mentions is reached
      mentions_reached : (k : ℕ) (z : Instance) → slice_get list k ≡ Some z → IsReached edges from k → Each (IsAmong list reached_places) (mentioned_by functions cores z)
      mentions_reached k z h r =
          places_among list reached_places (mentioned_by functions cores z) (mentions_stay functions cores list is k z h)
          (held_each (λ j. reached_places j ≡ true) (targets_of z)
          (λ j c. among_of j (next edges from k j r (record { targets = targets_of z; at = edges_at k z h; among = c }))))

      nodes_reached : (k : ℕ) (z : Instance) → slice_get list k ≡ Some z → IsReached edges from k
          → Each (λ t. IsTrue (is_mention_among list reached_places t)) (nodes_maybe (entry_of functions cores z).body)
      nodes_reached k z h r =
          each_join HasClosedArguments (λ t. Each (IsAmong list reached_places) (mentioned_at [] t)) (λ t. IsTrue (is_mention_among list reached_places t))
          (nodes_maybe (entry_of functions cores z).body) (mention_among list reached_places (no_instance_twice functions cores list is))
          (body_closed z.types (good_at k z h).closed (core_of cores z.fun))
          (body_holds (IsAmong list reached_places) z.types (good_at k z h).closed (core_of cores z.fun) (mentions_reached k z h r))

      abbrev program : Program
      program = program_over x y functions cores list

      -- a reached instance mentions what is reached, or is an abstract function that the table knows
      known_at : (f : Fun) (types : List Tau) (k : ℕ) → slice_get list k ≡ Some (record { fun = f; types = types }) → IsReached edges from k
          → IsTrue (reaches_known_by program reached_places f (entry_of functions cores (record { fun = f; types = types })).body)
      known_at (OfLib l) types k h r = refl
      known_at (User j) types k h r = go (option_map (subst_core types) (cores j)) refl
        where
          go : (o : Option (Tree Note)) → option_map (subst_core types) (cores j) ≡ o → IsTrue (reaches_known_by program reached_places (User j) o)
          go (Some c) e =
              each_passes (is_mention_among list reached_places) (nodes_of c)
              (at (λ o. Each (λ t. IsTrue (is_mention_among list reached_places t)) (nodes_maybe o)) e (nodes_reached k (record { fun = User j; types = types }) h r))
          go None e =
              let u = user_there functions j (length types) (good_at k (record { fun = User j; types = types }) h).many in
              let kept = typed.kept j u.function u.there in
              ap (knows_at program) u.there
              ∙ closed.known j u.function u.there (named k r (record { fun = User j; types = types }) h).0
              (abstract_is functions _ kept.argument kept.result u.function.body (cores j) (trees j) kept.kept (core_missing types (cores j) e))

      pub reach_known : ReachKnown program reached_places
      reach_known k z e stands there g =
          let same : Some (entry_of functions cores z) ≡ Some e = sym (slice_get-map (entry_of functions cores) list k ∙ ap (option_map (entry_of functions cores)) there) ∙ g in
          let q : entry_of functions cores z ≡ e = cc in
          at (λ (e : Entry). IsTrue (reaches_known_by program reached_places z.fun e.body)) q (known_at z.fun z.types k there (reached_of k z there stands))

      -- and the entry is among them
      pub stands_reached : reached_places from ≡ true
      stands_reached = among_of from (inl refl)
