-- Keys over a table of types: the test of keys is that of their instances, and as the table grows they stand for the same.
use Rattle.std.proofs.Common.{◌≡◌, ℕ, zero, suc, ◌<◌, ◌≤◌, Bool, true, false, ◌||◌, Some, List, [], ◌∷◌, ◌++◌, length, map, drop, get_or, Result, Err, ◌+◌, refl, sym, ap, ◌∙◌, subst, arith, if◌then◌else◌}
use Rattle.std.specs.List.{list_any}
use Rattle.std.specs.Prelude.{slice_get}
use Rattle.std.proofs.lemmas.List.{length-map, map-append}
use Rattle.cg_base.specs.Types.{Tau}
use Rattle.cg_base.specs.declared.fun.Fun.{Fun}
use Rattle.cg_base.specs.declared.limit.Limit.TheVariants as limits
use Rattle.cg_core.specs.Terms.{Note, Tree}
use Rattle.cg_inst.specs.declared.fault.InstFault.{InstFault}
use Rattle.cg_inst.specs.declared.fault.InstFault.TheVariants.{Limit, Memory}
use Rattle.cg_inst.specs.declared.keys.Key.{Key}
use Rattle.cg_inst.specs.Founds.{Comes, Keyed, found_in}
use Rattle.cg_inst.specs.Keyed.{AreKeyed, instance_at}
use Rattle.cg_inst.specs.Lists.{same_instance, with_instance, with_instances}
use Rattle.cg_inst.specs.Lookups.{same_key, with_key}
use Rattle.cg_inst_types.specs.Layers.{types_at}
use Rattle.cg_inst_types.specs.Listings.{IsListing, list_at, list_of, listing}
use Rattle.cg_inst_types.specs.Places.{Each, IsOnce, Keeps}
use Rattle.cg_typing.specs.Instances.{Instance, mentioned_at, mentioned_in}
use Rattle.cg_inst.proofs.ListSteps.{mentions_end, mentions_next, not_shorter, with_both, with_none, with_one}
use Rattle.cg_inst.proofs.Standing.{listed, stays_at, types_stay}
use Rattle.cg_inst.proofs.KeySteps.{same_key_is, same_key_self}
use Rattle.cg_inst.proofs.SameInstance.{instance_is, instance_same}

-- two tests that each say when two keys are one
same_tests : {A : Type 0} (a b : A) (x y : Bool) → (x ≡ true → a ≡ b) → (a ≡ b → x ≡ true) → (y ≡ true → a ≡ b) → (a ≡ b → y ≡ true) → x ≡ y
same_tests a b true y p q r s = sym (s (p refl))
same_tests a b false true p q r s = q (r refl)
same_tests a b false false p q r s = refl

module _ (types : List Tau) (once : IsOnce types) where
  -- keys of one instance are one
  one_key : (a b : Key) → IsListing types a.types → IsListing types b.types → instance_at types a ≡ instance_at types b → a ≡ b
  one_key a b p q e =
      let f : a.fun ≡ b.fun = ap (λ (x : Instance). x.fun) e in
      let l : list_at types a.types ≡ list_at types b.types = ap (λ (x : Instance). x.types) e in
      let t = once a.types b.types (listing (list_at types b.types)) (p ∙ ap (λ ts. Some (listing ts)) l) q in
      ap (λ f. record { fun = f; types = a.types }) f ∙ ap (λ t. record { fun = b.fun; types = t }) t

  same_of_keys : (a b : Key) → IsListing types a.types → IsListing types b.types → same_key a b ≡ same_instance (instance_at types a) (instance_at types b)
  same_of_keys a b p q =
      same_tests a b (same_key a b) (same_instance (instance_at types a) (instance_at types b)) (same_key_is a b) (λ e. ap (same_key a) (sym e) ∙ same_key_self a)
      (λ h. one_key a b p q (instance_is (instance_at types a) (instance_at types b) h))
      (λ e. ap (λ c. same_instance (instance_at types a) (instance_at types c)) (sym e) ∙ instance_same (instance_at types a))

  any_of_keys : (k : Key) (keys : List Key) → IsListing types k.types → AreKeyed types keys
      → list_any (same_key k) keys ≡ list_any (same_instance (instance_at types k)) (map (instance_at types) keys)
  any_of_keys k [] p all = refl
  any_of_keys k (x ∷ keys) p all =
      ap (λ b. b || list_any (same_key k) keys) (same_of_keys k x p all.0)
      ∙ ap (λ b. same_instance (instance_at types k) (instance_at types x) || b) (any_of_keys k keys p all.1)

  -- one key more is one instance more
  pub with_of_keys : (k : Key) (keys : List Key) → IsListing types k.types → AreKeyed types keys
      → map (instance_at types) (with_key keys k) ≡ with_instance (map (instance_at types) keys) (instance_at types k)
  with_of_keys k keys p all =
      map_either (list_any (same_key k) keys)
      ∙ ap (λ b. if b then map (instance_at types) keys else map (instance_at types) keys ++ instance_at types k ∷ []) (any_of_keys k keys p all)
    where
      map_either : (b : Bool) → map (instance_at types) (if b then keys else keys ++ k ∷ []) ≡ (if b then map (instance_at types) keys else map (instance_at types) keys ++ instance_at types k ∷ [])
      map_either true = refl
      map_either false = map-append (instance_at types) keys (k ∷ [])

-- ---- a table that grows

-- a list that stands in it stays
pub listing_stays : (old new : List Tau) → Keeps old new → (at : ℕ) → IsListing old at → (list_at new at ≡ list_at old at) × IsListing new at
listing_stays old new k at p =
    let q = stays_at old new k at (listing (list_at old at)) p in
    let same : list_at new at ≡ list_at old at = ap list_of (q ∙ sym p) in
    (same, q ∙ ap (λ ts. Some (listing ts)) (sym same))

pub keys_stay : (old new : List Tau) → Keeps old new → (keys : List Key) → AreKeyed old keys
    → (map (instance_at new) keys ≡ map (instance_at old) keys) × AreKeyed new keys
keys_stay old new k [] all = (refl, tt)
keys_stay old new k (x ∷ keys) all =
    let one = listing_stays old new k x.types all.0 in let rest = keys_stay old new k keys all.1 in
    let first : instance_at new x ≡ instance_at old x = ap (λ ts. record { fun = x.fun; types = ts }) one.0 in
    (ap (λ y. y ∷ map (instance_at new) keys) first ∙ ap (λ ys. instance_at old x ∷ ys) rest.0, (one.1, rest.1))

-- one key more keeps all of them standing
pub key_kept : (types : List Tau) (keys : List Key) (k : Key) → AreKeyed types keys → IsListing types k.types → AreKeyed types (with_key keys k)
key_kept types keys k all p = either (list_any (same_key k) keys)
  where
    at_end : (ks : List Key) → AreKeyed types ks → AreKeyed types (ks ++ k ∷ [])
    at_end [] a = (p, tt)
    at_end (x ∷ ks) a = (a.0, at_end ks a.1)

    either : (b : Bool) → AreKeyed types (if b then keys else keys ++ k ∷ [])
    either true = all
    either false = at_end keys all

-- what one key more comes to
pub entered : (f : Keyed) (types : List Tau) (keys new : List Key) (k : Key) → record { types = types; keys = keys } ≡ f → IsOnce types → AreKeyed types keys → IsListing f.types k.types
    → new ≡ with_key keys k → map (instance_at types) new ≡ with_instance (found_in f) (instance_at f.types k)
entered f types keys new k view once keyed there e =
    let same : types ≡ f.types = ap (λ (g : Keyed). g.types) view in
    let here = subst (λ ts. IsListing ts k.types) (sym same) there in
    ap (map (instance_at types)) e ∙ with_of_keys types once k keys here keyed ∙ ap (λ (g : Keyed). with_instance (found_in g) (instance_at g.types k)) view

pub entered_kept : (f : Keyed) (types : List Tau) (keys new : List Key) (k : Key) → record { types = types; keys = keys } ≡ f → AreKeyed types keys → IsListing f.types k.types
    → new ≡ with_key keys k → AreKeyed types new
entered_kept f types keys new k view keyed there e =
    let same : types ≡ f.types = ap (λ (g : Keyed). g.types) view in
    subst (AreKeyed types) (sym e) (key_kept types keys k keyed (subst (λ ts. IsListing ts k.types) (sym same) there))

-- more keys than there may be are more instances
pub too_many : {A B : Type 0} (f : A → B) (xs : List A) (ys : List B) (n : ℕ) → map f xs ≡ ys → n < length xs → n < length ys
too_many f xs ys n e h = let l = length-map xs f in let m = ap length e in omega (arith, l, m, h)

-- ---- what comes of a mention, and of several

pub comes_as : (new : Keyed) (l m : List Instance) (r : Result Unit InstFault) → l ≡ m → Comes new l r → Comes new m r
comes_as new l m r e h = subst (λ l. Comes new l r) e h

-- a mention of a function at types that stand in the table as a list
pub mention_comes : (f new : Keyed) (types mid : List Tau) (keys : List Key) (fun : Fun) (list : ℕ) (ts : List Tau) (mentions : List Instance) (r : Result Unit InstFault)
    → record { types = types; keys = keys } ≡ f → Keeps types mid → AreKeyed types keys → slice_get mid list ≡ Some (listing ts) → mentions ≡ record { fun = fun; types = ts } ∷ []
    → Comes new (with_instance (map (instance_at mid) keys) (record { fun = fun; types = list_at mid list })) r → Comes new (with_instances (found_in f) mentions) r
mention_comes f new types mid keys fun list ts mentions r view kept keyed there is h =
    let before = (keys_stay types mid kept keys keyed).0 ∙ ap found_in view in
    let one : list_at mid list ≡ ts = listed mid list ts there in
    comes_as new _ _ r
    (ap (λ xs. with_instance xs (record { fun = fun; types = list_at mid list })) before
    ∙ ap (λ us. with_instance (found_in f) (record { fun = fun; types = us })) one
    ∙ sym (with_one (found_in f) (record { fun = fun; types = ts })) ∙ ap (with_instances (found_in f)) (sym is)) h

-- a limit that is passed on the way is passed at the end
pub err_on : (new : Keyed) (one whole : List Instance) (e : InstFault) → length one ≤ length whole → Comes new one (Err e) → Comes new whole (Err e)
err_on new one whole Memory h c = tt
err_on new one whole (Limit limits.Instances) h c = omega (arith, h, c)
err_on new one whole (Limit limits.Source) h c = c
err_on new one whole (Limit limits.Nesting) h c = c
err_on new one whole (Limit limits.Functions) h c = c
err_on new one whole (Limit limits.Fields) h c = c
err_on new one whole (Limit limits.Ty) h c = c
err_on new one whole (Limit limits.Depth) h c = c
err_on new one whole (Limit limits.Core) h c = c
err_on new one whole (Limit limits.Heap) h c = c
err_on new one whole (Limit limits.Certificate) h c = c

module _ (first now : Keyed) (places : List ℕ) (nodes : List (Tree Note)) (i : ℕ) (d : Tree Note)
    (bound : i < length nodes) (kept : Keeps first.types now.types) (there : Each (λ at. at < length first.types) places) (whole : List Instance)
    (invariant : with_instances (found_in now) (mentioned_in (types_at first.types places) (drop i nodes)) ≡ whole) where
  -- the mentions of the node at a position, and then the others
  one_and_others : with_instances (with_instances (found_in now) (mentioned_at (types_at now.types places) (get_or nodes i d))) (mentioned_in (types_at first.types places) (drop (i + 1) nodes)) ≡ whole
  one_and_others =
      ap (λ ts. with_instances (with_instances (found_in now) (mentioned_at ts (get_or nodes i d))) (mentioned_in (types_at first.types places) (drop (i + 1) nodes))) (types_stay first.types now.types kept places there)
      ∙ sym (with_both (found_in now) (mentioned_at (types_at first.types places) (get_or nodes i d)) (mentioned_in (types_at first.types places) (drop (i + 1) nodes)))
      ∙ ap (with_instances (found_in now)) (sym (mentions_next (types_at first.types places) nodes i d bound)) ∙ invariant

  pub gone_on : (new : Keyed) → found_in new ≡ with_instances (found_in now) (mentioned_at (types_at now.types places) (get_or nodes i d))
      → with_instances (found_in new) (mentioned_in (types_at first.types places) (drop (i + 1) nodes)) ≡ whole
  gone_on new e = ap (λ xs. with_instances xs (mentioned_in (types_at first.types places) (drop (i + 1) nodes))) e ∙ one_and_others

  pub stopped : (new : Keyed) (e : InstFault) → Comes new (with_instances (found_in now) (mentioned_at (types_at now.types places) (get_or nodes i d))) (Err e) → Comes new whole (Err e)
  stopped new e h =
      let one = with_instances (found_in now) (mentioned_at (types_at now.types places) (get_or nodes i d)) in
      let longer = not_shorter one (mentioned_in (types_at first.types places) (drop (i + 1) nodes)) in
      err_on new one whole e (omega (arith, longer, ap length one_and_others)) h

-- behind the last node
pub all_gone : (now : Keyed) (given : List Tau) (nodes : List (Tree Note)) (i : ℕ) (whole : List Instance) → length nodes ≤ i
    → with_instances (found_in now) (mentioned_in given (drop i nodes)) ≡ whole → found_in now ≡ whole
all_gone now given nodes i whole h e = sym (with_none (found_in now)) ∙ ap (with_instances (found_in now)) (sym (mentions_end given nodes i h)) ∙ e

-- the node at a position
pub node_at : {A B : Type 0} (f : A → B) (xs : List A) (i : ℕ) (x : A) → i < length xs → x ≡ get_or xs i x → f x ≡ get_or (map f xs) i (f x)
node_at f [] i x h e = absurd (omega arith)
node_at f (y ∷ xs) zero x h e = ap f e
node_at f (y ∷ xs) (suc i) x h e = node_at f xs i x (omega (arith, h)) e

pub length_nodes : {A B : Type 0} (f : A → B) (xs : List A) (i : ℕ) → i < length xs → i < length (map f xs)
length_nodes f xs i h = let l = length-map xs f in omega (arith, l, h)

pub length_end : {A B : Type 0} (f : A → B) (xs : List A) (i : ℕ) → length xs ≤ i → length (map f xs) ≤ i
length_end f xs i h = let l = length-map xs f in omega (arith, l, h)
