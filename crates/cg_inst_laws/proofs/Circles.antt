-- A circle of instances would be a circle of functions.
use Rattle.std.proofs.Common.{◌≡◌, ℕ, zero, suc, Option, Some, List, [], ◌∷◌, length, map, refl, sym, ap, ◌∙◌, if◌then◌else◌, subst as at}
use Rattle.std.proofs.lemmas.Option.{get_or_from_slice_get, slice_get-get_or, slice_get-map, slice_get_within}
use Rattle.std.specs.List.{Contains}
use Rattle.std.specs.Option.{option_map}
use Rattle.std.specs.Prelude.{slice_get}
use Rattle.cg_base.specs.declared.fun.Fun.{Fun}
use Rattle.cg_base.specs.declared.fun.Fun.TheVariants.{User, Lib as OfLib}
use Rattle.cg_graphs.specs.Circles.{Mentions, NoCircle, Reaches, mentioned, onward}
use Rattle.cg_core.specs.Derivations.{Derivation}
use Rattle.cg_core.specs.Kernels.{Function}
use Rattle.cg_inst.specs.Lists.{Cores, core_of, mentioned_by, mentioned_maybe, same_instance}
use Rattle.cg_core_def.specs.Lawful.{body_mentions, kernel_mentions, user_of}
use Rattle.cg_typing.specs.Instances.{Instance, IsGood}
use Rattle.cg_inst_laws.specs.Laws.{instance_mentions, place_in}
use Rattle.cg_inst_laws.proofs.Bodies.{AreTyped, mentions_named, user_there}
use Rattle.cg_inst_laws.proofs.Each.{Each, each_at, each_from}
use Rattle.cg_inst.proofs.Names.{by_cases}
use Rattle.cg_inst.proofs.SameInstance.{instance_is}
use Rattle.cg_base.proofs.Options.{some_is}

-- ---- lists

-- a list has each of its elements
each_contained : (xs : List ℕ) → Each (Contains xs) xs
each_contained xs = each_from (Contains xs) xs (λ k x e. (k, slice_get_within xs k x e, get_or_from_slice_get xs k x x e))

-- an element of a mapped list comes of one of the list
record IsMapped {A B : Type 0} (f : A → B) (xs : List A) (i : ℕ) (y : B) : Type 0 where
  pub of : A
  pub there : slice_get xs i ≡ Some of
  pub is : f of ≡ y

mapped_at : {A B : Type 0} (f : A → B) (xs : List A) (i : ℕ) (y : B) → slice_get (map f xs) i ≡ Some y → IsMapped f xs i y
mapped_at f [] i y e = absurd (cc)
mapped_at f (x ∷ xs) zero y e = record { of = x; there = refl; is = some_is (f x) y e }
mapped_at f (x ∷ xs) (suc i) y e = let q = mapped_at f xs i y e in record { of = q.of; there = q.there; is = q.is }

-- where a place is one of the list, it is that of the instance
placed : (list : List Instance) (y x : Instance) → slice_get list (place_in list y) ≡ Some x → x ≡ y
unfolding place_in
placed [] y x e = absurd (cc)
placed (z ∷ zs) y x e = by_cases (λ b. slice_get (z ∷ zs) (if b then zero else suc (place_in zs y)) ≡ Some x → x ≡ y) (same_instance y z)
    (λ h e. sym (some_is z x e) ∙ sym (instance_is y z h)) (λ h e. placed zs y x e) e

-- ---- mentions

-- a mention from one instance to another is one between the functions that they are of, where the second is one of the program too
record IsMention (functions : List Function) (x y : Instance) : Type 0 where
  pub user : ℕ
  pub is_user : x.fun ≡ User user
  pub mentions : (b : ℕ) → y.fun ≡ User b → Mentions (kernel_mentions functions) user b

module _ (functions : List Function) (cores : Cores) (trees : ℕ → Option Derivation) (typed : AreTyped functions cores trees) (total : NoCircle (kernel_mentions functions))
    (list : List Instance) (good : Each (IsGood functions) list) where
  abbrev graph : List (List ℕ)
  graph = instance_mentions functions cores list

  -- what a good instance mentions is such a mention: a body mentions what its core does
  function_mention : (x y : Instance) (k : ℕ) → IsGood functions x → slice_get (mentioned_by functions cores x) k ≡ Some y → IsMention functions x y
  function_mention x y k h e = go x.fun refl h e
    where
      named : (f : Fun) (b : ℕ) (P : ℕ → Type 0) → f ≡ User b → Each P (user_of f) → P b
      named f b P e h = (at (λ f. Each P (user_of f)) e h).0

      go : (f : Fun) → x.fun ≡ f → IsGood functions (record { fun = f; types = x.types }) → slice_get (mentioned_maybe x.types (core_of cores f)) k ≡ Some y → IsMention functions x y
      go (OfLib l) e h q = absurd (cc)
      go (User a) e h q =
          let u = user_there functions a (length x.types) h.many in
          let all = mentions_named functions cores trees typed (Contains (body_mentions u.function.body)) a u.function x.types u.there h (each_contained (body_mentions u.function.body)) in
          let one = each_at (λ (x : Instance). Each (Contains (body_mentions u.function.body)) (user_of x.fun)) (mentioned_maybe x.types (cores a)) k y all q in
          record {
            user = a;
            is_user = e;
            mentions = λ b is. record {
              targets = body_mentions u.function.body;
              at = slice_get-map (λ (f : Function). body_mentions f.body) functions a ∙ ap (option_map (λ (f : Function). body_mentions f.body)) u.there;
              among = named y.fun b (Contains (body_mentions u.function.body)) is one;
            };
          }

  -- a mention between places of the list
  record IsPlaced (i j : ℕ) : Type 0 where
    pub from : Instance
    pub at : slice_get list i ≡ Some from
    pub to : Instance
    pub place : place_in list to ≡ j
    pub mention : IsMention functions from to

  -- each mention between places is one between the instances that stand there
  mention_placed : (i j : ℕ) → Mentions graph i j → IsPlaced i j
  mention_placed i j m =
      let source = mapped_at (λ x. map (place_in list) (mentioned_by functions cores x)) list i m.targets m.at in
      let k = m.among.0 in
      let target = mapped_at (place_in list) (mentioned_by functions cores source.of) k j
      (ap (λ js. slice_get js k) source.is ∙ slice_get-get_or m.targets k j m.among.1 ∙ ap Some m.among.2) in
      record {
        from = source.of;
        at = source.there;
        to = target.of;
        place = target.is;
        mention = function_mention source.of target.of k (each_at (IsGood functions) list i source.of good source.there) target.there;
      }

  -- a way between places of the list is one between the functions
  record IsWay (i j : ℕ) : Type 0 where
    pub from : Instance
    pub at : slice_get list i ≡ Some from
    pub to : Instance
    pub place : place_in list to ≡ j
    pub user : ℕ
    pub is_user : from.fun ≡ User user
    pub reaches : (b : ℕ) → to.fun ≡ User b → Reaches (kernel_mentions functions) user b

  -- it begins with a mention, and goes on with one
  first_step : (i j : ℕ) → IsPlaced i j → IsWay i j
  first_step i j p = record {
    from = p.from;
    at = p.at;
    to = p.to;
    place = p.place;
    user = p.mention.user;
    is_user = p.mention.is_user;
    reaches = λ b is. mentioned b (p.mention.mentions b is);
  }

  next_step : (i j k : ℕ) → IsWay i j → IsPlaced j k → IsWay i k
  next_step i j k w p =
      let same : p.from ≡ w.to = placed list w.to p.from (ap (slice_get list) w.place ∙ p.at) in record {
        from = w.from;
        at = w.at;
        to = p.to;
        place = p.place;
        user = w.user;
        is_user = w.is_user;
        reaches = λ b is. onward p.mention.user b (w.reaches p.mention.user (ap (λ (x : Instance). x.fun) (sym same) ∙ p.mention.is_user)) (p.mention.mentions b is);
      }

  way : (i j : ℕ) → Reaches graph i j → IsWay i j
  way i k (mentioned j m) = first_step i j (mention_placed i j m)
  way i l (onward j k r m) = next_step i j k (way i j r) (mention_placed j k m)

  -- so no instance mentions itself through bodies
  pub no_circle : NoCircle graph
  no_circle i r =
      let w = way i i r in let same : w.from ≡ w.to = placed list w.to w.from (ap (slice_get list) w.place ∙ w.at) in
      total w.user (w.reaches w.user (ap (λ (x : Instance). x.fun) (sym same) ∙ w.is_user))
