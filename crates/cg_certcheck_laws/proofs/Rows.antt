-- Lists of events of a certificate: what they say together and apart; and what is said where a node is reached, and of a type that is met.
use Rattle.std.proofs.Common.{◌≡◌, Bool, true, ◌&&◌, Option, Some, None, List, [], ◌∷◌, ◌++◌, ◌<◌, length, IsTrue, refl, ap, subst}
use Rattle.std.proofs.lemmas.List.Elements.{All-nil}
use Rattle.std.specs.List.{All}
use Rattle.std.specs.Prelude.{⊤}
use Rattle.cg_base.specs.declared.kind.Kinds.{Kinds}
use Rattle.cg_base.specs.declared.place.Place.{Place}
use Rattle.cg_base.specs.Types.{Tau}
use Rattle.cg_cert.specs.declared.cert.CertNode.{CertNode}
use Rattle.cg_cert.specs.declared.fault.CertFault.{CertFault}
use Rattle.cg_cert.specs.declared.fault.CertFault.TheVariants.{Limit}
use Rattle.cg_core.specs.declared.derivation.Mark.{Mark}
use Rattle.cg_core.specs.declared.derivation.Node.{Node}
use Rattle.cg_core.specs.declared.term.Seen.{Seen}
use Rattle.cg_core.specs.Kernels.{Function}
use Rattle.cg_core.specs.Terms.{Tree}
use Rattle.cg_faults.specs.Plain.{plain, plain_in}
use Rattle.cg_faults.specs.Same.{same}
use Rattle.cg_certcheck_def.specs.Events.{Event, event, AllHold, is_some, name_at, strings_at, marks_next, behind, no_strings, one_string, meets}
use Rattle.cg_certcheck_def.specs.Tests.{same_node}
use Rattle.cg_typing.specs.Contexts.{Context, Splits}
use Rattle.cg_typing.specs.Trees.{first_marks}
use Rattle.cg_check_laws.proofs.SameTypes.{same_is, same_refl}
use Rattle.cg_certcheck_laws.proofs.MarkTests.{node_is, splits_is}
use Rattle.cg_base.proofs.Truths.{both as and_both}

-- what is asked of an event: that it holds, but for the limit on types where that isn't asked for
abbrev pub Asked : Bool → CertFault → Bool → Type 0
Asked limited (Limit limit) holds = limited ≡ true → IsTrue holds
Asked limited fault holds = IsTrue holds

abbrev pub HoldFor : Bool → List Event → Type 0
HoldFor limited [] = ⊤
HoldFor limited (event fault holds ∷ later) = Asked limited fault holds × HoldFor limited later

pub hold_append : (limited : Bool) (xs ys : List Event) → HoldFor limited xs → HoldFor limited ys → HoldFor limited (xs ++ ys)
hold_append limited [] ys h k = k
hold_append limited (event f b ∷ xs) ys h k = (h.0, hold_append limited xs ys h.1 k)

pub asked_left : (limited : Bool) (xs ys : List Event) → HoldFor limited (xs ++ ys) → HoldFor limited xs
asked_left limited [] ys h = tt
asked_left limited (event f b ∷ xs) ys h = (h.0, asked_left limited xs ys h.1)

pub asked_right : (limited : Bool) (xs ys : List Event) → HoldFor limited (xs ++ ys) → HoldFor limited ys
asked_right limited [] ys h = h
asked_right limited (event f b ∷ xs) ys h = asked_right limited xs ys h.1

-- where the limit is asked for too, no event fails
asked_holds : (fault : CertFault) (holds : Bool) → Asked true fault holds → IsTrue holds
asked_holds (Limit limit) holds h = h refl
asked_holds fault holds h = h

pub all_hold : (xs : List Event) → HoldFor true xs → AllHold xs
all_hold [] h = tt
all_hold (event f b ∷ xs) h = (asked_holds f b h.0, all_hold xs h.1)

pub hold_left : (xs ys : List Event) → AllHold (xs ++ ys) → AllHold xs
hold_left [] ys h = tt
hold_left (event f b ∷ xs) ys h = (h.0, hold_left xs ys h.1)

pub hold_right : (xs ys : List Event) → AllHold (xs ++ ys) → AllHold ys
hold_right [] ys h = h
hold_right (event f b ∷ xs) ys h = hold_right xs ys h.1

-- ---- reaching a node

abbrev pub cert_node : Node → List (List Mark) → CertNode
cert_node node strings = record { node = node; marks = strings }

-- there is a node of this name, with these marks
pub record Reached (ns : List CertNode) (node : Node) (marked : Bool) : Type 0 where
  pub is : ns ≡ cert_node node (strings_at ns) ∷ behind ns
  pub marks : marked ≡ true

pub reached_is : (ns : List CertNode) (node : Node) (marked : Bool) → is_some ns ≡ true → (same_node (name_at ns) node && marked) ≡ true → Reached ns node marked
reached_is [] node marked h k = absurd (cc)
reached_is (x ∷ ns) node marked h k =
    let p = and_both (same_node x.node node) marked k in
    record { is = ap (λ y. cert_node y x.marks ∷ ns) (node_is x.node node p.0); marks = p.1 }

-- no marks
pub unmarked : (ns : List CertNode) → no_strings ns ≡ true → strings_at ns ≡ []
unmarked [] h = refl
unmarked (x ∷ ns) h = go x.marks h
  where
    go : (strings : List (List Mark)) → no_strings (cert_node x.node strings ∷ ns) ≡ true → strings ≡ []
    go [] h = refl
    go (string ∷ strings) h = absurd (cc)

module _ (functions : List Function) (vars : List Kinds) where
  one_marked : (os : List Seen) (ns : List CertNode) (g : Context) → All (λ o. o.var < length g) os → one_string vars os (strings_at ns) g ≡ true
      → (strings_at ns ≡ marks_next ns ∷ []) × Splits vars os (marks_next ns) g
  one_marked os [] g w h = absurd (cc)
  one_marked os (x ∷ ns) g w h = go x.marks h
    where
      go : (strings : List (List Mark)) → one_string vars os strings g ≡ true → (strings ≡ first_marks strings ∷ []) × Splits vars os (first_marks strings) g
      go [] h = absurd (cc)
      go (m ∷ []) h = (refl, splits_is vars os m g w h)
      go (m ∷ (m' ∷ ms)) h = absurd (cc)

  -- there is a node of this name, with one mark string, which splits the context
  pub record Split (os : List Seen) (ns : List CertNode) (node : Node) (g : Context) : Type 0 where
    pub is : ns ≡ cert_node node (strings_at ns) ∷ behind ns
    pub one : strings_at ns ≡ marks_next ns ∷ []
    pub splits : Splits vars os (marks_next ns) g

  pub split_seen : (os : List Seen) (ns : List CertNode) (node : Node) (g : Context) → All (λ o. o.var < length g) os → is_some ns ≡ true
      → (same_node (name_at ns) node && one_string vars os (strings_at ns) g) ≡ true → Split os ns node g
  split_seen os ns node g w h k =
      let r = reached_is ns node (one_string vars os (strings_at ns) g) h k in let m = one_marked os ns g w r.marks in record { is = r.is; one = m.0; splits = m.1 }

  -- without observers
  pub split_is : (ns : List CertNode) (node : Node) (g : Context) → is_some ns ≡ true → (same_node (name_at ns) node && one_string vars [] (strings_at ns) g) ≡ true → Split [] ns node g
  split_is ns node g h k = split_seen [] ns node g (All-nil (λ (o : Seen). o.var < length g)) h k

-- ---- types that are met

module _ (functions : List Function) (p : List Tau) (direction : Option Tau) (e : Tree Place) where
  pub met_is : (t : Tau) → plain functions p e ≡ t → meets direction t ≡ true → plain_in functions p direction e ≡ t
  met_is t is h = go direction h
    where
      go : (direction : Option Tau) → meets direction t ≡ true → plain_in functions p direction e ≡ t
      go None h = is
      go (Some u) h = same_is u t h

  pub is_met : (t : Tau) → plain_in functions p direction e ≡ t → meets direction t ≡ true
  is_met t is = go direction is
    where
      go : (direction : Option Tau) → plain_in functions p direction e ≡ t → meets direction t ≡ true
      go None h = refl
      go (Some u) h = subst (λ v. same u v ≡ true) h (same_refl u)
