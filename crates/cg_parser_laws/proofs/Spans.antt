-- What is told of tokens whose places rise, in their order.
use Rattle.std.proofs.Common.{◌≡◌, ◌⊎◌, inl, inr, ℕ, ◌<◌, Bool, true, false, List, [], ◌∷◌, ◌++◌, refl, sym, ap, ◌∙◌, subst, arith, append-nil, append_assoc, if◌then◌else◌}
use Rattle.std.proofs.lemmas.List.Elements.{All-cons, All-nil}
use Rattle.std.specs.List.{All}
use Rattle.cg_base.specs.declared.place.Place.{Place}
use Rattle.cg_base.specs.Places.{IsBefore}
use Rattle.cg_parser_symbols.specs.Symbols.{Seen, Symbol}
use Rattle.cg_parser_symbols.specs.Readings.{token, sign}
use Rattle.cg_parser_laws.proofs.Places.{IsAtMost, before_trans, before_most, most_before, most_trans}
use Rattle.cg_parser_laws.proofs.Rising.{Rising}

-- where something stands: its place, and its number among what stands there
pub record Key : Type 0 where
  pub place : Place
  pub number : ℕ

abbrev pub IsEarlier : Key → Key → Type 0
IsEarlier k l = IsBefore k.place l.place ⊎ ((k.place ≡ l.place) × (k.number < l.number))

pub earlier_trans : (k l m : Key) → IsEarlier k l → IsEarlier l m → IsEarlier k m
earlier_trans k l m (inl a) (inl b) = inl (before_trans k.place l.place m.place a b)
earlier_trans k l m (inl a) (inr b) = inl (subst (λ p. IsBefore k.place p) b.0 a)
earlier_trans k l m (inr a) (inl b) = inl (subst (λ p. IsBefore p m.place) (sym a.0) b)
earlier_trans k l m (inr a) (inr b) = inr (a.0 ∙ b.0, omega (arith, a.1, b.1))

module _ {E : Type 0} (key : E → Key) where
  -- behind one of them stand these, each behind the one before it, and the last at a place at most
  abbrev pub Chain : E → List E → Place → Type 0
  Chain e [] hi = IsAtMost (key e).place hi
  Chain e (f ∷ fs) hi = IsEarlier (key e) (key f) × Chain f fs hi

  -- behind a place stand these, each behind the one before it, and the last at a place at most
  abbrev pub Between : Place → List E → Place → Type 0
  Between lo [] hi = IsAtMost lo hi
  Between lo (e ∷ es) hi = IsBefore lo (key e).place × Chain e es hi

  chain_then : (e : E) (es fs : List E) (mid hi : Place) → Chain e es mid → Between mid fs hi → Chain e (es ++ fs) hi
  chain_then e [] [] mid hi c b = most_trans (key e).place mid hi c b
  chain_then e [] (f ∷ fs) mid hi c b = (inl (most_before (key e).place mid (key f).place c b.0), b.1)
  chain_then e (g ∷ es) fs mid hi c b = (c.0, chain_then g es fs mid hi c.1 b)

  pub between_then : (es fs : List E) (lo mid hi : Place) → Between lo es mid → Between mid fs hi → Between lo (es ++ fs) hi
  between_then [] [] lo mid hi a b = most_trans lo mid hi a b
  between_then [] (f ∷ fs) lo mid hi a b = (most_before lo mid (key f).place a b.0, b.1)
  between_then (e ∷ es) fs lo mid hi a b = (a.0, chain_then e es fs mid hi a.1 b)

  -- these stand at a place, each behind the one before it
  pub record StandAt (p : Place) (es : List E) : Type 0 where
    pub between : (lo : Place) → IsBefore lo p → Between lo es p

  -- From some tokens to those left of them these are told: wherever the tokens begin to rise, with whatever behind them, those left go
  -- on rising behind what is told.
  pub record Spans (es : List E) (ts rest : List Seen) : Type 0 where
    pub told : (more : List Seen) (lo : Place) → Rising lo (ts ++ more) → (hi : Place) × Rising hi (rest ++ more) × Between lo es hi

pub stands_none : {E : Type 0} {key : E → Key} {p : Place} → StandAt key p []
stands_none {E} {key} {p} = record { between = λ lo b. inr b }

pub stands_one : {E : Type 0} {key : E → Key} (e : E) → StandAt key (key e).place (e ∷ [])
stands_one {E} {key} e = record { between = λ lo b. (b, inl refl) }

pub stands_two : {E : Type 0} {key : E → Key} (e f : E) → (key e).place ≡ (key f).place → (key e).number < (key f).number → StandAt key (key f).place (e ∷ f ∷ [])
stands_two {E} {key} e f same less = record { between = λ lo b. (subst (IsBefore lo) (sym same) b, (inr (same, less), inl refl)) }

pub stands_either : {E : Type 0} {key : E → Key} {p : Place} (c : Bool) (es fs : List E) → StandAt key p es → StandAt key p fs → StandAt key p (if c then es else fs)
stands_either {E} {key} {p} c es fs a b = elim c as (λ d. StandAt key p (if d then es else fs)) [ true ↦ a | false ↦ b ]

-- nothing is read, and nothing told
pub nothing_spans : {E : Type 0} {key : E → Key} {ts rest : List Seen} → ts ≡ rest → Spans key [] ts rest
nothing_spans {E} {key} {ts} {rest} e = record { told = λ more lo r. (lo, subst (λ xs. Rising lo (xs ++ more)) e r, inl refl) }

-- one behind the other
pub join : {E : Type 0} {key : E → Key} {es fs : List E} {ts mid rest : List Seen} → Spans key es ts mid → Spans key fs mid rest → Spans key (es ++ fs) ts rest
join {E} {key} {es} {fs} {ts} {mid} {rest} a b = record {
  told = λ more lo r.
      let first = a.told more lo r in
      let second = b.told more first.0 first.1 in
      (second.0, second.1, between_then key es fs lo first.0 second.0 first.2 second.2);
}

-- where one of them tells nothing
pub before : {E : Type 0} {key : E → Key} {es : List E} {ts mid rest : List Seen} → Spans key [] ts mid → Spans key es mid rest → Spans key es ts rest
before {E} {key} {es} {ts} {mid} {rest} a b = join a b

pub behind : {E : Type 0} {key : E → Key} {es : List E} {ts mid rest : List Seen} → Spans key es ts mid → Spans key [] mid rest → Spans key es ts rest
behind {E} {key} {es} {ts} {mid} {rest} a b = subst (λ xs. Spans key xs ts rest) (append-nil es) (join a b)

-- nothing is told
chain_most : {E : Type 0} (key : E → Key) (e : E) (es : List E) (hi : Place) → Chain key e es hi → IsAtMost (key e).place hi
chain_most key e [] hi c = c
chain_most key e (f ∷ es) hi (inl b, c) = inr (before_most (key e).place (key f).place hi b (chain_most key f es hi c))
chain_most key e (f ∷ es) hi (inr s, c) = subst (λ p. IsAtMost p hi) (sym s.0) (chain_most key f es hi c)

between_most : {E : Type 0} (key : E → Key) (es : List E) (lo hi : Place) → Between key lo es hi → IsAtMost lo hi
between_most key [] lo hi b = b
between_most key (e ∷ es) lo hi b = inr (before_most lo (key e).place hi b.0 (chain_most key e es hi b.1))

pub silent : {E F : Type 0} {key : E → Key} {es : List E} {other : F → Key} {ts rest : List Seen} → Spans key es ts rest → Spans other [] ts rest
silent {E} {F} {key} {es} {other} {ts} {rest} a = record {
  told = λ more lo r.
      let all = a.told more lo r in
      (all.0, all.1, between_most key es lo all.0 all.2);
}

-- some tokens at the front of these
pub front_spans : {E : Type 0} {key : E → Key} {es : List E} (front ts rest : List Seen) → ts ≡ front ++ rest → Spans key es front [] → Spans key es ts rest
front_spans {E} {key} {es} front ts rest e a = record {
  told = λ more lo r. a.told (rest ++ more) lo (subst (Rising lo) (ap (λ xs. xs ++ more) e ∙ append_assoc front rest more) r);
}

-- a token at whose place these stand
pub token_with : {E : Type 0} {key : E → Key} {s : Symbol} {p : Place} {es : List E} {ts rest : List Seen} → token s p ts rest → StandAt key p es → Spans key es ts rest
token_with {E} {key} {s} {p} {es} {ts} {rest} e at = record {
  told = λ more lo r.
      let rises : Rising lo (record { symbol = s; place = p } ∷ (rest ++ more)) = subst (λ xs. Rising lo (xs ++ more)) e r in
      (p, rises.1, at.between lo rises.0);
}

pub token_spans : {E : Type 0} {key : E → Key} {s : Symbol} {p : Place} {ts rest : List Seen} → token s p ts rest → Spans key [] ts rest
token_spans {E} {key} {s} {p} {ts} {rest} e = token_with e stands_none

pub sign_spans : {E : Type 0} {key : E → Key} {s : Symbol} {ts rest : List Seen} → sign s ts rest → Spans key [] ts rest
sign_spans {E} {key} {s} {ts} {rest} r = token_spans r.1

-- what is told of all tokens of a text
pub spans_order : {E : Type 0} {key : E → Key} {es : List E} {ts : List Seen} (lo : Place) → Rising lo ts → Spans key es ts [] → (hi : Place) × Between key lo es hi
spans_order {E} {key} {es} {ts} lo r a =
    let all = a.told [] lo (subst (Rising lo) (sym (append-nil ts)) r) in
    (all.0, all.2)

-- each of those between two places stands before all later ones
abbrev pub AreSorted : {E : Type 0} → (E → Key) → List E → Type 0
AreSorted key [] = Unit {0}
AreSorted key (e ∷ es) = All (λ f. IsEarlier (key e) (key f)) es × AreSorted key es

module _ {E : Type 0} (key : E → Key) where
  chain_all : (d e : E) (es : List E) (hi : Place) → IsEarlier (key d) (key e) → Chain key e es hi → All (λ f. IsEarlier (key d) (key f)) es
  chain_all d e [] hi k c = All-nil (λ f. IsEarlier (key d) (key f))
  chain_all d e (f ∷ es) hi k c =
      let next = earlier_trans (key d) (key e) (key f) k c.0 in
      All-cons (λ g. IsEarlier (key d) (key g)) f es next (chain_all d f es hi next c.1)

  chain_sorted : (e : E) (es : List E) (hi : Place) → Chain key e es hi → AreSorted key (e ∷ es)
  chain_sorted e [] hi c = (All-nil (λ f. IsEarlier (key e) (key f)), tt)
  chain_sorted e (f ∷ es) hi c = (All-cons (λ g. IsEarlier (key e) (key g)) f es c.0 (chain_all e f es hi c.0 c.1), chain_sorted f es hi c.1)

  pub between_sorted : (es : List E) (lo hi : Place) → Between key lo es hi → AreSorted key es
  between_sorted [] lo hi b = tt
  between_sorted (e ∷ es) lo hi b = chain_sorted e es hi b.1
