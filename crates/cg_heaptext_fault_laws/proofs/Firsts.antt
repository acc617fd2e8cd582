-- A fault that comes first stands on one line.
use Rattle.std.proofs.Common.{◌≡◌, ◌<◌, inl, List, [], ◌∷◌, ◌++◌, refl, sym, ap, ◌∙◌, arith, subst}
use Rattle.cg_base.specs.declared.place.Place.{Place}
use Rattle.cg_heaptext_def.specs.HeapText.{FirstOf, IsAliased, IsMisfit, Least, Nowhere}
use Rattle.cg_heaptext_def.specs.Reading.{Event, misfit, counted, mention}

-- ---- places

-- the first place of the file of which something holds is on one line
pub least_line : (P : Place → Type 0) (p q : Place) → Least P p → Least P q → p.line ≡ q.line
least_line P p q a b =
    let before : p.line < q.line → ⊥ = λ lt. b.1 p a.0 (inl lt) in
    let behind : q.line < p.line → ⊥ = λ lt. a.1 q b.0 (inl lt) in
    omega (arith, before, behind)

-- ---- events

same_head : (x y : Event) (xs ys : List Event) → x ∷ xs ≡ y ∷ ys → x ≡ y
same_head x y xs ys e = cc

same_rest : (x y : Event) (xs ys : List Event) → x ∷ xs ≡ y ∷ ys → xs ≡ ys
same_rest x y xs ys e = cc

-- what is met behind one event more
abbrev Behind : (List Event → Event → Place → Type 0) → Event → List Event → Event → Place → Type 0
Behind P x front e place = P (x ∷ front) e place

nowhere_behind : (P : List Event → Event → Place → Type 0) (x : Event) (front : List Event) → Nowhere P (x ∷ front) → Nowhere (Behind P x) front
nowhere_behind P x front none f rest e place parts = none (x ∷ f) rest e place (ap (λ ys. x ∷ ys) parts)

-- where it holds at none of some events, it doesn't hold at the first of them
not_first : (P : List Event → Event → Place → Type 0) (x : Event) (front : List Event) (place : Place) → Nowhere P (x ∷ front) → P [] x place → ⊥
not_first P x front place none = none [] front x place refl

-- the first event at which something holds, behind those before it, is one
record SameFirst (front front' : List Event) (e e' : Event) : Type 0 where
  fronts : front ≡ front'
  events : e ≡ e'

same_first : (P : List Event → Event → Place → Type 0) (front front' : List Event) (e e' : Event) (rest rest' : List Event) (p q : Place)
    → front ++ e ∷ rest ≡ front' ++ e' ∷ rest' → P front e p → P front' e' q → Nowhere P front → Nowhere P front' → SameFirst front front' e e'
same_first P [] [] e e' rest rest' p q parts a b m n = record { fronts = refl; events = same_head e e' rest rest' parts }
same_first P [] (y ∷ front') e e' rest rest' p q parts a b m n =
    absurd (not_first P y front' p n (subst (λ z. P [] z p) (same_head e y rest (front' ++ e' ∷ rest') parts) a))
same_first P (x ∷ front) [] e e' rest rest' p q parts a b m n =
    absurd (not_first P x front q m (subst (λ z. P [] z q) (sym (same_head x e' (front ++ e ∷ rest) rest' parts)) b))
same_first P (x ∷ front) (y ∷ front') e e' rest rest' p q parts a b m n =
    let head : y ≡ x = sym (same_head x y (front ++ e ∷ rest) (front' ++ e' ∷ rest') parts) in
    let more = same_first (Behind P x) front front' e e' rest rest' p q (same_rest x y (front ++ e ∷ rest) (front' ++ e' ∷ rest') parts)
    a (subst (λ z. P (z ∷ front') e' q) head b) (nowhere_behind P x front m) (nowhere_behind P x front' (subst (λ z. Nowhere P (z ∷ front')) head n)) in
    record { fronts = (λ i. sym head i ∷ more.fronts i); events = more.events }

-- where one event determines the place, the first of all has one
one_first : (P : List Event → Event → Place → Type 0) → ((before : List Event) (e : Event) (p q : Place) → P before e p → P before e q → p ≡ q) → (es : List Event) (p q : Place)
    → FirstOf P es p → FirstOf P es q → p ≡ q
one_first P one es p q a b =
    let x = a.0 in let y = b.0 in
    let same = same_first P x.front y.front x.event y.event x.rest y.rest p q (sym x.parts ∙ y.parts) x.here y.here a.1 b.1 in
    one x.front x.event p q x.here (subst (λ f. P f x.event q) (sym same.fronts) (subst (λ e. P y.front e q) (sym same.events) y.here))

misfit_place : (before : List Event) (e : Event) (p q : Place) → IsMisfit before e p → IsMisfit before e q → p ≡ q
misfit_place before (misfit r) p q a b = a ∙ sym b
misfit_place before (counted n bound) p q a b = absurd a
misfit_place before (mention r n t) p q a b = a.0 ∙ sym b.0

aliased_place : (before : List Event) (e : Event) (p q : Place) → IsAliased before e p → IsAliased before e q → p ≡ q
aliased_place before (misfit r) p q a b = absurd a
aliased_place before (counted n bound) p q a b = absurd a
aliased_place before (mention r n t) p q a b = a.0 ∙ sym b.0

pub one_misfit : (es : List Event) (p q : Place) → FirstOf IsMisfit es p → FirstOf IsMisfit es q → p ≡ q
one_misfit = one_first IsMisfit misfit_place

pub one_alias : (es : List Event) (p q : Place) → FirstOf IsAliased es p → FirstOf IsAliased es q → p ≡ q
one_alias = one_first IsAliased aliased_place
