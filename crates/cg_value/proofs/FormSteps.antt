-- Values, form by form.
use Rattle.std.proofs.Common.{◌≡◌, ◌≤◌, ℕ, zero, suc, Option, List, [], ◌∷◌, ◌++◌, length, take, drop, get_or, map, refl, sym, ap, ◌∙◌, arith, rules}
use Rattle.std.proofs.lemmas.List.{append-nil, drop_all, map-set, take_all}
use Rattle.std.specs.Prelude.{slice_get, slice_set}
use Rattle.cg_value.specs.declared.value.Value.{Value, the_lemmas}
use Rattle.cg_value.specs.declared.value.Value.TheVariants.{Array, Fields, Gone}
use Rattle.cg_value.specs.Forms.{field, maybe_value, with_element, with_field, without}
use Rattle.cg_value.specs.Values.{Val, elements, gone, parts, to_vals, val_list, value_of}

pub listed_back : (vs : List Val) → val_list (to_vals vs) ≡ vs
unfolding to_vals val_list
listed_back [] = refl
listed_back (v ∷ vs) = ap (λ l. v ∷ l) (listed_back vs)

pub gone_is : value_of Gone ≡ gone
gone_is = search (rules, the_lemmas)

-- one of a list is gone
pub set_gone : (vs : List Value) (i : ℕ) → map value_of (slice_set vs i Gone) ≡ slice_set (map value_of vs) i gone
set_gone vs i = map-set value_of vs i Gone ∙ ap (slice_set (map value_of vs) i) gone_is

pub set_value : (vs : List Value) (i : ℕ) (w : Value) → map value_of (slice_set vs i w) ≡ slice_set (map value_of vs) i (value_of w)
set_value vs i w = map-set value_of vs i w

pub get_past : (vs : List Value) (i : ℕ) → length vs ≤ i → get_or (map value_of vs) i gone ≡ gone
get_past [] i h = refl
get_past (v ∷ vs) zero h = absurd (omega (arith, h))
get_past (v ∷ vs) (suc i) h = get_past vs i (omega (arith, h))

pub set_past : (vs : List Value) (i : ℕ) (w : Val) → length vs ≤ i → slice_set (map value_of vs) i w ≡ map value_of vs
set_past [] i w h = refl
set_past (v ∷ vs) zero w h = absurd (omega (arith, h))
set_past (v ∷ vs) (suc i) w h = ap (λ l. value_of v ∷ l) (set_past vs i w (omega (arith, h)))

-- one of a record's fields is taken out
pub fields_is : (vs : List Value) → value_of (Fields vs) ≡ parts (to_vals (map value_of vs))
fields_is vs = search (rules, the_lemmas)

refilled_is : {A : Type 0} (olds news : List A) → length news ≡ length olds → take (length olds) (news ++ drop (length news) olds) ≡ news
refilled_is olds news e =
    ap (λ l. take (length olds) (news ++ l)) (drop_all (length news) olds (omega (arith, e)))
    ∙ ap (take (length olds)) (append-nil news) ∙ take_all (length olds) news (omega (arith, e))

pub rest_is : (self : Value) (olds shown news : List Value) (i : ℕ) → self ≡ Fields olds → shown ≡ olds → length news ≡ length shown
    → map value_of news ≡ slice_set (map value_of shown) i gone
    → value_of (Fields (take (length olds) (news ++ drop (length news) olds))) ≡ without (value_of self) i
unfolding without
rest_is self olds shown news i whole same long left =
    ap (λ l. value_of (Fields l)) (refilled_is olds news (long ∙ ap length same)) ∙ fields_is news
    ∙ ap (λ l. parts (to_vals l)) (left ∙ ap (λ l. slice_set (map value_of l) i gone) same)
    ∙ ap (λ l. parts (to_vals (slice_set l i gone))) (sym (listed_back (map value_of olds)))
    ∙ ap (λ v. without v i) (sym (ap value_of whole ∙ fields_is olds))

-- a record with another value for a field
pub fields_are : (self : Value) (olds shown news : List Value) (i : ℕ) (w : Val) → self ≡ Fields olds → shown ≡ olds → length news ≡ length shown
    → map value_of news ≡ slice_set (map value_of shown) i w
    → value_of (Fields (take (length olds) (news ++ drop (length news) olds))) ≡ with_field (value_of self) i w
unfolding with_field
fields_are self olds shown news i w whole same long put =
    ap (λ l. value_of (Fields l)) (refilled_is olds news (long ∙ ap length same)) ∙ fields_is news
    ∙ ap (λ l. parts (to_vals l)) (put ∙ ap (λ l. slice_set (map value_of l) i w) same)
    ∙ ap (λ l. parts (to_vals (slice_set l i w))) (sym (listed_back (map value_of olds)))
    ∙ ap (λ v. with_field v i w) (sym (ap value_of whole ∙ fields_is olds))

pub elements_are : (self : Value) (olds shown news : List ℕ) (i n : ℕ) → self ≡ Array olds → shown ≡ olds → length news ≡ length shown
    → news ≡ slice_set shown i n
    → value_of (Array (take (length olds) (news ++ drop (length news) olds))) ≡ with_element (value_of self) i n
unfolding with_element
elements_are self olds shown news i n whole same long set =
    ap (λ l. value_of (Array l)) (refilled_is olds news (long ∙ ap length same)) ∙ array_is news ∙ ap elements (set ∙ ap (λ l. slice_set l i n) same)
    ∙ ap (λ v. with_element v i n) (sym (ap value_of whole ∙ array_is olds))
  where
    array_is : (ns : List ℕ) → value_of (Array ns) ≡ elements ns
    array_is ns = search (rules, the_lemmas)

pub at_place : (vs : List Value) (i : ℕ) (o : Option Value) → o ≡ slice_get vs i → maybe_value o ≡ get_or (map value_of vs) i gone
at_place vs i o e = ap maybe_value e ∙ go vs i
  where
    go : (vs : List Value) (i : ℕ) → maybe_value (slice_get vs i) ≡ get_or (map value_of vs) i gone
    go [] i = refl
    go (v ∷ vs) zero = refl
    go (v ∷ vs) (suc i) = go vs i

pub field_is : (self : Value) (fs : List Value) (i : ℕ) → self ≡ Fields fs → get_or (map value_of fs) i gone ≡ field (value_of self) i
unfolding field
field_is self fs i e = ap (λ l. get_or l i gone) (sym (listed_back (map value_of fs))) ∙ ap (λ v. field v i) (sym (ap value_of e ∙ fields_is fs))

-- a record without a field still has each other one
pub field_without : (v : Val) (i j : ℕ) → (i ≡ j → ⊥) → field (without v i) j ≡ field v j
unfolding field without
field_without (parts vs) i j h = ap (λ l. get_or l j gone) (listed_back (slice_set (val_list vs) i gone)) ∙ go (val_list vs) i j h
  where
    go : (vs : List Val) (i j : ℕ) → (i ≡ j → ⊥) → get_or (slice_set vs i gone) j gone ≡ get_or vs j gone
    go [] i j h = refl
    go (v ∷ vs) zero zero h = absurd (h refl)
    go (v ∷ vs) zero (suc j) h = refl
    go (v ∷ vs) (suc i) zero h = refl
    go (v ∷ vs) (suc i) (suc j) h = go vs i j (λ e. h (ap suc e))
field_without _ i j h = refl

pub numbers_past : (ns : List ℕ) (i n : ℕ) → length ns ≤ i → slice_set ns i n ≡ ns
numbers_past [] i n h = refl
numbers_past (m ∷ ns) zero n h = absurd (omega (arith, h))
numbers_past (m ∷ ns) (suc i) n h = ap (λ l. m ∷ l) (numbers_past ns i n (omega (arith, h)))

pub ruleset form_steps = (at_place, numbers_past, listed_back, set_gone, set_value, get_past, set_past, the_lemmas)
