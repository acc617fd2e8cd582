-- Lemmas on tests, entries, contexts and events.
use Rattle.std.proofs.Common.{◌≡◌, ℕ, zero, suc, ◌<◌, ◌≤◌, Bool, true, false, ◌&&◌, ◌||◌, not, cond, Option, Some, None, List, [], ◌∷◌, ◌++◌, length, ◌⊎◌, refl, sym, ap, ◌∙◌, arith, nat_lt, lt-ltb, ltb-true}
use Rattle.cg_base.specs.declared.place.Place.{Place}
use Rattle.cg_base.specs.Types.{Tau, unit}
use Rattle.cg_core.specs.declared.derivation.Mark.{Mark}
use Rattle.cg_core.specs.declared.derivation.Mark.TheVariants.{Gone, Left, Right, Both, Seen}
use Rattle.cg_core.specs.declared.term.Seen.{Seen as Observer}
use Rattle.cg_core.specs.Kernels.{Function}
use Rattle.cg_core.specs.Terms.{Tree, term}
use Rattle.cg_kinds.specs.Kinds.{bang}
use Rattle.cg_typing.specs.Contexts.{Context, look, mark_at, push, first_side, second_side, first, second, among}
use Rattle.cg_faults.specs.Events.{Event, RulesHold}
use Rattle.cg_check_def.specs.NormalForm.{pick, marks, core}
use Rattle.cg_faults.specs.Plain.{plain_at, plain_in, banged_where, observed}
use Rattle.cg_typing.specs.Rules.{type_at}
use Rattle.cg_base.proofs.Truths.{both as and_both}

pub or_false : (a b : Bool) → (a || b) ≡ false → (a ≡ false) × (b ≡ false)
or_false true b e = absurd (cc)
or_false false b e = (refl, e)

pub or_none : (x : Bool) → (x || false) ≡ x
or_none true = refl
or_none false = refl

pub not_or : (a b : Bool) → (not a || b) ≡ true → a ≡ true → b ≡ true
not_or true b e h = e
not_or false b e h = absurd (cc)

pub or_not : (a b : Bool) → (a ≡ true → b ≡ true) → (not a || b) ≡ true
or_not true b h = h refl
or_not false b h = refl

pub or_else : (a b : Bool) → (a || b) ≡ true → b ≡ false → a ≡ true
or_else true b e h = refl
or_else false b e h = absurd (cc)

pub else_or : (a b : Bool) → (b ≡ false → a ≡ true) → (a || b) ≡ true
else_or true b h = refl
else_or false true h = refl
else_or false false h = h refl

pub lt_test : (i n : ℕ) (b : Bool) → i < n → b ≡ true → (nat_lt i n && b) ≡ true
lt_test i n b h k = rw (lt-ltb i n h) k

pub lt_test_is : (i n : ℕ) (b : Bool) → (nat_lt i n && b) ≡ true → (i < n) × (b ≡ true)
lt_test_is i n b h = let p = and_both (nat_lt i n) b h in (ltb-true i n p.0, p.1)

pub below_suc : (i n : ℕ) → i < suc n → (i < n) ⊎ (i ≡ n)
below_suc i n h = grind arith

pub below_or_not : (i n : ℕ) → (i < n) ⊎ (n ≤ i)
below_or_not i n = grind arith

-- contexts
first_none : (m : Mark) → first_side m None ≡ None
first_none Gone = refl
first_none Left = refl
first_none Right = refl
first_none Both = refl
first_none Seen = refl

second_none : (m : Mark) → second_side m None ≡ None
second_none Gone = refl
second_none Left = refl
second_none Right = refl
second_none Both = refl
second_none Seen = refl

pub look_first : (m : List Mark) (g : Context) (i : ℕ) → look (first m g) i ≡ first_side (mark_at m i) (look g i)
look_first m [] i = sym (first_none (mark_at m i))
look_first [] (o ∷ g) i = refl
look_first (m ∷ ms) (o ∷ g) zero = refl
look_first (m ∷ ms) (o ∷ g) (suc i) = look_first ms g i

pub look_second : (m : List Mark) (g : Context) (i : ℕ) → look (second m g) i ≡ second_side (mark_at m i) (look g i)
look_second m [] i = sym (second_none (mark_at m i))
look_second [] (o ∷ g) i = refl
look_second (m ∷ ms) (o ∷ g) zero = refl
look_second (m ∷ ms) (o ∷ g) (suc i) = look_second ms g i

pub length_push : {A : Type 0} (xs : List A) (x : A) → length (push xs x) ≡ suc (length xs)
length_push [] x = refl
length_push (y ∷ ys) x = ap suc (length_push ys x)

pub look_old : (g : Context) (o : Option Tau) (i : ℕ) → i < length g → look (push g o) i ≡ look g i
look_old [] o i h = absurd (omega arith)
look_old (x ∷ g) o zero h = refl
look_old (x ∷ g) o (suc i) h = look_old g o i (omega arith)

pub look_new : (g : Context) (o : Option Tau) (i : ℕ) → i ≡ length g → look (push g o) i ≡ o
look_new [] o zero h = refl
look_new [] o (suc i) h = absurd (omega arith)
look_new (x ∷ g) o zero h = absurd (omega arith)
look_new (x ∷ g) o (suc i) h = look_new g o i (omega arith)

pub at_old : (p : List Tau) (t : Tau) (i : ℕ) → i < length p → plain_at (push p t) i ≡ plain_at p i
at_old [] o i h = absurd (omega arith)
at_old (x ∷ g) o zero h = refl
at_old (x ∷ g) o (suc i) h = at_old g o i (omega arith)

pub at_new : (p : List Tau) (t : Tau) (i : ℕ) → i ≡ length p → plain_at (push p t) i ≡ t
at_new [] o zero h = refl
at_new [] o (suc i) h = absurd (omega arith)
at_new (x ∷ g) o zero h = absurd (omega arith)
at_new (x ∷ g) o (suc i) h = at_new g o i (omega arith)

pub look_past : (g : Context) (i : ℕ) → length g ≤ i → look g i ≡ None
look_past [] i h = refl
look_past (x ∷ g) zero h = absurd (omega arith)
look_past (x ∷ g) (suc i) h = look_past g i (omega arith)

pub look_within : (g : Context) (i : ℕ) (t : Tau) → look g i ≡ Some t → i < length g
look_within [] i t h = absurd (cc)
look_within (o ∷ g) zero t h = omega arith
look_within (o ∷ g) (suc i) t h = let q = look_within g i t h in omega arith

pub mark_marks : (s a b : ℕ → Bool) (g : Context) (i : ℕ) → mark_at (marks s a b g) i ≡ pick (s i) (a i) (b i) (look g i)
mark_marks s a b [] i = refl
mark_marks s a b (o ∷ g) zero = refl
mark_marks s a b (o ∷ g) (suc i) = mark_marks (λ i. s (suc i)) (λ i. a (suc i)) (λ i. b (suc i)) g i

pub length_marks : (s a b : ℕ → Bool) (g : Context) → length (marks s a b g) ≡ length g
length_marks s a b [] = refl
length_marks s a b (o ∷ g) = ap suc (length_marks (λ i. s (suc i)) (λ i. a (suc i)) (λ i. b (suc i)) g)

either_same : {A : Type 0} (b : Bool) (x : A) → x ≡ cond b x x
either_same true x = refl
either_same false x = refl

-- observed types
pub at_banged : (s : ℕ → Bool) (p : List Tau) (i : ℕ) → plain_at (banged_where s p) i ≡ cond (s i) (bang (plain_at p i)) (plain_at p i)
unfolding bang
at_banged s [] i = either_same (s i) unit
at_banged s (t ∷ p) zero = refl
at_banged s (t ∷ p) (suc i) = at_banged (λ i. s (suc i)) p i

pub length_banged : (s : ℕ → Bool) (p : List Tau) → length (banged_where s p) ≡ length p
length_banged s [] = refl
length_banged s (t ∷ p) = ap suc (length_banged (λ i. s (suc i)) p)

pub at_kept : (os : List Observer) (p : List Tau) (i : ℕ) → among i os ≡ false → plain_at (observed os p) i ≡ plain_at p i
at_kept os p i e = at_banged (λ i. among i os) p i ∙ ap (λ q. cond q (bang (plain_at p i)) (plain_at p i)) e

-- events
pub hold_append : (xs ys : List Event) → RulesHold xs → RulesHold ys → RulesHold (xs ++ ys)
hold_append [] ys h k = k
hold_append (x ∷ xs) ys h k = (h.0, hold_append xs ys h.1 k)

pub hold_left : (xs ys : List Event) → RulesHold (xs ++ ys) → RulesHold xs
hold_left [] ys h = tt
hold_left (x ∷ xs) ys h = (h.0, hold_left xs ys h.1)

pub hold_right : (xs ys : List Event) → RulesHold (xs ++ ys) → RulesHold ys
hold_right [] ys h = h
hold_right (x ∷ xs) ys h = hold_right xs ys h.1

-- the type that a core has
pub type_core : (functions : List Function) (p : List Tau) (direction : Option Tau) (e : Tree Place) → type_at (core functions p direction e) ≡ plain_in functions p direction e
type_core functions p direction (term place shape) = refl
