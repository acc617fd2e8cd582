-- The parentheses round a value are those that open in front of its first comma, or of its end where no comma stands in them alone.
use Rattle.std.proofs.Common.{◌≡◌, ℕ, suc, ◌+◌, ◌-◌, ◌<◌, ◌≤◌, ◌⊎◌, inl, inr, List, codes, refl, sym, ap, ◌∙◌, subst, arith}
use Rattle.std.proofs.lemmas.Bool.{cases_lt}
use Rattle.std.proofs.Math.Nat.{le-min, min-eq_left, min-eq_right, min-le_left}
use Rattle.std.specs.Prelude.{min}
use Rattle.cg_base.specs.declared.place.Place.{Place}
use Rattle.cg_heaptext_def.specs.Grammar.{ReadsFields, ReadsMore, ReadsMoreFields, ReadsTwo, ReadsValue, mark, token_at, truth_text}
use Rattle.cg_heaptext_def.specs.Tokens.{Lexeme, Token, number, lower, upper, sign}
use Rattle.cg_heaptext_def.specs.Trees.{Written, numeral, truth, nothing, gone, address, constant, applied, inside, tuple, record', Writtens, none, more, Fields, end, field}
use Rattle.cg_heaptext_values.specs.declared.turn.Turn.{Turn}
use Rattle.cg_heaptext_values.specs.declared.turn.Turn.TheVariants.{Opens, Closes, Parts, Stays}
use Rattle.cg_heaptext_values.specs.Turns.{layers_from, layers_of, lead, seeking, seeks, sought, turn}

abbrev At : ℕ → ℕ → List Lexeme → ℕ
At d m = sought (seeking d m)

-- a token, which does this
one : (t : Token) (a : Turn) (p : Place) (d m : ℕ) (ts rest : List Lexeme) → turn t ≡ a → token_at p t ts rest → At d m ts ≡ sought (seeks a d m) rest
one t a p d m ts rest s e = ap (At d m) e ∙ ap (λ u. sought (seeks u d m) rest) s

sign_one : (x : List ℕ) (a : Turn) (d m : ℕ) (ts rest : List Lexeme) → turn (sign x) ≡ a → mark x ts rest → At d m ts ≡ sought (seeks a d m) rest
sign_one x a d m ts rest s k = one (sign x) a k.0 d m ts rest s k.1

-- ---- what a value at a depth does to the least depth of a comma: one that isn't deeper stays, and a deeper one stays deeper

record Agree (d m n : ℕ) : Type 0 where
  less : n ≤ m
  same : m ≤ d → n ≡ m
  deeper : d < m → d < n

agree : (d m : ℕ) → Agree d m m
agree d m = record { less = omega arith; same = λ h. refl; deeper = λ h. h }

agrees_on : (d m n o : ℕ) → Agree d m n → Agree d n o → Agree d m o
agrees_on d m n o a b = record {
  less = omega (arith, a.less, b.less);
  same = λ h. b.same (omega (arith, h, a.less)) ∙ a.same h;
  deeper = λ h. b.deeper (a.deeper h);
}

-- what stands deeper does less
from_within : (d m n : ℕ) → Agree (suc d) m n → Agree d m n
from_within d m n a = record {
  less = a.less;
  same = λ h. a.same (omega (arith, h));
  deeper = λ h. at h (cases_lt (suc d) m);
}
  where
    at : d < m → (suc d < m) ⊎ (m ≤ suc d) → d < n
    at h (inl l) = let k = a.deeper l in omega (arith, k)
    at h (inr l) = subst (λ x. d < x) (sym (a.same l)) h

-- a comma in a bracket that was opened at a depth
at_comma : (d m : ℕ) → Agree d m (min m (suc d))
at_comma d m = record {
  less = min-le_left m (suc d);
  same = λ h. min-eq_left (omega (arith, h));
  deeper = λ h. let k : suc d ≤ m = omega (arith, h) in let l = le-min {k = suc d} {a = m} {b = suc d} k (omega arith) in omega (arith, l);
}

-- ---- a value at a depth, and what stands in a bracket that was opened at one

abbrev Passes : ℕ → ℕ → List Lexeme → List Lexeme → Type 0
Passes d m ts rest = (n : ℕ) × (At (suc d) m ts ≡ At (suc d) n rest) × Agree (suc d) m n

abbrev Within : ℕ → ℕ → List Lexeme → List Lexeme → Type 0
Within d m ts rest = (n : ℕ) × (At (suc d) m ts ≡ At (suc d) n rest) × Agree d m n

inner : (d m : ℕ) (ts rest : List Lexeme) → Passes d m ts rest → Within d m ts rest
inner d m ts rest p = (p.0, p.1, from_within d m p.0 p.2)

and_then : (d m : ℕ) (ts mid rest : List Lexeme) → Within d m ts mid → ((n : ℕ) → Within d n mid rest) → Within d m ts rest
and_then d m ts mid rest a b = let c = b a.0 in (c.0, a.1 ∙ c.1, agrees_on d m a.0 c.0 a.2 c.2)

stays : (t : Token) (p : Place) (d m : ℕ) (ts rest : List Lexeme) → turn t ≡ Stays → token_at p t ts rest → Passes d m ts rest
stays t p d m ts rest s e = (m, one t Stays p (suc d) m ts rest s e, agree (suc d) m)

stays_within : (t : Token) (p : Place) (d m : ℕ) (ts rest : List Lexeme) → turn t ≡ Stays → token_at p t ts rest → Within d m ts rest
stays_within t p d m ts rest s e = inner d m ts rest (stays t p d m ts rest s e)

comma : (d m : ℕ) (ts rest : List Lexeme) → mark (codes ",") ts rest → Within d m ts rest
comma d m ts rest k = (min m (suc d), sign_one (codes ",") Parts (suc d) m ts rest refl k, at_comma d m)

enclosed : (x y : List ℕ) (p : Place) (d m : ℕ) (ts a b rest : List Lexeme) → turn (sign x) ≡ Opens → turn (sign y) ≡ Closes → token_at p (sign x) ts a → Within (suc d) m a b → mark y b rest → Passes d m ts rest
enclosed x y p d m ts a b rest o c e w k =
    (w.0, one (sign x) Opens p (suc d) m ts a o e ∙ w.1 ∙ sign_one y Closes (suc (suc d)) w.0 b rest c k, w.2)

passes_on : (d m : ℕ) (ts mid rest : List Lexeme) → Passes d m ts mid → ((n : ℕ) → Passes d n mid rest) → Passes d m ts rest
passes_on d m ts mid rest a b = let c = b a.0 in (c.0, a.1 ∙ c.1, agrees_on (suc d) m a.0 c.0 a.2 c.2)

mutual
  value_passes : (v : Written) (d m : ℕ) (ts rest : List Lexeme) → ReadsValue v ts rest → Passes d m ts rest
  value_passes (numeral n) d m ts rest r = stays (number n.digits) n.place d m ts rest refl r
  value_passes (truth p b) d m ts rest r = stays (upper (truth_text b)) p d m ts rest refl r
  value_passes (nothing p) d m ts rest r = enclosed (codes "(") (codes ")") p d m ts r.0 r.0 rest refl refl r.1 (m, refl, agree (suc d) m) r.2
  value_passes (gone p) d m ts rest r = stays (lower (codes "_")) p d m ts rest refl r
  value_passes (address p n) d m ts rest r = passes_on d m ts r.0 rest (stays (sign (codes "@")) p d m ts r.0 refl r.1) (λ k. stays (number n.digits) n.place d k r.0 rest refl r.2)
  value_passes (constant p x) d m ts rest r = stays (upper x) p d m ts rest refl r.1
  value_passes (applied p x v) d m ts rest r = let q = r.2 in passes_on d m ts q.0 rest (stays (upper x) p d m ts q.0 refl q.1) (λ k. value_passes v d k q.0 rest q.2)
  value_passes (inside p v) d m ts rest r = enclosed (codes "(") (codes ")") p d m ts r.0 r.2.0 rest refl refl r.1 (inner (suc d) m r.0 r.2.0 (value_passes v (suc d) m r.0 r.2.0 r.2.1)) r.2.2
  value_passes (tuple p vs) d m ts rest r = enclosed (codes "(") (codes ")") p d m ts r.0 r.2.0 rest refl refl r.1 (two_within vs (suc d) m r.0 r.2.0 r.2.1) r.2.2
  value_passes (record' p fs) d m ts rest r = enclosed (codes "#{") (codes "}") p d m ts r.0 r.2.0 rest refl refl r.1 (fields_within fs (suc d) m r.0 r.2.0 r.2.1) r.2.2

  two_within : (vs : Writtens) (d m : ℕ) (ts rest : List Lexeme) → ReadsTwo vs ts rest → Within d m ts rest
  two_within none d m ts rest r = absurd r
  two_within (more v none) d m ts rest r = absurd r
  two_within (more v (more w vs)) d m ts rest r = and_then d m ts r.0 rest (inner d m ts r.0 (value_passes v d m ts r.0 r.1)) (λ k. more_within (more w vs) d k r.0 rest r.2)

  more_within : (vs : Writtens) (d m : ℕ) (ts rest : List Lexeme) → ReadsMore vs ts rest → Within d m ts rest
  more_within none d m ts rest r = (m, ap (At (suc d) m) r, agree d m)
  more_within (more v vs) d m ts rest r =
      and_then d m ts r.0 rest (comma d m ts r.0 r.1)
      (λ k. and_then d k r.0 r.2.0 rest (inner d k r.0 r.2.0 (value_passes v d k r.0 r.2.0 r.2.1)) (λ l. more_within vs d l r.2.0 rest r.2.2))

  fields_within : (fs : Fields) (d m : ℕ) (ts rest : List Lexeme) → ReadsFields fs ts rest → Within d m ts rest
  fields_within end d m ts rest r = absurd r
  fields_within (field x v fs) d m ts rest r =
      let q = r.1 in
      and_then d m ts q.0 rest (stays_within (lower x) q.1.0 d m ts q.0 refl q.1.1) (λ k.
      and_then d k q.0 q.2.0 rest (stays_within (sign (codes "=")) q.2.1.0 d k q.0 q.2.0 refl q.2.1.1) (λ l.
      and_then d l q.2.0 q.2.2.0 rest (inner d l q.2.0 q.2.2.0 (value_passes v d l q.2.0 q.2.2.0 q.2.2.1)) (λ n.
      more_fields_within fs d n q.2.2.0 rest q.2.2.2)))

  more_fields_within : (fs : Fields) (d m : ℕ) (ts rest : List Lexeme) → ReadsMoreFields fs ts rest → Within d m ts rest
  more_fields_within end d m ts rest r = (m, ap (At (suc d) m) r, agree d m)
  more_fields_within (field x v fs) d m ts rest r =
      let c = r.1 in
      let q = c.2 in
      and_then d m ts c.0 rest (comma d m ts c.0 c.1) (λ j.
      and_then d j c.0 q.0 rest (stays_within (lower x) q.1.0 d j c.0 q.0 refl q.1.1) (λ k.
      and_then d k q.0 q.2.0 rest (stays_within (sign (codes "=")) q.2.1.0 d k q.0 q.2.0 refl q.2.1.1) (λ l.
      and_then d l q.2.0 q.2.2.0 rest (inner d l q.2.0 q.2.2.0 (value_passes v d l q.2.0 q.2.2.0 q.2.2.1)) (λ n.
      more_fields_within fs d n q.2.2.0 rest q.2.2.2))))

-- ---- what opens in front

-- the parentheses round a value
abbrev pub insides : Written → ℕ
insides (inside p v) = suc (insides v)
insides _ = 0

-- the first token of a value closes nothing
first_lead : (v : Written) (ts rest : List Lexeme) → ReadsValue v ts rest → (k : ℕ) × (lead ts ≡ suc k)
first_lead (numeral n) ts rest r = (0, ap lead r)
first_lead (truth p b) ts rest r = (0, ap lead r)
first_lead (nothing p) ts rest r = (lead r.0, ap lead r.1)
first_lead (gone p) ts rest r = (0, ap lead r)
first_lead (address p n) ts rest r = (0, ap lead r.1)
first_lead (constant p x) ts rest r = (0, ap lead r.1)
first_lead (applied p x v) ts rest r = (0, ap lead r.2.1)
first_lead (inside p v) ts rest r = (lead r.0, ap lead r.1)
first_lead (tuple p vs) ts rest r = (lead r.0, ap lead r.1)
first_lead (record' p fs) ts rest r = (0, ap lead r.1)

-- of two values or more the first comma is that of their bracket, which was opened at this depth
tuple_within : (vs : Writtens) (d : ℕ) (ts rest : List Lexeme) → ReadsTwo vs ts rest → At (suc d) (d + suc (lead ts)) ts ≡ At (suc d) (suc d) rest
tuple_within none d ts rest r = absurd r
tuple_within (more v none) d ts rest r = absurd r
tuple_within (more v (more w vs)) d ts rest r =
    let f = first_lead v ts r.0 r.1 in
    let deep : suc d < d + suc (lead ts) = omega (arith, f.1) in
    let a = value_passes v d (d + suc (lead ts)) ts r.0 r.1 in
    let b = r.2 in
    let over : suc d ≤ a.0 = let l = a.2.deeper deep in omega (arith, l) in
    let c : min a.0 (suc d) ≡ suc d = min-eq_right over in
    let second = value_passes w d (suc d) b.0 b.2.0 b.2.1 in
    let second_is : second.0 ≡ suc d = second.2.same (omega arith) in
    let others = more_within vs d (suc d) b.2.0 rest b.2.2 in
    a.1 ∙ sign_one (codes ",") Parts (suc d) a.0 r.0 b.0 refl b.1 ∙ ap (λ n. At (suc d) n b.0) c ∙ second.1 ∙ ap (λ n. At (suc d) n b.2.0) second_is
    ∙ others_keep vs d b.2.0 rest b.2.2
  where
    others_keep : (vs : Writtens) (d : ℕ) (ts rest : List Lexeme) → ReadsMore vs ts rest → At (suc d) (suc d) ts ≡ At (suc d) (suc d) rest
    others_keep none d ts rest r = ap (At (suc d) (suc d)) r
    others_keep (more v vs) d ts rest r =
        let a = value_passes v d (suc d) r.0 r.2.0 r.2.1 in
        sign_one (codes ",") Parts (suc d) (suc d) ts r.0 refl r.1 ∙ ap (λ n. At (suc d) n r.0) (min-eq_left (omega arith)) ∙ a.1 ∙ ap (λ n. At (suc d) n r.2.0) (a.2.same (omega arith))
        ∙ others_keep vs d r.2.0 rest r.2.2

-- a value round which none stands, and that is no tuple
one_lead : (v : Written) (d : ℕ) (ts rest : List Lexeme) → ReadsValue v ts rest → lead ts ≡ 1 → At (suc d) (suc d + lead ts) ts ≡ At (suc d) (suc d + 1) rest
one_lead v d ts rest r e =
    let a = value_passes v d (suc d + 1) ts rest r in
    let n : a.0 ≡ suc d + 1 = let l = a.2.less in let k = a.2.deeper (omega arith) in omega (arith, l, k) in
    ap (λ x. At (suc d) (suc d + x) ts) e ∙ a.1 ∙ ap (λ x. At (suc d) x rest) n

-- where more is allowed than opens in front, what is left tells the parentheses round a value
depth_is : (v : Written) (d : ℕ) (ts rest : List Lexeme) → ReadsValue v ts rest → At (suc d) (suc d + lead ts) ts ≡ At (suc d) (suc d + suc (insides v)) rest
depth_is (numeral n) d ts rest r = one_lead (numeral n) d ts rest r (ap lead r)
depth_is (truth p b) d ts rest r = one_lead (truth p b) d ts rest r (ap lead r)
depth_is (nothing p) d ts rest r = one_lead (nothing p) d ts rest r (ap lead r.1 ∙ ap suc (ap lead r.2.1))
depth_is (gone p) d ts rest r = one_lead (gone p) d ts rest r (ap lead r)
depth_is (address p n) d ts rest r = one_lead (address p n) d ts rest r (ap lead r.1)
depth_is (constant p x) d ts rest r = one_lead (constant p x) d ts rest r (ap lead r.1)
depth_is (applied p x v) d ts rest r = one_lead (applied p x v) d ts rest r (ap lead r.2.1)
depth_is (record' p fs) d ts rest r = one_lead (record' p fs) d ts rest r (ap lead r.1)
depth_is (tuple p vs) d ts rest r =
    let leads : suc d + lead ts ≡ suc d + suc (lead r.0) = ap (λ x. suc d + x) (ap lead r.1) in
    ap (λ x. At (suc d) x ts) leads ∙ one (sign (codes "(")) Opens p (suc d) (suc d + suc (lead r.0)) ts r.0 refl r.1
    ∙ tuple_within vs (suc d) r.0 r.2.0 r.2.1 ∙ sign_one (codes ")") Closes (suc (suc d)) (suc (suc d)) r.2.0 rest refl r.2.2 ∙ ap (λ x. At (suc d) x rest) (omega arith)
depth_is (inside p v) d ts rest r =
    let leads : suc d + lead ts ≡ suc (suc d) + lead r.0 = ap (λ x. suc d + x) (ap lead r.1) ∙ omega arith in
    ap (λ x. At (suc d) x ts) leads ∙ one (sign (codes "(")) Opens p (suc d) (suc (suc d) + lead r.0) ts r.0 refl r.1
    ∙ depth_is v (suc d) r.0 r.2.0 r.2.1 ∙ sign_one (codes ")") Closes (suc (suc d)) (suc (suc d) + suc (insides v)) r.2.0 rest refl r.2.2 ∙ ap (λ x. At (suc d) x rest) (omega arith)

-- ---- the parentheses round a value

from_one : (n : ℕ) (ts : List Lexeme) → n ≡ 1 → layers_from n ts ≡ 0
from_one n ts e = ap (λ x. layers_from x ts) e

from_more : (n k : ℕ) (ts : List Lexeme) → n ≡ suc (suc k) → layers_from n ts ≡ At 0 n ts - 1
from_more n k ts e = ap (λ x. layers_from x ts) e ∙ ap (λ x. At 0 x ts - 1) (sym e)

pub layers_are : (v : Written) (ts rest : List Lexeme) → ReadsValue v ts rest → layers_of ts ≡ insides v
layers_are (numeral n) ts rest r = from_one (lead ts) ts (ap lead r)
layers_are (truth p b) ts rest r = from_one (lead ts) ts (ap lead r)
layers_are (nothing p) ts rest r = from_one (lead ts) ts (ap lead r.1 ∙ ap suc (ap lead r.2.1))
layers_are (gone p) ts rest r = from_one (lead ts) ts (ap lead r)
layers_are (address p n) ts rest r = from_one (lead ts) ts (ap lead r.1)
layers_are (constant p x) ts rest r = from_one (lead ts) ts (ap lead r.1)
layers_are (applied p x v) ts rest r = from_one (lead ts) ts (ap lead r.2.1)
layers_are (record' p fs) ts rest r = from_one (lead ts) ts (ap lead r.1)
layers_are (tuple p vs) ts rest r =
    let f = two_lead vs r.0 r.2.0 r.2.1 in
    from_more (lead ts) f.0 ts (ap lead r.1 ∙ ap suc f.1)
    ∙ ap (λ x. x - 1) (ap (λ x. At 0 x ts) (ap lead r.1) ∙ one (sign (codes "(")) Opens p 0 (suc (lead r.0)) ts r.0 refl r.1 ∙ ap (λ x. At 1 x r.0) (omega arith) ∙ tuple_within vs 0 r.0 r.2.0 r.2.1 ∙ sign_one (codes ")") Closes 1 1 r.2.0 rest refl r.2.2)
  where
    two_lead : (vs : Writtens) (ts rest : List Lexeme) → ReadsTwo vs ts rest → (k : ℕ) × (lead ts ≡ suc k)
    two_lead none ts rest r = absurd r
    two_lead (more v none) ts rest r = absurd r
    two_lead (more v (more w vs)) ts rest r = first_lead v ts r.0 r.1
layers_are (inside p v) ts rest r =
    let f = first_lead v r.0 r.2.0 r.2.1 in
    from_more (lead ts) f.0 ts (ap lead r.1 ∙ ap suc f.1)
    ∙ ap (λ x. x - 1) (ap (λ x. At 0 x ts) (ap lead r.1) ∙ one (sign (codes "(")) Opens p 0 (suc (lead r.0)) ts r.0 refl r.1 ∙ ap (λ x. At 1 x r.0) (omega arith) ∙ depth_is v 0 r.0 r.2.0 r.2.1 ∙ ap (λ x. At 1 x r.2.0) (omega arith) ∙ sign_one (codes ")") Closes 1 (suc (suc (insides v))) r.2.0 rest refl r.2.2)
    ∙ (let e : suc (suc (insides v)) - 1 ≡ suc (insides v) = omega arith in e)
